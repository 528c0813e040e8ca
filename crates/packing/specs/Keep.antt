-- A machine kept in a slot among others: what is asked of the buffers, what the slot then holds, and that nothing else is changed.
use Rattle.std.specs.Prelude.{◌≡◌, ◌⊎◌, ◌≢◌, List, ℕ, ◌+◌, ◌*◌, ◌/◌, ◌%◌, ◌≤◌, ◌<◌, length, drop, set, Option, Some, None, refl}
use Rattle.std.proofs.Math.Path.{sym, ap, ap₂}
use Rattle.std.proofs.Common.{◌∙◌, inl, inr, mul-le-mul_right, arith, get_or-drop}
use Rattle.std.proofs.Math.Nat.{div-add-mod'}
use Rattle.std.proofs.Math.ListN.{get_or, length-drop, length-set}
use Rattle.std.proofs.Math.Seq.{get_or-set_same, get_or-set_other}
use Rattle.automata.specs.Machine.{Machine, size}
use Rattle.automata.specs.Smallest.{smallest}
use Rattle.automata.specs.Table.{table_machine, ClosedTable}
use Rattle.rows.specs.Rows.{number_at}
use Rattle.entries.specs.declared.table.Table.{Table}
use Rattle.minimise.specs.Minimised.{Minimised}
use Rattle.minimise.specs.MinimisedLaws.{Found, kept_many}
use Rattle.slots.specs.Slot.{slot_machine, Holds, Written, table_same, number_drop}
use Rattle.slots.specs.Aside.{Aside}

-- A table, room for the classes, and room for a slot at a place.
pub record Keepable (T : Table) (most at : ℕ) (w s : List ℕ) : Type 0 where
  pub few : T.states < 65536
  pub some : 1 ≤ most
  pub bytes : most ≤ 256
  pub arrays : T.states + (T.states + T.states) ≤ length w
  pub order : T.states + T.states + most ≤ length w
  pub slot : at + 2 + (most + most * T.columns) ≤ length s

-- The slot holds the smallest machine of M, which has m states; or that has more than so many.
abbrev pub KeptIn : ℕ → ℕ → ℕ → Machine → List ℕ → Option ℕ → Type 0
KeptIn k most at M s (Some m) = Holds most k (drop at s) (smallest k M) × (size (smallest k M) ≡ m) × (m ≤ most)
KeptIn k most at M s None = most < size (smallest k M)

pub record KeptAt (k most at : ℕ) (M : Machine) (s t : List ℕ) (r : Option ℕ) : Type 0 where
  pub answer : KeptIn k most at M t r
  pub aside : Aside at (2 + (most + most * k)) s t

-- ---- what is kept

module _ (k most at : ℕ) (M : Machine) (s t ys : List ℕ) (W : Written s t (at + 2) (most + most * k) (λ i. get_or ys i 0)) (room : at + 2 + (most + most * k) ≤ length s) where
  -- a slot that is too small leaves the rest
  part_aside : Aside at (2 + (most + most * k)) s t
  part_aside = record { long = W.long; same = λ j h. W.there j (out j h) }
    where
      out : (j : ℕ) → (j < at) ⊎ (at + (2 + (most + most * k)) ≤ j) → (j < at + 2) ⊎ (at + 2 + (most + most * k) ≤ j)
      out j (inl h) = inl (omega arith)
      out j (inr h) = inr (omega arith)

  pub keep_many : Minimised k most M ys None → KeptAt k most at M s t None
  keep_many R = record { answer = kept_many R refl; aside = part_aside }

  module _ (m : ℕ) (F : Found k most M ys m) where
    -- with the number of states in front
    numbered : List ℕ
    numbered = set (set t at (m % 256)) (at + 1) (m / 256)

    first : (j : ℕ) → j ≢ at → j ≢ at + 1 → get_or numbered j 0 ≡ get_or t j 0
    unfolding numbered
    first j a b = get_or-set_other (set t at (m % 256)) (at + 1) j (m / 256) 0 b ∙ get_or-set_other t at j (m % 256) 0 a

    count : number_at (drop at numbered) 0 ≡ m
    unfolding numbered
    count =
        sym (number_drop numbered at)
        ∙ ap₂ (λ a b. a + 256 * b) (get_or-set_other (set t at (m % 256)) (at + 1) at (m / 256) 0 (λ e. omega arith) ∙ get_or-set_same t at (m % 256) 0 (omega (arith, W.long)))
        (get_or-set_same (set t at (m % 256)) (at + 1) (m / 256) 0 (omega (arith, length-set t at (m % 256), W.long)))
        ∙ omega (arith, div-add-mod' m 256)

    cells : m * k ≤ most * k
    cells = mul-le-mul_right {m = m} {n = most} k F.within

    entry : (i : ℕ) → i < most + m * k → get_or ys i 0 ≡ get_or (drop 2 (drop at numbered)) i 0
    entry i b =
        let z : at + (2 + i) ≡ at + 2 + i = omega arith in
        sym (get_or-drop 2 (drop at numbered) i 0 ∙ get_or-drop at numbered (2 + i) 0 ∙ ap (λ j. get_or numbered j 0) z ∙ first (at + 2 + i) (λ e. omega arith) (λ e. omega arith) ∙ W.here i (omega (arith, cells)))

    table : ClosedTable most m k (drop 2 (drop at numbered)) × (table_machine most m k ys ≡ table_machine most m k (drop 2 (drop at numbered)))
    unfolding numbered
    table = table_same most m k ys (drop 2 (drop at numbered)) F.closed
        (omega (arith, length-drop 2 (drop at numbered), length-drop at numbered, length-set (set t at (m % 256)) (at + 1) (m / 256), length-set t at (m % 256), W.long, cells)) entry

    holds : Holds most k (drop at numbered) (smallest k M)
    unfolding slot_machine
    holds = record { slot = record { closed = rw count table.0 }; machine = ap (λ n. table_machine most n k (drop 2 (drop at numbered))) count ∙ sym table.1 ∙ F.table }

    pub keep_found : KeptAt k most at M s (set (set t at (m % 256)) (at + 1) (m / 256)) (Some m)
    unfolding numbered
    keep_found = record {
      answer = (holds, F.states, F.within);
      aside = record {
        long = length-set (set t at (m % 256)) (at + 1) (m / 256) ∙ length-set t at (m % 256) ∙ W.long;
        same = λ j h. out j h;
      };
    }
      where
        out : (j : ℕ) → (j < at) ⊎ (at + (2 + (most + most * k)) ≤ j) → get_or (set (set t at (m % 256)) (at + 1) (m / 256)) j 0 ≡ get_or s j 0
        out j (inl h) = first j (λ e. omega arith) (λ e. omega arith) ∙ W.there j (inl (omega arith))
        out j (inr h) = first j (λ e. omega arith) (λ e. omega arith) ∙ W.there j (inr (omega arith))
