-- The readers of a card: its contents by their numbers, its parts as parts of its bytes.
use mathlib.Core.Path.{◌≡◌, refl, sym, ap, ap₂, ◌∙◌}
use mathlib.Core.Bool.{true, false}
use mathlib.Core.Logic.{◌⊎◌, inl, inr}
use mathlib.Core.List.{List}
use Prim.Native.Nat.{ℕ, ◌+◌, ◌*◌, ◌-◌, ◌≤◌}
use native.Mathlib.Nat.{mul-le-mul, mul-one}
use native.Mathlib.Numerals.{add-one}
use native.Mathlib.Omega.{arith}
use lib.ListN.{length, get_or, take, drop, length-drop}
use lib.Seq.{take_all}
use Rattle.automata.specs.Booleans.{bool_cases, not_true}
use Rattle.automata.specs.Format.{narrow}
use Rattle.octets.specs.Numbers.{number_at as two_at}
use Rattle.card.specs.Number.{number_at}
use Rattle.card.specs.Layout.{letter_count, state_count, letters_of, marks_of, moves_of, Contents, contents_test}
use Rattle.card.proofs.LayoutLaws.{contents_sound, contents_whole, moves_one}
use Rattle.fields.specs.Counts.{Counted, counts_of}
use Rattle.std.specs.Prelude.{Option, Some, None}
use Rattle.fields.specs.declared.Counts.{Counts}

-- ---- a number of two bytes, as the card has those of any width

pub two_bytes : {x : ℕ} (c : List ℕ) (i : ℕ) → x ≡ two_at c i → x ≡ number_at 2 c i
two_bytes c i e = omega (arith, e, ap (λ j. get_or c j 0) (add-one i))

-- ---- the contents

abbrev pub counts : ℕ → ℕ → Counts
counts m n = record { letters = m; states = n }

pub counts_bad : (c : List ℕ) → (Contents narrow c → ⊥) → None ≡ counts_of narrow c
unfolding counts_of
counts_bad c f = rw (not_true (contents_test narrow c) (λ e. f (contents_sound narrow c e)))

pub counts_of_lem : (c : List ℕ) → Contents narrow c → counts_of narrow c ≡ Some (counts (letter_count narrow c) (state_count narrow c))
unfolding counts_of
counts_of_lem c r = rw (contents_whole narrow c r)

module _ (c : List ℕ) (m n : ℕ) (a : m ≡ number_at 2 c 2) (b : n ≡ number_at 2 c 6) where
  cells : state_count narrow c * letter_count narrow c * 1 ≡ n * m
  cells = mul-one (state_count narrow c * letter_count narrow c) ∙ ap₂ ◌*◌ (sym b) (sym a)

  pub counts_moves : Contents narrow c → number_at 2 c 10 ≡ n * m
  counts_moves r = r.moves_count ∙ cells

  pub counts_long : Contents narrow c → length c ≡ 12 + m + n + n * m
  counts_long r = omega (arith, r.long, cells)

  -- the numbers, one by one
  pub counts_right : m ≤ 26 → 1 ≤ n → n ≤ 120 → number_at 2 c 0 ≡ 12 → number_at 2 c 4 ≡ 12 + m → number_at 2 c 8 ≡ 12 + m + n → number_at 2 c 10 ≡ n * m
      → length c ≡ 12 + m + n + n * m → Some (counts m n) ≡ counts_of narrow c
  counts_right um ln un w₀ w₄ w₈ w₁₀ l = ap₂ (λ x y. Some (counts x y)) a b ∙ sym (counts_of_lem c (record {
    letters_least = omega arith;
    letters_most = rw (← a) um;
    states_some = rw (← b) ln;
    states_most = rw (← b) un;
    letters_offset = w₀;
    marks_offset = rw (← a) w₄;
    moves_offset = rw (← a, ← b) w₈;
    moves_count = w₁₀ ∙ sym cells;
    long = omega (arith, l, cells);
  }))

-- at most 26 times 120 moves
pub cells_most : (m n : ℕ) → m ≤ 26 → n ≤ 120 → n * m ≤ 3120
cells_most m n a b = mul-le-mul b a

abbrev letters_in : Option Counts → ℕ
letters_in None = 0
letters_in (Some k) = k.letters

abbrev states_in : Option Counts → ℕ
states_in None = 0
states_in (Some k) = k.states

-- For callers: what the counts say.
pub of_counted : (c : List ℕ) (m n : ℕ) → Some (counts m n) ≡ counts_of narrow c → Counted narrow c m n
unfolding counts_of
of_counted c m n e = go (bool_cases (contents_test narrow c))
  where
    go : (contents_test narrow c ≡ true) ⊎ (contents_test narrow c ≡ false) → Counted narrow c m n
    go (inl t) =
        let r : Contents narrow c = contents_sound narrow c t in
        let f : Some (counts m n) ≡ Some (counts (letter_count narrow c) (state_count narrow c)) = e ∙ counts_of_lem c r in
        record { right = r; letters = sym (ap letters_in f); states = sym (ap states_in f) }
    go (inr t) = let f : Some (counts m n) ≡ None = rw t at e in absurd (let z : ◌≡◌ {A = ℕ} 0 1 = cc in omega arith)

pub bad_counted : (c : List ℕ) → None ≡ counts_of narrow c → Contents narrow c → ⊥
bad_counted c e r = let f : None ≡ Some (counts (letter_count narrow c) (state_count narrow c)) = e ∙ counts_of_lem c r in let z : ◌≡◌ {A = ℕ} 0 1 = cc in omega arith

-- ---- the parts

module _ (c : List ℕ) (m n : ℕ) (r : Counted narrow c m n) where
  pub card_length_lem : length c ≡ 12 + m + n + n * m
  card_length_lem = omega (arith, r.right.long, r.letters, r.states, mul-one (state_count narrow c * letter_count narrow c) ∙ ap₂ ◌*◌ r.states r.letters)

  pub letters_part : take (12 + m - 12) (drop 12 c) ≡ letters_of narrow c
  unfolding letters_of
  letters_part = let z : 12 + m - 12 ≡ letter_count narrow c = omega (arith, r.letters) in rw z

  pub marks_part : take (12 + m + n - (12 + m)) (drop (12 + m) c) ≡ marks_of narrow c
  unfolding marks_of
  marks_part = let z : 12 + m + n - (12 + m) ≡ n = omega arith in rw (z, ← r.letters, ← r.states)

  pub moves_part : take (length c - (12 + m + n)) (drop (12 + m + n) c) ≡ moves_of narrow c
  moves_part = take_all (length c - (12 + m + n)) (drop (12 + m + n) c) (omega (arith, length-drop (12 + m + n) c)) ∙ sym (moves_one narrow c r.right refl ∙ (rw (r.letters, r.states)))
