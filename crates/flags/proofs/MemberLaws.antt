-- The members of a row, listed: one more, all of them, and that they lead where the members lead.
use mathlib.Core.Path.{◌≡◌, refl, sym, ap, ◌∙◌}
use mathlib.Core.Bool.{Bool, true, false, not, ◌&&◌}
use mathlib.Core.Logic.{inl, inr}
use mathlib.Core.List.{List}
use Prim.Native.Nat.{ℕ, ◌≤◌, ◌<◌}
use native.Mathlib.Nat.{le_refl}
use native.Mathlib.Omega.{arith}
use lib.ListN.{length, get_or, set, take}
use lib.Seq.{get_or-set_same, get_or-set_other, get_or-take, length-take-le}
use lib.Dec.{eqb}
use Rattle.automata.specs.Booleans.{bool_iff, and_left, and_right, and_both}
use Rattle.automata.specs.Basics.{SameCases, same_cases, nat_test}
use Rattle.automata.specs.Decide.{any_below_lem, below_any}
use Rattle.rows.specs.Rows.{flag_at}
use Rattle.flags.specs.Flags.{leads_to, some_accepting}
use Rattle.flags.specs.Members.{Lists, led_by}
use Rattle.flags.proofs.FlagLaws.{Flags, flag_set, flags_at, any_ext, accepting_none}

-- ---- listing

-- the same members by another test
pub lists_same : {f g : ℕ → Bool} {n count : ℕ} {members : List ℕ} → ((q : ℕ) → f q ≡ g q) → Lists f n count members → Lists g n count members
lists_same e L = record { counted = L.counted; is = λ i h. sym (e _) ∙ L.is i h; all = λ q h y. L.all q h (e q ∙ y) }

-- the list alone, without what stands behind it
pub lists_taken : {member : ℕ → Bool} {n count : ℕ} {members : List ℕ} → Lists member n count members → Lists member n (length (take count members)) (take count members)
lists_taken {member} {n} {count} {members} L = record {
  counted = record { within = le_refl _; state = λ i h. rw (at i h) (L.counted.state i (omega (arith, long))) };
  is = λ i h. ap member (at i h) ∙ L.is i (omega (arith, long));
  all = λ q h y. let (i, b, z) = L.all q h y in let c : i < length (take count members) = omega (arith, long) in (i, c, at i c ∙ z);
}
  where
    long : length (take count members) ≡ count
    long = length-take-le count members L.counted.within

    at : (i : ℕ) → i < length (take count members) → get_or (take count members) i 0 ≡ get_or members i 0
    at i h = get_or-take count members i 0 (omega (arith, long))

-- ---- where they lead

pub listed_leads : {member : ℕ → Bool} {n count : ℕ} {members : List ℕ} → Lists member n count members → (next : ℕ → ℕ) (t : ℕ) → led_by members next count t ≡ leads_to member next n t
listed_leads {member} {n} {count} {members} L next t = bool_iff (led_by members next count t) (leads_to member next n t) to from
  where
    to : led_by members next count t ≡ true → leads_to member next n t ≡ true
    to e =
        let (i, h, y) = any_below_lem (λ i. eqb (next (get_or members i 0)) t) count e in
        below_any (λ q. member q && eqb (next q) t) n (get_or members i 0) (L.counted.state i h) (and_both (member (get_or members i 0)) (eqb (next (get_or members i 0)) t) (L.is i h) y)

    from : leads_to member next n t ≡ true → led_by members next count t ≡ true
    from e =
        let (q, h, y) = any_below_lem (λ q. member q && eqb (next q) t) n e in
        let (i, b, z) = L.all q h (and_left (member q) (eqb (next q) t) y) in
        below_any (λ i. eqb (next (get_or members i 0)) t) count i b (ap (λ (p : ℕ). eqb (next p) t) z ∙ and_right (member q) (eqb (next q) t) y)

-- ---- an accepting state among the flags

pub some_none : {m : ℕ} {row : List ℕ} (t : List ℕ) (n : ℕ) → Flags m (λ x. false) row → n ≤ m → false ≡ some_accepting (flag_at row) (flag_at t) n
some_none {m} {row} t n F h = accepting_none row t n (λ p b. rw (flags_at F p (omega arith)))

pub some_yes : (row t : List ℕ) (n i : ℕ) → i < n → i < length row → flag_at t i ≡ true → true ≡ some_accepting (flag_at (set row i 1)) (flag_at t) n
some_yes row t n i h b e = sym (below_any (λ p. flag_at (set row i 1) p && flag_at t p) n i h (rw (here, e)))
  where
    here : flag_at (set row i 1) i ≡ true
    here = flag_set (set row i 1) i (λ z. let y = get_or-set_same row i 1 0 b in omega arith)

pub some_no : (row t : List ℕ) (n i : ℕ) → flag_at t i ≡ false → some_accepting (flag_at row) (flag_at t) n ≡ some_accepting (flag_at (set row i 1)) (flag_at t) n
some_no row t n i e = any_ext (λ p. flag_at row p && flag_at t p) (λ p. flag_at (set row i 1) p && flag_at t p) n (λ p h. go p (same_cases nat_test p i))
  where
    none : (b : Bool) → b && false ≡ false
    none true = refl
    none false = refl

    go : (p : ℕ) → SameCases nat_test p i → flag_at row p && flag_at t p ≡ flag_at (set row i 1) p && flag_at t p
    go p (inl z) = rw (z.0, e) (none (flag_at row i) ∙ sym (none (flag_at (set row i 1) i)))
    go p (inr z) = ap (λ (v : ℕ). not (eqb v 0) && flag_at t p) (sym (get_or-set_other row i p 1 0 z.0))
