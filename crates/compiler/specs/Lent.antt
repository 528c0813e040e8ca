-- The lengths that the lent work buffers are to have, and what the test of 2 says of them.
use Rattle.std.specs.Prelude.{◌≡◌, refl, true, ◌↔◌, List, [], ◌∷◌, ℕ, zero, suc, ◌*◌, ◌≤◌, ◌<◌, length, get_or, T, leb}
use Rattle.std.proofs.Common.{sym, subst, suc-le-suc, not-suc-le-zero, le_of_suc-le-suc, zero-lt-suc, arith, leb→le}
use Rattle.automata.specs.Booleans.{and_left, and_right, and_both}
use Rattle.book.proofs.HeadLaws.{le_leb}
use Rattle.compiler.specs.Outcome.{enough}

-- "a lent work buffer is below its documented length (at most 8 buffers, none needing over 65,536 bytes)": each buffer's length, and the bytes of one of
-- its numbers. 13 slots of 3,362 bytes for the names A to M, 13 for N to Z, 3 for the book so far and a rule's two machines, 19 for the stack; the rows of
-- 512 sets, 122 bytes each; their table and the tables of two operands, both of 16-bit numbers; two codes for each byte of a text, and 64.
abbrev pub buffers : List (ℕ × ℕ)
buffers = (43706, 1) ∷ (43706, 1) ∷ (10086, 1) ∷ (63878, 1) ∷ (62464, 1) ∷ (14336, 2) ∷ (6720, 2) ∷ (32832, 1) ∷ []

abbrev pub lengths_of : List (ℕ × ℕ) → List ℕ
lengths_of [] = []
lengths_of ((n, w) ∷ bs) = n ∷ lengths_of bs

abbrev pub documented : List ℕ
documented = lengths_of buffers

-- each buffer's bytes
abbrev pub bytes_of : List (ℕ × ℕ) → List ℕ
bytes_of [] = []
bytes_of ((n, w) ∷ bs) = n * w ∷ bytes_of bs

abbrev pub AllAtMost : ℕ → List ℕ → Type 0
AllAtMost most [] = Unit {0}
AllAtMost most (n ∷ ns) = (n ≤ most) × AllAtMost most ns

pub buffers_fit : (length buffers ≤ 8) × AllAtMost 65536 (bytes_of buffers)
buffers_fit = (omega arith, (omega arith, (omega arith, (omega arith, (omega arith, (omega arith, (omega arith, (omega arith, (omega arith, tt)))))))))

-- Where as many are lent as are documented, 2 is not given exactly when none of them is below its documented length.
pub enough_iff : (needs lent : List ℕ) → length lent ≡ length needs → (enough needs lent ≡ true) ↔ ((i : ℕ) → i < length needs → get_or needs i 0 ≤ get_or lent i 0)
enough_iff [] [] e = (λ t i h. absurd (not-suc-le-zero h), λ f. refl)
enough_iff [] (l ∷ ls) e = absurd (omega arith)
enough_iff (n ∷ ns) [] e = absurd (omega arith)
enough_iff (n ∷ ns) (l ∷ ls) e = (to (enough_iff ns ls (omega arith)), back (enough_iff ns ls (omega arith)))
  where
    Rest : Type 0
    Rest = (enough ns ls ≡ true) ↔ ((i : ℕ) → i < length ns → get_or ns i 0 ≤ get_or ls i 0)

    to : Rest → enough (n ∷ ns) (l ∷ ls) ≡ true → (i : ℕ) → i < suc (length ns) → get_or (n ∷ ns) i 0 ≤ get_or (l ∷ ls) i 0
    to rest t zero h = leb→le n l (subst T (sym (and_left (leb n l) (enough ns ls) t)) tt)
    to rest t (suc i) h = rest.0 (and_right (leb n l) (enough ns ls) t) i (le_of_suc-le-suc h)

    back : Rest → ((i : ℕ) → i < suc (length ns) → get_or (n ∷ ns) i 0 ≤ get_or (l ∷ ls) i 0) → enough (n ∷ ns) (l ∷ ls) ≡ true
    back rest f = and_both (leb n l) (enough ns ls) (le_leb n l (f zero (zero-lt-suc (length ns)))) (rest.1 (λ i h. f (suc i) (suc-le-suc h)))
