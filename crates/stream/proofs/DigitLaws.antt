-- A number's digits, as the library writes them.
use Rattle.std.proofs.Common.{◌≡◌, sym, inl, inr, ap, ◌∙◌, arith, List, [], ◌∷◌, ◌++◌, ℕ, suc, ◌+◌, ◌-◌, ◌*◌, ◌/◌, ◌%◌, ◌^◌, ◌≤◌, ◌<◌, length}
use Rattle.std.proofs.Math.Nat.{pow-suc, le-div_iff_mul-le, div-lt_iff_lt-mul, mod-eq_of_lt, zero-lt-suc}
use Rattle.std.proofs.lemmas.Fmt.{decimal_by_steps, length-decimal-le}
use Rattle.std.specs.Fmt as F
use Rattle.automata.specs.Basics.{LtCases, lt_cases}
use Rattle.stream.specs.Text.{Put, PutNumber, last_digits, decimal}
use Rattle.stream.specs.TextLaws.{IsDigitCount, fewest_places, put_as}

-- they are the last digits of the number, as many as it takes
abbrev Digits : ℕ → List ℕ → Type 0
Digits n ds = (k : ℕ) × IsDigitCount n k × (last_digits k n ≡ ds)

one : (n : ℕ) → n < 10 → Digits n ((48 + n) ∷ [])
one n h = (1, (omega arith, omega arith, λ x. absurd (omega arith)), ap (λ m. (48 + m) ∷ []) (mod-eq_of_lt h))

more : (n : ℕ) (ds : List ℕ) → 10 ≤ n → Digits (n / 10) ds → Digits n (ds ++ ((48 + n % 10) ∷ []))
more n ds h (k, w, e) = (suc k, (omega arith, below, λ x. above (lt_cases 1 k)), ap (λ l. l ++ ((48 + n % 10) ∷ [])) e)
  where
    below : n < 10 ^ suc k
    below = let x : n < 10 ^ k * 10 = (div-lt_iff_lt-mul (zero-lt-suc 9)).0 w.1 in let z : 10 ^ suc k ≡ 10 ^ k * 10 = pow-suc 10 k in omega (arith, x, z)

    above : LtCases 1 k → 10 ^ (suc k - 1) ≤ n
    above (inl p) =
        let x : 10 ^ (k - 1) * 10 ≤ n = (le-div_iff_mul-le (zero-lt-suc 9)).0 (w.2 p.0) in
        let z : 10 ^ suc (k - 1) ≡ 10 ^ (k - 1) * 10 = pow-suc 10 (k - 1) in
        let y : suc k - 1 ≡ suc (k - 1) = omega (arith, p.0) in
        let v : 10 ^ (suc k - 1) ≡ 10 ^ suc (k - 1) = ap (λ j. 10 ^ j) y in
        omega (arith, x, z, v)
    above (inr p) = let y : suc k - 1 ≡ 1 = omega (arith, p.0, w.0) in let v : 10 ^ (suc k - 1) ≡ 10 ^ 1 = ap (λ j. 10 ^ j) y in omega (arith, v, h)

decimal_same : (n : ℕ) → n < 2 ^ 64 → decimal n ≡ F.decimal n
decimal_same n h = let (k, w, e) = decimal_by_steps Digits one more n h in ap (λ j. last_digits j n) (fewest_places n k w) ∙ e

pub few : (n : ℕ) → n < 2 ^ 64 → length (F.decimal n) ≤ 20
few n h = length-decimal-le 20 n (omega arith) (omega (arith, h)) h

pub few_of : (n : ℕ) (ds : List ℕ) → ds ≡ F.decimal n → n < 2 ^ 64 → length ds ≤ 20
few_of n ds e h = omega (arith, ap length e, few n h)

pub number_put : (out : List ℕ) (at n : ℕ) (ds out' : List ℕ) (r : ℕ) → n < 2 ^ 64 → ds ≡ F.decimal n → Put out at ds out' r → PutNumber out at n out' r
number_put out at n ds out' r h e p = record { most = omega (arith, p.place, ap length e, few n h); put = put_as out at ds (decimal n) out' r p (e ∙ sym (decimal_same n h)) }
