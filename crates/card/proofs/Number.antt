-- Laws of what specs/Number.antt defines.
use Rattle.std.specs.Prelude.{◌≡◌, refl, ℕ, zero, suc, ◌+◌, ◌-◌, ◌*◌, ◌/◌, ◌%◌, ◌≤◌, ◌<◌, length, get_or, take, drop}
use Rattle.std.proofs.Common.{sym, ap, ap₂, ◌∙◌, inl, inr, zero-mul, suc-mul, mod-lt, not-suc-le-zero, zero-lt-suc, arith, length-append, length-drop, drop_at, drop-cons, get_or-drop, get_or-append-add, take-add}
use mathlib.Core.List.{List, [], ◌∷◌, ◌++◌}
use Rattle.std.proofs.Math.ListN.{get_or-append, get_or-eq_default}
use Rattle.automata.specs.Basics.{LtCases, lt_cases}
use Rattle.automata.specs.Rows.{flat}
use Rattle.card.specs.Number.{Below, Bytes, bytes_of, capacity, little_endian, number_at, numbers_of}

-- ---- bytes

pub byte_at : (l : List ℕ) → Bytes l → (i : ℕ) → get_or l i 0 < 256
byte_at l b i = go (lt_cases i (length l))
  where
    go : LtCases i (length l) → get_or l i 0 < 256
    go (inl p) = b i p.0
    go (inr p) = rw (get_or-eq_default l 0 p.0) (omega arith)

pub bytes_drop : (n : ℕ) (l : List ℕ) → Bytes l → Bytes (drop n l)
bytes_drop n l b i h = rw (get_or-drop n l i 0) (byte_at l b (n + i))

pub below_append : (n : ℕ) (a b : List ℕ) → Below n a → Below n b → Below n (a ++ b)
below_append n a b f g i h = go (lt_cases i (length a))
  where
    go : LtCases i (length a) → get_or (a ++ b) i 0 < n
    go (inl p) = rw (get_or-append a b 0 i p.0) (f i p.0)
    go (inr p) =
        let j : ℕ = i - length a in
        let z : i ≡ length a + j = omega arith in
        rw (z, get_or-append-add a b j 0) (g j (omega (arith, length-append a b)))

pub below_flat : (n : ℕ) (rs : List (List ℕ)) → ((p : ℕ) → p < length rs → Below n (get_or rs p [])) → Below n (flat rs)
below_flat n [] f = λ i h. absurd (not-suc-le-zero h)
below_flat n (x ∷ rs) f = below_append n x (flat rs) (f zero (zero-lt-suc (length rs))) (below_flat n rs (λ p h. f (suc p) (omega arith)))

pub little_bytes : (w x : ℕ) → Bytes (little_endian w x)
little_bytes zero x i h = absurd (not-suc-le-zero h)
little_bytes (suc w) x zero h = mod-lt x (omega arith)
little_bytes (suc w) x (suc i) h = little_bytes w (x / 256) i (omega arith)

pub bytes_of_bytes : (w : ℕ) (xs : List ℕ) → Bytes (bytes_of w xs)
bytes_of_bytes w [] = λ i h. absurd (not-suc-le-zero h)
bytes_of_bytes w (x ∷ xs) = below_append 256 (little_endian w x) (bytes_of w xs) (little_bytes w x) (bytes_of_bytes w xs)

-- ---- one number

pub little_length : (w x : ℕ) → length (little_endian w x) ≡ w
little_length zero x = refl
little_length (suc w) x = ap suc (little_length w (x / 256))

-- a number depends on its w bytes only
pub number_same : (w : ℕ) (a b : List ℕ) (i j : ℕ) → ((k : ℕ) → k < w → get_or a (i + k) 0 ≡ get_or b (j + k) 0) → number_at w a i ≡ number_at w b j
number_same zero a b i j h = refl
number_same (suc w) a b i j h = ap₂ (λ x y. x + 256 * y) first (number_same w a b (suc i) (suc j) rest)
  where
    first : get_or a i 0 ≡ get_or b j 0
    first =
        let y : i + 0 ≡ i = omega arith in
        let z : j + 0 ≡ j = omega arith in
        ap (λ k. get_or a k 0) (sym y) ∙ h 0 (zero-lt-suc w) ∙ ap (λ k. get_or b k 0) z

    rest : (k : ℕ) → k < w → get_or a (suc i + k) 0 ≡ get_or b (suc j + k) 0
    rest k b' =
        let y : suc i + k ≡ i + suc k = omega arith in
        let z : suc j + k ≡ j + suc k = omega arith in
        rw (y, z) (h (suc k) (omega arith))

pub number_drop : (w n : ℕ) (bs : List ℕ) (i : ℕ) → number_at w (drop n bs) i ≡ number_at w bs (n + i)
number_drop w n bs i = number_same w (drop n bs) bs i (n + i) λ k h.
    let z : n + i + k ≡ n + (i + k) = omega arith in
    rw z (get_or-drop n bs (i + k) 0)

-- DECODING AFTER ENCODING, for each width.
pub number_little : (w x : ℕ) (rest : List ℕ) → x < capacity w → number_at w (little_endian w x ++ rest) 0 ≡ x
number_little zero x rest h = omega arith
number_little (suc w) x rest h =
    let y : x / 256 < capacity w = omega arith in
    let e = number_same w (little_endian (suc w) x ++ rest) (little_endian w (x / 256) ++ rest) 1 0 (λ k v. shift k) in
    omega (arith, e, number_little w (x / 256) rest y)
  where
    shift : (k : ℕ) → get_or (little_endian (suc w) x ++ rest) (1 + k) 0 ≡ get_or (little_endian w (x / 256) ++ rest) (0 + k) 0
    shift k =
        let y : 1 + k ≡ suc k = omega arith in
        let z : 0 + k ≡ k = omega arith in
        rw (y, z)

-- ENCODING AFTER DECODING, where the entries are bytes.
pub little_number : (w : ℕ) (bs : List ℕ) (i : ℕ) → Bytes bs → i + w ≤ length bs → little_endian w (number_at w bs i) ≡ take w (drop i bs)
little_number zero bs i b h = refl
little_number (suc w) bs i b h =
    let v : get_or bs i 0 < 256 = byte_at bs b i in
    let n : ℕ = number_at w bs (suc i) in
    let lo : (get_or bs i 0 + 256 * n) % 256 ≡ get_or bs i 0 = omega arith in
    let hi : (get_or bs i 0 + 256 * n) / 256 ≡ n = omega arith in
    rw (drop-cons bs i 0 (omega arith), lo, hi) (ap (λ l. get_or bs i 0 ∷ l) (little_number w bs (suc i) b (omega arith)))

pub number_small : (w : ℕ) (bs : List ℕ) (i : ℕ) → Bytes bs → number_at w bs i < capacity w
number_small zero bs i b = omega arith
number_small (suc w) bs i b = omega (arith, byte_at bs b i, number_small w bs (suc i) b)

-- ---- numbers end to end

pub bytes_of_length : (w : ℕ) (xs : List ℕ) → length (bytes_of w xs) ≡ length xs * w
bytes_of_length w [] = sym (zero-mul w)
bytes_of_length w (x ∷ xs) = omega (arith, length-append (little_endian w x) (bytes_of w xs), little_length w x, bytes_of_length w xs, suc-mul (length xs) w)

pub numbers_of_length : (w n : ℕ) (bs : List ℕ) → length (numbers_of w n bs) ≡ n
numbers_of_length w zero bs = refl
numbers_of_length w (suc n) bs = ap suc (numbers_of_length w n (drop w bs))

pub numbers_of_at : (w n : ℕ) (bs : List ℕ) (q : ℕ) → q < n → get_or (numbers_of w n bs) q 0 ≡ number_at w bs (q * w)
numbers_of_at w zero bs q h = absurd (not-suc-le-zero h)
numbers_of_at w (suc n) bs zero h = ap (number_at w bs) (sym (zero-mul w))
numbers_of_at w (suc n) bs (suc q) h =
    let z : suc q * w ≡ w + q * w = omega (arith, suc-mul q w) in
    rw z (numbers_of_at w n (drop w bs) q (omega arith) ∙ number_drop w w bs (q * w))

pub numbers_of_bytes_of : (w : ℕ) (xs rest : List ℕ) → Below (capacity w) xs → numbers_of w (length xs) (bytes_of w xs ++ rest) ≡ xs
numbers_of_bytes_of w [] rest h = refl
numbers_of_bytes_of w (x ∷ xs) rest h =
    rw (mathlib.Core.List.append_assoc (little_endian w x) (bytes_of w xs) rest)
    (ap₂ ◌∷◌ (number_little w x (bytes_of w xs ++ rest) (h zero (zero-lt-suc (length xs))))
    (ap (numbers_of w (length xs)) (drop_at (little_endian w x) (bytes_of w xs ++ rest) w (little_length w x))
    ∙ numbers_of_bytes_of w xs rest (λ q b. h (suc q) (omega arith))))

-- the bytes of the first n numbers, where the entries are bytes
pub bytes_of_numbers_of : (w n : ℕ) (bs : List ℕ) → Bytes bs → n * w ≤ length bs → bytes_of w (numbers_of w n bs) ≡ take (n * w) bs
bytes_of_numbers_of w zero bs b h = rw (zero-mul w)
bytes_of_numbers_of w (suc n) bs b h =
    let z : suc n * w ≡ w + n * w = omega (arith, suc-mul n w) in
    ap₂ ◌++◌ (little_number w bs 0 b (omega (arith, suc-mul n w)))
    (bytes_of_numbers_of w n (drop w bs) (bytes_drop w bs b) (omega (arith, length-drop w bs, suc-mul n w)))
    ∙ sym (take-add w (n * w) bs) ∙ ap (λ k. take k bs) (sym z)

-- a number among others
pub bytes_of_at : (w : ℕ) (xs rest : List ℕ) → Below (capacity w) xs → (q : ℕ) → q < length xs
    → number_at w (bytes_of w xs ++ rest) (q * w) ≡ get_or xs q 0
bytes_of_at w xs rest h q b = sym (numbers_of_at w (length xs) (bytes_of w xs ++ rest) q b) ∙ ap (λ l. get_or l q 0) (numbers_of_bytes_of w xs rest h)

-- ---- today's widths

pub number_one : (bs : List ℕ) (i : ℕ) → number_at 1 bs i ≡ get_or bs i 0
number_one bs i = omega arith

pub numbers_of_one : (n : ℕ) (bs : List ℕ) → n ≤ length bs → numbers_of 1 n bs ≡ take n bs
numbers_of_one zero bs h = refl
numbers_of_one (suc n) [] h = absurd (not-suc-le-zero h)
numbers_of_one (suc n) (b ∷ bs) h = ap₂ ◌∷◌ (number_one (b ∷ bs) 0) (numbers_of_one n bs (omega arith))

pub number_two : (bs : List ℕ) (i : ℕ) → number_at 2 bs i ≡ get_or bs i 0 + 256 * get_or bs (suc i) 0
number_two bs i = omega arith
