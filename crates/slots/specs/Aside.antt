-- A slot among others that is changed alone, and a part of a list that is put back.
use Rattle.std.specs.Prelude.{◌≡◌, ◌⊎◌, List, ◌++◌, ℕ, ◌+◌, ◌-◌, ◌≤◌, ◌<◌, length, get_or, take, drop}
use Rattle.std.proofs.Common.{sym, ap, ◌∙◌, subst, inl, inr, arith, length-drop, get_or-take, get_or-drop, get_or-append-add, length-take-le}
use Rattle.std.proofs.Math.ListN.{get_or-append}
use borrow.Rule.Slice.PartMut.{same_len_mid, drop_put}
use Rattle.slots.specs.Slot.{Written}

-- Only the entries of the slot at a place may differ.
pub record Aside (at len : ℕ) (s t : List ℕ) : Type 0 where
  pub long : length t ≡ length s
  pub same : (j : ℕ) → (j < at) ⊎ (at + len ≤ j) → get_or t j 0 ≡ get_or s j 0

-- ---- a part of a list that is put back

-- The part from a on and before e is ys.
pub part_written : (a e : ℕ) (xs ys : List ℕ) → a ≤ e → e ≤ length xs → length ys ≡ length (take (e - a) (drop a xs))
    → Written xs (take a xs ++ (ys ++ drop (e - a) (drop a xs))) a (e - a) (λ i. get_or ys i 0)
part_written a e xs ys h g l = record { long = same_len_mid a (e - a) xs ys l; here = here; there = there }
  where
    front : length (take a xs) ≡ a
    front = length-take-le a xs (omega arith)

    long : length ys ≡ e - a
    long = l ∙ length-take-le (e - a) (drop a xs) (omega (arith, length-drop a xs))

    whole : List ℕ
    whole = take a xs ++ (ys ++ drop (e - a) (drop a xs))

    here : (i : ℕ) → i < e - a → get_or whole (a + i) 0 ≡ get_or ys i 0
    here i b = ap (λ n. get_or whole (n + i) 0) (sym front) ∙ get_or-append-add (take a xs) (ys ++ drop (e - a) (drop a xs)) i 0 ∙ get_or-append ys (drop (e - a) (drop a xs)) 0 i (omega (arith, long))

    there : (j : ℕ) → (j < a) ⊎ (a + (e - a) ≤ j) → get_or whole j 0 ≡ get_or xs j 0
    there j (inl b) = get_or-append (take a xs) (ys ++ drop (e - a) (drop a xs)) 0 j (omega (arith, front)) ∙ get_or-take a xs j 0 b
    there j (inr b) =
        let z : j ≡ e + (j - e) = omega arith in
        ap (λ n. get_or whole n 0) z ∙ sym (get_or-drop e whole (j - e) 0) ∙ ap (λ v. get_or v (j - e) 0) (drop_put a e xs ys h g long) ∙ get_or-drop e xs (j - e) 0 ∙ ap (λ n. get_or xs n 0) (sym z)

pub part_at : (a e len : ℕ) (xs ys : List ℕ) → a + len ≡ e → e ≤ length xs → length ys ≡ length (take (e - a) (drop a xs))
    → Written xs (take a xs ++ (ys ++ drop (e - a) (drop a xs))) a len (λ i. get_or ys i 0)
part_at a e len xs ys h g l =
    let z : e - a ≡ len = omega arith in
    subst (λ n. Written xs (take a xs ++ (ys ++ drop (e - a) (drop a xs))) a n (λ i. get_or ys i 0)) z (part_written a e xs ys (omega arith) g l)

-- The part from a on and before e is a copy of n entries of a list, from one on.
pub part_copied : (a e : ℕ) (xs ys src : List ℕ) (from i j n : ℕ) → ys ≡ take i (drop j src) → i ≡ n → j ≡ from → a + n ≡ e → e ≤ length xs → from + n ≤ length src
    → Written xs (take a xs ++ (ys ++ drop (e - a) (drop a xs))) a n (λ i. get_or src (from + i) 0)
part_copied a e xs ys src from i j n is p q h g l =
    let z : ys ≡ take n (drop from src) = is ∙ ap (λ i. take i (drop j src)) p ∙ ap (λ j. take n (drop j src)) q in
    let w : length (take n (drop from src)) ≡ n = length-take-le n (drop from src) (omega (arith, length-drop from src)) in
    let v : length (take (e - a) (drop a xs)) ≡ n = length-take-le (e - a) (drop a xs) (omega (arith, length-drop a xs)) ∙ (omega arith) in
    let W = part_at a e n xs ys h g (ap length z ∙ w ∙ sym v) in
    record { long = W.long; here = λ i b. W.here i b ∙ ap (λ ys. get_or ys i 0) z ∙ get_or-take n (drop from src) i 0 b ∙ get_or-drop from src i 0; there = W.there }
