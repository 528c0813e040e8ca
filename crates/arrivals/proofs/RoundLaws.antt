-- What holds of the rows between two stores and between two letters.
use mathlib.Core.Path.{◌≡◌, refl, sym, ap, ◌∙◌}
use mathlib.Core.Bool.{Bool, true, false}
use mathlib.Core.Logic.{◌≢◌}
use mathlib.Core.List.{List}
use Prim.Native.Nat.{ℕ, suc, ◌+◌, ◌*◌, ◌-◌, ◌^◌, ◌≤◌, ◌<◌}
use native.Mathlib.Nat.{mul-add, mul-one, mul-le-mul_left, mul-le-mul_right, zero-mul, mul-zero, mul-suc, one-mul, suc-mul}
use native.Mathlib.Omega.{arith}
use lib.ListN.{length, get_or, set, take, drop, replicate, length-set, length-replicate, get_or-replicate}
use lib.Dec.{eqb}
use Rattle.std.proofs.Common.{length-drop, length-take-le, get_or-take, get_or-drop}
use Rattle.automata.specs.Booleans.{choose}
use Rattle.arrivals.specs.Weights.{most_words, sum_below, weighed, behind, before, each, mark_weight}
use Rattle.arrivals.specs.WeightLaws.{sum_alike, sum_most, sum_at, weighed_more, weighed_none, weighed_at, behind_each, earlier_each}
use Rattle.arrivals.specs.Rounds.{Passable, Passed, Targets, Roomy, Advanced, Started, Startable, Arrived, Begun, Countable}

-- ---- one state: the first i moves are passed

module _ (moves : List ℕ) (words : ℕ) (next : List ℕ) (P : Passable moves words next) where
  pub passed_none : Passed moves 0 words next next
  passed_none = record { long = refl; sum = λ w. omega (arith, mul-zero words) }

  module _ (i : ℕ) (now : List ℕ) (I : Passed moves i words next now) (h : i < length moves) where
    abbrev t : ℕ
    t = get_or moves i 0

    state : t < length now
    state = omega (arith, P.inside i h, I.long)

    ones : sum_below (λ j. 1) i ≡ i
    unfolding behind
    ones = behind_each moves 0 i

    -- The words fit,
    pub words_fit : get_or now t 0 + words ≤ most_words
    words_fit = omega (arith, weighed_at now t state, I.sum each, ap (λ x. words * x) ones, mul_suc_most, P.fits)
      where
        mul_suc_most : words * i + words ≤ words * length moves
        mul_suc_most = omega (arith, mul-suc words i, mul-le-mul_left words h)

    -- and are passed to one state more.
    pub passed_more : Passed moves (suc i) words next (set now t (get_or now t 0 + words))
    passed_more = record {
      long = length-set now t (get_or now t 0 + words) ∙ I.long;
      sum = λ w. weighed_more w now t words state ∙ ap (λ x. x + words * w t) (I.sum w) ∙ omega (arith, mul-add words (sum_below (λ j. w (get_or moves j 0)) i) (w t));
    }

-- ---- an empty row

pub record Cleared (row row' : List ℕ) : Type 0 where
  pub long : length row' ≡ length row
  pub none : (p : ℕ) → p < length row → get_or row' p 0 ≡ 0

pub cleared : (row now : List ℕ) → now ≡ replicate (length row) 0 → Cleared row now
cleared row now e = record {
  long = ap length e ∙ length-replicate {A = ℕ} (length row) 0;
  none = λ p h. rw e (get_or-replicate {A = ℕ} (length row) p 0 0 h);
}

-- the empty word
pub started : (row now : List ℕ) → Cleared row now → 0 < length row → Started row (set now 0 1)
started row now C h = record { long = length-set now 0 1 ∙ C.long; sum = sum }
  where
    b : 0 < length now
    b = omega (arith, C.long)

    zero_first : get_or now 0 0 ≡ 0
    zero_first = C.none 0 h

    sum : (w : ℕ → ℕ) → weighed w (set now 0 1) ≡ w 0
    sum w =
        ap (λ x. weighed w (set now 0 (x + 1))) (sym zero_first)
        ∙ weighed_more w now 0 1 b
        ∙ omega (arith, weighed_none w now (λ q v. C.none q (omega (arith, C.long))), one-mul (w 0))

-- ---- one letter: the first p states are passed

pub record AdvancedTo (bs : List ℕ) (m : ℕ) (here now : List ℕ) (p : ℕ) : Type 0 where
  pub long : length now ≡ length here
  pub sum : (w : ℕ → ℕ) → weighed w now ≡ sum_below (λ q. get_or here q 0 * before bs m w q) p

module _ (bs : List ℕ) (m : ℕ) (here next : List ℕ) (R : Roomy bs m here next) where
  pub advanced_none : (now : List ℕ) → Cleared next now → AdvancedTo bs m here now 0
  advanced_none now C = record { long = C.long ∙ R.long; sum = λ w. weighed_none w now (λ q h. C.none q (omega (arith, C.long))) }

  module _ (now : List ℕ) (p : ℕ) (I : AdvancedTo bs m here now p) (h : p < length here) where
    row_place : p * m + m ≤ length bs
    row_place = omega (arith, R.targets.long, suc-mul p m, mul-le-mul_right m h)

    -- the row of state p
    abbrev cells : List ℕ
    cells = take (p * m + m - p * m) (drop (p * m) bs)

    width : p * m + m - p * m ≡ m
    width = omega arith

    long : length cells ≡ m
    long = rw width (length-take-le m (drop (p * m) bs) (omega (arith, row_place, length-drop (p * m) bs)))

    entry : (i : ℕ) → i < m → get_or cells i 0 ≡ get_or bs (p * m + i) 0
    entry i v = rw width (get_or-take m (drop (p * m) bs) i 0 v ∙ get_or-drop (p * m) bs i 0)

    pub row_passable : Passable cells (get_or here p 0) now
    unfolding weighed
    row_passable = record {
      inside = λ i v. omega (arith, entry i (omega (arith, long)), R.targets.inside (p * m + i) (omega (arith, row_place, long)), I.long);
      fits = rw long (omega (arith, I.sum each, ap (λ x. get_or here p 0 * x) (behind_each bs (p * m) m), sum_at (λ q. get_or here q 0 * before bs m each q) (length here) p h, fits));
    }
      where
        fits : sum_below (λ q. get_or here q 0 * before bs m each q) (length here) ≤ most_words
        fits = R.fits

    alike : (w : ℕ → ℕ) → sum_below (λ j. w (get_or cells j 0)) (length cells) ≡ before bs m w p
    unfolding behind
    alike w = rw long (sum_alike _ _ m (λ i v. ap w (entry i v)))

    pub advanced_more : (now' : List ℕ) → Passed cells (length cells) (get_or here p 0) now now' → AdvancedTo bs m here now' (suc p)
    advanced_more now' J = record { long = J.long ∙ I.long; sum = λ w. J.sum w ∙ ap (λ x. weighed w now + get_or here p 0 * x) (alike w) ∙ ap (λ x. x + get_or here p 0 * before bs m w p) (I.sum w) }

    pub advanced_idle : get_or here p 0 ≡ 0 → AdvancedTo bs m here now (suc p)
    advanced_idle e = record { long = I.long; sum = λ w. omega (arith, I.sum w, ap (λ x. x * before bs m w p) e, zero-mul (before bs m w p)) }

  pub advanced_done : (now : List ℕ) (p : ℕ) → AdvancedTo bs m here now p → p ≡ length here → Advanced bs m here next now
  unfolding weighed
  advanced_done now p I e = record { long = I.long ∙ sym R.long; sum = λ w. rw (← e) (I.sum w) }

-- ---- all letters

module _ (bs : List ℕ) (m n : ℕ) (T : Targets bs m n) where
  pub arrived_none : (row row' : List ℕ) → length row ≡ n → Started row row' → Arrived bs m 0 n row'
  arrived_none row row' e S = record { long = S.long ∙ e; sum = S.sum }

  module _ (k : ℕ) (here next : List ℕ) (A : Arrived bs m k n here) (e : length next ≡ n) where
    pub roomy : m ^ suc k ≤ most_words → Roomy bs m here next
    roomy f = record { targets = rw A.long T; long = e ∙ sym A.long; fits = omega (arith, A.sum (before bs m each), earlier_each bs m (suc k) 0, f) }

    pub arrived_more : (next' : List ℕ) → Advanced bs m here next next' → Arrived bs m (suc k) n next'
    arrived_more next' D = record { long = D.long ∙ e; sum = λ w. D.sum w ∙ A.sum (before bs m w) }

-- no letter, or one
module _ (bs : List ℕ) (m k : ℕ) (here next : List ℕ) (S : Startable bs m k here next) where
  pub begun_none : (here' : List ℕ) → k ≡ 0 → Started here here' → Begun bs m k here here' next
  begun_none here' e A = record { row = rw e (arrived_none bs m (length here) S.targets here here' refl A); other = S.long }

  module _ (next' : List ℕ) (A : Started next next') where
    first : Arrived bs m 0 (length here) next'
    first = arrived_none bs m (length here) S.targets next next' S.long A

    pub begun_roomy : k ≢ 0 → Roomy bs m next' here
    begun_roomy f = roomy bs m (length here) S.targets 0 next' here first refl (S.fits 1 (omega arith))

    pub begun_one : (here' : List ℕ) → k ≢ 0 → k < 2 → Advanced bs m next' here here' → Begun bs m k here here' next'
    begun_one here' f h D =
        let e : k ≡ 1 = omega arith in
        record { row = rw e (arrived_more bs m (length here) S.targets 0 next' here first refl here' D); other = first.long }

-- The words of some letters are in `here`, and two letters are left for each turn.
pub record Going (bs : List ℕ) (m k n : ℕ) (here next : List ℕ) (turns : ℕ) : Type 0 where
  pub targets : Targets bs m n
  pub fits : (j : ℕ) → j ≤ k → m ^ j ≤ most_words
  pub left : turns + turns ≤ k
  pub row : Arrived bs m (k - (turns + turns)) n here
  pub other : length next ≡ n

module _ (bs : List ℕ) (m k n : ℕ) (here next : List ℕ) (turns : ℕ) (G : Going bs m k n here next turns) where
  abbrev j : ℕ
  j = k - (turns + turns)

  module _ (h : 0 < turns) where
    pub going_roomy : Roomy bs m here next
    going_roomy = roomy bs m n G.targets j here next G.row G.other (G.fits (suc j) (omega (arith, G.left)))

    module _ (next' : List ℕ) (D : Advanced bs m here next next') where
      once : Arrived bs m (suc j) n next'
      once = arrived_more bs m n G.targets j here next G.row G.other next' D

      pub going_roomy_again : Roomy bs m next' here
      going_roomy_again = roomy bs m n G.targets (suc j) next' here once G.row.long (G.fits (suc (suc j)) (omega (arith, G.left)))

      pub going_more : (here' : List ℕ) → Advanced bs m next' here here' → Going bs m k n here' next' (turns - 1)
      going_more here' E =
          let e : k - ((turns - 1) + (turns - 1)) ≡ suc (suc j) = omega (arith, G.left) in
          record {
            targets = G.targets;
            fits = G.fits;
            left = omega (arith, G.left);
            row = rw e (arrived_more bs m n G.targets (suc j) next' here once G.row.long here' E);
            other = once.long;
          }

-- ---- totals

-- The first p entries, summed.
abbrev pub total_to : List ℕ → List ℕ → ℕ → ℕ → ℕ
total_to row ms mark p = sum_below (λ q. get_or row q 0 * mark_weight ms mark q) p

module _ (row ms : List ℕ) (mark : ℕ) (C : Countable row ms) where
  weight_most : (q : ℕ) → get_or row q 0 * mark_weight ms mark q ≤ get_or row q 0 * 1
  weight_most q = mul-le-mul_left (get_or row q 0) (go (eqb (get_or ms q 0) mark))
    where
      go : (b : Bool) → choose b (λ _. 1) (λ _. 0) ≤ 1
      go true = omega arith
      go false = omega arith

  pub total_fits : (p : ℕ) → p < length row → total_to row ms mark p + get_or row p 0 ≤ most_words
  unfolding weighed
  total_fits p h = omega (arith, sum_most (λ q. get_or row q 0 * mark_weight ms mark q) (λ q. get_or row q 0 * 1) p weight_most, sum_at (λ q. get_or row q 0 * 1) (length row) p h, mul-one (get_or row p 0), fits)
    where
      fits : sum_below (λ q. get_or row q 0 * 1) (length row) ≤ most_words
      fits = C.fits
