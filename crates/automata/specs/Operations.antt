-- The operations on languages as automata made from machines: products for union, intersection and difference; concatenation, star and the erasing
-- of a column as nondeterministic automata with silent moves, for the subset construction. What each accepts, for machines of any size.
use Rattle.std.specs.Prelude.{◌≡◌, Bool, true, false, cond, ◌&&◌, List, [], ◌∷◌, ◌++◌, ℕ, zero, suc, ◌+◌, ◌-◌, ltb, eqb}
use Rattle.automata.specs.Booleans.{and_left, and_right, and_both}
use Rattle.automata.specs.Basics.{Test, nat_test}
use Rattle.automata.specs.Automaton.{Automaton, Over, run, accepts}
use Rattle.automata.specs.Machine.{Machine, size, automaton, WellFormed}
use Rattle.automata.specs.Subset.{NFA}

-- ---- products: union, intersection, difference

-- Both machines at once; `f` says of two answers what the answer is.
abbrev pub product : (Bool → Bool → Bool) → Machine → Machine → Automaton (ℕ × ℕ)
product f M N = record {
  start = (zero, zero);
  step = λ s c. ((automaton M).step s.0 c, (automaton N).step s.1 c);
  accepting = λ s. f ((automaton M).accepting s.0) ((automaton N).accepting s.1);
}

-- a test of pairs
pub pair_sound : (a b : ℕ × ℕ) → eqb a.0 b.0 && eqb a.1 b.1 ≡ true → a ≡ b
pair_sound a b e = λ i. (
  nat_test.sound a.0 b.0 (and_left (eqb a.0 b.0) (eqb a.1 b.1) e) i,
  nat_test.sound a.1 b.1 (and_right (eqb a.0 b.0) (eqb a.1 b.1) e) i,
)

pub pair_whole : (a : ℕ × ℕ) → eqb a.0 a.0 && eqb a.1 a.1 ≡ true
pair_whole a = and_both (eqb a.0 a.0) (eqb a.1 a.1) (nat_test.whole a.0) (nat_test.whole a.1)

unfoldable pub pair_test : Test (ℕ × ℕ)
pair_test = record { same = λ a b. eqb a.0 b.0 && eqb a.1 b.1; sound = pair_sound; whole = pair_whole }

-- ---- concatenation

module _ (M N : Machine) where
  -- The states of M and, behind them, of N. An accepting state of M goes silently to N's 0.
  abbrev pub concat_NFA : NFA
  concat_NFA = record {
    nodes = size M + size N;
    start = zero;
    move = λ x c. cond (ltb x (size M)) ((automaton M).step x c) (size M + (automaton N).step (x - size M) c);
    epsilon = λ x. cond (ltb x (size M) && (automaton M).accepting x) (size M) x;
    accepting = λ x. cond (ltb x (size M)) false ((automaton N).accepting (x - size M));
  }

  -- from M's state p, then from N's start
  abbrev pub Concatenated : ℕ → List ℕ → Type 0
  Concatenated p w = (u : List ℕ) × (v : List ℕ) × (w ≡ u ++ v) × ((automaton M).accepting (run (automaton M) p u) ≡ true) × ((automaton N).accepting (run (automaton N) zero v) ≡ true)

-- ---- star

-- words in a row, each accepted
abbrev pub in_row : List (List ℕ) → List ℕ
in_row [] = []
in_row (u ∷ us) = u ++ in_row us

abbrev pub Each : Machine → List (List ℕ) → Type 0
Each M [] = Unit {0}
Each M (u ∷ us) = (accepts (automaton M) u ≡ true) × Each M us

abbrev pub InStar : Machine → List ℕ → Type 0
InStar M w = (us : List (List ℕ)) × (w ≡ in_row us) × Each M us

-- The states of M and an extra one, size M, without moves: it goes silently to 0, and an accepting state goes silently to it.
abbrev pub star_NFA : Machine → NFA
star_NFA M = record {
  nodes = suc (size M);
  start = size M;
  move = λ x c. cond (ltb x (size M)) ((automaton M).step x c) (suc (size M));
  epsilon = λ x. cond (ltb x (size M)) (cond ((automaton M).accepting x) (size M) x) zero;
  accepting = λ x. eqb x (size M);
}

module _ (k : ℕ) (M : Machine) (F : WellFormed k M) where
  -- from state p to an accepting one, and then words in a row
  abbrev pub Rest : ℕ → List ℕ → Type 0
  Rest p w = (u : List ℕ) × (v : List ℕ) × (w ≡ u ++ v) × ((automaton M).accepting (run (automaton M) p u) ≡ true) × InStar M v

-- ---- erasing

-- the word without column k
abbrev pub strip : ℕ → List ℕ → List ℕ
strip k [] = []
strip k (c ∷ u) = let r = strip k u in cond (eqb c k) r (c ∷ r)

-- what M accepts over the columns up to k, less column k, which is the mark
abbrev pub Erased : ℕ → Machine → ℕ → List ℕ → Type 0
Erased k M p w = (u : List ℕ) × Over (suc k) u × (strip k u ≡ w) × ((automaton M).accepting (run (automaton M) p u) ≡ true)

-- The states of M. The mark, column k, is a silent move; as a column it leads nowhere.
abbrev pub erase_NFA : ℕ → Machine → NFA
erase_NFA k M = record {
  nodes = size M;
  start = zero;
  move = λ x c. cond (eqb c k) (size M) ((automaton M).step x c);
  epsilon = λ x. (automaton M).step x k;
  accepting = (automaton M).accepting;
}
