-- What the given machines look like, written out: a machine whose transitions are those of `one_sign` or `many_signs`, numbered by first arrival, is the
-- given machine. For any number of columns.
use Rattle.std.specs.Prelude.{◌≡◌, Bool, eqb}
use Rattle.std.proofs.Math.Bool.{cond}
use Prim.Native.Nat.{ℕ, ◌<◌}
use Rattle.automata.specs.Automaton.{Automaton}
use Rattle.automata.specs.Machine.{Machine, size, automaton, WellFormed}

-- ---- a machine that is an automaton of numbers with the numbers changed

-- State s of A is state `name s` of M.
pub record Renamed (k n : ℕ) (A : Automaton ℕ) (M : Machine) (name : ℕ → ℕ) : Type 0 where
  pub formed : WellFormed k M
  pub states : size M ≡ n
  pub starts : (A.start < n) × (name A.start ≡ 0)
  pub steps : (s c : ℕ) → s < n → c < k → (A.step s c < n) × ((automaton M).step (name s) c ≡ name (A.step s c))
  pub answers : (s : ℕ) → s < n → (automaton M).accepting (name s) ≡ A.accepting s

-- ---- one sign

module _ (k : ℕ) (good : ℕ → Bool) (M : Machine) where
  -- The states behind the sign and for anything else, by which of them is met first: column 0 leads to it.
  abbrev pub behind : ℕ
  behind = cond (good 0) 1 2

  abbrev pub lost : ℕ
  lost = cond (good 0) 2 1

  -- M's transitions and accepting states, written out.
  pub record OneSignTable : Type 0 where
    pub formed : WellFormed k M
    pub states : size M ≡ 3
    pub first : (c : ℕ) → c < k → (automaton M).step 0 c ≡ cond (good c) behind lost
    pub later : (p c : ℕ) → 0 < p → p < 3 → c < k → (automaton M).step p c ≡ lost
    pub answers : (p : ℕ) → p < 3 → (automaton M).accepting p ≡ eqb p behind

-- ---- any number of signs

module _ (k : ℕ) (good : ℕ → Bool) (M : Machine) where
  pub record ManySignsTable : Type 0 where
    pub formed : WellFormed k M
    pub states : size M ≡ 2
    pub first : (c : ℕ) → c < k → (automaton M).step 0 c ≡ cond (good c) 0 1
    pub later : (c : ℕ) → c < k → (automaton M).step 1 c ≡ 1
    pub answers : (p : ℕ) → p < 2 → (automaton M).accepting p ≡ eqb p 0
