-- What the sweeps are given that find how far a change is, and what they answer: of a machine its answers and moves, of each state its number.
use Rattle.std.specs.Prelude.{◌≡◌, Bool, true, false, List, ℕ, suc, ◌≤◌, ◌<◌, length, get_or, set}
use Rattle.distance.specs.Distance.{after, Nearest, Backed, Closed}

-- So many states and letters, what each state answers, and where a letter leads.
pub record Stepping : Type 0 where
  pub states : ℕ
  pub letters : ℕ
  pub key : ℕ → ℕ
  pub step : ℕ → ℕ → ℕ

-- The number of a state, which is kept less 1: as many as there are states where no change is known.
abbrev pub far : List ℕ → ℕ → ℕ
far l p = suc (get_or l p 0)

-- r is the least of what is known behind the first m letters of state p.
pub record Near (S : Stepping) (l : List ℕ) (p m r : ℕ) : Type 0 where
  pub least : Nearest S.states (after S.key S.step (far l) p) m r

-- Of no state a change is known.
pub record Unknown (S : Stepping) (l : List ℕ) : Type 0 where
  pub long : length l ≡ S.states
  pub none : (p : ℕ) → p < S.states → far l p ≡ S.states

-- Each state has a number, which is backed.
pub record Numbers (S : Stepping) (l : List ℕ) : Type 0 where
  pub long : length l ≡ S.states
  pub backed : Backed S.states S.states S.letters S.key S.step (far l)

-- State p's number was lowered to what is known behind a letter, kept less 1, or nothing changed and no letter of p shows a nearer change.
pub record Lowered (S : Stepping) (l l' : List ℕ) (p : ℕ) (r : Bool) : Type 0 where
  pub numbers : Numbers S l'
  pub yes : r ≡ true → (x : ℕ) × (l' ≡ set l p x) × (x < get_or l p 0) × ((c : ℕ) × (c < S.letters) × (after S.key S.step (far l) p c ≡ x))
  pub no : r ≡ false → (l' ≡ l) × ((c : ℕ) → c < S.letters → far l p ≤ suc (after S.key S.step (far l) p c))

-- A sweep keeps the numbers backed; where it lowers none, they are closed.
pub record Swept (S : Stepping) (l : List ℕ) (m : ℕ) (changed : Bool) : Type 0 where
  pub numbers : Numbers S l
  pub closed : changed ≡ false → Closed S.letters S.key S.step (far l) m

-- The numbers are settled, or say nothing.
pub record Settled (S : Stepping) (l : List ℕ) (r : Bool) : Type 0 where
  pub numbers : Numbers S l
  pub closed : r ≡ true → Closed S.letters S.key S.step (far l) S.states
