-- What the parts of the walk require and say.
use Rattle.std.specs.Prelude.{Some, None, ◌≡◌, ◌≢◌, List, ℕ, ◌+◌, ◌≤◌, ◌<◌, length, get_or, drop}
use Rattle.automata.specs.Format.{narrow}
use Rattle.card.specs.Layout.{letter_count, state_count, mark_at}
use Rattle.card.specs.Alphabet.{column}
use Rattle.card.specs.Load.{load_test}
use Rattle.card.specs.Judge.{none, found, owed}
use Rattle.card.specs.Run.{Run, going, halted, run_on}
use Rattle.run.specs.declared.Run.{Run as Run'}
use Rattle.run.specs.declared.Walk.{Walk}
use Rattle.run.specs.declared.Walk.TheVariants.{Done, Dead, Unknown}
use Rattle.run.specs.Reading.{run_of}

-- The card loads, with m letters and n states: what one load establishes.
pub record Ready (c : List ℕ) (m n : ℕ) : Type 0 where
  pub loads : load_test narrow c ≡ 0
  pub letters : letter_count narrow c ≡ m
  pub states : state_count narrow c ≡ n

-- The run is in a state of the card, and in a dead one just where a dead place was found.
pub record Underway (c : List ℕ) (n : ℕ) (r : Run') : Type 0 where
  pub inside : r.state < n
  pub dead : (k : ℕ) → r.dead ≡ Some k → mark_at narrow c r.state ≡ 2
  pub alive : r.dead ≡ None → mark_at narrow c r.state ≢ 2

-- The table has the column of every byte.
pub record ColumnTable (ls t : List ℕ) : Type 0 where
  pub entry : (b : ℕ) → b < 256 → get_or t b 0 ≡ column ls b

-- The letters from `from` on before place k are on the card, and the one at k, if there is one, is not.
pub record KnownTo (ls plan : List ℕ) (from k : ℕ) : Type 0 where
  pub low : from ≤ k
  pub most : k ≤ length plan
  pub known : (j : ℕ) → from ≤ j → j < k → column ls (get_or plan j 0) < length ls
  pub unknown : k < length plan → length ls ≤ column ls (get_or plan k 0)

-- what a walk that began after k letters leaves to be done
abbrev pub rest : List ℕ → List ℕ → ℕ → Walk → Run
rest c plan k (Done q) = going q (k + length plan) none
rest c plan k (Dead q a) = run_on narrow c (going q (k + a) (found (k + a))) (drop a plan)
rest c plan k (Unknown q a) = halted q (k + a) none (k + a)

abbrev pub ends : List ℕ → ℕ → List ℕ → Walk → Type 0
ends c n plan (Done q) = (q < n) × (mark_at narrow c q ≢ 2)
ends c n plan (Dead q a) = (q < n) × (mark_at narrow c q ≡ 2) × (a ≤ length plan)
ends c n plan (Unknown q a) = (q < n) × (mark_at narrow c q ≢ 2) × (a ≤ length plan)

pub record Walked (c : List ℕ) (n : ℕ) (plan : List ℕ) (p : ℕ) (w : Walk) : Type 0 where
  pub is : (k : ℕ) → run_on narrow c (going p k none) plan ≡ rest c plan k w
  pub end : ends c n plan w

-- The run r is what the definition says, and goes on.
pub record Runs (c : List ℕ) (n : ℕ) (s : Run) (r : Run') : Type 0 where
  pub is : run_of r ≡ s
  pub underway : Underway c n r

-- ---- how much is owed

-- The table has the number of every state whose marks byte is 0.
pub record OwedTable (c : List ℕ) (n : ℕ) (t : List ℕ) : Type 0 where
  pub entry : (q : ℕ) → q < n → mark_at narrow c q ≡ 0 → get_or t q 0 ≡ owed narrow c q
