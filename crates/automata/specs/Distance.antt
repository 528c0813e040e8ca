-- How far a state is from acceptance: the fewest columns of a word that is accepted from it.
use Rattle.std.specs.Prelude.{◌≡◌, List}
use Rattle.std.proofs.Math.Bool.{true, false}
use Prim.Native.Nat.{ℕ, ◌≤◌}
use Rattle.std.proofs.Math.ListN.{length, get_or}
use Rattle.automata.specs.Automaton.{Over, run}
use Rattle.automata.specs.Machine.{Machine, size, automaton}
use Rattle.automata.specs.Decide.{first_from}
use Rattle.automata.specs.Live.{live_round}

-- The first round in which p is live, "the fewest further letters"; the number of states where it never is.
unfoldable pub distance : ℕ → Machine → ℕ → ℕ
distance k M p = first_from (λ j. get_or (live_round k M j) p false) 0 (size M)

-- What it is to be the fewest: from p a word of d columns is accepted, and none of fewer is.
pub record Fewest (k : ℕ) (M : Machine) (p d : ℕ) : Type 0 where
  pub word : (w : List ℕ) × Over k w × (length w ≡ d) × ((automaton M).accepting (run (automaton M) p w) ≡ true)
  pub least : (w : List ℕ) → Over k w → (automaton M).accepting (run (automaton M) p w) ≡ true → d ≤ length w
