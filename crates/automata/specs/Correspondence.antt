-- An automaton that stands for another: a relation of their states that holds at the starts, is kept by steps, agrees on accepting, and is one to one.
-- Such automata have as many reachable states and accept the same words, so a stage's answer may be found on either (`stage_by`).
use Rattle.std.specs.Prelude.{◌≡◌, ℕ, ◌<◌}
use Rattle.automata.specs.Automaton.{Automaton}

-- R stands for A over k columns: `Rep r s` says that R's state r stands for A's state s.
pub record StandsFor {S' S : Type 0} (k : ℕ) (R : Automaton S') (A : Automaton S) (Rep : S' → S → Type 0) : Type 0 where
  pub starts : Rep R.start A.start
  pub steps : (r : S') (s : S) (c : ℕ) → c < k → Rep r s → Rep (R.step r c) (A.step s c)
  pub answers : (r : S') (s : S) → Rep r s → R.accepting r ≡ A.accepting s
  pub one : (r r' : S') (s s' : S) → Rep r s → Rep r' s' → r ≡ r' → s ≡ s'
  pub back : (r r' : S') (s s' : S) → Rep r s → Rep r' s' → s ≡ s' → r ≡ r'
