-- How much is still owed, for the card of an accepted book: the number is that of the plans that the book allows, in judging and in a step; and what boards
-- that were mounted before W3 reply.
use Rattle.std.specs.Prelude.{◌≡◌, ◌↔◌, List, [], ◌∷◌, ◌++◌, ℕ}
use Rattle.automata.specs.Format.{Format}
use Rattle.card.specs.Verdict.{Says, unfinished}
use Rattle.card.specs.Judge.{state_after}
use Rattle.card.specs.Step.{step_on, owing}
use Rattle.promises.specs.Demands.{book_allows}

-- A step from the state after the letters u, by the letter l, gives the number k exactly when the book's plans say it of the letters u and l.
abbrev pub StepOwes : Format → List ℕ → List ℕ → List ℕ → ℕ → ℕ → Type 0
StepOwes fmt text c u l k = ((q : ℕ) × (step_on fmt c (state_after fmt c u 0) l ≡ owing q k)) ↔ Says (book_allows text) (u ++ (l ∷ [])) (unfinished k)
