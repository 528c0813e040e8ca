-- How to count: on a card that loads the last state's marks byte tells the kind of the verdict; and of the plans with one letter more, from a state on, as
-- many end with a marks byte as do of the plans from the states that the letters lead to, taken together.
use Rattle.std.specs.Prelude.{◌≡◌, List, [], ◌∷◌, ℕ, ◌+◌, length, eqb}
use Rattle.automata.specs.Format.{Format}
use Rattle.card.specs.Layout.{mark_at, letters_of}
use Rattle.card.specs.Verdict.{Verdict}
use Rattle.card.specs.Judge.{state_after}
use Rattle.census.specs.Listing.{passing}
use Rattle.census.specs.Plans.{plans_of, allowed_verdict, unfinished_verdict, hopeless_verdict}

-- How many plans of k letters lead from state p to a state with this marks byte.
abbrev pub ending : Format → List ℕ → ℕ → ℕ → ℕ → ℕ
ending fmt c mark k p = length (passing (λ plan. eqb (mark_at fmt c (state_after fmt c plan p)) mark) (plans_of (letters_of fmt c) k))

-- A verdict and a marks byte of the same kind.
pub record Told (v : Verdict) (mark : ℕ) : Type 0 where
  pub allowed : allowed_verdict v ≡ eqb mark 1
  pub unfinished : unfinished_verdict v ≡ eqb mark 0
  pub hopeless : hopeless_verdict v ≡ eqb mark 2

-- ---- letter by letter

-- the sum over the letters
abbrev pub sum_over : List ℕ → (ℕ → ℕ) → ℕ
sum_over [] g = 0
sum_over (l ∷ ls) g = g l + sum_over ls g
