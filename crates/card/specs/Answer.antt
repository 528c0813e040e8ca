-- The answer of loading; and for each case of each of the board's answers the paper's number and values.
use Rattle.std.specs.Prelude.{◌≡◌, ◌≢◌, List, ℕ, eqb}
use Rattle.automata.specs.Booleans.{choose, not_true}
use Rattle.automata.specs.Basics.{nat_test}
use Rattle.automata.specs.Format.{Format}
use Rattle.card.specs.Layout.{letter_count, state_count}
use Rattle.card.specs.Load.{load_test}
use Rattle.card.specs.Step.{Stepped, moved, owing, stopped}
use Rattle.card.specs.Verdict.{Verdict, allowed, unfinished, hopeless}
use Rattle.card.specs.Reply.{Reply, answered, refused}

-- ---- loading

-- Loading answers how many letters and how many states the card has, or a refusal: "A card is tested 21 to 26", "A card's refusal returns its number".
pub data Loading : Type 0 where
  holds : (letters states : ℕ) → Loading
  rejected : (number : ℕ) → Loading

unfoldable pub load : Format → List ℕ → Loading
load fmt c = choose (eqb (load_test fmt c) 0) (λ _. holds (letter_count fmt c) (state_count fmt c)) (λ _. rejected (load_test fmt c))

module _ (fmt : Format) (c : List ℕ) where
  pub load_holds : load_test fmt c ≡ 0 → load fmt c ≡ holds (letter_count fmt c) (state_count fmt c)
  unfolding load
  load_holds e = rw e

  pub load_rejected : load_test fmt c ≢ 0 → load fmt c ≡ rejected (load_test fmt c)
  unfolding load
  load_rejected f = rw (not_true (eqb (load_test fmt c) 0) (λ e. f (nat_test.sound (load_test fmt c) 0 e)))

-- ---- each answer in numbers

-- Of loading and judging: a refusal's number of the table, or 0; and two values.
pub record Numbers : Type 0 where
  pub number : ℕ
  pub first : ℕ
  pub second : ℕ

abbrev answer : ℕ → ℕ → ℕ → Numbers
answer number first second = record { number = number; first = first; second = second }

-- Loading: letters and states; or 21 to 26.
abbrev pub load_numbers : Loading → Numbers
load_numbers (holds m n) = answer 0 m n
load_numbers (rejected number) = answer number 0 0

-- One step: a refusal's number, 21 to 28, or 0; "the next state and its marks byte", and the fewest further letters where that is 0.
pub record StepNumbers : Type 0 where
  pub number : ℕ
  pub state : ℕ
  pub mark : ℕ
  pub owed : ℕ

abbrev pub step_numbers : Stepped → StepNumbers
step_numbers (moved q mark) = record { number = 0; state = q; mark = mark; owed = 0 }
step_numbers (owing q k) = record { number = 0; state = q; mark = 0; owed = k }
step_numbers (stopped number) = record { number = number; state = 0; mark = 0; owed = 0 }

-- Judging: the verdict as a marks byte, 1 allowed, 0 unfinished, 2 hopeless, and the number of unfinished or the place of hopeless; or 21 to 26; or 27 and,
-- as the place, how many letters precede the first that is not on the card.
abbrev pub reply_numbers : Reply Verdict → Numbers
reply_numbers (answered allowed) = answer 0 1 0
reply_numbers (answered (unfinished k)) = answer 0 0 k
reply_numbers (answered (hopeless k)) = answer 0 2 k
reply_numbers (refused number before) = answer number 0 before
