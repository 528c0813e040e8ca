-- Judging many plans on one card: the card is tested once, and each plan's answer is that of judging it alone.
use Rattle.std.specs.Prelude.{Result, Ok, Err, ◌≡◌, List, [], ◌∷◌, ◌++◌, ℕ, ◌*◌, ◌/◌, min, length, take, drop, eqb}
use Rattle.automata.specs.Booleans.{choose}
use Rattle.automata.specs.Format.{narrow}
use Rattle.card.specs.Load.{load_test}
use Rattle.card.specs.Judge.{judge}
use Rattle.card.specs.Answer.{Numbers, reply_numbers}
use Rattle.plans.specs.Plans.{plans_of, consumed}
use Rattle.loading.specs.declared.Fault.{Fault}
use Rattle.loading.specs.Faults.{fault_number}
use Rattle.plans.specs.declared.Judged.{Judged}

abbrev pub three : Numbers → List ℕ
three n = n.number ∷ n.first ∷ n.second ∷ []

-- The numbers of each plan's answer, three a plan: number, verdict, letters owed or place.
abbrev pub replies_to : List ℕ → List (List ℕ) → List ℕ
replies_to c [] = []
replies_to c (p ∷ ps) = three (reply_numbers (judge narrow c p)) ++ replies_to c ps

-- As many plans are judged as there are and have room.
abbrev pub judged_count : List ℕ → ℕ → ℕ
judged_count s room = min (length (plans_of s)) (room / 3)

abbrev if_loads : {A : Type 0} → List ℕ → A → A → A
if_loads c a b = choose (eqb (load_test narrow c) 0) (λ _. a) (λ _. b)

-- What is answered: 0, how many plans were judged, where the next one begins; or 21 to 26.
unfoldable pub many_numbers : List ℕ → List ℕ → ℕ → Numbers
many_numbers c s room =
    if_loads c
    (record { number = 0; first = judged_count s room; second = consumed (judged_count s room) s })
    (record { number = load_test narrow c; first = 0; second = 0 })

-- What stands where the answers go: those of the plans judged, and then what stood there; or all that stood there.
unfoldable pub many_replies : List ℕ → List ℕ → List ℕ → List ℕ
many_replies c s old = if_loads c (let k = judged_count s (length old) in replies_to c (take k (plans_of s)) ++ drop (3 * k) old) old

-- ---- the code's answer

abbrev pub many_of : Result Judged Fault → Numbers
many_of (Ok judged) = record { number = 0; first = judged.plans; second = judged.bytes }
many_of (Err fault) = record { number = fault_number fault; first = 0; second = 0 }

pub record JudgesLines (c s old new : List ℕ) (r : Result Judged Fault) : Type 0 where
  pub answer : many_of r ≡ many_numbers c s (length old)
  pub replies : new ≡ many_replies c s old
