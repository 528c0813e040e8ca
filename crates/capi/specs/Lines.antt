-- What the entry for many plans hands back.
use Rattle.std.specs.Prelude.{◌≡◌, Result, List, ℕ, length}
use Rattle.std.proofs.Common.{ap, ◌∙◌}
use Rattle.loading.specs.declared.Fault.{Fault}
use Rattle.plans.specs.declared.Judged.{Judged}
use Rattle.plans.specs.Many.{many_numbers, many_replies, many_of, JudgesLines}
use Rattle.numbers.specs.Handed.{handed, numbers}

-- How many plans were judged and the bytes they took, or 21 to 26; and the answers, three numbers a plan, in front of what stood there.
pub record JudgesMany (c s old new : List ℕ) (r : ℕ) (out : List ℕ) : Type 0 where
  pub answer : handed r out ≡ numbers (many_numbers c s (length old))
  pub replies : new ≡ many_replies c s old

-- the numbers are those of the answer
pub many_as : (c s old new : List ℕ) (a : Result Judged Fault) (r : ℕ) (out : List ℕ) → JudgesLines c s old new a → handed r out ≡ numbers (many_of a) → JudgesMany c s old new r out
many_as c s old new a r out j p = record { answer = p ∙ ap numbers j.answer; replies = j.replies }
