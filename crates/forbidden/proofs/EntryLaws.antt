-- From what the parts leave to the reply of the definitions.
use mathlib.Core.Path.{◌≡◌, sym, ap, ◌∙◌, subst}
use mathlib.Core.List.{List}
use Prim.Native.Nat.{ℕ, ◌≤◌, ◌<◌}
use native.Mathlib.Omega.{arith}
use lib.ListN.{length}
use Rattle.automata.specs.Format.{narrow}
use Rattle.card.specs.Layout.{letters_of}
use Rattle.card.specs.Alphabet.{Known}
use Rattle.card.proofs.Alphabet.{at_known}
use Rattle.card.specs.Load.{Tested}
use Rattle.card.proofs.LoadLaws.{tested}
use Rattle.card.specs.Answer.{load, rejected}
use Rattle.card.specs.Reply.{answered, refused, no_card, unknown_letter, is_answered}
use Rattle.factor.specs.Shortest.{shortest}
use Rattle.factor.proofs.CardLaws.{replies_only}
use Rattle.std.specs.Prelude.{Option}
use Rattle.run.specs.Walk.{Ready, KnownTo}
use Rattle.board.proofs.EntryLaws.{rejected_test, rejected_some}
use Rattle.forbidden.specs.declared.Stretch.{Stretch}
use Rattle.forbidden.specs.Reading.{shortest_in}
use Rattle.forbidden.specs.Pass.{Searched}

-- a card that does not load
pub refused_card : (c plan : List ℕ) (k : ℕ) → rejected k ≡ load narrow c → refused k 0 ≡ shortest narrow c plan
refused_card c plan k e = sym (replies_only narrow c plan (refused k 0) (no_card k (rejected_some c k e) (subst (Tested narrow c) (rejected_test c k e).0 (tested narrow c))))

module _ (c : List ℕ) (m n : ℕ) (R : Ready c m n) (plan : List ℕ) where
  -- a letter that is not on the card
  pub refused_letter : (k : ℕ) → KnownTo (letters_of narrow c) plan 0 k → k < length plan → refused 27 k ≡ shortest narrow c plan
  refused_letter k K h = sym (replies_only narrow c plan (refused 27 k) (unknown_letter R.loads k h (λ i b. K.known i (omega arith) b) (K.unknown h)))

  -- all letters are on the card
  pub all_known : (k : ℕ) → KnownTo (letters_of narrow c) plan 0 k → length plan ≤ k → Known (letters_of narrow c) plan
  all_known k K h = at_known (letters_of narrow c) plan (λ j b. K.known j (omega arith) (omega arith))

  -- THE ANSWER of the pass is the reply.
  pub searched_reply : (a : Option Stretch) → Known (letters_of narrow c) plan → Searched c plan a → answered (shortest_in a) ≡ shortest narrow c plan
  searched_reply a known A = ap answered A.is ∙ sym (replies_only narrow c plan (answered A.answer) (is_answered R.loads known A.answer A.right))
