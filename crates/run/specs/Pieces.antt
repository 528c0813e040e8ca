-- Pieces one after the other judge as the whole: a run over one piece and then another is the run over both, and the answer at the end is that of
-- judging the whole plan.
use Rattle.std.specs.Prelude.{◌≡◌, List, ◌++◌, ℕ, Result}
use Rattle.std.proofs.Common.{sym, ap, ◌∙◌}
use Rattle.automata.specs.Format.{narrow}
use Rattle.card.specs.Judge.{judge}
use Rattle.card.specs.Run.{run_start, run_on, run_reply}
use Rattle.card.proofs.RunLaws.{run_append, judge_run}
use Rattle.run.specs.declared.Run.{Run as Run'}
use Rattle.run.specs.declared.Verdict.{Verdict as Verdict'}
use Rattle.run.specs.declared.UnknownLetter.{UnknownLetter}
use Rattle.run.specs.Reading.{run_of, reply_of}
use Rattle.run.specs.Walk.{Ready, Runs}

-- The run r is that of the letters u from the start.
abbrev pub After : List ℕ → ℕ → List ℕ → Run' → Type 0
After c n u r = Runs c n (run_on narrow c (run_start narrow c) u) r

module _ (c : List ℕ) (n : ℕ) where
  -- One piece more, as `piece` ensures it.
  pub after_piece : (u v : List ℕ) (r s : Run') → After c n u r → Runs c n (run_on narrow c (run_of r) v) s → After c n (u ++ v) s
  after_piece u v r s a b = record {
    is = b.is ∙ ap (λ x. run_on narrow c x v) a.is ∙ sym (run_append narrow c (run_start narrow c) u v);
    underway = b.underway;
  }

  -- The first piece, after `start`.
  pub after_start : (v : List ℕ) (r s : Run') → Runs c n (run_start narrow c) r → Runs c n (run_on narrow c (run_of r) v) s → After c n v s
  after_start v r s a b = record { is = b.is ∙ ap (λ x. run_on narrow c x v) a.is; underway = b.underway }

  -- The answer of the run over all letters, as `reply` ensures it, is the answer of judging.
  pub after_reply : (m : ℕ) → Ready c m n → (u : List ℕ) (r : Run') (a : Result Verdict' UnknownLetter) → After c n u r → reply_of a ≡ run_reply narrow c (run_of r) → reply_of a ≡ judge narrow c u
  after_reply m y u r a w e = e ∙ ap (run_reply narrow c) w.is ∙ sym (judge_run narrow c y.loads u)
