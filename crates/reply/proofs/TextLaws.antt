-- The line of each answer, and of several.
use mathlib.Core.Path.{◌≡◌, refl, sym, ap, ◌∙◌}
use mathlib.Core.List.{List, [], ◌∷◌, ◌++◌, append_assoc, append-nil}
use Prim.Native.Nat.{ℕ, ◌+◌, ◌≤◌}
use native.Mathlib.Omega.{arith}
use lib.ListN.{length}
use Rattle.automata.specs.Format.{narrow}
use Rattle.card.specs.Judge.{judge}
use Rattle.stream.specs.Text.{Put, PutNumber}
use Rattle.stream.specs.TextLaws.{put_put, put_as}
use Rattle.run.specs.declared.Verdict.{Verdict}
use Rattle.run.specs.declared.Verdict.TheVariants.{Allowed, Unfinished, Hopeless}
use Rattle.std.specs.Prelude.{Result, Ok, Err}
use Rattle.board.specs.declared.refusals.Refusal.{Refusal}
use Rattle.board.specs.Refusals.{refusal_number}
use Rattle.board.specs.Answers.{reply_of}
use Rattle.reply.specs.Text.{unfinished_word, hopeless_word, refused_word, newline, numbered, reply_line, reply_lines, longest, PutNumbered, PutLine}

-- a word, a number, the line's end
pub numbered_line : (out : List ℕ) (at : ℕ) (word b : List ℕ) (q k : ℕ) (c : List ℕ) (s : ℕ) (out' : List ℕ) (r : ℕ)
    → Put out at word b q → PutNumber b q k c s → Put c s newline out' r → PutNumbered out at word k out' r
numbered_line out at word b q k c s out' r x y z = record {
  most = omega (arith, x.place, y.most, z.place);
  put = put_put out at _ c s newline out' r (put_put out at word b q _ c s x y.put) z;
}

-- one plan more
pub lines_more : (c : List ℕ) (ps : List (List ℕ)) (p : List ℕ) → reply_lines c (ps ++ (p ∷ [])) ≡ reply_lines c ps ++ reply_line (judge narrow c p)
lines_more c [] p = append-nil (reply_line (judge narrow c p))
lines_more c (q ∷ ps) p = ap (λ x. reply_line (judge narrow c q) ++ x) (lines_more c ps p) ∙ sym (append_assoc (reply_line (judge narrow c q)) (reply_lines c ps) (reply_line (judge narrow c p)))
