-- What an answer on the line that starts at a place says, case by case, as callers use it.
use Rattle.std.specs.Prelude.{◌≡◌, Result, Ok, Err, List, ℕ, suc}
use Rattle.book.specs.Line.{stops}
use Rattle.scans.specs.Lines.{line_at}
use Rattle.reader.specs.Answers.{Reads, WrittenName, WrittenRule, ReadsNext}
use Rattle.reader.specs.declared.names.Names.{Names}
use Rattle.forms.specs.declared.Code.TheVariants.{Define, Rule}
use Rattle.book.specs.Refusals.{refusal_number}
use Rattle.book.specs.declared.refusal.Refusal.{Refusal}
use Rattle.reader.specs.declared.line.Line.{Line}

module _ {s : List ℕ} {at : ℕ} {letters : List ℕ} {f : Names} {o o' : List ℕ} {r : Result Line Refusal} (d : ReadsNext s at letters f o o' r) where
  pub name_read : {n : Line} {x len : ℕ} → r ≡ Ok n → n.code ≡ Define x len → WrittenName (line_at s at d.end) letters f o o' x len × (n.next ≡ suc d.end)
  name_read e c = let w = rw e at d.says in (rw c at w.0, w.1)

  pub rule_read : {n : Line} {len : ℕ} → r ≡ Ok n → n.code ≡ Rule len → WrittenRule (line_at s at d.end) letters f o o' len × (n.next ≡ suc d.end)
  rule_read e c = let w = rw e at d.says in (rw c at w.0, w.1)

  pub line_refused : {q : Refusal} → r ≡ Err q → Reads (line_at s at d.end) letters f (stops (refusal_number q))
  line_refused e = rw e at d.says
