-- The refusals of a line are exactly the table's: 3 to 7, each where those before it do not stop the line, and one answer only is right.
use Rattle.std.specs.Prelude.{◌≡◌, true, false, ◌&&◌, List, ◌++◌}
use Prim.Native.Nat.{ℕ, ◌+◌, ◌≤◌, ◌<◌}
use Rattle.language.specs.Expression.{member}
use Rattle.language.specs.Environment.{known, all_known}
use Rattle.book.specs.Kind.{open_kind, close_kind, underscore_kind}
use Rattle.book.specs.Text.{Line, count_of, Form, define, rule, malformed}
use Rattle.book.specs.LineGrammar.{LineForm, squeezed}
use Rattle.book.specs.Line.{LineRead, reads, stops}

-- 3: "counting `(` as +1 and `)` as -1 along the line, the count passes 4": behind some first part of the line it is over 4.
abbrev pub PassesFour : List ℕ → Type 0
PassesFour bs = (u : List ℕ) × (v : List ℕ) × (bs ≡ u ++ v) × (count_of close_kind u + 4 < count_of open_kind u)

-- ---- the table's 3 to 7

-- the letters and names of a form are known
abbrev pub KnownForm : List ℕ → List ℕ → Form → Type 0
KnownForm ls names (define x e) = known ls names e ≡ true
KnownForm ls names (rule kind p cs) = known ls names p && all_known ls names cs ≡ true
KnownForm ls names malformed = ⊥

-- the name after `=` is new
abbrev pub NewName : List ℕ → Form → Type 0
NewName names (define x e) = member x names ≡ false
NewName names (rule kind p cs) = Unit {0}
NewName names malformed = ⊥

-- Neither 3 nor 4 stops the line.
pub record Countable (bs : List ℕ) : Type 0 where
  pub nesting : ¬ PassesFour bs
  pub contexts : count_of underscore_kind bs ≤ 4

-- What a later line says, with the letters of line 1 and the names defined above. 3: "the count passes 4". 4: "over 4 bytes `_` in the line".
-- 5: "the line isn't of its form above, lacks 0x0A". 6: "in one of the line's choices, a letter not in line 1 or a name not defined above". 7: "the name
-- after `=` is defined above".
pub data LineSays (ls names : List ℕ) (l : Line) : LineRead → Type 0 where
  nesting_too_deep : PassesFour l.bytes → LineSays ls names l (stops 3)
  too_many_contexts : ¬ PassesFour l.bytes → 4 < count_of underscore_kind l.bytes → LineSays ls names l (stops 4)
  no_line_end : Countable l.bytes → l.ended ≡ false → LineSays ls names l (stops 5)
  malformed_line : Countable l.bytes → l.ended ≡ true → ((F : Form) → LineForm (squeezed l.bytes) F → ⊥) → LineSays ls names l (stops 5)
  undefined_symbol : Countable l.bytes → l.ended ≡ true → (F : Form) → LineForm (squeezed l.bytes) F → ¬ KnownForm ls names F → LineSays ls names l (stops 6)
  duplicate_name : Countable l.bytes → l.ended ≡ true → (F : Form) → LineForm (squeezed l.bytes) F → KnownForm ls names F → ¬ NewName names F → LineSays ls names l (stops 7)
  says : Countable l.bytes → l.ended ≡ true → (F : Form) → LineForm (squeezed l.bytes) F → KnownForm ls names F → NewName names F → LineSays ls names l (reads F)
