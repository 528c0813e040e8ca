-- A book's text: its lines, what is tested along a line (3, 4, 5), and the forms of lines.
use Rattle.std.specs.Prelude.{ℕ, zero, suc, ◌+◌, Bool, true, false, ◌&&◌, List, [], ◌∷◌, ◌++◌, eqb, leb, ltb, length}
use Rattle.automata.specs.Format.{Format}
use Rattle.automata.specs.Booleans.{choose}
use Rattle.language.specs.Restriction.{RuleKind, restricts, forbids, obliges}
use Rattle.language.specs.Expression.{Expr}
use Rattle.book.specs.Kind.{kind_of, is_letter, is_name, open_kind, close_kind, space_kind, line_end_kind, colon_kind, equals_kind, greater_kind, slash_kind, underscore_kind, less_kind, caret_kind}
use Rattle.book.specs.Reader.{Read, got, bad, read_choice}

-- the first branch where the test fails
abbrev pub unless : {A : Type 0} → Bool → (Unit {0} → A) → (Unit {0} → A) → A
unless b f g = choose b g f

-- "A line ends with byte 0x0A; bytes after the last 0x0A form a line without its end."
pub record Line : Type 0 where
  pub bytes : List ℕ
  pub ended : Bool

abbrev pub put_byte : ℕ → List Line → List Line
put_byte b [] = record { bytes = b ∷ []; ended = false } ∷ []
put_byte b (l ∷ ls) = record { bytes = b ∷ l.bytes; ended = l.ended } ∷ ls

abbrev pub lines_of : List ℕ → List Line
lines_of [] = []
lines_of (b ∷ bs) =
    choose (eqb (kind_of b) line_end_kind) (λ _. record { bytes = []; ended = true } ∷ lines_of bs) (λ _. put_byte b (lines_of bs))

-- 3: "counting `(` as +1 and `)` as -1 along the line, the count passes 4", the count below zero too
abbrev pub too_deep : ℕ → ℕ → List ℕ → Bool
too_deep opens closes [] = false
too_deep opens closes (b ∷ bs) =
    choose (eqb (kind_of b) open_kind) (λ _. choose (ltb (closes + 4) (suc opens)) (λ _. true) λ _. too_deep (suc opens) closes bs) λ _.
    choose (eqb (kind_of b) close_kind) (λ _. too_deep opens (suc closes) bs) λ _.
    too_deep opens closes bs

-- how many bytes of a kind
abbrev pub count_of : ℕ → List ℕ → ℕ
count_of kind [] = 0
count_of kind (b ∷ bs) = choose (eqb (kind_of b) kind) (λ _. suc (count_of kind bs)) (λ _. count_of kind bs)

-- 3, 4 ("over 4 bytes `_` in the line"), and 5 for a line that lacks 0x0A; 0 where none of these
unfoldable pub line_test : Line → ℕ
line_test l =
    choose (too_deep 0 0 l.bytes) (λ _. 3) λ _.
    choose (ltb 4 (count_of underscore_kind l.bytes)) (λ _. 4) λ _.
    choose l.ended (λ _. 0) (λ _. 5)

-- "Line 1 is `:` and then 1 to 26 letters, strictly rising."
abbrev pub rising : ℕ → List ℕ → Bool
rising low [] = true
rising low (b ∷ bs) = choose (is_letter b && ltb low b) (λ _. rising b bs) (λ _. false)

-- the fewest, whatever a card may have
abbrev pub fewest_letters : ℕ
fewest_letters = 1

abbrev pub is_head : Format → List ℕ → Bool
is_head fmt [] = false
is_head fmt (b ∷ ls) = eqb (kind_of b) colon_kind && (leb fewest_letters (length ls) && (leb (length ls) fmt.most_letters && rising 0 ls))

-- the letters of line 1
abbrev pub letters_of : Line → List ℕ
letters_of l = behind l.bytes
  where
    behind : List ℕ → List ℕ
    behind [] = []
    behind (b ∷ bs) = bs

-- "Each later line is a definition, `=`, a name, a choice; or a rule, `>`, a choice, then per context `/`, a choice, `_`, a choice." "A line `<` in a
-- rule's form", "A line `^`".
pub data Form : Type 0 where
  define : ℕ → Expr → Form
  rule : RuleKind → Expr → List (Expr × Expr) → Form
  malformed : Form

-- The tokens of a line behind its first byte: its bytes without the spaces, which "may stand after a line's first byte, before any other byte or the
-- line end". A name is one token.
abbrev pub tokens : List ℕ → List ℕ
tokens [] = []
tokens (b ∷ bs) = choose (eqb (kind_of b) space_kind) (λ _. tokens bs) (λ _. b ∷ tokens bs)

abbrev pub tail_at : ℕ → List ℕ → (List ℕ → Form) → Form
tail_at x [] f = malformed
tail_at x (b ∷ bs) f = choose (eqb (kind_of b) x) (λ _. f bs) (λ _. malformed)

abbrev pub on_read : Read → (Expr → List ℕ → Form) → Form
on_read (got e ts) f = f e ts
on_read bad f = malformed

-- "Both need at least one context, else the line is spoiled."
abbrev pub needs_context : RuleKind → Bool
needs_context restricts = false
needs_context forbids = true
needs_context obliges = true

-- a rule with the contexts that it needs, where the line ends
abbrev pub rule_form : RuleKind → Expr → List (Expr × Expr) → Form
rule_form kind p [] = choose (needs_context kind) (λ _. malformed) (λ _. rule kind p [])
rule_form kind p (c ∷ cs) = rule kind p (c ∷ cs)

abbrev pub contexts_of : RuleKind → ℕ → Expr → List (Expr × Expr) → List ℕ → Form
contexts_of kind zero p cs [] = rule_form kind p cs
contexts_of kind zero p cs (b ∷ ts) = malformed
contexts_of kind (suc n) p cs [] = rule_form kind p cs
contexts_of kind (suc n) p cs (b ∷ ts) =
    unless (eqb (kind_of b) slash_kind) (λ _. malformed) λ _.
    on_read (read_choice ts) λ l us.
    tail_at underscore_kind us λ vs.
    on_read (read_choice vs) λ r ws.
    contexts_of kind n p (cs ++ ((l, r) ∷ [])) ws

abbrev pub define_as : ℕ → Expr → List ℕ → Form
define_as x e [] = define x e
define_as x e (b ∷ ts) = malformed

abbrev pub define_of : List ℕ → Form
define_of [] = malformed
define_of (x ∷ ts) = choose (is_name x) (λ _. on_read (read_choice ts) (define_as x)) (λ _. malformed)

abbrev pub rule_of : RuleKind → List ℕ → Form
rule_of kind ts = on_read (read_choice ts) (λ p us. contexts_of kind (length us) p [] us)

unfoldable pub form_of : List ℕ → Form
form_of [] = malformed
form_of (b ∷ bs) =
    choose (eqb (kind_of b) equals_kind) (λ _. define_of (tokens bs)) λ _.
    choose (eqb (kind_of b) greater_kind) (λ _. rule_of restricts (tokens bs)) λ _.
    choose (eqb (kind_of b) less_kind) (λ _. rule_of forbids (tokens bs)) λ _.
    choose (eqb (kind_of b) caret_kind) (λ _. rule_of obliges (tokens bs)) λ _.
    malformed
