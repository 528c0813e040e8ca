-- The forms of the later lines, as 01 and W4 word them, and the theorem that `form_of` finds them: a line is malformed exactly when it is of neither form.
use Rattle.std.specs.Prelude.{ℕ, ◌≡◌, true}
use mathlib.Core.List.{List, [], ◌∷◌, ◌++◌}
use Rattle.language.specs.Restriction.{RuleKind, restricts, forbids, obliges, Enough}
use Rattle.language.specs.Expression.{Expr}
use Rattle.book.specs.Kind.{is_name}
use Rattle.book.specs.Grammar.{Choice}
use Rattle.book.specs.Text.{Form, define, rule, malformed, tokens}

-- "then per context `/`, a choice, `_`, a choice"
pub data Contexts : List ℕ → List (Expr × Expr) → Type 0 where
  none : {all : List ℕ} → all ≡ [] → Contexts all []
  more : {all ts us vs : List ℕ} {l r : Expr} {cs : List (Expr × Expr)} → Choice ts l → Choice us r → Contexts vs cs
      → all ≡ 47 ∷ (ts ++ (95 ∷ (us ++ vs))) → Contexts all ((l, r) ∷ cs)

-- `>`, `<`, `^`
abbrev pub rule_sign : RuleKind → ℕ
rule_sign restricts = 62
rule_sign forbids = 60
rule_sign obliges = 94

-- "Each later line is a definition, `=`, a name, a choice; or a rule, `>`, a choice, then per context ..", its spaces gone; "a line `<` in a rule's
-- form", "a line `^`".
pub data LineForm : List ℕ → Form → Type 0 where
  definition : {all ts : List ℕ} {x : ℕ} {e : Expr} → is_name x ≡ true → Choice ts e → all ≡ 61 ∷ (x ∷ ts) → LineForm all (define x e)
  ruling : {all ts us : List ℕ} {kind : RuleKind} {p : Expr} {cs : List (Expr × Expr)} → Choice ts p → Contexts us cs → Enough kind cs → all ≡ rule_sign kind ∷ (ts ++ us) → LineForm all (rule kind p cs)

-- "Spaces (0x20) may stand after a line's first byte."
abbrev pub squeezed : List ℕ → List ℕ
squeezed [] = []
squeezed (b ∷ bs) = b ∷ tokens bs

-- ---- lines

-- "Both need at least one context": a rule has them.
abbrev pub Contexted : Form → Type 0
Contexted (define x e) = Unit {0}
Contexted (rule kind p cs) = Enough kind cs
Contexted malformed = Unit {0}
