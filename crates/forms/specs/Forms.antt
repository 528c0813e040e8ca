-- What the functions that read a line's form promise: the form of the definitions, and its program in the lent buffer, past which nothing changed.
use Rattle.std.specs.Prelude.{◌≡◌, true, Option, None, Some, List, [], ◌∷◌, ℕ, ◌+◌, ◌*◌, ◌≤◌, length, take, get_or}
use Rattle.language.specs.Restriction.{RuleKind, restricts, forbids, obliges}
use Rattle.language.specs.Expression.{Expr}
use Rattle.book.specs.Kind.{kind_of, is_name}
use Rattle.book.specs.Text.{define, rule, malformed, form_of, needs_context}
use Rattle.book.specs.LineGrammar.{rule_sign}
use Rattle.book.specs.Program.{store_pattern_code, complement_code, program}
use Rattle.signs.specs.Buffer.{Grown}
use Rattle.signs.specs.declared.Spot.{Spot}
use Rattle.forms.specs.declared.Code.{Code}
use Rattle.forms.specs.declared.Code.TheVariants.{Define, Rule}

-- the bytes that the programs of a line's rows take at most: those of the pattern, of four contexts and one that may be begun, and the last three
abbrev pub Room : List ℕ → List ℕ → Type 0
Room s o = 2 * length s + 64 ≤ length o

pub record Defines (s o o' : List ℕ) (x len : ℕ) : Type 0 where
  pub body : Expr
  pub named : is_name x ≡ true
  pub form : form_of s ≡ define x body
  pub code : take len o' ≡ program (define x body)
  pub grown : Grown o 0 o' len
  pub fits : len ≤ length o'

-- A rule: its program stands up to len, and the buffer is as it was before pos and past len.
pub record Rules (s o : List ℕ) (pos : ℕ) (o' : List ℕ) (len : ℕ) : Type 0 where
  pub kind : RuleKind
  pub pattern : Expr
  pub contexts : List (Expr × Expr)
  pub form : form_of s ≡ rule kind pattern contexts
  pub code : take len o' ≡ program (rule kind pattern contexts)
  pub grown : Grown o pos o' len
  pub fits : len ≤ length o'

abbrev pub FormSays : List ℕ → List ℕ → List ℕ → Option Code → Type 0
FormSays s o o' (Some (Define x len)) = Defines s o o' x len
FormSays s o o' (Some (Rule len)) = Rules s o 0 o' len
FormSays s o o' None = form_of s ≡ malformed

pub record ReadsForm (s o o' : List ℕ) (r : Option Code) : Type 0 where
  pub says : FormSays s o o' r

-- a rule, from its contexts on
abbrev pub RestSays : List ℕ → List ℕ → Spot → List ℕ → Option ℕ → Type 0
RestSays s o c o' (Some len) = Rules s o c.pos o' len
RestSays s o c o' None = form_of s ≡ malformed

pub record ReadsRest (s o : List ℕ) (c : Spot) (o' : List ℕ) (r : Option ℕ) : Type 0 where
  pub says : RestSays s o c o' r

-- what stands behind the pattern: "For `^`: q = `.*-p` first"
abbrev pub store_program : RuleKind → List ℕ
store_program restricts = store_pattern_code ∷ []
store_program forbids = store_pattern_code ∷ []
store_program obliges = complement_code ∷ store_pattern_code ∷ []

-- A line that begins as one of the two kinds that need a context, and the row of codes that stands behind its pattern.
pub record Sister (s row : List ℕ) : Type 0 where
  pub kind : RuleKind
  pub needs : needs_context kind ≡ true
  pub sign : kind_of (get_or s 0 0) ≡ kind_of (rule_sign kind)
  pub row_is : row ≡ store_program kind
