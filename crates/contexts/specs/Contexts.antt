-- What the functions that read a rule's contexts promise: the contexts of the definitions, and their code in the lent buffer, past which nothing changed.
use Rattle.std.specs.Prelude.{◌≡◌, Option, None, Some, List, [], ◌++◌, ℕ, suc, ◌+◌, ◌*◌, ◌-◌, ◌≤◌, length, take}
use Rattle.automata.specs.Stages.{Pairing}
use Rattle.language.specs.Restriction.{RuleKind, Enough}
use Rattle.language.specs.Expression.{Expr}
use Rattle.book.specs.Kind.{underscore_kind}
use Rattle.book.specs.Reader.{got, bad, read_choice}
use Rattle.book.specs.Text.{count_of, Form, rule, malformed, form_of, contexts_of, on_read, tail_at}
use Rattle.book.specs.Program.{pair_code, postfix, context_program, contexts_program, program}
use Rattle.signs.specs.Buffer.{Grown}
use Rattle.signs.specs.Spots.{left}
use Rattle.signs.specs.declared.Spot.{Spot}

-- a row of codes behind the code so far
pub record Row (o : List ℕ) (pos : ℕ) (row o' : List ℕ) (end : ℕ) : Type 0 where
  pub end_is : end ≡ pos + length row
  pub code : take end o' ≡ take pos o ++ row
  pub grown : Grown o pos o' end

-- ---- a choice, and a row of codes behind its own

pub record Then (s o : List ℕ) (c : Spot) (row o' : List ℕ) (n : Spot) : Type 0 where
  pub expr : Expr
  pub reads : read_choice (left s c) ≡ got expr (left s n)
  pub code : take n.pos o' ≡ take c.pos o ++ (postfix expr ++ row)
  pub grown : Grown o c.pos o' n.pos
  pub fewer : suc (length (left s n)) ≤ length (left s c)
  pub falls : suc (length s - n.cursor.at) ≤ length s - c.cursor.at
  pub room : n.pos + 2 * (length s - n.cursor.at) ≤ c.pos + 2 * (length s - c.cursor.at) + length row

abbrev pub ThenSays : List ℕ → List ℕ → Spot → List ℕ → List ℕ → Option Spot → Type 0
ThenSays s o c row o' (Some n) = Then s o c row o' n
ThenSays s o c row o' None = read_choice (left s c) ≡ bad

pub record ReadsThen (s o : List ℕ) (c : Spot) (row o' : List ℕ) (r : Option Spot) : Type 0 where
  pub says : ThenSays s o c row o' r

-- ---- contexts

-- "`_`, a choice"
abbrev pub right_of : List ℕ → (Expr → List ℕ → Form) → Form
right_of us f = tail_at underscore_kind us λ vs. on_read (read_choice vs) λ r ws. f r ws

-- "a choice, `_`, a choice", behind the `/`
abbrev pub context_of : List ℕ → (Expr → Expr → List ℕ → Form) → Form
context_of ts f = on_read (read_choice ts) λ l us. right_of us (f l)

pub record Right (s o : List ℕ) (c : Spot) (o' : List ℕ) (n : Spot) : Type 0 where
  pub behind : Expr
  pub reads : (f : Expr → List ℕ → Form) → right_of (left s c) f ≡ f behind (left s n)
  pub code : take n.pos o' ≡ take c.pos o ++ (postfix behind ++ context_program)
  pub grown : Grown o c.pos o' n.pos
  pub fewer : suc (length (left s n)) ≤ length (left s c)
  pub marks : suc (count_of underscore_kind (left s n)) ≤ count_of underscore_kind (left s c)
  pub falls : suc (length s - n.cursor.at) ≤ length s - c.cursor.at
  pub room : n.pos + 2 * (length s - n.cursor.at) ≤ c.pos + 2 * (length s - c.cursor.at) + length context_program

abbrev pub RightSays : List ℕ → List ℕ → Spot → List ℕ → Option Spot → Type 0
RightSays s o c o' (Some n) = Right s o c o' n
RightSays s o c o' None = (f : Expr → List ℕ → Form) → right_of (left s c) f ≡ malformed

pub record ReadsRight (s o : List ℕ) (c : Spot) (o' : List ℕ) (r : Option Spot) : Type 0 where
  pub says : RightSays s o c o' r

-- a context, and a row of codes behind its sides
pub record Context (s o : List ℕ) (c : Spot) (row o' : List ℕ) (n : Spot) : Type 0 where
  pub before : Expr
  pub behind : Expr
  pub reads : (f : Expr → Expr → List ℕ → Form) → context_of (left s c) f ≡ f before behind (left s n)
  pub code : take n.pos o' ≡ take c.pos o ++ (postfix before ++ (postfix behind ++ row))
  pub grown : Grown o c.pos o' n.pos
  pub fewer : suc (length (left s n)) ≤ length (left s c)
  pub marks : suc (count_of underscore_kind (left s n)) ≤ count_of underscore_kind (left s c)
  pub falls : suc (length s - n.cursor.at) ≤ length s - c.cursor.at
  pub room : n.pos + 2 * (length s - n.cursor.at) ≤ c.pos + 2 * (length s - c.cursor.at) + length row

abbrev pub ContextSays : List ℕ → List ℕ → Spot → List ℕ → List ℕ → Option Spot → Type 0
ContextSays s o c row o' (Some n) = Context s o c row o' n
ContextSays s o c row o' None = (f : Expr → Expr → List ℕ → Form) → context_of (left s c) f ≡ malformed

pub record ReadsContext (s o : List ℕ) (c : Spot) (row o' : List ℕ) (r : Option Spot) : Type 0 where
  pub says : ContextSays s o c row o' r

-- A rule read up to c: its pattern, the contexts so far, and what is left to read of them. `next` is the program of contexts that stand further on.
pub record Ruled (kind : RuleKind) (contexts : List (Expr × Expr)) (next : List (Expr × Expr) → List ℕ) (s o : List ℕ) (c : Spot) : Type 0 where
  pub pattern : Expr
  pub fuel : ℕ
  pub enough : length (left s c) ≤ fuel
  pub form : form_of s ≡ contexts_of kind fuel pattern contexts (left s c)
  -- the code so far is that of the rule, whichever contexts come
  pub code : (more : List (Expr × Expr)) → take c.pos o ++ next more ≡ program (rule kind pattern (contexts ++ more))
  pub few : length contexts + count_of underscore_kind (left s c) ≤ 4
  pub room : c.pos + 2 * (length s - c.cursor.at) + 53 ≤ length o + 10 * length contexts

-- The same of a rule that may end here, with the operator of its further contexts: "X minus it", or "`|` of those so far with it".
pub record MayEnd (s o : List ℕ) (c : Spot) (operator : ℕ) : Type 0 where
  pub kind : RuleKind
  pub contexts : List (Expr × Expr)
  pub pairing : Pairing
  pub operator_is : operator ≡ pair_code pairing
  pub ruled : Ruled kind contexts (contexts_program pairing) s o c
  pub some : Enough kind contexts

-- All its contexts are read: the line ends there.
pub record Ended (s o : List ℕ) (c : Spot) (operator : ℕ) (o' : List ℕ) (n : Spot) : Type 0 where
  pub ruled : MayEnd s o' n operator
  pub none : left s n ≡ []
  pub grown : Grown o c.pos o' n.pos

abbrev pub ContextsSay : List ℕ → List ℕ → Spot → ℕ → List ℕ → Option Spot → Type 0
ContextsSay s o c operator o' (Some n) = Ended s o c operator o' n
ContextsSay s o c operator o' None = form_of s ≡ malformed

pub record ReadsContexts (s o : List ℕ) (c : Spot) (operator : ℕ) (o' : List ℕ) (r : Option Spot) : Type 0 where
  pub says : ContextsSay s o c operator o' r
