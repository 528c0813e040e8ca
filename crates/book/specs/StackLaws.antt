-- How many machines the code of a line holds at once. The code of a choice whose brackets nest d deep holds at most 3d + 4 machines, and one more where
-- a code has a second machine beside its own: `A*` beside A for `A+`, a given one for `?` and `!` (`choice_height`). So a line that passes test 3 holds at most 17 for one choice (`line_held`), and its whole program at most
-- 19: X and l lie below while r is made (`line_height`).
use Rattle.std.specs.Prelude.{ℕ, suc, ◌-◌, ◌≤◌, max, ◌≡◌, Bool, true, ◌&&◌, ◌||◌, List, [], ◌∷◌, eqb, leb}
use Rattle.automata.specs.Booleans.{choose}
use Rattle.language.specs.Restriction.{Enough}
use Rattle.language.specs.Evaluate.{pattern_of}
use Rattle.language.specs.Expression.{Expr, star, plus, pair, empty, join, option, complement, letter, name, dot}
use Rattle.book.specs.Kind.{kind_of, is_letter, is_name, letter_kind, at_kind, open_kind, bang_kind, plus_kind, question_kind, ampersand_kind, bar_kind, close_kind}
use Rattle.book.specs.Text.{Form, define, rule, malformed}
use Rattle.book.specs.Program.{all_code, right_code, store_pattern_code, store_right_code, meet_code, join_code}

-- ---- definitions

-- The most machines that the code of an expression holds at once, operands made left before right; `extra` is what `A+`, `A?` and `!A` hold
-- besides A while they work: 0 counts the code's own operands, 1 the machine beside it too.
abbrev pub deepest : ℕ → Expr → ℕ
deepest extra (letter b) = 1
deepest extra (name b) = 1
deepest extra dot = 1
deepest extra empty = 1
deepest extra (pair o e f) = max (deepest extra e) (suc (deepest extra f))
deepest extra (join e f) = max (deepest extra e) (suc (deepest extra f))
deepest extra (star e) = deepest extra e
deepest extra (plus e) = max (deepest extra e) (suc extra)
deepest extra (option e) = max (deepest extra e) (suc extra)
deepest extra (complement e) = max (deepest extra e) (suc extra)

-- How deep the brackets nest: the greatest count of `(` less `)` behind a `(`.
abbrev pub nesting : ℕ → ℕ → List ℕ → ℕ
nesting opens closes [] = 0
nesting opens closes (b ∷ bs) =
    choose (eqb (kind_of b) open_kind) (λ _. max (suc opens - closes) (nesting (suc opens) closes bs)) λ _.
    choose (eqb (kind_of b) close_kind) (λ _. nesting opens (suc closes) bs) λ _.
    nesting opens closes bs

-- The letters and names of an expression are letter bytes and name bytes.
abbrev pub Leaves : Expr → Type 0
Leaves (letter b) = is_letter b ≡ true
Leaves (name b) = is_name b ≡ true
Leaves dot = Unit {0}
Leaves empty = Unit {0}
Leaves (pair o e f) = Leaves e × Leaves f
Leaves (join e f) = Leaves e × Leaves f
Leaves (star e) = Leaves e
Leaves (plus e) = Leaves e
Leaves (option e) = Leaves e
Leaves (complement e) = Leaves e

-- What a code does to the height of the stack: a leaf, a given machine and a register push; `|`, `&`, `-`, joining and storing pop one; the others,
-- meeting the book among them, work in place.
abbrev pub pushes : ℕ → Bool
pushes c = (leb letter_kind (kind_of c) && leb (kind_of c) at_kind) || (leb all_code c && leb c right_code)

abbrev pub pops : ℕ → Bool
pops c = (leb ampersand_kind (kind_of c) && leb (kind_of c) bar_kind) || (eqb c join_code || (eqb c store_pattern_code || eqb c store_right_code))

abbrev pub height_after : ℕ → ℕ → ℕ
height_after c h = choose (pushes c) (λ _. suc h) λ _. choose (pops c) (λ _. h - 1) (λ _. h)

-- `A+` makes `A*` beside A; `?`, `!` and meeting the book have their other operand beside A
abbrev pub besides : ℕ → Bool
besides c = (leb plus_kind (kind_of c) && leb (kind_of c) question_kind) || (eqb (kind_of c) bang_kind || eqb c meet_code)

abbrev pub height_while : ℕ → ℕ → ℕ
height_while c h = choose (besides c) (λ _. suc h) (λ _. h)

-- the greatest height while a code runs, from the height h
abbrev pub highest : ℕ → List ℕ → ℕ
highest h [] = h
highest h (c ∷ cs) = max (height_while c h) (highest (height_after c h) cs)

-- An expression whose code holds at most n machines, `A*` beside A counted.
pub record Held (n : ℕ) (e : Expr) : Type 0 where
  pub height : deepest 1 e ≤ n
  pub leaves : Leaves e

abbrev pub AllHeld : ℕ → List (Expr × Expr) → Type 0
AllHeld n [] = Unit {0}
AllHeld n (c ∷ cs) = Held n c.0 × Held n c.1 × AllHeld n cs

abbrev pub FormHeld : ℕ → Form → Type 0
FormHeld n (define x e) = Held n e
FormHeld n (rule kind p cs) = Held n (pattern_of kind p) × AllHeld n cs × Enough kind cs
FormHeld n malformed = Unit {0}
