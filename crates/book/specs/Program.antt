-- The code of a line: a program for a stack of machines. An expression is written in postfix, each of its signs behind its operands; a rule is a
-- straight row of codes around its expressions, in the order of 01 and W4. A letter and a name are their own codes.
use Rattle.std.specs.Prelude.{ℕ, List, [], ◌∷◌, ◌++◌}
use Rattle.automata.specs.Stages.{Pairing, either, both, without}
use Rattle.language.specs.Restriction.{RuleKind, restricts, forbids, obliges}
use Rattle.language.specs.Evaluate.{pattern_of}
use Rattle.language.specs.Expression.{Expr, letter, name, dot, empty, pair, join, star, plus, option, complement}
use Rattle.book.specs.Text.{Form, define, rule, malformed}

-- codes that no sign has: the given `.*` and mark, two registers read and written, erase, and `&` with the book so far
abbrev pub all_code : ℕ
all_code = 1

abbrev pub mark_code : ℕ
mark_code = 2

abbrev pub pattern_code : ℕ
pattern_code = 3

abbrev pub right_code : ℕ
right_code = 4

abbrev pub store_pattern_code : ℕ
store_pattern_code = 5

abbrev pub store_right_code : ℕ
store_right_code = 6

abbrev pub erase_code : ℕ
erase_code = 7

abbrev pub meet_code : ℕ
meet_code = 8

-- the signs ! & * + - . ? @ | for themselves, and `;` for the joining of two
abbrev pub complement_code : ℕ
complement_code = 33

abbrev pub both_code : ℕ
both_code = 38

abbrev pub star_code : ℕ
star_code = 42

abbrev pub plus_code : ℕ
plus_code = 43

abbrev pub without_code : ℕ
without_code = 45

abbrev pub dot_code : ℕ
dot_code = 46

abbrev pub join_code : ℕ
join_code = 59

abbrev pub option_code : ℕ
option_code = 63

abbrev pub empty_code : ℕ
empty_code = 64

abbrev pub either_code : ℕ
either_code = 124

abbrev pub pair_code : Pairing → ℕ
pair_code either = either_code
pair_code both = both_code
pair_code without = without_code

abbrev pub postfix : Expr → List ℕ
postfix (letter b) = b ∷ []
postfix (name b) = b ∷ []
postfix dot = dot_code ∷ []
postfix empty = empty_code ∷ []
postfix (pair o e f) = postfix e ++ (postfix f ++ (pair_code o ∷ []))
postfix (join e f) = postfix e ++ (postfix f ++ (join_code ∷ []))
postfix (star e) = postfix e ++ (star_code ∷ [])
postfix (plus e) = postfix e ++ (plus_code ∷ [])
postfix (option e) = postfix e ++ (option_code ∷ [])
postfix (complement e) = postfix e ++ (complement_code ∷ [])

-- "X = `.*` M p M `.*`, joined left to right", with p in its register
abbrev pub pattern_program : List ℕ
pattern_program = all_code ∷ mark_code ∷ join_code ∷ pattern_code ∷ join_code ∷ mark_code ∷ join_code ∷ all_code ∷ join_code ∷ []

-- "then l M p M r joined left to right", with l, r on the stack
abbrev pub context_program : List ℕ
context_program = store_right_code ∷ mark_code ∷ join_code ∷ pattern_code ∷ join_code ∷ mark_code ∷ join_code ∷ right_code ∷ join_code ∷ []

-- "then E = erase X; then `.*-E`", which is `!E`; "met by `&` with each rule"
abbrev pub finish_program : List ℕ
finish_program = erase_code ∷ complement_code ∷ meet_code ∷ []

-- "then X becomes X minus it", or "`|` of those so far with it", with X on the stack
abbrev pub contexts_program : Pairing → List (Expr × Expr) → List ℕ
contexts_program o [] = finish_program
contexts_program o (c ∷ cs) = postfix c.0 ++ (postfix c.1 ++ (context_program ++ (pair_code o ∷ contexts_program o cs)))

-- "from the second on": the first context of `<` and `^` is united with no other. (One there is: `contexts_enough`.)
abbrev pub union_program : List (Expr × Expr) → List ℕ
union_program [] = finish_program
union_program (c ∷ cs) = postfix c.0 ++ (postfix c.1 ++ (context_program ++ contexts_program either cs))

abbrev pub set_program : RuleKind → List (Expr × Expr) → List ℕ
set_program restricts cs = pattern_program ++ contexts_program without cs
set_program forbids cs = union_program cs
set_program obliges cs = union_program cs

-- the code of a line
abbrev pub program : Form → List ℕ
program (define x e) = postfix e
program (rule kind p cs) = postfix (pattern_of kind p) ++ (store_pattern_code ∷ set_program kind cs)
program malformed = []
