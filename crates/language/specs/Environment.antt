-- Names with what they stand for: machines while compiling, languages in the meaning. And 6: the letters and names that a choice may use.
use Rattle.std.specs.Prelude.{ℕ, Bool, true, ◌&&◌, List, [], ◌∷◌, map, eqb}
use Rattle.automata.specs.Booleans.{choose}
use Rattle.language.specs.Expression.{Expr, letter, name, dot, empty, pair, join, star, plus, option, complement, member}

module _ {A : Type 0} where
  -- what x stands for, and d where it stands for nothing
  abbrev pub lookup : ℕ → A → List (ℕ × A) → A
  lookup x d [] = d
  lookup x d (e ∷ es) = choose (eqb x e.0) (λ _. e.1) (λ _. lookup x d es)

  abbrev pub names_of : List (ℕ × A) → List ℕ
  names_of es = map (λ e. e.0) es

-- Not 6: "a letter not in line 1 or a name not defined above".
abbrev pub known : List ℕ → List ℕ → Expr → Bool
known letters names (letter b) = member b letters
known letters names (name b) = member b names
known letters names dot = true
known letters names empty = true
known letters names (pair o e f) = known letters names e && known letters names f
known letters names (join e f) = known letters names e && known letters names f
known letters names (star e) = known letters names e
known letters names (plus e) = known letters names e
known letters names (option e) = known letters names e
known letters names (complement e) = known letters names e

abbrev pub all_known : List ℕ → List ℕ → List (Expr × Expr) → Bool
all_known letters names [] = true
all_known letters names (c ∷ cs) = (known letters names c.0 && known letters names c.1) && all_known letters names cs
