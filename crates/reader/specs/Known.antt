-- The letters and names of a program, which are those of the line's choices.
use Rattle.std.specs.Prelude.{◌≡◌, Bool, true, ◌&&◌, List, [], ◌∷◌, ℕ}
use Rattle.automata.specs.Booleans.{choose}
use Rattle.language.specs.Expression.{member}
use Rattle.book.specs.Kind.{is_letter, is_name}
use Rattle.reader.specs.declared.names.Names.{Names}
use Rattle.reader.specs.Names.{Holds}

abbrev pub symbol_known : List ℕ → List ℕ → ℕ → Bool
symbol_known letters names c =
    choose (is_letter c) (λ _. member c letters) λ _.
    choose (is_name c) (λ _. member c names) λ _.
    true

abbrev pub code_known : List ℕ → List ℕ → List ℕ → Bool
code_known letters names [] = true
code_known letters names (c ∷ cs) = symbol_known letters names c && code_known letters names cs

pub record KnowsSymbol (b : ℕ) (letters : List ℕ) (f : Names) (r : Bool) : Type 0 where
  pub says : (names : List ℕ) → Holds f names → r ≡ symbol_known letters names b

pub record Knows (code letters : List ℕ) (f : Names) (r : Bool) : Type 0 where
  pub says : (names : List ℕ) → Holds f names → r ≡ code_known letters names code
