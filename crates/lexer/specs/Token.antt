-- What the lexer's cursor gives, over the tokens of the bytes that are left.
use Rattle.std.specs.Prelude.{◌≡◌, List, [], ◌∷◌, ℕ, ◌-◌, ◌<◌, ◌≤◌, length, drop, get_or}
use Rattle.book.specs.Kind.{kind_of, space_kind, line_end_kind}
use Rattle.book.specs.Text.{tokens}
use Rattle.lexer.specs.Kinds.{kind_number}
use Rattle.lexer.specs.declared.Lexeme.{Lexeme}

-- the token k, b stands next from `at` on, and the bytes from `n` on are left
pub record At (s : List ℕ) (at k b n : ℕ) : Type 0 where
  pub rest_is : tokens (drop at s) ≡ b ∷ tokens (drop n s)
  pub kind_is : k ≡ kind_of b
  pub falls : length s - n < length s - at

-- Only spaces stand from `at` up to n, and none at n. A place past the bytes stays as it is.
pub record Past (s : List ℕ) (at n : ℕ) : Type 0 where
  pub same : tokens (drop n s) ≡ tokens (drop at s)
  pub up : at ≤ n
  pub token : n < length s → kind_of (get_or s n 0) ≡ space_kind → ⊥

-- the kind of the next token; behind the last stands the line's end
abbrev pub kind_ahead : List ℕ → ℕ
kind_ahead [] = line_end_kind
kind_ahead (b ∷ ts) = kind_of b

pub record Lexed (s : List ℕ) (at : ℕ) (t : Lexeme) : Type 0 where
  pub start : Past s at t.start.at
  pub kind_is : kind_number t.kind ≡ kind_ahead (tokens (drop at s))
  pub token : ((kind_number t.kind ≡ line_end_kind) → ⊥) → At s at (kind_number t.kind) t.byte t.next.at
