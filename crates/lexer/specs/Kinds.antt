-- The kinds of the code and their numbers, and the table of kinds. "All bytes from 0x80 up are stray, so the table keeps 128 entries."
use Rattle.std.specs.Prelude.{◌≡◌, Bool, ◌&&◌, List, ℕ, ◌<◌, leb, length, get_or}
use Rattle.std.proofs.Common.{ap, sym, ◌∙◌, inl, inr, arith}
use Rattle.std.proofs.Math.ListN.{get_or-eq_default}
use Rattle.automata.specs.Basics.{LtCases, lt_cases}
use Rattle.book.specs.Kind.{stray_kind, letter_kind, name_kind, dot_kind, at_kind, open_kind, bang_kind, star_kind, plus_kind, question_kind, ampersand_kind, minus_kind, bar_kind, close_kind, space_kind, line_end_kind, colon_kind, equals_kind, greater_kind, slash_kind, underscore_kind, less_kind, caret_kind}
use Rattle.book.specs.Kind.{kind_of, ascii_end, kind_high}
use Rattle.lexer.specs.declared.kinds.Kind.{Kind}
use Rattle.lexer.specs.declared.kinds.Kind.TheVariants.{Stray, Letter, Name, Dot, At, Open, Bang, Star, Plus, Question, Ampersand, Minus, Bar, Close, Space, LineEnd, Colon, Equals, Greater, Slash, Underscore, Less, Caret}

abbrev pub kind_number : Kind → ℕ
kind_number Stray = stray_kind
kind_number Letter = letter_kind
kind_number Name = name_kind
kind_number Dot = dot_kind
kind_number At = at_kind
kind_number Open = open_kind
kind_number Bang = bang_kind
kind_number Star = star_kind
kind_number Plus = plus_kind
kind_number Question = question_kind
kind_number Ampersand = ampersand_kind
kind_number Minus = minus_kind
kind_number Bar = bar_kind
kind_number Close = close_kind
kind_number Space = space_kind
kind_number LineEnd = line_end_kind
kind_number Colon = colon_kind
kind_number Equals = equals_kind
kind_number Greater = greater_kind
kind_number Slash = slash_kind
kind_number Underscore = underscore_kind
kind_number Less = less_kind
kind_number Caret = caret_kind

-- a letter, a name, `.` and `@` are atoms of one byte
abbrev pub leaf_kind : ℕ → Bool
leaf_kind k = leb letter_kind k && leb k at_kind

-- `*`, `+` and `?` stand behind an atom
abbrev pub suffix_kind : ℕ → Bool
suffix_kind k = leb star_kind k && leb k question_kind

-- `&` and `-` separate chains
abbrev pub operator_kind : ℕ → Bool
operator_kind k = leb ampersand_kind k && leb k minus_kind

-- The table has of every byte below 0x80 its kind.
pub record Kinds (table : List Kind) : Type 0 where
  pub entry : (b : ℕ) → b < ascii_end → kind_number (get_or table b Stray) ≡ kind_of b

-- It is all that is needed: a byte for which it has no entry is stray.
pub kind_table : {table : List Kind} → Kinds table → length table ≡ ascii_end → (b : ℕ) → kind_of b ≡ kind_number (get_or table b Stray)
kind_table {table} k n b = go (lt_cases b ascii_end)
  where
    go : LtCases b ascii_end → kind_of b ≡ kind_number (get_or table b Stray)
    go (inl p) = sym (k.entry b p.0)
    go (inr p) = kind_high b p.0 ∙ ap kind_number (sym (get_or-eq_default table Stray {n = b} (omega (arith, n, p.0))))
