-- Laws of `tokens` and of what the lexer gives.
use mathlib.Core.Path.{◌≡◌, refl, sym, ap, ◌∙◌}
use mathlib.Core.Bool.{true, false}
use mathlib.Core.List.{List, [], ◌∷◌}
use Prim.Native.Nat.{ℕ, suc, ◌+◌, ◌<◌, ◌≤◌}
use native.Mathlib.Numerals.{add-one}
use borrow.Author.Tests.{eq-eqb, ne_eqb}
use lib.Dec.{eqb}
use lib.ListN.{length, drop, drop_of_length-le, get_or}
use lib.Seq.{drop-cons}
use Rattle.book.specs.Kind.{kind_of, space_kind}
use Rattle.book.specs.Text.{tokens}
use Rattle.lexer.specs.Kinds.{kind_number}
use Rattle.lexer.specs.declared.kinds.Kind.{Kind}
use Rattle.lexer.specs.declared.kinds.Kind.TheVariants.{LineEnd}
use Rattle.lexer.specs.Token.{At, Past, Lexed, kind_ahead}
use Rattle.lexer.specs.declared.Cursor.{Cursor}
use Rattle.lexer.specs.declared.Lexeme.{Lexeme}

-- the bytes from i on are the byte at i and those past it
front : (s : List ℕ) (i : ℕ) → i < length s → drop i s ≡ get_or s i 0 ∷ drop (i + 1) s
front s i h = rw (add-one, drop-cons s i 0)

-- a space is passed
pub tokens_space : (s : List ℕ) (i : ℕ) → i < length s → get_or s i 0 ≡ 32 → tokens (drop (i + 1) s) ≡ tokens (drop i s)
tokens_space s i h e = rw (front s i h, e)

-- anything else is a token
pub tokens_other : (s : List ℕ) (i k : ℕ) → i < length s → k ≡ kind_of (get_or s i 0) → (k ≡ space_kind → ⊥) → tokens (drop i s) ≡ get_or s i 0 ∷ tokens (drop (i + 1) s)
tokens_other s i k h q e = rw (front s i h, ne_eqb (kind_of (get_or s i 0)) space_kind (λ w. e (q ∙ w)))

-- past the end there is none
pub tokens_end : (s : List ℕ) (i : ℕ) → length s ≤ i → tokens (drop i s) ≡ []
tokens_end s i h = rw (drop_of_length-le s {i = i} h)

-- where the spaces end, a token stands, or the line's end
pub past_token : {s : List ℕ} {at n : ℕ} → Past s at n → n < length s → tokens (drop at s) ≡ get_or s n 0 ∷ tokens (drop (n + 1) s)
past_token {s} {at} {n} p h = sym p.same ∙ tokens_other s n (kind_of (get_or s n 0)) h refl (p.token h)

pub past_end : {s : List ℕ} {at n : ℕ} → Past s at n → length s ≤ n → tokens (drop at s) ≡ []
past_end {s} {at} {n} p h = sym p.same ∙ tokens_end s n h

pub lexed_token : {s : List ℕ} {at b : ℕ} {k : Kind} {m n : Cursor} → Past s at m.at → At s at (kind_number k) b n.at → Lexed s at (record { kind = k; byte = b; start = m; next = n })
lexed_token p x = record { start = p; kind_is = x.kind_is ∙ sym (ap kind_ahead x.rest_is); token = λ _. x }

pub lexed_end : {s : List ℕ} {at : ℕ} {m n : Cursor} → Past s at m.at → tokens (drop at s) ≡ [] → Lexed s at (record { kind = LineEnd; byte = 10; start = m; next = n })
lexed_end p e = record { start = p; kind_is = sym (ap kind_ahead e); token = λ h. absurd (h refl) }

-- its kind is that of what stands where the spaces end
pub start_kind : {s : List ℕ} {at : ℕ} {t : Lexeme} → Lexed s at t → kind_number t.kind ≡ kind_ahead (tokens (drop t.start.at s))
start_kind d = d.kind_is ∙ ap kind_ahead (sym d.start.same)

-- a token is one of the tokens left
pub at_fewer : {s : List ℕ} {at k b n : ℕ} → At s at k b n → length (tokens (drop at s)) ≡ suc (length (tokens (drop n s)))
at_fewer x = ap length x.rest_is

-- whether its kind is i
module _ {s : List ℕ} {at k b n : ℕ} (x : At s at k b n) (i : ℕ) where
  pub token_is : k ≡ i → eqb (kind_of b) i ≡ true
  token_is e = eq-eqb (kind_of b) i (sym x.kind_is ∙ e)

  pub token_is_not : (k ≡ i → ⊥) → eqb (kind_of b) i ≡ false
  token_is_not h = ne_eqb (kind_of b) i (λ z. h (x.kind_is ∙ z))
