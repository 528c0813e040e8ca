-- What the signs around an item come to, by the kind of the next token.
use mathlib.Core.Path.{◌≡◌, refl, ◌∙◌}
use mathlib.Core.Logic.{inl, inr}
use mathlib.Core.List.{List, [], ◌∷◌, ◌++◌}
use Prim.Native.Nat.{ℕ, suc, ◌≤◌}
use native.Mathlib.Omega.{arith}
use borrow.Author.Tests.{ne_eqb}
use lib.ListN.{drop}
use Rattle.automata.specs.Basics.{SameCases, nat_test, same_cases}
use Rattle.language.specs.Expression.{Expr, star, plus, option}
use Rattle.book.specs.Kind.{kind_of, sign_byte, bang_kind, star_kind, plus_kind, question_kind}
use Rattle.book.specs.Reader.{got, and_then, repeats, item}
use Rattle.book.specs.Text.{tokens}
use Rattle.book.specs.Program.{postfix}
use Rattle.lexer.specs.Token.{At, kind_ahead}
use Rattle.lexer.proofs.TokenLaws.{token_is, token_is_not}
use Rattle.signs.specs.Steps.{complemented}

pub repeats_stop : (ts : List ℕ) (k : ℕ) (e : Expr) → k ≡ kind_ahead ts → (k ≡ star_kind → ⊥) → (k ≡ plus_kind → ⊥) → (k ≡ question_kind → ⊥) → repeats ts e ≡ got e ts
repeats_stop [] k e q h h' h'' = refl
repeats_stop (b ∷ ts) k e q h h' h'' = rw (ne_eqb (kind_of b) star_kind (λ z. h (q ∙ z)), ne_eqb (kind_of b) plus_kind (λ z. h' (q ∙ z)), ne_eqb (kind_of b) question_kind (λ z. h'' (q ∙ z)))

-- `*`, `+` or `?`: the operator, whose code is its own byte
pub record Repeating (b : ℕ) (ts us : List ℕ) : Type 0 where
  pub op : Expr → Expr
  pub turn : (e : Expr) → repeats ts e ≡ repeats us (op e)
  pub code : (e : Expr) → postfix (op e) ≡ postfix e ++ (b ∷ [])

pub repeats_turn : {s : List ℕ} {at k b n : ℕ} → At s at k b n → star_kind ≤ k → k ≤ question_kind → Repeating b (tokens (drop at s)) (tokens (drop n s))
repeats_turn {s} {at} {k} {b} {n} x h h' = go (same_cases nat_test k star_kind) (same_cases nat_test k plus_kind)
  where
    go : SameCases nat_test k star_kind → SameCases nat_test k plus_kind → Repeating b (tokens (drop at s)) (tokens (drop n s))
    go (inl p) q = record {
      op = star;
      turn = λ e. rw (x.rest_is, token_is x star_kind p.0);
      code = λ e. rw (sign_byte b 4 (token_is x star_kind p.0));
    }
    go (inr p) (inl q) = record {
      op = plus;
      turn = λ e. rw (x.rest_is, token_is_not x star_kind p.0, token_is x plus_kind q.0);
      code = λ e. rw (sign_byte b 5 (token_is x plus_kind q.0));
    }
    go (inr p) (inr q) =
        let z : k ≡ question_kind = omega (arith, p.0, q.0) in
        record {
          op = option;
          turn = λ e. rw (x.rest_is, token_is_not x star_kind p.0, token_is_not x plus_kind q.0, token_is x question_kind z);
          code = λ e. rw (sign_byte b 6 (token_is x question_kind z));
        }

pub item_not : {s : List ℕ} {at k b n : ℕ} → At s at k b n → k ≡ bang_kind → (f : ℕ) → item (suc f) (tokens (drop at s)) ≡ and_then (item f (tokens (drop n s))) complemented
item_not x e f = rw (x.rest_is, token_is x bang_kind e)
