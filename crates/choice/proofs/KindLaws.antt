-- What each part of a choice comes to, by the kind of the next token.
use mathlib.Core.Path.{◌≡◌, refl, sym, ap, ◌∙◌}
use mathlib.Core.Bool.{true, false}
use mathlib.Core.Logic.{inl, inr}
use mathlib.Core.List.{List, [], ◌∷◌, ◌++◌}
use Prim.Native.Nat.{ℕ, zero, suc, ◌<◌, ◌≤◌}
use native.Mathlib.Omega.{arith}
use borrow.Author.Tests.{ne_eqb, le-leb}
use lib.Dec.{eqb}
use lib.ListN.{drop}
use Rattle.automata.specs.Basics.{SameCases, nat_test, same_cases}
use Rattle.automata.specs.Stages.{either, both, without}
use Rattle.language.specs.Expression.{Expr, letter, name, dot, empty, pair, join}
use Rattle.book.specs.Kind.{kind_of, item_kind, sign_byte, letter_kind, name_kind, dot_kind, at_kind, open_kind, bang_kind, ampersand_kind, minus_kind, bar_kind, close_kind}
use Rattle.book.specs.Reader.{got, bad, and_then, closed, repeated}
use Rattle.book.specs.Text.{tokens}
use Rattle.book.specs.Program.{postfix}
use Rattle.lexer.specs.Token.{At, kind_ahead}
use Rattle.lexer.proofs.TokenLaws.{token_is, token_is_not}
use Rattle.choice.specs.Reading.{a_choice, a_blend, a_chain, an_item, an_atom, more_choices, more_blends, more_chains, read}
use Rattle.choice.proofs.ReadLaws.{Stops, Turn}

-- ---- where a row of parts ends

pub choices_stop : (ts : List ℕ) (k : ℕ) → k ≡ kind_ahead ts → (k ≡ bar_kind → ⊥) → Stops more_choices ts
choices_stop [] k q h f e = refl
choices_stop (b ∷ ts) k q h f e = rw (ne_eqb (kind_of b) bar_kind (λ z. h (q ∙ z)))

pub blends_stop : (ts : List ℕ) (k : ℕ) → k ≡ kind_ahead ts → (k ≡ ampersand_kind → ⊥) → (k ≡ minus_kind → ⊥) → Stops more_blends ts
blends_stop [] k q h h' f e = refl
blends_stop (b ∷ ts) k q h h' f e = rw (ne_eqb (kind_of b) ampersand_kind (λ z. h (q ∙ z)), ne_eqb (kind_of b) minus_kind (λ z. h' (q ∙ z)))

pub chains_stop : (ts : List ℕ) (k : ℕ) → k ≡ kind_ahead ts → item_kind k ≡ false → Stops more_chains ts
chains_stop [] k q h f e = refl
chains_stop (b ∷ ts) k q h f e = let z : item_kind (kind_of b) ≡ false = ap item_kind (sym q) ∙ h in rw z

item_inside : (k : ℕ) → letter_kind ≤ k → k ≤ bang_kind → item_kind k ≡ true
item_inside k h h' = rw (le-leb letter_kind k h, le-leb k bang_kind h')

-- ---- one part more

module _ {s : List ℕ} {at k b n : ℕ} (x : At s at k b n) where
  pub choices_turn : k ≡ bar_kind → Turn more_choices a_blend (pair either) (tokens (drop at s)) (tokens (drop n s))
  choices_turn e f g = rw (x.rest_is, token_is x bar_kind e)

  pub chains_turn : letter_kind ≤ k → k ≤ bang_kind → Turn more_chains an_item join (tokens (drop at s)) (tokens (drop at s))
  chains_turn h h' f g =
      let z : item_kind (kind_of b) ≡ true = ap item_kind (sym x.kind_is) ∙ item_inside k h h' in
      rw (x.rest_is, z)

-- `&` or `-`: the operator, whose code is its own byte
pub record Blending (b : ℕ) (ts us : List ℕ) : Type 0 where
  pub op : Expr → Expr → Expr
  pub turn : Turn more_blends a_chain op ts us
  pub code : (e g : Expr) → postfix (op e g) ≡ postfix e ++ (postfix g ++ (b ∷ []))

pub blends_turn : {s : List ℕ} {at k b n : ℕ} → At s at k b n → ampersand_kind ≤ k → k ≤ minus_kind → Blending b (tokens (drop at s)) (tokens (drop n s))
blends_turn {s} {at} {k} {b} {n} x h h' = go (same_cases nat_test k ampersand_kind)
  where
    go : SameCases nat_test k ampersand_kind → Blending b (tokens (drop at s)) (tokens (drop n s))
    go (inl p) = record {
      op = pair both;
      turn = λ f e. rw (x.rest_is, token_is x ampersand_kind p.0);
      code = λ e g. rw (sign_byte b 7 (token_is x ampersand_kind p.0));
    }
    go (inr p) =
        let z : k ≡ minus_kind = omega (arith, p.0) in
        record {
          op = pair without;
          turn = λ f e. rw (x.rest_is, token_is_not x ampersand_kind p.0, token_is x minus_kind z);
          code = λ e g. rw (sign_byte b 8 (token_is x minus_kind z));
        }

-- ---- items and atoms

pub item_atom : (ts : List ℕ) → (kind_ahead ts ≡ bang_kind → ⊥) → (f : ℕ) → read (suc f) an_item ts ≡ and_then (read f an_atom ts) repeated
item_atom [] h zero = refl
item_atom [] h (suc f) = refl
item_atom (b ∷ ts) h f = rw (ne_eqb (kind_of b) bang_kind h)

-- a letter, a name, `.` or `@`, whose code is its own byte
pub record Leaf (b : ℕ) (ts us : List ℕ) : Type 0 where
  pub expr : Expr
  pub reads : (f : ℕ) → read (suc f) an_atom ts ≡ got expr us
  pub code : postfix expr ≡ b ∷ []

pub atom_leaf : {s : List ℕ} {at k b n : ℕ} → At s at k b n → letter_kind ≤ k → k < open_kind → Leaf b (tokens (drop at s)) (tokens (drop n s))
atom_leaf {s} {at} {k} {b} {n} x h h' = go (same_cases nat_test k letter_kind) (same_cases nat_test k name_kind) (same_cases nat_test k dot_kind)
  where
    go : SameCases nat_test k letter_kind → SameCases nat_test k name_kind → SameCases nat_test k dot_kind → Leaf b (tokens (drop at s)) (tokens (drop n s))
    go (inl p) q r = record { expr = letter b; reads = λ f. rw (x.rest_is, token_is x letter_kind p.0); code = refl }
    go (inr p) (inl q) r = record { expr = name b; reads = λ f. rw (x.rest_is, token_is_not x letter_kind p.0, token_is x name_kind q.0); code = refl }
    go (inr p) (inr q) (inl r) = record {
      expr = dot;
      reads = λ f. rw (x.rest_is, token_is_not x letter_kind p.0, token_is_not x name_kind q.0, token_is x dot_kind r.0);
      code = rw (sign_byte b 0 (token_is x dot_kind r.0));
    }
    go (inr p) (inr q) (inr r) =
        let z : k ≡ at_kind = omega (arith, p.0, q.0, r.0) in
        record {
          expr = empty;
          reads = λ f. rw (x.rest_is, token_is_not x letter_kind p.0, token_is_not x name_kind q.0, token_is_not x dot_kind r.0, token_is x at_kind z);
          code = rw (sign_byte b 1 (token_is x at_kind z));
        }

pub atom_bracket : {s : List ℕ} {at k b n : ℕ} → At s at k b n → k ≡ open_kind → (f : ℕ) → read (suc f) an_atom (tokens (drop at s)) ≡ and_then (read f a_choice (tokens (drop n s))) closed
atom_bracket x e f =
    rw (x.rest_is, token_is_not x letter_kind (λ z. omega arith), token_is_not x name_kind (λ z. omega arith), token_is_not x dot_kind (λ z. omega arith), token_is_not x at_kind (λ z. omega arith), token_is x open_kind e)

-- nothing else is an atom
pub atom_none : (ts : List ℕ) (k : ℕ) → k ≡ kind_ahead ts → (letter_kind ≤ k → open_kind < k) → (f : ℕ) → read (suc f) an_atom ts ≡ bad
atom_none [] k q h f = refl
atom_none (b ∷ ts) k q h f = rw (no letter_kind (omega arith) (omega arith), no name_kind (omega arith) (omega arith), no dot_kind (omega arith) (omega arith), no at_kind (omega arith) (omega arith), no open_kind (omega arith) (omega arith))
  where
    no : (i : ℕ) → letter_kind ≤ i → i ≤ open_kind → eqb (kind_of b) i ≡ false
    no i g g' = ne_eqb (kind_of b) i (λ z. omega (arith, h (omega arith)))

pub closed_not : (e : Expr) (ts : List ℕ) (k : ℕ) → k ≡ kind_ahead ts → (k ≡ close_kind → ⊥) → closed e ts ≡ bad
closed_not e [] k q h = refl
closed_not e (b ∷ ts) k q h = rw (ne_eqb (kind_of b) close_kind (λ z. h (q ∙ z)))

pub closed_to : {s : List ℕ} {at k b n : ℕ} (e : Expr) → At s at k b n → k ≡ close_kind → closed e (tokens (drop at s)) ≡ got e (tokens (drop n s))
closed_to e x q = rw (x.rest_is, token_is x close_kind q)
