-- How the loops over signs go on, and what an item makes of them.
use mathlib.Core.Path.{◌≡◌, refl, sym, ap, ◌∙◌, subst}
use mathlib.Core.List.{List, [], ◌∷◌, ◌++◌, append_assoc}
use Prim.Native.Nat.{ℕ, zero, suc, ◌+◌, ◌*◌, ◌-◌, ◌≤◌}
use native.Mathlib.Numerals.{add-one}
use native.Mathlib.Omega.{arith}
use lib.ListN.{length, take, drop}
use Rattle.language.specs.Expression.{Expr, complement}
use Rattle.book.specs.Kind.{bang_kind, star_kind, question_kind}
use Rattle.book.specs.Reader.{Read, got, bad, and_then, repeats, item}
use Rattle.book.specs.Text.{tokens}
use Rattle.book.specs.Program.{complement_code, postfix}
use Rattle.lexer.specs.Token.{At, Past}
use Rattle.signs.specs.Buffer.{Grown}
use Rattle.signs.specs.BufferLaws.{grown_none, grown_more}
use Rattle.signs.specs.Spots.{left}
use Rattle.signs.specs.Steps.{Put, Suffixed, complements, complemented, negated, Item, Passed, Negated}
use Rattle.signs.specs.declared.Spot.{Spot}
use Rattle.lexer.specs.declared.Cursor.{Cursor}
use Rattle.lexer.proofs.TokenLaws.{at_fewer}
use Rattle.signs.proofs.KindLaws.{repeats_turn, item_not}

-- the tokens left depend on how far the line is read alone
pub same_left : (s : List ℕ) (c n : Spot) → n.cursor.at ≡ c.cursor.at → left s n ≡ left s c
same_left s c n q = ap (λ (i : ℕ). tokens (drop i s)) q

-- one byte more behind the code of e
put_code : {o o' : List ℕ} {c n : Spot} {b : ℕ} (before : List ℕ) (e g : Expr) → Put o c b o' n → take c.pos o ≡ before ++ postfix e → postfix g ≡ postfix e ++ (b ∷ []) → take n.pos o' ≡ before ++ postfix g
put_code {b = b} before e g w q p = w.code_is ∙ ap (λ (l : List ℕ). l ++ (b ∷ [])) q ∙ append_assoc before (postfix e) (b ∷ []) ∙ ap (λ (l : List ℕ). before ++ l) (sym p)

-- ---- the signs behind an atom

-- the code of e became that of `expr`, with some of the signs behind e
pub record Repeats (before : List ℕ) (e : Expr) (ts code us : List ℕ) : Type 0 where
  pub expr : Expr
  pub goes : repeats ts e ≡ repeats us expr
  pub code_is : code ≡ before ++ postfix expr

-- what the loop over them keeps
pub record Suffixing (s o : List ℕ) (c : Spot) (o' : List ℕ) (n : Spot) : Type 0 where
  pub goes : (before : List ℕ) (e : Expr) → take c.pos o ≡ before ++ postfix e → Repeats before e (left s c) (take n.pos o') (left s n)
  pub grown : Grown o c.pos o' n.pos
  pub fewer : length (left s n) ≤ length (left s c)
  pub falls : length s - n.cursor.at ≤ length s - c.cursor.at
  pub room : n.pos + 2 * (length s - n.cursor.at) ≤ c.pos + 2 * (length s - c.cursor.at)
  pub same_length : length o' ≡ length o

pub suffixing_start : (s o : List ℕ) (c : Spot) → Suffixing s o c o c
suffixing_start s o c = record {
  goes = λ before e q. record { expr = e; goes = refl; code_is = q };
  grown = grown_none o c.pos;
  fewer = omega arith;
  falls = omega arith;
  room = omega arith;
  same_length = refl;
}

pub suffixing_spaces : {s o o' : List ℕ} {c n : Spot} {i : Cursor} → Suffixing s o c o' n → Past s n.cursor.at i.at → Suffixing s o c o' (record { cursor = i; pos = n.pos })
suffixing_spaces g p = record {
  goes = λ before e q. let z = g.goes before e q in record { expr = z.expr; goes = z.goes ∙ ap (λ (us : List ℕ). repeats us z.expr) (sym p.same); code_is = z.code_is };
  grown = g.grown;
  fewer = omega (arith, g.fewer, ap length p.same);
  falls = omega (arith, g.falls, p.up);
  room = omega (arith, g.room, p.up);
  same_length = g.same_length;
}

pub suffixing_turn : {s o o₁ o' : List ℕ} {c n v n' : Spot} {k b : ℕ} → Suffixing s o c o₁ n → At s n.cursor.at k b v.cursor.at → star_kind ≤ k → k ≤ question_kind → Put o₁ v b o' n' → v.pos ≡ n.pos → length o' ≡ length o₁ → Suffixing s o c o' n'
suffixing_turn {s} {o} {o₁} {o'} {c} {n} {v} {n'} {k} {b} g x h h' w hv ln =
    record {
      goes = λ before e q. step before e (g.goes before e q);
      grown = grown_more g.grown (subst (λ (i : ℕ). Grown o₁ i o' n'.pos) hv w.grown);
      fewer = omega (arith, g.fewer, at_fewer x, ap length (same_left s v n' w.at_is));
      falls = omega (arith, g.falls, x.falls, w.at_is);
      room = omega (arith, g.room, x.falls, w.at_is, w.pos_is);
      same_length = ln ∙ g.same_length;
    }
  where
    step : (before : List ℕ) (e : Expr) → Repeats before e (left s c) (take n.pos o₁) (left s n) → Repeats before e (left s c) (take n'.pos o') (left s n')
    step before e z =
        let y = repeats_turn x h h' in
        record {
          expr = y.op z.expr;
          goes = z.goes ∙ y.turn z.expr ∙ ap (λ (us : List ℕ). repeats us (y.op z.expr)) (sym (same_left s v n' w.at_is));
          code_is = put_code before z.expr (y.op z.expr) w (ap (λ (i : ℕ). take i o₁) hv ∙ z.code_is) (y.code z.expr);
        }

pub suffixing_done : {s o o' : List ℕ} {c n : Spot} → Suffixing s o c o' n → ((e : Expr) → repeats (left s n) e ≡ got e (left s n)) → Suffixed s o c o' n
suffixing_done g st = record {
  goes = λ before e q. let z = g.goes before e q in record { expr = z.expr; reads = z.goes ∙ st z.expr; code_is = z.code_is };
  grown = g.grown;
  fewer = g.fewer;
  falls = g.falls;
  room = g.room;
}

-- ---- the `!` before an item

pub passed_start : (s : List ℕ) (at : ℕ) → Passed s at at 0
passed_start s at = record { goes = λ X i. i; fewer = omega arith; falls = omega arith }

pub passed_spaces : {s : List ℕ} {at n j i : ℕ} → Passed s at n j → Past s n i → Passed s at i j
passed_spaces g p = record {
  goes = λ X d. g.goes X (subst (λ (ts : List ℕ). Item ts X) p.same d);
  fewer = omega (arith, g.fewer, ap length p.same);
  falls = omega (arith, g.falls, p.up);
}

pub passed_turn : {s : List ℕ} {at n j k b n' : ℕ} → Passed s at n j → At s n k b n' → k ≡ bang_kind → Passed s at n' (j + 1)
passed_turn {s} {at} {n} {j} {k} {b} {n'} g x q =
    rw add-one (record {
      goes = λ X i. g.goes (and_then X complemented) (record { run = turn X i });
      fewer = omega (arith, g.fewer, at_fewer x);
      falls = omega (arith, g.falls, x.falls);
    })
  where
    turn : (X : Read) → Item (tokens (drop n' s)) X → (f : ℕ) → 6 * length (tokens (drop n s)) + 2 ≤ f → item f (tokens (drop n s)) ≡ and_then X complemented
    turn X i zero h = absurd (omega arith)
    turn X i (suc f) h = item_not x q f ∙ ap (λ (r : Read). and_then r complemented) (i.run f (omega (arith, at_fewer x)))

pub negated_got : (k : ℕ) (e : Expr) (us : List ℕ) → negated k (got e us) ≡ got (complements k e) us
negated_got zero e us = refl
negated_got (suc k) e us = negated_got k (complement e) us

pub negated_bad : (k : ℕ) → negated k bad ≡ bad
negated_bad zero = refl
negated_bad (suc k) = negated_bad k

-- their codes: one complement more
complement_last : (k : ℕ) (e : Expr) → complements (suc k) e ≡ complement (complements k e)
complement_last zero e = refl
complement_last (suc k) e = complement_last k (complement e)

pub negated_none : (o : List ℕ) (c : Spot) → Negated o c 0 o c
negated_none o c = record { at_is = refl; pos_is = omega arith; goes = λ before e q. q; grown = grown_none o c.pos }

pub negated_more : {o o₁ o' : List ℕ} {c n n' : Spot} {k : ℕ} → Negated o c k o₁ n → Put o₁ n complement_code o' n' → Negated o c (k + 1) o' n'
negated_more {k = k} g w = rw add-one (record {
  at_is = w.at_is ∙ g.at_is;
  pos_is = omega (arith, w.pos_is, g.pos_is);
  goes = λ before e q. put_code before (complements k e) (complements (suc k) e) w (g.goes before e q) (ap postfix (complement_last k e));
  grown = grown_more g.grown w.grown;
})
