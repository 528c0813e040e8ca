-- Laws of reading with any fuel that is enough: one step of the definitions' reader for one step of the code.
use mathlib.Core.Path.{◌≡◌, refl, sym, ap, ◌∙◌, subst}
use mathlib.Core.List.{List, [], ◌∷◌, ◌++◌, append_assoc}
use Prim.Native.Nat.{ℕ, zero, suc, ◌+◌, ◌*◌, ◌-◌, ◌<◌, ◌≤◌}
use native.Mathlib.Omega.{arith}
use lib.ListN.{length, take}
use Rattle.language.specs.Expression.{Expr}
use Rattle.book.specs.Reader.{Read, got, bad, and_then}
use Rattle.book.specs.Program.{postfix}
use Rattle.signs.specs.Buffer.{Grown}
use Rattle.signs.specs.BufferLaws.{grown_none, grown_before, grown_more}
use Rattle.signs.specs.Spots.{left}
use Rattle.choice.specs.Reading.{Part, a_choice, a_blend, a_chain, an_item, an_atom, more_choices, more_blends, more_chains, read, rank, Is, To, Not, Reads}
use Rattle.signs.specs.Steps.{Put, PutIf}
use Rattle.signs.specs.declared.Spot.{Spot}
use Rattle.std.specs.Prelude.{Option, None, Some}

rank_positive : (p : Part) → 0 < rank p
rank_positive a_choice = omega arith
rank_positive a_blend = omega arith
rank_positive a_chain = omega arith
rank_positive an_item = omega arith
rank_positive an_atom = omega arith
rank_positive (more_choices e) = omega arith
rank_positive (more_blends e) = omega arith
rank_positive (more_chains e) = omega arith

-- reading p comes to an answer at once
pub stop : {p : Part} {ts : List ℕ} {X : Read} → ((f : ℕ) → read (suc f) p ts ≡ X) → Is p ts X
stop {p} {ts} {X} u = record { run = go }
  where
    go : (f : ℕ) → 6 * length ts + rank p ≤ f → read f p ts ≡ X
    go zero h = absurd (omega (arith, rank_positive p))
    go (suc f) h = u f

-- reading p is reading q, and then k
pub seq : {p q : Part} {ts us : List ℕ} {X Y : Read} (k : ℕ → Expr → List ℕ → Read) → Is q us X → ((f : ℕ) → read (suc f) p ts ≡ and_then (read f q us) (k f))
    → 6 * length us + rank q < 6 * length ts + rank p → ((f : ℕ) → 6 * length ts + rank p ≤ suc f → and_then X (k f) ≡ Y) → Is p ts Y
seq {p} {q} {ts} {us} {X} {Y} k i u h j = record { run = go }
  where
    go : (f : ℕ) → 6 * length ts + rank p ≤ f → read f p ts ≡ Y
    go zero g = absurd (omega arith)
    go (suc f) g = u f ∙ ap (λ (r : Read). and_then r (k f)) (i.run f (omega arith)) ∙ j f g

-- ---- a row of parts: l is p, and then any number of p, each joined to what was read before it

pub record Row (l p : Part) (m : Expr → Part) (r : ℕ) : Type 0 where
  pub first : (f : ℕ) (ts : List ℕ) → read (suc f) l ts ≡ and_then (read f p ts) (λ e us. read f (m e) us)
  pub rank_is : (e : Expr) → rank (m e) ≡ r
  pub part_less : rank p < rank l
  pub more_less : r ≤ rank l

pub choice_row : Row a_choice a_blend more_choices 5
choice_row = record { first = λ f ts. refl; rank_is = λ e. refl; part_less = omega arith; more_less = omega arith }

pub blend_row : Row a_blend a_chain more_blends 4
blend_row = record { first = λ f ts. refl; rank_is = λ e. refl; part_less = omega arith; more_less = omega arith }

pub chain_row : Row a_chain an_item more_chains 3
chain_row = record { first = λ f ts. refl; rank_is = λ e. refl; part_less = omega arith; more_less = omega arith }

abbrev pub Stops : (Expr → Part) → List ℕ → Type 0
Stops m ts = (f : ℕ) (e : Expr) → read (suc f) (m e) ts ≡ got e ts

-- one part more, which starts at us, joined by op
abbrev pub Turn : (Expr → Part) → Part → (Expr → Expr → Expr) → List ℕ → List ℕ → Type 0
Turn m p op ts us = (f : ℕ) (e : Expr) → read (suc f) (m e) ts ≡ and_then (read f p us) (λ g vs. read f (m (op e g)) vs)

-- From e, read up to ts with its code behind `before`, the reading goes on to another expression.
pub record Further (m : Expr → Part) (before : List ℕ) (e : Expr) (ts code us : List ℕ) : Type 0 where
  pub expr : Expr
  pub code_is : code ≡ before ++ postfix expr
  pub goes : (X : Read) → Is (m expr) us X → Is (m e) ts X

-- what a loop over such a row keeps
pub record Goes (m : Expr → Part) (s o : List ℕ) (c : Spot) (o' : List ℕ) (n : Spot) : Type 0 where
  pub goes : (before : List ℕ) (e : Expr) → take c.pos o ≡ before ++ postfix e → Further m before e (left s c) (take n.pos o') (left s n)
  pub grown : Grown o c.pos o' n.pos
  pub fewer : length (left s n) ≤ length (left s c)
  pub falls : length s - n.cursor.at ≤ length s - c.cursor.at
  pub room : n.pos + 2 * (length s - n.cursor.at) ≤ c.pos + 2 * (length s - c.cursor.at)
  pub same_length : length o' ≡ length o

goes_start : (m : Expr → Part) (s o : List ℕ) (c : Spot) → Goes m s o c o c
goes_start m s o c = record {
  goes = λ before e q. record { expr = e; code_is = q; goes = λ X i. i };
  grown = grown_none o c.pos;
  fewer = omega arith;
  falls = omega arith;
  room = omega arith;
  same_length = refl;
}

-- one part more was read and its operator b was written
goes_turn : {l p : Part} {m : Expr → Part} {r : ℕ} {s o o₁ o' o'' : List ℕ} {c n x n' : Spot} {v : Spot} {b : ℕ} (w : Row l p m r) (op : Expr → Expr → Expr)
    → Goes m s o c o₁ n → To p s o₁ v o' x → Put o' x b o'' n' → Turn m p op (left s n) (left s v)
    → v.pos ≡ n.pos → 6 * length (left s v) + rank p < 6 * length (left s n) + r → length (left s v) ≤ length (left s n) → length s - v.cursor.at ≤ length s - n.cursor.at
    → ((e g : Expr) → postfix (op e g) ≡ postfix e ++ (postfix g ++ (b ∷ []))) → length o'' ≡ length o₁ → Goes m s o c o'' n'
goes_turn {l} {p} {m} {r} {s} {o} {o₁} {o'} {o''} {c} {n} {x} {n'} {v} {b} w op g y u tu hv h fw fl pf ln =
    let there : left s n' ≡ left s x = ap (λ (i : ℕ). left s (record { cursor = record { at = i }; pos = 0 })) u.at_is in
    record {
      goes = λ before e q₀. step y there before e (g.goes before e q₀);
      grown = grown_more g.grown (grown_more (subst (λ (i : ℕ). Grown o₁ i o' x.pos) hv y.grown) u.grown);
      fewer = omega (arith, g.fewer, y.fewer, ap length there);
      falls = omega (arith, g.falls, y.falls, u.at_is);
      room = omega (arith, g.room, y.room, u.at_is, u.pos_is);
      same_length = ln ∙ g.same_length;
    }
  where
    code : (y : To p s o₁ v o' x) (before : List ℕ) (e : Expr) → take n.pos o₁ ≡ before ++ postfix e → take n'.pos o'' ≡ before ++ postfix (op e y.expr)
    code y before e q₀ =
        u.code_is
        ∙ ap (λ (l : List ℕ). l ++ (b ∷ [])) (y.code ∙ ap (λ (i : ℕ). take i o₁ ++ postfix y.expr) hv ∙ ap (λ (l : List ℕ). l ++ postfix y.expr) q₀)
        ∙ simp append_assoc (ap (λ (l : List ℕ). before ++ l) (sym (pf e y.expr)))

    step : (y : To p s o₁ v o' x) → left s n' ≡ left s x → (before : List ℕ) (e : Expr) → Further m before e (left s c) (take n.pos o₁) (left s n) → Further m before e (left s c) (take n'.pos o'') (left s n')
    step y there before e z = record {
      expr = op z.expr y.expr;
      code_is = code y before z.expr z.code_is;
      goes = λ X i. z.goes X (seq (λ f e us. read f (m (op z.expr e)) us) y.reads (λ f. tu f z.expr) (omega (arith, w.rank_is z.expr))
          (λ f k. ap (λ (us : List ℕ). read f (m (op z.expr y.expr)) us) (sym there) ∙ i.run f (omega (arith, w.rank_is z.expr, w.rank_is (op z.expr y.expr), y.fewer, ap length there))));
    }

-- Behind a part: the first part of the row was read, and from its end the row went on to n.
pub record Behind (p : Part) (m : Expr → Part) (s o : List ℕ) (c : Spot) (o' : List ℕ) (n : Spot) : Type 0 where
  pub code : List ℕ
  pub end : Spot
  pub first : To p s o c code end
  pub goes : Goes m s code end o' n
  pub same_length : length o' ≡ length o

-- Before a part, which starts at v: what comes of it. The code is that of the operator before it, if another part stands there.
pub record Ahead (l p : Part) (m : Expr → Part) (code : Option ℕ) (s o : List ℕ) (c : Spot) (o' : List ℕ) (v : Spot) : Type 0 where
  pub refused : (o'' : List ℕ) → Not p s o' v o'' → Reads l s o c o'' None
  pub reads : (o₁ o₂ : List ℕ) (x n : Spot) → To p s o' v o₁ x → PutIf code o₁ x o₂ n → length o₁ ≡ length o' → length o₂ ≡ length o₁ → Behind p m s o c o₂ n
  pub falls : length s - v.cursor.at ≤ length s - c.cursor.at
  pub room : v.pos + 2 * (length s - v.cursor.at) ≤ c.pos + 2 * (length s - c.cursor.at)
  pub same_length : length o' ≡ length o

module _ {l p : Part} {m : Expr → Part} {r : ℕ} (w : Row l p m r) where
  -- no part was read yet
  pub ahead_start : {s o : List ℕ} {c : Spot} → Ahead l p m None s o c o c
  ahead_start {s} {o} {c} = record {
    refused = λ o'' y. record { says = record { reads = seq (λ f e us. read f (m e) us) y.reads (λ f. w.first f _) (omega (arith, w.part_less)) (λ f g. refl); before = y.before } };
    reads = λ o₁ o₂ x n t u h h'. record { code = o₁; end = x; first = t; goes = rw ((u.same refl).0, (u.same refl).1) (goes_start m s o₁ x); same_length = h' ∙ h };
    falls = omega arith;
    room = omega arith;
    same_length = refl;
  }

  -- the row ends
  pub row_done : {s o o' : List ℕ} {c n : Spot} → Behind p m s o c o' n → Stops m (left s n) → Reads l s o c o' (Some n)
  row_done {s} {o} {o'} {c} {n} d st =
      let y = d.first in
      let g = d.goes in
      let z = g.goes (take c.pos o) y.expr y.code in
      record {
        says = record {
          expr = z.expr;
          reads = seq (λ f e us. read f (m e) us) y.reads (λ f. w.first f _) (omega (arith, w.part_less))
              (λ f h. (z.goes (got z.expr (left s n)) (stop (λ k. st k z.expr))).run f (omega (arith, w.rank_is y.expr, y.fewer, w.more_less)));
          code = z.code_is;
          grown = grown_more y.grown g.grown;
          fewer = omega (arith, g.fewer, y.fewer);
          falls = omega (arith, g.falls, y.falls);
          room = omega (arith, g.room, y.room);
        };
      }

  -- a later part is refused
  row_not : {s o o' o'' : List ℕ} {c n v : Spot} (op : Expr → Expr → Expr) → Behind p m s o c o' n → Not p s o' v o'' → Turn m p op (left s n) (left s v)
      → v.pos ≡ n.pos → 6 * length (left s v) + rank p < 6 * length (left s n) + r → Reads l s o c o'' None
  row_not {s} {o} {o'} {o''} {c} {n} op d y' tu hv h =
      let y = d.first in
      let g = d.goes in
      let z = g.goes (take c.pos o) y.expr y.code in
      record {
        says = record {
          reads = seq (λ f e us. read f (m e) us) y.reads (λ f. w.first f _) (omega (arith, w.part_less))
              (λ f h'. (z.goes bad (seq (λ f e us. read f (m (op z.expr e)) us) y'.reads (λ f. tu f z.expr) (omega (arith, w.rank_is z.expr)) (λ f g. refl))).run f (omega (arith, w.rank_is y.expr, y.fewer, w.more_less)));
          before = grown_before o'' (grown_more y.grown g.grown) (subst (λ (i : ℕ). take i o'' ≡ take i o') hv y'.before);
        };
      }

  -- one part more starts at v, joined by op, whose code is b
  pub ahead_more : {b : ℕ} {s o o' : List ℕ} {c n v : Spot} (op : Expr → Expr → Expr) → Behind p m s o c o' n → Turn m p op (left s n) (left s v)
      → v.pos ≡ n.pos → 6 * length (left s v) + rank p < 6 * length (left s n) + r → length (left s v) ≤ length (left s n) → length s - v.cursor.at ≤ length s - n.cursor.at
      → ((e g : Expr) → postfix (op e g) ≡ postfix e ++ (postfix g ++ (b ∷ []))) → Ahead l p m (Some b) s o c o' v
  ahead_more {b} {s} {o} {o'} {c} {n} {v} op d tu hv h fw fl pf = record {
    refused = λ o'' y. row_not op d y tu hv h;
    reads = λ o₁ o₂ x k t u q q'. record {
      code = d.code;
      end = d.end;
      first = d.first;
      goes = goes_turn w op d.goes t (u.put refl) tu hv h fw fl pf (q' ∙ q);
      same_length = q' ∙ q ∙ d.same_length;
    };
    falls = omega (arith, fl, d.goes.falls, d.first.falls);
    room = omega (arith, hv, fl, d.goes.room, d.first.room);
    same_length = d.same_length;
  }
