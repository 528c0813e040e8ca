-- Laws of a rule's contexts and of their code: what was read so far, and what one step more makes of it.
use mathlib.Core.Path.{◌≡◌, refl, sym, ap, ◌∙◌}
use mathlib.Core.Bool.{Bool, true, false}
use mathlib.Core.Logic.{inl, inr}
use mathlib.Core.List.{List, [], ◌∷◌, ◌++◌, append_assoc}
use Prim.Native.Nat.{ℕ, zero, suc, ◌+◌, ◌≤◌}
use native.Mathlib.Omega.{arith}
use borrow.Author.Tests.{eq-eqb, ne_eqb}
use lib.Dec.{eqb}
use lib.ListN.{length, take, drop, length-append}
use Rattle.automata.specs.Booleans.{choose}
use Rattle.automata.specs.Basics.{nat_test, SameCases, same_cases}
use Rattle.std.specs.Prelude.{Option, None, Some}
use Rattle.language.specs.Restriction as restriction
use Rattle.language.specs.Restriction.{RuleKind, restricts, forbids, obliges, Enough}
use Rattle.language.specs.Expression.{Expr}
use Rattle.book.specs.Kind.{kind_of, space_kind, slash_kind, underscore_kind}
use Rattle.book.specs.Reader.{got, bad, read_choice}
use Rattle.book.proofs.Grammar.{reader_sound}
use Rattle.book.specs.Text.{tokens, count_of, Form, rule, malformed, form_of, contexts_of, on_read, tail_at, unless}
use Rattle.book.specs.Program.{postfix, context_program, contexts_program, program}
use Rattle.lexer.specs.Token.{At, kind_ahead}
use Rattle.signs.specs.Buffer.{Grown}
use Rattle.signs.specs.BufferLaws.{grown_more}
use Rattle.signs.specs.Spots.{left}
use Rattle.signs.specs.Steps.{Put}
use Rattle.choice.specs.Reading.{To, a_choice}
use Rattle.choice.specs.ReadingLaws.{choice_got}
use Rattle.signs.specs.declared.Spot.{Spot}
use Rattle.lexer.specs.declared.Cursor.{Cursor}
use Rattle.contexts.specs.Contexts.{Row, ReadsThen, right_of, ReadsRight, context_of, Context, ReadsContext, Ruled, MayEnd, ReadsContexts}

-- ---- a choice, and a row behind its code

pub then_bad : {s o : List ℕ} {c : Spot} {row o' : List ℕ} → read_choice (left s c) ≡ bad → ReadsThen s o c row o' None
then_bad e = record { says = e }

pub then_done : {s o : List ℕ} {c : Spot} {o₁ : List ℕ} {m : Spot} {row o' : List ℕ} {end : ℕ} → To a_choice s o c o₁ m → Row o₁ m.pos row o' end
    → ReadsThen s o c row o' (Some (record { cursor = m.cursor; pos = end }))
then_done {o = o} {c = c} {row = row} t r = record {
  says = record {
    expr = t.expr;
    reads = choice_got t;
    code = r.code ∙ ap (λ l. l ++ row) t.code ∙ append_assoc (take c.pos o) (postfix t.expr) row;
    grown = grown_more t.grown r.grown;
    fewer = t.fewer;
    falls = t.falls;
    room = omega (arith, t.room, r.end_is);
  };
}

-- ---- how many `_` are left

count_append : (k : ℕ) (a b : List ℕ) → count_of k (a ++ b) ≡ count_of k a + count_of k b
count_append k [] b = omega arith
count_append k (x ∷ a) b = go (eqb (kind_of x) k) (count_append k a b)
  where
    go : (t : Bool) → count_of k (a ++ b) ≡ count_of k a + count_of k b
        → choose t (λ _. suc (count_of k (a ++ b))) (λ _. count_of k (a ++ b)) ≡ choose t (λ _. suc (count_of k a)) (λ _. count_of k a) + count_of k b
    go true e = omega arith
    go false e = e

count_tokens : (bs : List ℕ) → count_of underscore_kind (tokens bs) ≡ count_of underscore_kind bs
count_tokens [] = refl
count_tokens (b ∷ bs) = go (same_cases nat_test (kind_of b) space_kind) (count_tokens bs)
  where
    go : SameCases nat_test (kind_of b) space_kind → count_of underscore_kind (tokens bs) ≡ count_of underscore_kind bs → count_of underscore_kind (tokens (b ∷ bs)) ≡ count_of underscore_kind (b ∷ bs)
    go (inl p) e = rw p.1 (e ∙ rw p.0)
    go (inr p) e = rw (p.1, e)

pub count_drop : (s : List ℕ) → count_of underscore_kind (tokens (drop 1 s)) ≤ count_of underscore_kind s
count_drop [] = omega arith
count_drop (b ∷ s) = go (eqb (kind_of b) underscore_kind)
  where
    go : (t : Bool) → count_of underscore_kind (tokens s) ≤ choose t (λ _. suc (count_of underscore_kind s)) (λ _. count_of underscore_kind s)
    go true = omega (arith, count_tokens s)
    go false = omega (arith, count_tokens s)

-- a choice uses up some of them
pub count_read : (ts us : List ℕ) (e : Expr) → read_choice ts ≡ got e us → count_of underscore_kind us ≤ count_of underscore_kind ts
count_read ts us e q = let (mid, z, c) = reader_sound ts us e q in omega (arith, ap (count_of underscore_kind) z, count_append underscore_kind mid us)

-- ---- contexts

-- another token, or none, where a sign is due
no_sign : (x : ℕ) (ts : List ℕ) (f : List ℕ → Form) → (kind_ahead ts ≡ x → ⊥) → tail_at x ts f ≡ malformed
no_sign x [] f h = refl
no_sign x (b ∷ ts) f h = rw (ne_eqb (kind_of b) x h)

pub right_other : {s o : List ℕ} {c : Spot} {o' : List ℕ} (k : ℕ) → k ≡ kind_ahead (left s c) → (k ≡ underscore_kind → ⊥) → ReadsRight s o c o' None
right_other {s} {o} {c} k q h = record { says = λ f. no_sign underscore_kind (left s c) _ (λ e. h (q ∙ e)) }

module _ {s : List ℕ} {at k b : ℕ} {next : Cursor} (x : At s at k b next.at) (h : k ≡ underscore_kind) where
  sign : eqb (kind_of b) underscore_kind ≡ true
  sign = eq-eqb (kind_of b) underscore_kind (sym x.kind_is ∙ h)

  past : (f : Expr → List ℕ → Form) → right_of (tokens (drop at s)) f ≡ on_read (read_choice (tokens (drop next.at s))) f
  past f = ap (λ l. right_of l f) x.rest_is ∙ rw sign

  counted : count_of underscore_kind (tokens (drop at s)) ≡ suc (count_of underscore_kind (tokens (drop next.at s)))
  counted = ap (count_of underscore_kind) x.rest_is ∙ rw sign

pub right_read : {s o : List ℕ} {c : Spot} {o' : List ℕ} {k b : ℕ} {next : Cursor} → At s c.cursor.at k b next.at → k ≡ underscore_kind → (r : Option Spot)
    → ReadsThen s o (record { cursor = next; pos = c.pos }) context_program o' r → ReadsRight s o c o' r
right_read {s} {next = next} x h (Some n) d =
    let u = d.says in
    record {
      says = record {
        behind = u.expr;
        reads = λ f. past x h f ∙ ap (λ R. on_read R f) u.reads;
        code = u.code;
        grown = u.grown;
        fewer = omega (arith, u.fewer, ap length x.rest_is);
        marks = omega (arith, count_read (tokens (drop next.at s)) (left s n) u.expr u.reads, counted x h);
        falls = omega (arith, u.falls, x.falls);
        room = omega (arith, u.room, x.falls);
      };
    }
right_read x h None d = record { says = λ f. past x h f ∙ ap (λ R. on_read R f) d.says }

pub context_none : (s o : List ℕ) (c : Spot) (row o' : List ℕ) → read_choice (left s c) ≡ bad → ReadsContext s o c row o' None
context_none s o c row o' e = record { says = λ f. ap (λ R. on_read R (λ l us. right_of us (f l))) e }

module _ {s o : List ℕ} {c : Spot} {o₁ : List ℕ} {m : Spot} (t : To a_choice s o c o₁ m) where
  went : (f : Expr → Expr → List ℕ → Form) → context_of (left s c) f ≡ right_of (left s m) (f t.expr)
  went f = ap (λ R. on_read R (λ l us. right_of us (f l))) (choice_got t)

  pub context_read : {o' : List ℕ} (r : Option Spot) → ReadsRight s o₁ m o' r → ReadsContext s o c context_program o' r
  context_read (Some n) d =
      let u = d.says in
      record {
        says = record {
          before = t.expr;
          behind = u.behind;
          reads = λ f. went f ∙ u.reads (f t.expr);
          code = u.code ∙ ap (λ l. l ++ (postfix u.behind ++ context_program)) t.code ∙ append_assoc (take c.pos o) (postfix t.expr) (postfix u.behind ++ context_program);
          grown = grown_more t.grown u.grown;
          fewer = omega (arith, t.fewer, u.fewer);
          marks = omega (arith, count_read (left s c) (left s m) t.expr (choice_got t), u.marks);
          falls = omega (arith, t.falls, u.falls);
          room = omega (arith, t.room, u.room);
        };
      }
  context_read None d = record { says = λ f. went f ∙ d.says (f t.expr) }

regroup : (a e f r z : List ℕ) → (a ++ (e ++ (f ++ r))) ++ z ≡ a ++ (e ++ (f ++ (r ++ z)))
regroup a e f r z = simp append_assoc

-- a context with one code more
pub further_none : {s o : List ℕ} {c : Spot} {row o₁ : List ℕ} (row' o' : List ℕ) → ReadsContext s o c row o₁ None → ReadsContext s o c row' o' None
further_none row' o' d = record { says = d.says }

pub further_done : {s o : List ℕ} {c : Spot} {row o₁ : List ℕ} {m : Spot} {b : ℕ} {o' : List ℕ} {n : Spot} → Context s o c row o₁ m → Put o₁ m b o' n → ReadsContext s o c (row ++ (b ∷ [])) o' (Some n)
further_done {s} {o} {c} {row} {m = m} {b = b} {n = n} d p =
    let same : left s n ≡ left s m = ap (λ i. tokens (drop i s)) p.at_is in
    record {
      says = record {
        before = d.before;
        behind = d.behind;
        reads = λ f. d.reads f ∙ ap (f d.before d.behind) (sym same);
        code = p.code_is ∙ ap (λ l. l ++ (b ∷ [])) d.code ∙ regroup (take c.pos o) (postfix d.before) (postfix d.behind) row (b ∷ []);
        grown = grown_more d.grown p.grown;
        fewer = omega (arith, d.fewer, ap length same);
        marks = omega (arith, d.marks, ap (count_of underscore_kind) same);
        falls = omega (arith, d.falls, p.at_is);
        room = omega (arith, d.room, p.at_is, p.pos_is, length-append row (b ∷ []));
      };
    }

-- ---- a rule read so far

module _ {kind : RuleKind} {contexts : List (Expr × Expr)} {next : List (Expr × Expr) → List ℕ} {s o : List ℕ} {c : Spot} (d : Ruled kind contexts next s o c) where
  after_slash : ℕ → Expr → Expr → List ℕ → Form
  after_slash fuel l r ws = contexts_of kind fuel d.pattern (contexts ++ ((l, r) ∷ [])) ws

  -- the fuel for what stands behind this token
  met_slash : {b : ℕ} {ts : List ℕ} → left s c ≡ b ∷ ts → (fuel : ℕ) → length (left s c) ≤ fuel
      → (g : ℕ) × (suc g ≡ fuel) × (contexts_of kind fuel d.pattern contexts (left s c) ≡ unless (eqb (kind_of b) slash_kind) (λ _. malformed) (λ _. context_of ts (after_slash g)))
  unfolding after_slash
  met_slash z zero h = absurd (omega (arith, ap length z))
  met_slash z (suc g) h = (g, refl, ap (contexts_of kind (suc g) d.pattern contexts) z)

  pub rule_other : {b k : ℕ} {ts : List ℕ} → left s c ≡ b ∷ ts → k ≡ kind_ahead (left s c) → (k ≡ slash_kind → ⊥) → form_of s ≡ malformed
  rule_other {b = b} z q h =
      let (g, r, e) = met_slash z d.fuel d.enough in
      d.form ∙ e ∙ rw (ne_eqb (kind_of b) slash_kind (λ w. h (q ∙ ap kind_ahead z ∙ w)))

  module _ {k b : ℕ} {after : Cursor} (x : At s c.cursor.at k b after.at) where
    pub rule_half : {row o₁ : List ℕ} → k ≡ slash_kind → ReadsContext s o (record { cursor = after; pos = c.pos }) row o₁ None → form_of s ≡ malformed
    rule_half h r =
        let (g, q, e) = met_slash x.rest_is d.fuel d.enough in
        d.form ∙ e ∙ rw (eq-eqb (kind_of b) slash_kind (sym x.kind_is ∙ h)) (r.says (after_slash g))

    -- one context more, with the row of codes that it has in the program
    pub rule_next : {row : List ℕ} {next' : List (Expr × Expr) → List ℕ} (o' : List ℕ) (m : Spot) → k ≡ slash_kind → length row ≤ 10
        → ((l r : Expr) (more : List (Expr × Expr)) → next ((l, r) ∷ more) ≡ postfix l ++ (postfix r ++ (row ++ next' more)))
        → (t : Context s o (record { cursor = after; pos = c.pos }) row o' m) → length o' ≡ length o → Ruled kind (contexts ++ ((t.before, t.behind) ∷ [])) next' s o' m
    unfolding after_slash
    rule_next {row} {next'} o' m h short grows t same =
        let (g, q, e) = met_slash x.rest_is d.fuel d.enough in
        record {
          pattern = d.pattern;
          fuel = g;
          enough = omega (arith, t.fewer, d.enough, ap length x.rest_is);
          form = d.form ∙ e ∙ rw (eq-eqb (kind_of b) slash_kind (sym x.kind_is ∙ h)) (t.reads (after_slash g));
          code = λ more.
              ap (λ l. l ++ next' more) t.code ∙ regroup (take c.pos o) (postfix t.before) (postfix t.behind) row (next' more)
              ∙ ap (λ l. take c.pos o ++ l) (sym (grows t.before t.behind more)) ∙ d.code ((t.before, t.behind) ∷ more)
              ∙ ap (λ cs. program (rule kind d.pattern cs)) (sym (append_assoc contexts ((t.before, t.behind) ∷ []) more));
          few = omega (arith, t.marks, d.few, length-append contexts ((t.before, t.behind) ∷ []), slash, ap (count_of underscore_kind) x.rest_is);
          room = omega (arith, t.room, d.room, x.falls, length-append contexts ((t.before, t.behind) ∷ []));
        }
      where
        slash : count_of underscore_kind (b ∷ tokens (drop after.at s)) ≡ count_of underscore_kind (tokens (drop after.at s))
        slash = rw (ne_eqb (kind_of b) underscore_kind (λ w. omega (arith, x.kind_is)))

some_more : {A : Type 0} (cs : List A) (c : A) → restriction.Some (cs ++ (c ∷ []))
some_more [] c = tt
some_more (x ∷ cs) c = tt

pub enough_more : {A : Type 0} (kind : RuleKind) (cs : List A) (c : A) → Enough kind (cs ++ (c ∷ []))
enough_more restricts cs c = tt
enough_more forbids cs c = some_more cs c
enough_more obliges cs c = some_more cs c

-- further contexts
module _ {s o : List ℕ} {c : Spot} {operator : ℕ} (g : MayEnd s o c operator) where
  pub may_end : {o₀ : List ℕ} {c₀ : Spot} → left s c ≡ [] → Grown o₀ c₀.pos o c.pos → ReadsContexts s o₀ c₀ operator o (Some c)
  may_end e w = record { says = record { ruled = g; none = e; grown = w } }

  pub further_other : {o₀ o' : List ℕ} {c₀ : Spot} {b k : ℕ} {ts : List ℕ} → left s c ≡ b ∷ ts → k ≡ kind_ahead (left s c) → (k ≡ slash_kind → ⊥) → ReadsContexts s o₀ c₀ operator o' None
  further_other z q h = record { says = rule_other g.ruled z q h }

  module _ {k b : ℕ} {after : Cursor} (x : At s c.cursor.at k b after.at) (h : k ≡ slash_kind) where
    pub further_half : {o₀ row o₁ o' : List ℕ} {c₀ : Spot} → ReadsContext s o (record { cursor = after; pos = c.pos }) row o₁ None → ReadsContexts s o₀ c₀ operator o' None
    further_half r = record { says = rule_half g.ruled x h r }

    pub further_next : (o' : List ℕ) (m : Spot) → Context s o (record { cursor = after; pos = c.pos }) (context_program ++ (operator ∷ [])) o' m → length o' ≡ length o → MayEnd s o' m operator
    further_next o' m t same = record {
      kind = g.kind;
      contexts = g.contexts ++ ((t.before, t.behind) ∷ []);
      pairing = g.pairing;
      operator_is = g.operator_is;
      ruled = rule_next g.ruled x o' m h (omega arith) (λ l r more. ap (λ y. postfix l ++ (postfix r ++ (context_program ++ (y ∷ contexts_program g.pairing more)))) (sym g.operator_is)) t same;
      some = enough_more g.kind g.contexts (t.before, t.behind);
    }

-- ---- what reading a context answers

module _ {s o : List ℕ} {c : Spot} {row o' : List ℕ} {r : Option Spot} (d : ReadsContext s o c row o' r) where
  pub context_to : {n : Spot} → r ≡ Some n → Context s o c row o' n
  context_to e = rw e at d.says

  pub context_not : r ≡ None → ReadsContext s o c row o' None
  context_not e = record { says = rw e at d.says }

-- a `/` is a token
