-- Laws of a line's form and of its program: what was read so far, and what one step more makes of it.
use mathlib.Core.Path.{◌≡◌, refl, sym, ap, ◌∙◌}
use mathlib.Core.Bool.{true, false≢true}
use mathlib.Core.List.{List, [], ◌∷◌, ◌++◌, append_assoc, append-nil}
use Prim.Native.Nat.{ℕ, zero, suc, ◌<◌, ◌≤◌}
use native.Mathlib.Omega.{arith}
use borrow.Author.Tests.{eq-eqb, ne_eqb}
use lib.ListN.{length, drop, get_or}
use Rattle.automata.specs.Booleans.{choose}
use Rattle.automata.specs.Stages.{either, without}
use Rattle.language.specs.Restriction.{RuleKind, restricts, forbids, obliges}
use Rattle.language.specs.Expression.{Expr}
use Rattle.book.specs.Kind.{kind_of, is_name, name_kind, equals_kind, greater_kind, less_kind, caret_kind, slash_kind, underscore_kind}
use Rattle.book.specs.Reader.{bad, read_choice}
use Rattle.book.specs.Text.{tokens, count_of, rule, malformed, form_of, define_of, define_as, rule_of, needs_context, contexts_of, on_read}
use Rattle.book.specs.LineGrammar.{rule_sign}
use Rattle.book.proofs.LineGrammar.{contexts_end}
use Rattle.book.specs.Program.{store_pattern_code, complement_code, without_code, either_code, postfix, pattern_program, context_program, finish_program, contexts_program, union_program, program}
use Rattle.lexer.specs.Token.{At, kind_ahead}
use Rattle.signs.specs.Buffer.{Grown}
use Rattle.signs.specs.BufferLaws.{grown_more}
use Rattle.signs.specs.Spots.{left}
use Rattle.choice.specs.Reading.{To, a_choice}
use Rattle.choice.specs.ReadingLaws.{choice_got}
use Rattle.signs.specs.declared.Spot.{Spot}
use Rattle.lexer.specs.declared.Cursor.{Cursor}
use Rattle.std.specs.Prelude.{Option, None, Some}
use Rattle.contexts.specs.Contexts.{Row, Then, ReadsThen, Context, Ruled, MayEnd, Ended, ReadsContexts}
use Rattle.contexts.proofs.ContextLaws.{count_drop, count_read, rule_other, rule_next, enough_more}
use Rattle.forms.specs.Forms.{Room, ReadsForm, ReadsRest, store_program, Sister}
use Rattle.forms.specs.declared.Code.TheVariants.{Define, Rule}

-- ---- rules

form_rule : (kind : RuleKind) (s : List ℕ) → kind_of (get_or s 0 0) ≡ kind_of (rule_sign kind) → form_of s ≡ rule_of kind (tokens (drop 1 s))
unfolding form_of
form_rule restricts [] e = absurd (omega arith)
form_rule restricts (b ∷ s) e = rw e
form_rule forbids [] e = absurd (omega arith)
form_rule forbids (b ∷ s) e = rw e
form_rule obliges [] e = absurd (omega arith)
form_rule obliges (b ∷ s) e = rw e

pub rule_none : {o o' : List ℕ} (kind : RuleKind) (s : List ℕ) → kind_of (get_or s 0 0) ≡ kind_of (rule_sign kind) → read_choice (tokens (drop 1 s)) ≡ bad → ReadsForm s o o' None
rule_none kind s k e = record { says = form_rule kind s k ∙ ap (λ R. on_read R (λ p us. contexts_of kind (length us) p [] us)) e }

-- what stands behind the pattern, up to the program of the contexts
abbrev pub Behind : RuleKind → List ℕ → (List (Expr × Expr) → List ℕ) → Type 0
Behind kind row next = (e : Expr) (cs : List (Expr × Expr)) → (postfix e ++ row) ++ next cs ≡ program (rule kind e cs)

pub restricting : Behind restricts (store_pattern_code ∷ pattern_program) (contexts_program without)
restricting e cs = append_assoc (postfix e) (store_pattern_code ∷ pattern_program) (contexts_program without cs)

storing : (kind : RuleKind) → needs_context kind ≡ true → Behind kind (store_program kind) union_program
storing restricts h e cs = absurd (false≢true h)
storing forbids h e cs = append_assoc (postfix e) (store_pattern_code ∷ []) (union_program cs)
storing obliges h e cs = append_assoc (postfix e) (complement_code ∷ store_pattern_code ∷ []) (union_program cs) ∙ sym (append_assoc (postfix e) (complement_code ∷ []) (store_pattern_code ∷ union_program cs))

pub rule_start : (kind : RuleKind) (next : List (Expr × Expr) → List ℕ) (s o row o₁ : List ℕ) (p : Spot) → kind_of (get_or s 0 0) ≡ kind_of (rule_sign kind) → count_of underscore_kind s ≤ 4 → Room s o
    → length o₁ ≡ length o → length row ≤ 10 → Behind kind row next → Then s o (record { cursor = record { at = 1 }; pos = 0 }) row o₁ p → Ruled kind [] next s o₁ p
rule_start kind next s o row o₁ p k few room same short b t = record {
  pattern = t.expr;
  fuel = length (left s p);
  enough = omega arith;
  form = form_rule kind s k ∙ ap (λ R. on_read R (λ p us. contexts_of kind (length us) p [] us)) t.reads;
  code = λ cs. ap (λ l. l ++ next cs) t.code ∙ b t.expr cs;
  few = omega (arith, count_drop s, count_read (tokens (drop 1 s)) (left s p) t.expr t.reads);
  room = omega (arith, t.room);
}

pub rule_end : {s o : List ℕ} {c n : Spot} {operator : ℕ} (o' : List ℕ) (end : ℕ) {o₁ : List ℕ} → Ended s o c operator o₁ n → Row o₁ n.pos finish_program o' end → end ≤ length o'
    → ReadsRest s o c o' (Some end)
rule_end {s} o' end e r h =
    let g = e.ruled in
    let d = g.ruled in
    record {
      says = record {
        kind = g.kind;
        pattern = d.pattern;
        contexts = g.contexts;
        form = d.form ∙ ap (contexts_of g.kind d.fuel d.pattern g.contexts) e.none ∙ contexts_end g.kind d.fuel d.pattern g.contexts g.some;
        code = r.code ∙ d.code [] ∙ ap (λ cs. program (rule g.kind d.pattern cs)) (append-nil g.contexts);
        grown = grown_more e.grown r.grown;
        fits = h;
      };
    }

pub rule_not : {s o : List ℕ} {c : Spot} {o' : List ℕ} → form_of s ≡ malformed → ReadsRest s o c o' None
rule_not e = record { says = e }

pub form_not : {s o o' : List ℕ} → form_of s ≡ malformed → ReadsForm s o o' None
form_not e = record { says = e }

-- a rule from its beginning on
pub from_rest : {s o₀ o : List ℕ} {c : Spot} {o' : List ℕ} {len : ℕ} → Grown o₀ 0 o c.pos → ReadsRest s o c o' (Some len) → ReadsForm s o₀ o' (Some (Rule len))
from_rest g d =
    let u = d.says in
    record { says = record { kind = u.kind; pattern = u.pattern; contexts = u.contexts; form = u.form; code = u.code; grown = grown_more g u.grown; fits = u.fits } }

-- a rule that may end here
pub none_needed : {s o : List ℕ} {c : Spot} → Ruled restricts [] (contexts_program without) s o c → MayEnd s o c without_code
none_needed d = record { kind = restricts; contexts = []; pairing = without; operator_is = refl; ruled = d; some = tt }

-- a rule that needs a context, its pattern read
pub sister_short : {s row : List ℕ} → Sister s row → length row ≤ 2
sister_short i = omega (arith, ap length i.row_is, short i.kind)
  where
    short : (kind : RuleKind) → length (store_program kind) ≤ 2
    short restricts = omega arith
    short forbids = omega arith
    short obliges = omega arith

pub sister_start : {s row : List ℕ} (o o₁ : List ℕ) (p : Spot) (i : Sister s row) → count_of underscore_kind s ≤ 4 → Room s o → length o₁ ≡ length o
    → Then s o (record { cursor = record { at = 1 }; pos = 0 }) row o₁ p → Ruled i.kind [] union_program s o₁ p
sister_start {s} {row} o o₁ p i few room same t =
    rule_start i.kind union_program s o row o₁ p i.sign few room same (omega (arith, sister_short i))
    (λ e cs. ap (λ r. (postfix e ++ r) ++ union_program cs) i.row_is ∙ storing i.kind i.needs e cs) t

-- its first context
module _ {s row : List ℕ} (i : Sister s row) {o : List ℕ} {c : Spot} (d : Ruled i.kind [] union_program s o c) where
  pub first_other : {k : ℕ} → k ≡ kind_ahead (left s c) → (k ≡ slash_kind → ⊥) → form_of s ≡ malformed
  first_other q h = go (left s c) refl
    where
      none : (kind : RuleKind) → needs_context kind ≡ true → (fuel : ℕ) (p : Expr) → contexts_of kind fuel p [] [] ≡ malformed
      none restricts e fuel p = absurd (false≢true e)
      none forbids e zero p = refl
      none forbids e (suc n) p = refl
      none obliges e zero p = refl
      none obliges e (suc n) p = refl

      go : (ts : List ℕ) → left s c ≡ ts → form_of s ≡ malformed
      go [] z = d.form ∙ ap (contexts_of i.kind d.fuel d.pattern []) z ∙ none i.kind i.needs d.fuel d.pattern
      go (b ∷ ts) z = rule_other d z q h

  module _ {k b : ℕ} {next : Cursor} (x : At s c.cursor.at k b next.at) (h : k ≡ slash_kind) where
    pub first_next : (o' : List ℕ) (m : Spot) → Context s o (record { cursor = next; pos = c.pos }) context_program o' m → length o' ≡ length o → MayEnd s o' m either_code
    first_next o' m t same = record {
      kind = i.kind;
      contexts = (t.before, t.behind) ∷ [];
      pairing = either;
      operator_is = refl;
      ruled = rule_next d x o' m h (omega arith) (λ l r more. refl) t same;
      some = enough_more i.kind [] (t.before, t.behind);
    }

-- ---- definitions

form_define : (s : List ℕ) → kind_of (get_or s 0 0) ≡ equals_kind → form_of s ≡ define_of (tokens (drop 1 s))
unfolding form_of
form_define [] e = absurd (omega arith)
form_define (b ∷ s) e = rw e

-- another token than a name, or none
no_name : (ts : List ℕ) → (kind_ahead ts ≡ name_kind → ⊥) → define_of ts ≡ malformed
no_name [] h = refl
no_name (b ∷ ts) h = rw (ne_eqb (kind_of b) name_kind h)

module _ (s : List ℕ) (is : kind_of (get_or s 0 0) ≡ equals_kind) where
  pub define_other : {o o' : List ℕ} {k : ℕ} → k ≡ kind_ahead (tokens (drop 1 s)) → (k ≡ name_kind → ⊥) → ReadsForm s o o' None
  define_other q h = record { says = form_define s is ∙ no_name (tokens (drop 1 s)) (λ e. h (q ∙ e)) }

  module _ {k x : ℕ} {next : Cursor} (a : At s 1 k x next.at) where
    named : k ≡ name_kind → is_name x ≡ true
    named h = eq-eqb (kind_of x) name_kind (sym a.kind_is ∙ h)

    define_body : k ≡ name_kind → form_of s ≡ on_read (read_choice (tokens (drop next.at s))) (define_as x)
    define_body h = form_define s is ∙ ap define_of a.rest_is ∙ ap (λ t. choose t (λ _. on_read (read_choice (tokens (drop next.at s))) (define_as x)) (λ _. malformed)) (named h)

    pub define_bad : {o o' : List ℕ} → k ≡ name_kind → read_choice (tokens (drop next.at s)) ≡ bad → ReadsForm s o o' None
    define_bad h e = record { says = define_body h ∙ ap (λ R. on_read R (define_as x)) e }

    module _ {o o' : List ℕ} {m : Spot} (h : k ≡ name_kind) (t : To a_choice s o (record { cursor = next; pos = 0 }) o' m) where
      read : form_of s ≡ define_as x t.expr (left s m)
      read = define_body h ∙ ap (λ R. on_read R (define_as x)) (choice_got t)

      pub define_more : {b : ℕ} {ts : List ℕ} → left s m ≡ b ∷ ts → ReadsForm s o o' None
      define_more e = record { says = read ∙ ap (define_as x t.expr) e }

      pub define_whole : left s m ≡ [] → m.pos ≤ length o' → ReadsForm s o o' (Some (Define x m.pos))
      define_whole e f = record { says = record { body = t.expr; named = named h; form = read ∙ ap (define_as x t.expr) e; code = t.code; grown = t.grown; fits = f } }

-- ---- lines of neither form

pub form_empty : {o o' : List ℕ} (s : List ℕ) → length s < 1 → ReadsForm s o o' None
unfolding form_of
form_empty [] h = record { says = refl }
form_empty (b ∷ s) h = absurd (omega arith)

pub form_neither : {o o' : List ℕ} (s : List ℕ) (k : ℕ) → k ≡ kind_of (get_or s 0 0) → (k ≡ equals_kind → ⊥) → (k ≡ greater_kind → ⊥) → (k ≡ less_kind → ⊥) → (k ≡ caret_kind → ⊥) → ReadsForm s o o' None
unfolding form_of
form_neither [] k q m n l h = record { says = refl }
form_neither (b ∷ s) k q m n l h = record {
  says = rw (ne_eqb (kind_of b) equals_kind (λ w. m (q ∙ w)), ne_eqb (kind_of b) greater_kind (λ w. n (q ∙ w)), ne_eqb (kind_of b) less_kind (λ w. l (q ∙ w)), ne_eqb (kind_of b) caret_kind (λ w. h (q ∙ w)));
}

-- ---- what the functions answer, case by case

module _ {s o : List ℕ} {c : Spot} {row o' : List ℕ} {r : Option Spot} (d : ReadsThen s o c row o' r) where
  pub then_to : {n : Spot} → r ≡ Some n → Then s o c row o' n
  then_to e = rw e at d.says

  pub then_not : r ≡ None → read_choice (left s c) ≡ bad
  then_not e = rw e at d.says

module _ {s o : List ℕ} {c : Spot} {operator : ℕ} {o' : List ℕ} {r : Option Spot} (d : ReadsContexts s o c operator o' r) where
  pub contexts_to : {n : Spot} → r ≡ Some n → Ended s o c operator o' n
  contexts_to e = rw e at d.says

  pub contexts_not : r ≡ None → form_of s ≡ malformed
  contexts_not e = rw e at d.says
