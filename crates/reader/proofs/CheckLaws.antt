-- Laws of a later line's tests: 6 on a line's program, and the order of 3 to 7.
use mathlib.Core.Path.{◌≡◌, refl, sym, ap, ◌∙◌, subst}
use mathlib.Core.Bool.{Bool, true, false, ◌&&◌}
use mathlib.Core.Logic.{inl, inr}
use mathlib.Core.List.{List, [], ◌∷◌, ◌++◌, append_assoc, append-nil}
use Prim.Native.Nat.{ℕ, ◌+◌, ◌*◌, ◌-◌, ◌≤◌, ◌<◌}
use native.Mathlib.Numerals.{add-one}
use native.Mathlib.Omega.{arith}
use borrow.Author.Tests.{ne_eqb}
use lib.Dec.{ltb}
use lib.ListN.{length, take, drop, get_or, length-take, length-drop}
use Rattle.automata.specs.Booleans.{choose, and_true}
use Rattle.automata.specs.Basics.{nat_test, LtCases, lt_cases}
use Rattle.automata.specs.Stages.{Pairing, either, both, without}
use Rattle.language.specs.Restriction.{RuleKind, restricts, forbids, obliges}
use Rattle.language.specs.Evaluate.{pattern_of}
use Rattle.language.proofs.RuleLaws.{pattern_known}
use Rattle.language.specs.Expression.{Expr, star, plus, pair, empty, join, option, complement, letter, name, dot, member}
use Rattle.language.specs.Environment.{known, all_known}
use Rattle.book.specs.Kind.{kind_of, name_kind, underscore_kind}
use Rattle.book.specs.Text.{define, rule, malformed, form_of, too_deep, count_of, line_test, unless}
use Rattle.book.specs.Line.{reads, stops, read_line, check_form}
use Rattle.book.specs.Program.{pair_code, postfix, program, context_program, contexts_program, union_program, set_program}
use Rattle.book.specs.StackLaws.{Leaves, Held, AllHeld, FormHeld}
use Rattle.book.proofs.StackLaws.{line_held}
use Rattle.scans.specs.Lines.{line_of, line_at, Ends}
use Rattle.reader.specs.Names.{Holds}
use Rattle.reader.specs.Known.{code_known, Knows}
use Rattle.forms.specs.Forms.{Defines, Rules, ReadsForm}
use Rattle.reader.specs.Answers.{program_length, ReadsLine, ReadsNext}
use Rattle.reader.specs.declared.names.Names.{Names}
use Rattle.forms.specs.declared.Code.{Code}
use Rattle.forms.specs.declared.Code as code
use Rattle.std.specs.Prelude.{Ok, Err, Some}
use Rattle.book.specs.Refusals.{refusal_number}
use Rattle.book.specs.declared.refusal.Refusal.{Refusal}
use Rattle.book.specs.declared.refusal.Refusal.TheVariants.{MalformedLine, UndefinedSymbol, DuplicateName}
use Rattle.scans.proofs.LineLaws.{refused_not}

-- ---- 6, on the code

and_assoc : (a b c : Bool) → (a && b) && c ≡ a && (b && c)
and_assoc true b c = refl
and_assoc false b c = refl

module _ (ls ns : List ℕ) where
  pair_known : (o : Pairing) (cs : List ℕ) → code_known ls ns (pair_code o ∷ cs) ≡ code_known ls ns cs
  pair_known either cs = refl
  pair_known both cs = refl
  pair_known without cs = refl

  -- The letters and names of an expression's code are those of the expression.
  known_code : (e : Expr) → Leaves e → (cs : List ℕ) → code_known ls ns (postfix e ++ cs) ≡ known ls ns e && code_known ls ns cs
  known_code (letter b) s cs = rw s
  known_code (name b) s cs = let z : kind_of b ≡ name_kind = nat_test.sound (kind_of b) name_kind s in rw z
  known_code dot s cs = refl
  known_code empty s cs = refl
  known_code (pair o e f) s cs = rw (append_assoc, append_assoc, known_code e s.0, known_code f s.1, pair_known o cs) (sym (and_assoc (known ls ns e) (known ls ns f) (code_known ls ns cs)))
  known_code (join e f) s cs = rw (append_assoc, append_assoc, known_code e s.0, known_code f s.1) (sym (and_assoc (known ls ns e) (known ls ns f) (code_known ls ns cs)))
  known_code (star e) s cs = rw (append_assoc, known_code e s)
  known_code (plus e) s cs = rw (append_assoc, known_code e s)
  known_code (option e) s cs = rw (append_assoc, known_code e s)
  known_code (complement e) s cs = rw (append_assoc, known_code e s)

  -- one context, and what stands behind it
  context_known : (n : ℕ) (l r : Expr) → Held n l → Held n r → (row : List ℕ) (cs : List (Expr × Expr)) → code_known ls ns row ≡ all_known ls ns cs
      → code_known ls ns (postfix l ++ (postfix r ++ row)) ≡ all_known ls ns ((l, r) ∷ cs)
  context_known n l r a b row cs e =
      rw (known_code l a.leaves, known_code r b.leaves) (ap (λ t. known ls ns l && (known ls ns r && t)) e ∙ sym (and_assoc (known ls ns l) (known ls ns r) (all_known ls ns cs)))

  contexts_known : (n : ℕ) (o : Pairing) (cs : List (Expr × Expr)) → AllHeld n cs → code_known ls ns (contexts_program o cs) ≡ all_known ls ns cs
  contexts_known n o [] s = refl
  contexts_known n o ((l, r) ∷ cs) (a, b, s) = context_known n l r a b (context_program ++ (pair_code o ∷ contexts_program o cs)) cs (pair_known o (contexts_program o cs) ∙ contexts_known n o cs s)

  union_known : (n : ℕ) (cs : List (Expr × Expr)) → AllHeld n cs → code_known ls ns (union_program cs) ≡ all_known ls ns cs
  union_known n [] s = refl
  union_known n ((l, r) ∷ cs) (a, b, s) = context_known n l r a b (context_program ++ contexts_program either cs) cs (contexts_known n either cs s)

  set_known : (n : ℕ) (kind : RuleKind) (cs : List (Expr × Expr)) → AllHeld n cs → code_known ls ns (set_program kind cs) ≡ all_known ls ns cs
  set_known n restricts cs s = contexts_known n without cs s
  set_known n forbids cs s = union_known n cs s
  set_known n obliges cs s = union_known n cs s

  define_known : (n x : ℕ) (e : Expr) → FormHeld n (define x e) → code_known ls ns (program (define x e)) ≡ known ls ns e
  define_known n x e s = ap (code_known ls ns) (sym (append-nil (postfix e))) ∙ known_code e s.leaves [] ∙ and_true (known ls ns e)

  rule_known : (n : ℕ) (kind : RuleKind) (p : Expr) (cs : List (Expr × Expr)) → FormHeld n (rule kind p cs) → code_known ls ns (program (rule kind p cs)) ≡ known ls ns p && all_known ls ns cs
  rule_known n kind p cs (a, s, x) = rw (known_code (pattern_of kind p) a.leaves, pattern_known ls ns kind p) (ap (λ t. known ls ns p && t) (set_known n kind cs s))

-- what is known of the bytes up to the program's length, as it is of the form's own length
pub program_known : (o' : List ℕ) {ls : List ℕ} {f : Names} {r : Bool} {len : ℕ} {x y : Code} → len ≡ program_length x → x ≡ y → Knows (take len o') ls f r
    → Knows (take (program_length y) o') ls f r
program_known o' {ls} {f} {r} p e k = subst (λ n. Knows (take n o') ls f r) (p ∙ ap program_length e) k

-- ---- what passing the tests along the line says

module _ (s : List ℕ) (ended : Bool) where
  tests_are : (d : Bool) (c : LtCases 4 (count_of underscore_kind s)) (f : Bool) → ◌≡◌ {A = ℕ} (choose d (λ _. 3) (λ _. choose (ltb 4 (count_of underscore_kind s)) (λ _. 4) (λ _. choose f (λ _. 0) (λ _. 5)))) 0 → (count_of underscore_kind s ≤ 4) × (f ≡ true)
  tests_are true c f e = absurd (omega arith)
  tests_are false (inl p) f e = absurd (omega (arith, rw p.1 at e))
  tests_are false (inr p) true e = (p.0, refl)
  tests_are false (inr p) false e = absurd (omega (arith, rw p.1 at e))

  passed : line_test (line_of s ended) ≡ 0 → (count_of underscore_kind s ≤ 4) × (ended ≡ true)
  unfolding line_test
  passed e = tests_are (too_deep 0 0 s) (lt_cases 4 (count_of underscore_kind s)) ended e

  pub passed_few : line_test (line_of s ended) ≡ 0 → count_of underscore_kind s ≤ 4
  passed_few e = (passed e).0

  module _ (ls : List ℕ) (f : Names) (o o' : List ℕ) where
    -- 3, 4, or 5 for the missing end
    pub stopped_tests : (r : Refusal) → line_test (line_of s ended) ≡ refusal_number r → ReadsLine (line_of s ended) ls f o o' (Err r)
    unfolding read_line
    stopped_tests r q = record { says = record { is = λ ns _. rw (q, ne_eqb (refusal_number r) 0 (refused_not r)) } }

    module _ (z : line_test (line_of s ended) ≡ 0) where
      form_read : (ns : List ℕ) → read_line ls ns (line_of s ended) ≡ check_form ls ns (form_of s)
      unfolding read_line
      form_read ns = rw z

      -- 5
      pub stopped_form : form_of s ≡ malformed → ReadsLine (line_of s ended) ls f o o' (Err MalformedLine)
      unfolding check_form
      stopped_form e = record { says = record { is = λ ns _. form_read ns ∙ ap (check_form ls ns) e } }

      module _ {x len : ℕ} (d : Defines s o o' x len) {r : Bool} (k : Knows (take len o') ls f r) where
        held : FormHeld 17 (define x d.body)
        held = subst (FormHeld 17) d.form (line_held (line_of s ended) z)

        known_is : (ns : List ℕ) → Holds f ns → known ls ns d.body ≡ r
        known_is ns h = sym (k.says ns h ∙ ap (code_known ls ns) (d.code) ∙ define_known ls ns 17 x d.body held)

        named_read : (ns : List ℕ) → read_line ls ns (line_of s ended) ≡ unless (known ls ns d.body) (λ _. stops 6) (λ _. choose (member x ns) (λ _. stops 7) (λ _. reads (define x d.body)))
        unfolding check_form
        named_read ns = form_read ns ∙ ap (check_form ls ns) d.form

        -- 6
        stopped_symbol : r ≡ false → ReadsLine (line_of s ended) ls f o o' (Err UndefinedSymbol)
        stopped_symbol e = record { says = record { is = λ ns h. named_read ns ∙ rw (known_is ns h, e) } }

        -- 7
        pub stopped_name : r ≡ true → (t : Bool) → t ≡ get_or f.defined (x - 65) false → t ≡ true → ReadsLine (line_of s ended) ls f o o' (Err DuplicateName)
        stopped_name e t u v = record { says = record { is = λ ns h. named_read ns ∙ rw (known_is ns h, e, h.says x d.named ∙ sym u ∙ v) } }

        pub read_name : r ≡ true → (t : Bool) → t ≡ get_or f.defined (x - 65) false → t ≡ false → ReadsLine (line_of s ended) ls f o o' (Ok (code.TheVariants.Define x len))
        read_name e t u v = record {
          says = record {
            body = d.body;
            named = d.named;
            written = record {
              reads_as = record { is = λ ns h. named_read ns ∙ rw (known_is ns h, e, h.says x d.named ∙ sym u ∙ v) };
              code = d.code;
              past = d.grown.past;
              fits = d.fits;
              held = held;
              whole = (passed z).1;
            };
          };
        }

      module _ {len : ℕ} (d : Rules s o 0 o' len) {r : Bool} (k : Knows (take len o') ls f r) where
        held_rule : FormHeld 17 (rule d.kind d.pattern d.contexts)
        held_rule = subst (FormHeld 17) d.form (line_held (line_of s ended) z)

        rule_is : (ns : List ℕ) → Holds f ns → known ls ns d.pattern && all_known ls ns d.contexts ≡ r
        rule_is ns h = sym (k.says ns h ∙ ap (code_known ls ns) (d.code) ∙ rule_known ls ns 17 d.kind d.pattern d.contexts held_rule)

        rule_read : (ns : List ℕ) → read_line ls ns (line_of s ended) ≡ unless (known ls ns d.pattern && all_known ls ns d.contexts) (λ _. stops 6) (λ _. reads (rule d.kind d.pattern d.contexts))
        unfolding check_form
        rule_read ns = form_read ns ∙ ap (check_form ls ns) d.form

        stopped_rule : r ≡ false → ReadsLine (line_of s ended) ls f o o' (Err UndefinedSymbol)
        stopped_rule e = record { says = record { is = λ ns h. rule_read ns ∙ rw (rule_is ns h, e) } }

        pub read_rule : r ≡ true → ReadsLine (line_of s ended) ls f o o' (Ok (code.TheVariants.Rule len))
        read_rule e = record {
          says = record {
            kind = d.kind;
            pattern = d.pattern;
            contexts = d.contexts;
            written = record {
              reads_as = record { is = λ ns h. rule_read ns ∙ rw (rule_is ns h, e) };
              code = d.code;
              past = d.grown.past;
              fits = d.fits;
              held = held_rule;
              whole = (passed z).1;
            };
          };
        }

      -- 6, of whichever form
      pub stopped_known : (x : Code) → ReadsForm s o o' (Some x) → {len : ℕ} → len ≡ program_length x → {r : Bool} → Knows (take len o') ls f r → r ≡ false → ReadsLine (line_of s ended) ls f o o' (Err UndefinedSymbol)
      stopped_known (code.TheVariants.Define x n) d p k e = stopped_symbol d.says (program_known o' {y = code.TheVariants.Define x n} p refl k) e
      stopped_known (code.TheVariants.Rule n) d p k e = stopped_rule d.says (program_known o' {y = code.TheVariants.Rule n} p refl k) e

      -- a form that is no definition
      pub read_other : (x : Code) → ReadsForm s o o' (Some x) → {len : ℕ} → len ≡ program_length x → {r : Bool} → Knows (take len o') ls f r → r ≡ true
          → ((b n : ℕ) → x ≡ code.TheVariants.Define b n → ⊥) → ReadsLine (line_of s ended) ls f o o' (Ok x)
      read_other (code.TheVariants.Define b n) d p k e h = absurd (h b n refl)
      read_other (code.TheVariants.Rule n) d p k e h = read_rule d.says (program_known o' {y = code.TheVariants.Rule n} p refl k) e

pub form_fits : {s o o' : List ℕ} {len : ℕ} (r : Code) → ReadsForm s o o' (Some r) → len ≡ program_length r → len ≤ length o'
form_fits (code.TheVariants.Define x n) d e = omega (arith, d.says.fits)
form_fits (code.TheVariants.Rule n) d e = omega (arith, d.says.fits)

-- ---- the line that starts at a place of the text

module _ {s : List ℕ} {at end : ℕ} (e : Ends s at end) {ls : List ℕ} {f : Names} {o o' : List ℕ} where
  pub next_read : {x : Code} → ReadsLine (line_at s at end) ls f o o' (Ok x) → ReadsNext s at ls f o o' (Ok (record { code = x; next = end + 1 }))
  next_read d = record { end = end; ends = e; says = (d.says, add-one end) }

  pub next_not : {q : Refusal} → ReadsLine (line_at s at end) ls f o o' (Err q) → ReadsNext s at ls f o o' (Err q)
  next_not d = record { end = end; ends = e; says = d.says }

pub from_first : (e : ℕ) → 0 ≤ e
from_first e = omega arith

pub in_text : (at l : ℕ) → at < l → at ≤ l
in_text at l h = omega arith

-- there is room for the program of a line where there is room for the text's
pub line_room : (text : List ℕ) (at end room : ℕ) → Ends text at end → 2 * length text + 64 ≤ room → 2 * length (take (end - at) (drop at text)) + 64 ≤ room
line_room text at end room e h = omega (arith, e.from, e.within, length-take (end - at) (drop at text), length-drop at text)
