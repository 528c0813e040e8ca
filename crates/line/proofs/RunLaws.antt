-- A line's program run over the lent buffers: what it asks of them, and that its answer is what the line's stages make.
use mathlib.Core.Path.{◌≡◌, refl, sym, ap, ◌∙◌, subst}
use mathlib.Core.Bool.{true, false, ◌&&◌, false≢true}
use mathlib.Core.List.{List, [], ◌∷◌, ◌++◌, append_assoc, append-nil}
use Prim.Native.Nat.{ℕ, zero, suc, ◌≤◌, ◌<◌, max}
use native.Mathlib.Omega.{arith}
use lib.Dec.{eqb}
use lib.ListN.{length, get_or, take}
use Rattle.std.specs.Prelude.{Result, Ok, Err}
use Rattle.automata.specs.Format.{narrow}
use Rattle.automata.specs.Basics.{nat_test}
use Rattle.automata.specs.Booleans.{and_left, and_right}
use Rattle.automata.specs.Machine.{Machine}
use Rattle.automata.specs.Stage.{Made, made, refused, after, StageResult, kept_one, too_many_sets, too_many_states}
use Rattle.automata.specs.Automaton.{Automaton}
use Rattle.automata.proofs.Exactly.{then_exactly}
use Rattle.automata.specs.Stages.{Pairing, either, both, without}
use Rattle.language.specs.Restriction.{RuleKind, restricts, forbids, obliges}
use Rattle.language.specs.Evaluate.{pattern_of}
use Rattle.language.proofs.RuleLaws.{pattern_known}
use Rattle.language.proofs.Makes.{makes_exactly, rule_exactly, pairs_exactly}
use Rattle.language.specs.Stagewise.{Stagewise, then_holds, expression_holds, rule_holds}
use Rattle.language.specs.Expression.{Expr, letter, name, dot, empty, pair, join, star, plus, option, complement, member}
use Rattle.language.specs.Environment.{names_of, known, all_known}
use Rattle.book.specs.Kind.{kind_of, is_letter, is_name}
use Rattle.book.specs.Text.{Form, define, rule, malformed}
use Rattle.book.specs.Program.{store_pattern_code, pair_code, postfix, context_program, finish_program, contexts_program, union_program, set_program, program}
use Rattle.book.specs.StackLaws.{Leaves, highest, Held, AllHeld, FormHeld}
use Rattle.book.proofs.StackLaws.{program_highest}
use Rattle.book.specs.LineLaws.{KnownForm}
use Rattle.compiler.specs.Outcome.{most}
use Rattle.slots.specs.Slot.{slot_machine}
use Rattle.operations.specs.Apply.{greatest}
use Rattle.evaluate.specs.Run.{height_of, AllStood, Running}
use Rattle.evaluate.specs.Evaluated.{Answered, Evaluates, Formed, program_height, line_made, line_answered}
use Rattle.operands.specs.declared.Layout.{Layout}
use Rattle.evaluate.specs.Steps.{number_of}
use Rattle.evaluate.specs.declared.run.Failure.{Failure}
use Rattle.kept.specs.Stored.{InSlot, Registers, Stored}
use Rattle.line.specs.Line.{Program, Runs, NotStuck}
use Rattle.answers.specs.declared.Scratch.{Scratch}

-- ---- the names of a program are known

abbrev AllNames : List ℕ → List ℕ → Type 0
AllNames ns [] = Unit {0}
AllNames ns (c ∷ cs) = (is_name c ≡ true → member c ns ≡ true) × AllNames ns cs

names_at : (ns cs : List ℕ) → AllNames ns cs → (i : ℕ) → i < length cs → is_name (get_or cs i 0) ≡ true → member (get_or cs i 0) ns ≡ true
names_at ns [] A i h = absurd (omega arith)
names_at ns (c ∷ cs) A zero h = A.0
names_at ns (c ∷ cs) A (suc i) h = names_at ns cs A.1 i (omega arith)

module _ (ls ns : List ℕ) where
  no_name : (c : ℕ) → is_name c ≡ false → is_name c ≡ true → member c ns ≡ true
  no_name c e t = absurd (false≢true (sym e ∙ t))

  letter_no : (b : ℕ) → is_letter b ≡ true → is_name b ≡ false
  letter_no b h = ap (λ n. eqb n 2) (nat_test.sound (kind_of b) 1 h)

  sign : (o : Pairing) → is_name (pair_code o) ≡ true → member (pair_code o) ns ≡ true
  sign either = no_name 124 refl
  sign both = no_name 38 refl
  sign without = no_name 45 refl

  expression_names : (e : Expr) → Leaves e → known ls ns e ≡ true → (cs : List ℕ) → AllNames ns cs → AllNames ns (postfix e ++ cs)
  expression_names (letter b) h k cs A = (no_name b (letter_no b h), A)
  expression_names (name b) h k cs A = (λ t. k, A)
  expression_names dot h k cs A = (no_name 46 refl, A)
  expression_names empty h k cs A = (no_name 64 refl, A)
  expression_names (pair o e f) (h, g) k cs A =
      subst (AllNames ns) (sym (append_assoc (postfix e) (postfix f ++ (pair_code o ∷ [])) cs ∙ ap (λ l. postfix e ++ l) (append_assoc (postfix f) (pair_code o ∷ []) cs)))
      (expression_names e h (and_left (known ls ns e) (known ls ns f) k) (postfix f ++ (pair_code o ∷ cs))
      (expression_names f g (and_right (known ls ns e) (known ls ns f) k) (pair_code o ∷ cs) (sign o, A)))
  expression_names (join e f) (h, g) k cs A =
      subst (AllNames ns) (sym (append_assoc (postfix e) (postfix f ++ (59 ∷ [])) cs ∙ ap (λ l. postfix e ++ l) (append_assoc (postfix f) (59 ∷ []) cs)))
      (expression_names e h (and_left (known ls ns e) (known ls ns f) k) (postfix f ++ (59 ∷ cs))
      (expression_names f g (and_right (known ls ns e) (known ls ns f) k) (59 ∷ cs) (no_name 59 refl, A)))
  expression_names (star e) h k cs A = subst (AllNames ns) (sym (append_assoc (postfix e) (42 ∷ []) cs)) (expression_names e h k (42 ∷ cs) (no_name 42 refl, A))
  expression_names (plus e) h k cs A = subst (AllNames ns) (sym (append_assoc (postfix e) (43 ∷ []) cs)) (expression_names e h k (43 ∷ cs) (no_name 43 refl, A))
  expression_names (option e) h k cs A = subst (AllNames ns) (sym (append_assoc (postfix e) (63 ∷ []) cs)) (expression_names e h k (63 ∷ cs) (no_name 63 refl, A))
  expression_names (complement e) h k cs A = subst (AllNames ns) (sym (append_assoc (postfix e) (33 ∷ []) cs)) (expression_names e h k (33 ∷ cs) (no_name 33 refl, A))

  finish_names : AllNames ns finish_program
  finish_names = (no_name 7 refl, (no_name 33 refl, (no_name 8 refl, tt)))

  -- one context, and what stands behind it
  context_names : (c : Expr × Expr) → Held 17 c.0 → Held 17 c.1 → known ls ns c.0 && known ls ns c.1 ≡ true → (row : List ℕ) → AllNames ns row
      → AllNames ns (postfix c.0 ++ (postfix c.1 ++ (context_program ++ row)))
  context_names c h g a row A =
      expression_names c.0 h.leaves (and_left (known ls ns c.0) (known ls ns c.1) a) (postfix c.1 ++ (context_program ++ row))
      (expression_names c.1 g.leaves (and_right (known ls ns c.0) (known ls ns c.1) a) (context_program ++ row)
      (no_name 6 refl, (no_name 2 refl, (no_name 59 refl, (no_name 3 refl, (no_name 59 refl, (no_name 2 refl, (no_name 59 refl, (no_name 4 refl, (no_name 59 refl, A))))))))))

  contexts_names : (o : Pairing) (cs : List (Expr × Expr)) → AllHeld 17 cs → all_known ls ns cs ≡ true → AllNames ns (contexts_program o cs)
  contexts_names o [] t k = finish_names
  contexts_names o (c ∷ cs) (h, g, t) k =
      context_names c h g (and_left (known ls ns c.0 && known ls ns c.1) (all_known ls ns cs) k) (pair_code o ∷ contexts_program o cs)
      (sign o, contexts_names o cs t (and_right (known ls ns c.0 && known ls ns c.1) (all_known ls ns cs) k))

  union_names : (cs : List (Expr × Expr)) → AllHeld 17 cs → all_known ls ns cs ≡ true → AllNames ns (union_program cs)
  union_names [] t k = finish_names
  union_names (c ∷ cs) (h, g, t) k =
      context_names c h g (and_left (known ls ns c.0 && known ls ns c.1) (all_known ls ns cs) k) (contexts_program either cs)
      (contexts_names either cs t (and_right (known ls ns c.0 && known ls ns c.1) (all_known ls ns cs) k))

  set_names : (kind : RuleKind) (cs : List (Expr × Expr)) → AllHeld 17 cs → all_known ls ns cs ≡ true → AllNames ns (set_program kind cs)
  set_names restricts cs t k =
      (no_name 1 refl, (no_name 2 refl, (no_name 59 refl, (no_name 3 refl, (no_name 59 refl, (no_name 2 refl, (no_name 59 refl, (no_name 1 refl, (no_name 59 refl, contexts_names without cs t k)))))))))
  set_names forbids cs t k = union_names cs t k
  set_names obliges cs t k = union_names cs t k

  form_names : (F : Form) → FormHeld 17 F → KnownForm ls ns F → AllNames ns (program F)
  form_names (define x e) h k = subst (AllNames ns) (append-nil (postfix e)) (expression_names e h.leaves k [] tt)
  form_names (rule kind p cs) (h, t, x) k =
      expression_names (pattern_of kind p) h.leaves (pattern_known ls ns kind p ∙ and_left (known ls ns p) (all_known ls ns cs) k) (store_pattern_code ∷ set_program kind cs)
      (no_name store_pattern_code refl, set_names kind cs t (and_right (known ls ns p) (all_known ls ns cs) k))
  form_names malformed h k = absurd k

greatest_most : (cs : List ℕ) → greatest cs ≡ most cs
greatest_most [] = refl
greatest_most (c ∷ cs) = ap (max c) (greatest_most cs)

formed : (ls ns : List ℕ) (F : Form) → KnownForm ls ns F → Formed F
formed ls ns (define x e) k = tt
formed ls ns (rule kind p cs) k = tt
formed ls ns malformed k = absurd k

-- ---- a stage that stops has a number

abbrev Numbered : Made → Type 0
Numbered (made counts M) = Unit {0}
Numbered (refused r) = 1 ≤ r

numbered : Stagewise narrow Numbered
numbered = record { here = λ M. tt; staged = λ k A r s. staged k A r s; behind = behind }
  where
    staged : {S : Type 0} (k : ℕ) (A : Automaton S) (r : Made) → StageResult narrow k A r → Numbered r
    staged k A r (kept_one n M C h s b) = tt
    staged k A r (too_many_sets c) = omega arith
    staged k A r (too_many_states n M C h s b) = omega arith

    behind : (counts : List ℕ) (M : Machine) (r : Made) → Numbered (made counts M) → Numbered r → Numbered (after counts r)
    behind counts M (made more N) m n = tt
    behind counts M (refused r) m n = n

line_numbered : (ls : List ℕ) (env : List (ℕ × Machine)) (kept : Machine) (F : Form) → Formed F → FormHeld 17 F → Numbered (line_made narrow ls env kept F)
line_numbered ls env kept (define x e) t h = expression_holds narrow Numbered numbered ls env e _ (makes_exactly narrow ls env e).right
line_numbered ls env kept (rule kind p cs) t (h, k, enough) =
    then_holds narrow Numbered numbered _ _ (rule_holds narrow Numbered numbered ls env kind p cs) (λ R. numbered.staged _ _) _
    (then_exactly _ _ _ _ (rule_exactly narrow ls env kind p cs enough) (λ R. pairs_exactly narrow (suc (length ls)) both kept R)).right
line_numbered ls env kept malformed t h = absurd t

-- ---- the run

-- the limits of 01, and the bytes of a slot
abbrev pub layout : Layout
layout = record { limits = record { sets = 512; states = 120 }; size = 3362 }

module _ (ls : List ℕ) (len : ℕ) (code low high registers : List ℕ) where
  abbrev m : ℕ
  m = length ls

  -- the name at a place of the code is known
  member_at : (env : List (ℕ × Machine)) (F : Form) → Program ls (names_of env) len code F → (i : ℕ) → i < length (take len code) → is_name (get_or (take len code) i 0) ≡ true
      → member (get_or (take len code) i 0) (names_of env) ≡ true
  member_at env F P i h t =
      let A : AllNames (names_of env) (take len code) = subst (AllNames (names_of env)) (sym P.code) (form_names ls (names_of env) F P.held P.known) in
      names_at (names_of env) (take len code) A i h t

  all_stood : (env : List (ℕ × Machine)) (kept : Machine) (F : Form) → Stored m env kept low high registers → Program ls (names_of env) len code F → AllStood layout m low high env (take len code)
  all_stood env kept F S P i h t = (S.names (get_or (take len code) i 0) t (member_at env F P i h t)).machine

  -- what the run asks
  pub running : {stack : List ℕ} {scratch : Scratch} → Runs ls len code low high registers stack scratch → Running layout ls low high registers (take len code) stack scratch
  running {stack} {scratch} R = record {
    shelves = record {
      states = omega arith;
      letters = R.letters.0;
      slot = omega (arith, R.letters.1);
      first_long = R.room.low;
      second_long = R.room.high;
      registers_long = R.room.registers;
    };
    lent = record {
      states = (omega arith, omega arith);
      sets = (omega arith, omega arith);
      slot = omega (arith, R.letters.1);
      stack_long = R.room.stack;
      rows_long = R.room.rows;
      table_long = omega (arith, R.letters.1, R.room.table);
      work_long = omega (arith, R.letters.1, R.room.work);
      classes_long = (omega (arith, R.room.work), omega (arith, R.room.work));
    };
    held = record { held = R.stored.registers.held };
    height = subst (λ p. highest 0 p ≤ 19) (sym R.program.code) (program_highest 17 R.form (omega arith) R.program.held);
    names = λ i h t. (R.stored.names (get_or (take len code) i 0) t (member_at R.env R.form R.program i h t)).slot;
  }

  pub one_machine : {stack : List ℕ} {scratch : Scratch} → Runs ls len code low high registers stack scratch → height_of 0 (take len code) ≡ 1
  one_machine R = ap (height_of 0) R.program.code ∙ program_height 17 R.form (formed ls (names_of R.env) R.form R.program.known) R.program.held

  module _ (registers' stack : List ℕ) (r : Result ℕ Failure) (E : Evaluates layout ls low high (take len code) registers registers' stack r) where
    module _ (env : List (ℕ × Machine)) (kept : Machine) (F : Form) (S : Stored m env kept low high registers) (P : Program ls (names_of env) len code F) where
      answered : Answered layout m stack r (line_made narrow ls env kept F)
      answered = subst (λ K. Answered layout m stack r (line_made narrow ls env K F)) S.registers.book.machine
          (line_answered E 17 F (formed ls (names_of env) F P.known) P.held P.code env (all_stood env kept F S P))

      -- the sets that its stages made, with the machine in front of the stack and the book so far in its register; or the number of a refusal
      pub stages_made : (p : ℕ) → r ≡ Ok p
          → (counts : List ℕ) × (M : Machine) × (line_made narrow ls env kept F ≡ made counts M) × (p ≡ most counts) × InSlot m stack M × Registers m kept registers'
      stages_made p e =
          let (counts, g, q, T) = subst (λ r. Answered layout m stack r (line_made narrow ls env kept F)) e answered in (
            counts,
            slot_machine 120 (suc m) stack,
            q,
            sym g ∙ greatest_most counts,
            record { slot = T; machine = refl },
            record {
              book = record { slot = E.shelved.held.held 0 (omega arith); machine = E.shelved.book ∙ S.registers.book.machine };
              held = E.shelved.held.held;
            },
          )

      pub stages_stopped : (n : Failure) → r ≡ Err n → line_made narrow ls env kept F ≡ refused (number_of n)
      stages_stopped n e = subst (λ r. Answered layout m stack r (line_made narrow ls env kept F)) e answered

      -- it runs to its end, unless a stage stops it
      pub never_stuck : NotStuck r
      never_stuck = go r refl
        where
          go : (q : Result ℕ Failure) → r ≡ q → NotStuck q
          go (Ok p) e = tt
          go (Err k) e = λ z.
              let n : 1 ≤ number_of k = subst Numbered (stages_stopped k e) (line_numbered ls env kept F (formed ls (names_of env) F P.known) P.held) in
              let o : number_of k ≡ 0 = ap number_of z in
              omega (arith, n, o)
