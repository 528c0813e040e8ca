-- A line's program over the lent buffers makes what the line's stages make: the machine is left in front of the stack.
use Rattle.std.specs.Prelude.{◌≡◌, refl, List, [], ◌∷◌, ◌++◌, Result, Ok, Err, ℕ, suc, ◌*◌, ◌-◌, true, eqb, length, drop}
use Rattle.std.proofs.Common.{ap, ◌∙◌, subst, append-nil, append_assoc, arith}
use Rattle.automata.specs.Format.{Format}
use Rattle.automata.specs.Machine.{Machine}
use Rattle.automata.specs.Stage.{Made, made, refused, then_made}
use Rattle.automata.specs.Basics.{nat_test}
use Rattle.automata.specs.Stages.{Pairing, either, both, without, pair_stage}
use Rattle.language.specs.Restriction.{RuleKind, restricts, forbids, obliges, Some, Enough}
use Rattle.language.specs.Expression.{Expr, letter, name, dot, empty, pair, join, star, plus, option, complement}
use Rattle.language.specs.Evaluate.{evaluate, evaluate_rule, pattern_of}
use Rattle.book.specs.Kind.{kind_of}
use Rattle.book.specs.Text.{Form, define, rule, malformed}
use Rattle.book.specs.Program.{pair_code, store_pattern_code, postfix, program, contexts_program, union_program, set_program}
use Rattle.book.specs.StackLaws.{height_after, Leaves, AllHeld, FormHeld}
use Rattle.slots.specs.Slot.{Slot, slot_machine}
use Rattle.codes.specs.Execute.{Store, Ran, ran, execute}
use Rattle.evaluate.specs.ExecuteLaws.{AllLeaves, top_of, rule_leaves, define_leaves}
use Rattle.operations.specs.Apply.{format_of, greatest}
use Rattle.evaluate.specs.Steps.{store_of, book_in, number_of, Gives, Stands, Shelved}
use Rattle.evaluate.specs.Run.{height_of, AllStood, Runs}
use Rattle.operands.specs.declared.Layout.{Layout}
use Rattle.evaluate.specs.declared.run.Stepped.{Stepped}
use Rattle.evaluate.specs.declared.run.Failure.{Failure}
use Rattle.evaluate.specs.declared.run.Failure.TheVariants.{TooMany, Stuck}

-- What an answer says of what is made: the counts with their greatest, and the machine in front of the stack; or the refusal.
abbrev pub Answered : Layout → ℕ → List ℕ → Result ℕ Failure → Made → Type 0
Answered l m stack (Ok p) X = (counts : List ℕ) × (greatest counts ≡ p) × (X ≡ made counts (slot_machine l.limits.states (suc m) stack)) × Slot l.limits.states (suc m) stack
Answered l m stack (Err e) X = X ≡ refused (number_of e)

abbrev pub top_made : Layout → List ℕ → List (ℕ × Machine) → Machine → List ℕ → Machine → Machine → Made
top_made l ls env kept q P R = top_of (execute (format_of l) ls env kept q (record { stack = []; pattern = P; right = R }))

-- What the program leaves on top of an empty stack, whatever stands in the registers of pattern and right side; the book so far stays.
pub record Evaluates (l : Layout) (ls first second code registers₀ registers stack : List ℕ) (r : Result ℕ Failure) : Type 0 where
  pub pattern : Machine
  pub right : Machine
  pub makes : (env : List (ℕ × Machine)) → AllStood l (length ls) first second env code
      → Answered l (length ls) stack r (top_made l ls env (book_in l (length ls) registers₀) code pattern right)
  pub shelved : Shelved l (length ls) registers₀ registers

-- ---- from a run

module _ {l : Layout} {ls first second code registers₀ stack₀ registers stack : List ℕ} {r : Result Stepped Failure} (R : Runs l ls first second code registers₀ stack₀ registers stack r) where
  abbrev m : ℕ
  m = length ls

  abbrev s : Store
  s = store_of l m 0 stack₀ registers₀

  abbrev whole : List (ℕ × Machine) → Ran
  whole env = execute (format_of l) ls env (book_in l m registers₀) code s

  front : drop (0 * l.size) stack ≡ stack
  front = let z : 0 * l.size ≡ 0 = omega arith in ap (λ n. drop n stack) z

  pub run_made : (x : Stepped) → r ≡ Ok x → height_of 0 code ≡ 1 → Evaluates l ls first second code registers₀ registers stack (Ok x.sets)
  run_made x e w =
      let (a, S) = subst (λ r. Stands l m stack r (height_of 0 code)) e R.stands in
      record {
        pattern = s.pattern;
        right = s.right;
        makes = λ env N.
            let (counts, g, y) = subst (λ r. Gives l m registers stack r (whole env)) e (R.gives env N) in (
              counts,
              g,
              ap top_of (y ∙ ap (λ n. ran counts (store_of l m n stack registers)) (a ∙ w)) ∙ ap (λ t. made counts (slot_machine l.limits.states (suc m) t)) front,
              subst (Slot l.limits.states (suc m)) front (S.held 0 (omega arith)),
            );
        shelved = R.shelved;
      }

  pub run_stops : (e : Failure) → r ≡ Err e → Evaluates l ls first second code registers₀ registers stack (Err e)
  run_stops e i = record { pattern = s.pattern; right = s.right; makes = λ env N. stops e (whole env) (subst (λ r. Gives l m registers stack r (whole env)) i (R.gives env N)); shelved = R.shelved }
    where
      stops : (e : Failure) (X : Ran) → Gives l m registers stack (Err e) X → top_of X ≡ refused (number_of e)
      stops (TooMany e) X y = ap top_of y
      stops Stuck X y = ap top_of y

-- ---- a line's program leaves one machine

letter_height : (b h : ℕ) → eqb (kind_of b) 1 ≡ true → height_after b h ≡ suc h
letter_height b h q = let z : kind_of b ≡ 1 = nat_test.sound (kind_of b) 1 q in rw z

name_height : (b h : ℕ) → eqb (kind_of b) 2 ≡ true → height_after b h ≡ suc h
name_height b h q = let z : kind_of b ≡ 2 = nat_test.sound (kind_of b) 2 q in rw z

popped : (h : ℕ) (cs : List ℕ) → height_of (suc (suc h) - 1) cs ≡ height_of (suc h) cs
popped h cs = let z : suc (suc h) - 1 ≡ suc h = omega arith in rw z

pair_height : (o : Pairing) (h : ℕ) (cs : List ℕ) → height_of (suc (suc h)) (pair_code o ∷ cs) ≡ height_of (suc h) cs
pair_height either h cs = popped h cs
pair_height both h cs = popped h cs
pair_height without h cs = popped h cs

pub postfix_height : (e : Expr) → Leaves e → (h : ℕ) (cs : List ℕ) → height_of h (postfix e ++ cs) ≡ height_of (suc h) cs
postfix_height (letter b) s h cs = ap (λ h. height_of h cs) (letter_height b h s)
postfix_height (name b) s h cs = ap (λ h. height_of h cs) (name_height b h s)
postfix_height dot s h cs = refl
postfix_height empty s h cs = refl
postfix_height (pair o e f) s h cs = rw (append_assoc, append_assoc, postfix_height e s.0, postfix_height f s.1) (pair_height o h cs)
postfix_height (join e f) s h cs = rw (append_assoc, append_assoc, postfix_height e s.0, postfix_height f s.1) (popped h cs)
postfix_height (star e) s h cs = rw (append_assoc, postfix_height e s)
postfix_height (plus e) s h cs = rw (append_assoc, postfix_height e s)
postfix_height (option e) s h cs = rw (append_assoc, postfix_height e s)
postfix_height (complement e) s h cs = rw (append_assoc, postfix_height e s)

contexts_height : (n : ℕ) (o : Pairing) (cs : List (Expr × Expr)) → AllHeld n cs → height_of 1 (contexts_program o cs) ≡ 1
contexts_height n o [] s = refl
contexts_height n o ((l, r) ∷ cs) (a, b, s) = rw (postfix_height l a.leaves, postfix_height r b.leaves) (pair_height o 0 (contexts_program o cs) ∙ contexts_height n o cs s)

union_height : (n : ℕ) (cs : List (Expr × Expr)) → AllHeld n cs → Some cs → height_of 0 (union_program cs) ≡ 1
union_height n [] s x = absurd x
union_height n ((l, r) ∷ cs) (a, b, s) x = rw (postfix_height l a.leaves, postfix_height r b.leaves) (contexts_height n either cs s)

set_height : (n : ℕ) (kind : RuleKind) (cs : List (Expr × Expr)) → AllHeld n cs → Enough kind cs → height_of 0 (set_program kind cs) ≡ 1
set_height n restricts cs s x = contexts_height n without cs s
set_height n forbids cs s x = union_height n cs s x
set_height n obliges cs s x = union_height n cs s x

-- the program of a form that is one
abbrev pub Formed : Form → Type 0
Formed (define x e) = Unit {0}
Formed (rule kind p cs) = Unit {0}
Formed malformed = ⊥

pub program_height : (n : ℕ) (F : Form) → Formed F → FormHeld n F → height_of 0 (program F) ≡ 1
program_height n (define x e) t s = subst (λ cs. height_of 0 cs ≡ 1) (append-nil (postfix e)) (postfix_height e s.leaves 0 [])
program_height n (rule kind p cs) t (a, s, x) = postfix_height (pattern_of kind p) a.leaves 0 (store_pattern_code ∷ set_program kind cs) ∙ set_height n kind cs s x
program_height n malformed t s = absurd t

-- ---- and that machine is what the line's stages make

-- the stages of a line, with the machines of the names above and the book so far
abbrev pub line_made : Format → List ℕ → List (ℕ × Machine) → Machine → Form → Made
line_made fmt ls env kept (define x e) = evaluate fmt ls env e
line_made fmt ls env kept (rule kind p cs) = then_made (evaluate_rule fmt ls env kind p cs) λ R. pair_stage fmt (suc (length ls)) both kept R
line_made fmt ls env kept malformed = refused 5

all_leaves : (n : ℕ) (cs : List (Expr × Expr)) → AllHeld n cs → AllLeaves cs
all_leaves n [] s = tt
all_leaves n (c ∷ cs) (a, b, s) = (a.leaves, b.leaves, all_leaves n cs s)

-- A LINE. Its program leaves what its stages make.
pub line_leaves : (fmt : Format) (ls : List ℕ) (env : List (ℕ × Machine)) (kept : Machine) (n : ℕ) (F : Form) → Formed F → FormHeld n F → (P R : Machine)
    → top_of (execute fmt ls env kept (program F) (record { stack = []; pattern = P; right = R })) ≡ line_made fmt ls env kept F
line_leaves fmt ls env kept n (define x e) t s P R = define_leaves fmt ls env kept x e s.leaves P R
line_leaves fmt ls env kept n (rule kind p cs) t (a, s, x) P R = rule_leaves fmt ls env kept kind p cs a.leaves (all_leaves n cs s) x P R
line_leaves fmt ls env kept n malformed t s P R = absurd t

-- Running the program of a line answers what the line's stages make.
pub line_answered : {l : Layout} {ls first second code registers₀ registers stack : List ℕ} {r : Result ℕ Failure} → Evaluates l ls first second code registers₀ registers stack r
    → (n : ℕ) (F : Form) → Formed F → FormHeld n F → code ≡ program F → (env : List (ℕ × Machine)) → AllStood l (length ls) first second env code
    → Answered l (length ls) stack r (line_made (format_of l) ls env (book_in l (length ls) registers₀) F)
line_answered {l} {ls} {first} {second} {code} {registers₀} {registers} {stack} {r} E n F t s e env N =
    subst (Answered l (length ls) stack r)
    (ap (λ q. top_made l ls env (book_in l (length ls) registers₀) q E.pattern E.right) e ∙ line_leaves (format_of l) ls env (book_in l (length ls) registers₀) n F t s E.pattern E.right)
    (E.makes env N)
