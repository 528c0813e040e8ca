-- A line's program run on a stack of machines, code by code, and the law that it makes just what the line's stages make: the same sets counted in the
-- same order, the same machine kept, the same refusal.
use Rattle.std.specs.Prelude.{◌≡◌, ℕ, suc, eqb, length}
use Rattle.std.proofs.Math.Path.{refl, sym, ap}
use Rattle.std.proofs.Common.{◌∙◌}
use mathlib.Core.List.{List, [], ◌∷◌, ◌++◌, append_assoc}
use Rattle.automata.specs.Format.{Format}
use Rattle.automata.specs.Booleans.{choose}
use Rattle.automata.specs.Machine.{Machine}
use Rattle.automata.specs.Stage.{Made, made, refused, then_made, present}
use Rattle.automata.specs.Given.{letter_machine, dot_machine, empty_machine, all_machine, mark_machine}
use Rattle.automata.specs.Stages.{either, both, without, pair_stage, concat_stage, star_stage, erase_stage}
use Rattle.language.specs.Environment.{lookup}
use Rattle.language.specs.Evaluate.{column}
use Rattle.book.specs.Kind.{is_letter, is_name}
use Rattle.book.specs.Program.{join_code, all_code, mark_code, pattern_code, right_code, store_pattern_code, store_right_code, erase_code, meet_code}

-- The stack, its top first, and the two registers: the rule's pattern and the right side of a context.
pub record Store : Type 0 where
  pub stack : List Machine
  pub pattern : Machine
  pub right : Machine

-- The counts of the stages made, with what is then stored; or a refusal. A program that takes more from the stack than is there is stuck: no line's
-- program does.
pub data Ran : Type 0 where
  ran : List ℕ → Store → Ran
  failed : ℕ → Ran
  stuck : Ran

abbrev pub after_ran : List ℕ → Ran → Ran
after_ran counts (ran more s) = ran (counts ++ more) s
after_ran counts (failed r) = failed r
after_ran counts stuck = stuck

abbrev pub then_ran : Ran → (Store → Ran) → Ran
then_ran (ran counts s) f = after_ran counts (f s)
then_ran (failed r) f = failed r
then_ran stuck f = stuck

-- What a stage or a given machine makes becomes the top.
abbrev pub push_made : Store → List Machine → Made → Ran
push_made s rest (made counts M) = ran counts (record { stack = M ∷ rest; pattern = s.pattern; right = s.right })
push_made s rest (refused r) = failed r

-- the top taken off; the two topmost
abbrev pub with_one : List Machine → (Machine → List Machine → Ran) → Ran
with_one [] f = stuck
with_one (A ∷ rest) f = f A rest

abbrev pub with_two : List Machine → (Machine → Machine → List Machine → Ran) → Ran
with_two ms f = with_one ms λ B rest. with_one rest λ A rest'. f A B rest'

module _ (fmt : Format) (ls : List ℕ) (env : List (ℕ × Machine)) (kept : Machine) where
  abbrev k : ℕ
  k = suc (length ls)

  -- One code.
  unfoldable pub step : Store → ℕ → Ran
  step s c =
      choose (is_letter c) (λ _. push_made s s.stack (present (letter_machine (length ls) (column ls c)))) λ _.
      choose (is_name c) (λ _. push_made s s.stack (present (lookup c (empty_machine (length ls)) env))) λ _.
      choose (eqb c 46) (λ _. push_made s s.stack (present (dot_machine (length ls)))) λ _.
      choose (eqb c 64) (λ _. push_made s s.stack (present (empty_machine (length ls)))) λ _.
      choose (eqb c 124) (λ _. with_two s.stack λ A B rest. push_made s rest (pair_stage fmt k either A B)) λ _.
      choose (eqb c 38) (λ _. with_two s.stack λ A B rest. push_made s rest (pair_stage fmt k both A B)) λ _.
      choose (eqb c 45) (λ _. with_two s.stack λ A B rest. push_made s rest (pair_stage fmt k without A B)) λ _.
      choose (eqb c join_code) (λ _. with_two s.stack λ A B rest. push_made s rest (concat_stage fmt k A B)) λ _.
      choose (eqb c 42) (λ _. with_one s.stack λ A rest. push_made s rest (star_stage fmt k A)) λ _.
      choose (eqb c 43) (λ _. with_one s.stack λ A rest. push_made s rest (then_made (star_stage fmt k A) λ B. concat_stage fmt k A B)) λ _.
      choose (eqb c 63) (λ _. with_one s.stack λ A rest. push_made s rest (pair_stage fmt k either (empty_machine (length ls)) A)) λ _.
      choose (eqb c 33) (λ _. with_one s.stack λ A rest. push_made s rest (pair_stage fmt k without (all_machine (length ls)) A)) λ _.
      choose (eqb c all_code) (λ _. push_made s s.stack (present (all_machine (length ls)))) λ _.
      choose (eqb c mark_code) (λ _. push_made s s.stack (present (mark_machine (length ls)))) λ _.
      choose (eqb c pattern_code) (λ _. push_made s s.stack (present s.pattern)) λ _.
      choose (eqb c right_code) (λ _. push_made s s.stack (present s.right)) λ _.
      choose (eqb c store_pattern_code) (λ _. with_one s.stack λ A rest. ran [] (record { stack = rest; pattern = A; right = s.right })) λ _.
      choose (eqb c store_right_code) (λ _. with_one s.stack λ A rest. ran [] (record { stack = rest; pattern = s.pattern; right = A })) λ _.
      choose (eqb c erase_code) (λ _. with_one s.stack λ A rest. push_made s rest (erase_stage fmt (length ls) A)) λ _.
      choose (eqb c meet_code) (λ _. with_one s.stack λ A rest. push_made s rest (pair_stage fmt k both kept A)) λ _.
      stuck

  -- The codes in their order.
  unfoldable pub execute : List ℕ → Store → Ran
  execute [] s = ran [] s
  execute (c ∷ cs) s = then_ran (step s c) (execute cs)

-- ---- programs in a row

pub after_after : (cs ds : List ℕ) (r : Ran) → after_ran cs (after_ran ds r) ≡ after_ran (cs ++ ds) r
after_after cs ds (ran more s) = ap (λ l. ran l s) (sym (append_assoc cs ds more))
after_after cs ds (failed r) = refl
after_after cs ds stuck = refl

pub after_none : (r : Ran) → after_ran [] r ≡ r
after_none (ran more s) = refl
after_none (failed r) = refl
after_none stuck = refl

then_after : (cs : List ℕ) (r : Ran) (f : Store → Ran) → then_ran (after_ran cs r) f ≡ after_ran cs (then_ran r f)
then_after cs (ran more s) f = sym (after_after cs more (f s))
then_after cs (failed r) f = refl
then_after cs stuck f = refl

module _ (fmt : Format) (ls : List ℕ) (env : List (ℕ × Machine)) (kept : Machine) where
  pub execute_append : (p q : List ℕ) (s : Store) → execute fmt ls env kept (p ++ q) s ≡ then_ran (execute fmt ls env kept p s) (execute fmt ls env kept q)
  unfolding execute
  execute_append [] q s = sym (after_none (execute fmt ls env kept q s))
  execute_append (c ∷ p) q s = go (step fmt ls env kept s c) (execute_append p q)
    where
      go : (r : Ran) → ((s : Store) → execute fmt ls env kept (p ++ q) s ≡ then_ran (execute fmt ls env kept p s) (execute fmt ls env kept q))
          → then_ran r (execute fmt ls env kept (p ++ q)) ≡ then_ran (then_ran r (execute fmt ls env kept p)) (execute fmt ls env kept q)
      go (ran cs t) ih = ap (after_ran cs) (ih t) ∙ sym (then_after cs (execute fmt ls env kept p t) (execute fmt ls env kept q))
      go (failed r) ih = refl
      go stuck ih = refl
