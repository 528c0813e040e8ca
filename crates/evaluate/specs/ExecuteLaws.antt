-- The program of a line makes what the line's stages make.
use Rattle.std.specs.Prelude.{◌≡◌, ℕ, suc, length}
use Rattle.std.proofs.Math.Path.{refl, sym, ap}
use Rattle.std.proofs.Common.{◌∙◌}
use Rattle.std.proofs.Math.Bool.{true, false}
use mathlib.Core.List.{List, [], ◌∷◌, ◌++◌, append_assoc, append-nil}
use Rattle.std.proofs.Math.Dec.{eqb}
use Rattle.automata.specs.Format.{Format}
use Rattle.automata.specs.Basics.{nat_test}
use Rattle.automata.specs.Machine.{Machine}
use Rattle.automata.specs.Stage.{Made, made, refused, after, then_made, present}
use Rattle.automata.specs.Given.{letter_machine, dot_machine, empty_machine, all_machine, mark_machine}
use Rattle.automata.specs.Stages.{Pairing, either, both, without, pair_stage, concat_stage, star_stage, erase_stage}
use Rattle.language.specs.Restriction.{RuleKind, restricts, forbids, obliges, Some, Enough}
use Rattle.language.specs.Expression.{Expr, letter, name, dot, empty, pair, join, star, plus, option, complement}
use Rattle.language.specs.Environment.{lookup}
use Rattle.language.specs.Evaluate.{column, evaluate, marked_stages, context_stages, contexts_by, union_contexts, marked_of, pattern_of, erase_and_exclude, evaluate_rule}
use Rattle.book.specs.Kind.{kind_of, is_letter, is_name}
use Rattle.book.specs.Text.{define, rule}
use Rattle.book.specs.StackLaws.{Leaves}
use Rattle.book.specs.Program.{pair_code, join_code, store_pattern_code, store_right_code, right_code, all_code, postfix, context_program, finish_program, contexts_program, union_program, set_program, program}
use Rattle.codes.specs.Execute.{Store, Ran, ran, failed, stuck, after_ran, then_ran, push_made, step, execute}

abbrev pub AllLeaves : List (Expr × Expr) → Type 0
AllLeaves [] = Unit {0}
AllLeaves (c ∷ cs) = Leaves c.0 × Leaves c.1 × AllLeaves cs

-- What a run left on top, with the counts of its stages.
abbrev top : List ℕ → List Machine → Made
top counts [] = refused 0
top counts (M ∷ rest) = made counts M

abbrev pub top_of : Ran → Made
top_of (ran counts s) = top counts s.stack
top_of (failed r) = refused r
top_of stuck = refused 0

-- ---- laws of rows of stages

after_nothing : (r : Made) → after [] r ≡ r
after_nothing (made cs M) = refl
after_nothing (refused r) = refl

after_twice : (cs ds : List ℕ) (r : Made) → after cs (after ds r) ≡ after (cs ++ ds) r
after_twice cs ds (made es M) = ap (λ l. made l M) (sym (append_assoc cs ds es))
after_twice cs ds (refused r) = refl

top_after : (cs : List ℕ) (r : Ran) → top_of (after_ran cs r) ≡ after cs (top_of r)
top_after cs (ran more s) = go s.stack
  where
    go : (ms : List Machine) → top (cs ++ more) ms ≡ after cs (top more ms)
    go [] = refl
    go (M ∷ ms) = refl
top_after cs (failed r) = refl
top_after cs stuck = refl

pub then_same : (m : Made) (f g : Machine → Made) → ((M : Machine) → f M ≡ g M) → then_made m f ≡ then_made m g
then_same (made cs M) f g h = ap (after cs) (h M)
then_same (refused r) f g h = refl

pub then_row : (m : Made) (f g : Machine → Made) → then_made (then_made m f) g ≡ then_made m (λ M. then_made (f M) g)
then_row (made cs M) f g = go (f M)
  where
    go : (r : Made) → then_made (after cs r) g ≡ after cs (then_made r g)
    go (made ds N) = sym (after_twice cs ds (g N))
    go (refused r) = refl
then_row (refused r) f g = refl

pub then_present : (M : Machine) (f : Machine → Made) → then_made (present M) f ≡ f M
then_present M f = after_nothing (f M)

module _ (fmt : Format) (ls : List ℕ) (env : List (ℕ × Machine)) (kept : Machine) where
  abbrev k : ℕ
  k = suc (length ls)

  abbrev store : List Machine → Machine → Machine → Store
  store st P R = record { stack = st; pattern = P; right = R }

  -- what the program q leaves on top
  abbrev leaves : List ℕ → List Machine → Machine → Machine → Made
  leaves q st P R = top_of (execute fmt ls env kept q (store st P R))

  pushed : (c : ℕ) (q : List ℕ) (s : Store) (rest : List Machine) (m : Made) → step fmt ls env kept s c ≡ push_made s rest m
      → top_of (execute fmt ls env kept (c ∷ q) s) ≡ then_made m (λ M. leaves q (M ∷ rest) s.pattern s.right)
  unfolding execute
  pushed c q s rest m e = ap (λ r. top_of (then_ran r (execute fmt ls env kept q))) e ∙ go m
    where
      go : (m : Made) → top_of (then_ran (push_made s rest m) (execute fmt ls env kept q)) ≡ then_made m (λ M. leaves q (M ∷ rest) s.pattern s.right)
      go (made cs M) = top_after cs (execute fmt ls env kept q (store (M ∷ rest) s.pattern s.right))
      go (refused r) = refl

  given : (c : ℕ) (q : List ℕ) (s : Store) (M : Machine) → step fmt ls env kept s c ≡ push_made s s.stack (present M)
      → top_of (execute fmt ls env kept (c ∷ q) s) ≡ leaves q (M ∷ s.stack) s.pattern s.right
  given c q s M e = pushed c q s s.stack (present M) e ∙ then_present M (λ M. leaves q (M ∷ s.stack) s.pattern s.right)

  stored : (c : ℕ) (q : List ℕ) (s t : Store) → step fmt ls env kept s c ≡ ran [] t → top_of (execute fmt ls env kept (c ∷ q) s) ≡ top_of (execute fmt ls env kept q t)
  unfolding execute
  stored c q s t e = ap (λ r. top_of (then_ran r (execute fmt ls env kept q))) e ∙ top_after [] (execute fmt ls env kept q t) ∙ after_nothing (top_of (execute fmt ls env kept q t))

  nothing_more : (m : Made) (P R : Machine) → then_made m (λ M. leaves [] (M ∷ []) P R) ≡ m
  unfolding execute
  nothing_more (made cs M) P R = ap (λ l. made l M) (append-nil cs)
  nothing_more (refused r) P R = refl

  -- one of two machines, with the second on top
  pair_leaves : (o : Pairing) (q : List ℕ) (A B : Machine) (st : List Machine) (P R : Machine) → leaves (pair_code o ∷ q) (B ∷ A ∷ st) P R ≡ then_made (pair_stage fmt k o A B) (λ M. leaves q (M ∷ st) P R)
  unfolding step
  pair_leaves either q A B st P R = pushed 124 q (store (B ∷ A ∷ st) P R) st (pair_stage fmt k either A B) refl
  pair_leaves both q A B st P R = pushed 38 q (store (B ∷ A ∷ st) P R) st (pair_stage fmt k both A B) refl
  pair_leaves without q A B st P R = pushed 45 q (store (B ∷ A ∷ st) P R) st (pair_stage fmt k without A B) refl

  -- EXPRESSIONS: their code leaves on top, behind the same counts, the machine that the expression keeps.
  pub expression_leaves : (e : Expr) → Leaves e → (q : List ℕ) (st : List Machine) (P R : Machine)
      → leaves (postfix e ++ q) st P R ≡ then_made (evaluate fmt ls env e) (λ M. leaves q (M ∷ st) P R)
  unfolding evaluate step
  expression_leaves (letter b) h q st P R = pushed b q (store st P R) st (present (letter_machine (length ls) (column ls b))) (rw h)
  expression_leaves (name b) h q st P R = pushed b q (store st P R) st (present (lookup b (empty_machine (length ls)) env)) (rw (name_no b h, h))
    where
      name_no : (b : ℕ) → is_name b ≡ true → is_letter b ≡ false
      name_no b h = ap (λ n. eqb n 1) (nat_test.sound (kind_of b) 2 h)
  expression_leaves dot h q st P R = pushed 46 q (store st P R) st (present (dot_machine (length ls))) refl
  expression_leaves empty h q st P R = pushed 64 q (store st P R) st (present (empty_machine (length ls))) refl
  expression_leaves (pair o e f) (h, g) q st P R =
      ap (λ l. leaves l st P R) (append_assoc (postfix e) (postfix f ++ (pair_code o ∷ [])) q ∙ ap (λ l. postfix e ++ l) (append_assoc (postfix f) (pair_code o ∷ []) q))
      ∙ expression_leaves e h (postfix f ++ (pair_code o ∷ q)) st P R
      ∙ then_same (evaluate fmt ls env e) _ _ (λ A. expression_leaves f g (pair_code o ∷ q) (A ∷ st) P R ∙ then_same (evaluate fmt ls env f) _ _ (λ B. pair_leaves o q A B st P R)
      ∙ sym (then_row (evaluate fmt ls env f) (λ B. pair_stage fmt k o A B) (λ M. leaves q (M ∷ st) P R)))
      ∙ sym (then_row (evaluate fmt ls env e) (λ A. then_made (evaluate fmt ls env f) λ B. pair_stage fmt k o A B) (λ M. leaves q (M ∷ st) P R))
  expression_leaves (join e f) (h, g) q st P R =
      ap (λ l. leaves l st P R) (append_assoc (postfix e) (postfix f ++ (join_code ∷ [])) q ∙ ap (λ l. postfix e ++ l) (append_assoc (postfix f) (join_code ∷ []) q))
      ∙ expression_leaves e h (postfix f ++ (join_code ∷ q)) st P R
      ∙ then_same (evaluate fmt ls env e) _ _ (λ A. expression_leaves f g (join_code ∷ q) (A ∷ st) P R
      ∙ then_same (evaluate fmt ls env f) _ _ (λ B. pushed join_code q (store (B ∷ A ∷ st) P R) st (concat_stage fmt k A B) refl)
      ∙ sym (then_row (evaluate fmt ls env f) (λ B. concat_stage fmt k A B) (λ M. leaves q (M ∷ st) P R)))
      ∙ sym (then_row (evaluate fmt ls env e) (λ A. then_made (evaluate fmt ls env f) λ B. concat_stage fmt k A B) (λ M. leaves q (M ∷ st) P R))
  expression_leaves (star e) h q st P R =
      ap (λ l. leaves l st P R) (append_assoc (postfix e) (42 ∷ []) q) ∙ expression_leaves e h (42 ∷ q) st P R
      ∙ then_same (evaluate fmt ls env e) _ _ (λ A. pushed 42 q (store (A ∷ st) P R) st (star_stage fmt k A) refl)
      ∙ sym (then_row (evaluate fmt ls env e) (λ A. star_stage fmt k A) (λ M. leaves q (M ∷ st) P R))
  expression_leaves (plus e) h q st P R =
      ap (λ l. leaves l st P R) (append_assoc (postfix e) (43 ∷ []) q) ∙ expression_leaves e h (43 ∷ q) st P R
      ∙ then_same (evaluate fmt ls env e) _ _ (λ A. pushed 43 q (store (A ∷ st) P R) st (then_made (star_stage fmt k A) λ B. concat_stage fmt k A B) refl)
      ∙ sym (then_row (evaluate fmt ls env e) (λ A. then_made (star_stage fmt k A) λ B. concat_stage fmt k A B) (λ M. leaves q (M ∷ st) P R))
  expression_leaves (option e) h q st P R =
      ap (λ l. leaves l st P R) (append_assoc (postfix e) (63 ∷ []) q) ∙ expression_leaves e h (63 ∷ q) st P R
      ∙ then_same (evaluate fmt ls env e) _ _ (λ A. pushed 63 q (store (A ∷ st) P R) st (pair_stage fmt k either (empty_machine (length ls)) A) refl)
      ∙ sym (then_row (evaluate fmt ls env e) (λ A. pair_stage fmt k either (empty_machine (length ls)) A) (λ M. leaves q (M ∷ st) P R))
  expression_leaves (complement e) h q st P R =
      ap (λ l. leaves l st P R) (append_assoc (postfix e) (33 ∷ []) q) ∙ expression_leaves e h (33 ∷ q) st P R
      ∙ then_same (evaluate fmt ls env e) _ _ (λ A. pushed 33 q (store (A ∷ st) P R) st (pair_stage fmt k without (all_machine (length ls)) A) refl)
      ∙ sym (then_row (evaluate fmt ls env e) (λ A. pair_stage fmt k without (all_machine (length ls)) A) (λ M. leaves q (M ∷ st) P R))

  -- a given machine and then the joining of the two topmost
  joined : (c : ℕ) (q : List ℕ) (A B : Machine) (st : List Machine) (P R : Machine) → step fmt ls env kept (store (A ∷ st) P R) c ≡ push_made (store (A ∷ st) P R) (A ∷ st) (present B)
      → leaves (c ∷ (join_code ∷ q)) (A ∷ st) P R ≡ then_made (concat_stage fmt k A B) (λ M. leaves q (M ∷ st) P R)
  unfolding step
  joined c q A B st P R e = given c (join_code ∷ q) (store (A ∷ st) P R) B e ∙ pushed join_code q (store (B ∷ A ∷ st) P R) st (concat_stage fmt k A B) refl

  -- L M P M R, with L on top
  marked_leaves : (c : ℕ) (B : Machine) (q : List ℕ) (L : Machine) (st : List Machine) (P R : Machine)
      → ((A : Machine) → step fmt ls env kept (store (A ∷ st) P R) c ≡ push_made (store (A ∷ st) P R) (A ∷ st) (present B))
      → leaves (2 ∷ (join_code ∷ (3 ∷ (join_code ∷ (2 ∷ (join_code ∷ (c ∷ (join_code ∷ q)))))))) (L ∷ st) P R ≡ then_made (marked_stages fmt (length ls) L P B) (λ M. leaves q (M ∷ st) P R)
  unfolding marked_stages step
  marked_leaves c B q L st P R e =
      joined 2 _ L (mark_machine (length ls)) st P R refl
      ∙ then_same (concat_stage fmt k L (mark_machine (length ls))) _ _ (λ A. joined 3 _ A P st P R refl
      ∙ then_same (concat_stage fmt k A P) _ _ (λ C. joined 2 _ C (mark_machine (length ls)) st P R refl
      ∙ then_same (concat_stage fmt k C (mark_machine (length ls))) _ _ (λ D. joined c q D B st P R (e D))
      ∙ sym (then_row (concat_stage fmt k C (mark_machine (length ls))) (λ D. concat_stage fmt k D B) (λ M. leaves q (M ∷ st) P R)))
      ∙ sym (then_row (concat_stage fmt k A P) (λ C. then_made (concat_stage fmt k C (mark_machine (length ls))) λ D. concat_stage fmt k D B) (λ M. leaves q (M ∷ st) P R)))
      ∙ sym (then_row (concat_stage fmt k L (mark_machine (length ls))) (λ A. then_made (concat_stage fmt k A P) λ C. then_made (concat_stage fmt k C (mark_machine (length ls))) λ D. concat_stage fmt k D B) (λ M. leaves q (M ∷ st) P R))

  -- erase, `.*-E`, and `&` with the book so far
  abbrev finished : Machine → Made
  finished Y = then_made (erase_and_exclude fmt (length ls) Y) (λ R. pair_stage fmt k both kept R)

  finish_leaves : (Y P R : Machine) → leaves finish_program (Y ∷ []) P R ≡ finished Y
  unfolding erase_and_exclude step
  finish_leaves Y P R =
      pushed 7 _ (store (Y ∷ []) P R) [] (erase_stage fmt (length ls) Y) refl
      ∙ then_same (erase_stage fmt (length ls) Y) _ _ (λ E. pushed 33 _ (store (E ∷ []) P R) [] (pair_stage fmt k without (all_machine (length ls)) E) refl
      ∙ then_same (pair_stage fmt k without (all_machine (length ls)) E) _ _ (λ D. pushed 8 [] (store (D ∷ []) P R) [] (pair_stage fmt k both kept D) refl ∙ nothing_more (pair_stage fmt k both kept D) P R))
      ∙ sym (then_row (erase_stage fmt (length ls) Y) (λ E. pair_stage fmt k without (all_machine (length ls)) E) (λ R. pair_stage fmt k both kept R))

  -- one context, with l and r on the stack
  context_leaves : (c : Expr × Expr) → Leaves c.0 → Leaves c.1 → (q : List ℕ) (st : List Machine) (P R₀ : Machine) (f : Machine → Made)
      → ((C R : Machine) → leaves q (C ∷ st) P R ≡ f C)
      → leaves (postfix c.0 ++ (postfix c.1 ++ (context_program ++ q))) st P R₀ ≡ then_made (context_stages fmt ls env P c) f
  unfolding context_stages step
  context_leaves c h g q st P R₀ f rest =
      expression_leaves c.0 h _ st P R₀
      ∙ then_same (evaluate fmt ls env c.0) _ _ (λ L. expression_leaves c.1 g _ (L ∷ st) P R₀
      ∙ then_same (evaluate fmt ls env c.1) _ _ (λ B. stored store_right_code _ (store (B ∷ L ∷ st) P R₀) (store (L ∷ st) P B) refl
      ∙ marked_leaves right_code B q L st P B (λ A. refl)
      ∙ then_same (marked_stages fmt (length ls) L P B) _ _ (λ C. rest C B))
      ∙ sym (then_row (evaluate fmt ls env c.1) (λ B. marked_stages fmt (length ls) L P B) f))
      ∙ sym (then_row (evaluate fmt ls env c.0) (λ L. then_made (evaluate fmt ls env c.1) λ B. marked_stages fmt (length ls) L P B) f)

  contexts_leave : (o : Pairing) (cs : List (Expr × Expr)) → AllLeaves cs → (X P R : Machine) → leaves (contexts_program o cs) (X ∷ []) P R ≡ then_made (contexts_by fmt ls env o P cs X) finished
  unfolding contexts_by
  contexts_leave o [] h X P R = finish_leaves X P R ∙ sym (then_present X finished)
  contexts_leave o (c ∷ cs) (h, g, t) X P R =
      context_leaves c h g (pair_code o ∷ contexts_program o cs) (X ∷ []) P R (λ C. then_made (pair_stage fmt k o X C) λ Y. then_made (contexts_by fmt ls env o P cs Y) finished)
      (λ C B. pair_leaves o (contexts_program o cs) X C [] P B ∙ then_same (pair_stage fmt k o X C) _ _ (λ Y. contexts_leave o cs t Y P B))
      ∙ then_same (context_stages fmt ls env P c) _ _ (λ C. sym (then_row (pair_stage fmt k o X C) (λ Y. contexts_by fmt ls env o P cs Y) finished))
      ∙ sym (then_row (context_stages fmt ls env P c) (λ C. then_made (pair_stage fmt k o X C) λ Y. contexts_by fmt ls env o P cs Y) finished)

  union_leaves : (cs : List (Expr × Expr)) → AllLeaves cs → Some cs → (P R : Machine) → leaves (union_program cs) [] P R ≡ then_made (union_contexts fmt ls env P cs) finished
  unfolding union_contexts
  union_leaves [] t x P R = absurd x
  union_leaves (c ∷ cs) (h, g, t) x P R =
      context_leaves c h g (contexts_program either cs) [] P R (λ X. then_made (contexts_by fmt ls env either P cs X) finished) (λ X B. contexts_leave either cs t X P B)
      ∙ sym (then_row (context_stages fmt ls env P c) (λ X. contexts_by fmt ls env either P cs X) finished)

  set_leaves : (kind : RuleKind) (cs : List (Expr × Expr)) → AllLeaves cs → Enough kind cs → (P R : Machine) → leaves (set_program kind cs) [] P R ≡ then_made (marked_of fmt ls env kind P cs) finished
  unfolding marked_of step
  set_leaves restricts cs t x P R =
      given all_code _ (store [] P R) (all_machine (length ls)) refl
      ∙ marked_leaves all_code (all_machine (length ls)) (contexts_program without cs) (all_machine (length ls)) [] P R (λ A. refl)
      ∙ then_same (marked_stages fmt (length ls) (all_machine (length ls)) P (all_machine (length ls))) _ _ (λ X. contexts_leave without cs t X P R)
      ∙ sym (then_row (marked_stages fmt (length ls) (all_machine (length ls)) P (all_machine (length ls))) (λ X. contexts_by fmt ls env without P cs X) finished)
  set_leaves forbids cs t x P R = union_leaves cs t x P R
  set_leaves obliges cs t x P R = union_leaves cs t x P R

  -- RULES: their program leaves the book met with the rule.
  pub rule_leaves : (kind : RuleKind) (p : Expr) (cs : List (Expr × Expr)) → Leaves (pattern_of kind p) → AllLeaves cs → Enough kind cs → (P₀ R₀ : Machine)
      → leaves (program (rule kind p cs)) [] P₀ R₀ ≡ then_made (evaluate_rule fmt ls env kind p cs) (λ R. pair_stage fmt k both kept R)
  unfolding evaluate_rule step
  rule_leaves kind p cs h t x P₀ R₀ =
      expression_leaves (pattern_of kind p) h (store_pattern_code ∷ set_program kind cs) [] P₀ R₀
      ∙ then_same (evaluate fmt ls env (pattern_of kind p)) _ _ (λ P. stored store_pattern_code _ (store (P ∷ []) P₀ R₀) (store [] P R₀) refl
      ∙ set_leaves kind cs t x P R₀
      ∙ sym (then_row (marked_of fmt ls env kind P cs) (λ Y. erase_and_exclude fmt (length ls) Y) (λ R. pair_stage fmt k both kept R)))
      ∙ sym (then_row (evaluate fmt ls env (pattern_of kind p)) (λ P. then_made (marked_of fmt ls env kind P cs) λ Y. erase_and_exclude fmt (length ls) Y) (λ R. pair_stage fmt k both kept R))

  -- DEFINITIONS: their program leaves the machine of the name.
  pub define_leaves : (x : ℕ) (e : Expr) → Leaves e → (P₀ R₀ : Machine) → leaves (program (define x e)) [] P₀ R₀ ≡ evaluate fmt ls env e
  define_leaves x e h P₀ R₀ =
      ap (λ l. leaves l [] P₀ R₀) (sym (append-nil (postfix e))) ∙ expression_leaves e h [] [] P₀ R₀ ∙ nothing_more (evaluate fmt ls env e) P₀ R₀
