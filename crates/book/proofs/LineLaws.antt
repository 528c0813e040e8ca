-- Laws of what specs/LineLaws.antt defines.
use Rattle.std.specs.Prelude.{◌≡◌, refl, true, false, ◌&&◌, ◌↔◌, ◌⊎◌, List, [], ◌∷◌, ◌++◌, eqb, ltb}
use Rattle.std.proofs.Common.{sym, ap, ◌∙◌, subst, inl, inr, arith}
use Rattle.std.proofs.Math.Bool.{Bool}
use Rattle.std.proofs.lemmas.Bool.{false≢true}
use Prim.Native.Nat.{ℕ, suc, ◌+◌, ◌≤◌, ◌<◌}
use Rattle.automata.specs.Booleans.{choose, bool_cases}
use Rattle.automata.specs.Basics.{LtCases, lt_cases, nat_test}
use Rattle.automata.specs.Decide.{contradict}
use Rattle.language.specs.Expression.{member}
use Rattle.language.specs.Environment.{known, all_known}
use Rattle.book.specs.Kind.{kind_of, open_kind, close_kind, underscore_kind}
use Rattle.book.specs.Text.{Line, too_deep, count_of, line_test, Form, define, rule, malformed, form_of, unless}
use Rattle.book.specs.LineGrammar.{LineForm, squeezed}
use Rattle.book.proofs.LineGrammar.{form_whole, define_exact, rule_exact, malformed_exact}
use Rattle.book.specs.Line.{LineRead, reads, stops, check_form, read_line}
use Rattle.book.specs.LineLaws.{Countable, KnownForm, LineSays, NewName, PassesFour, duplicate_name, malformed_line, nesting_too_deep, no_line_end, says, too_many_contexts, undefined_symbol}

-- ---- the count

module _ where
  abbrev Passes : ℕ → ℕ → List ℕ → Type 0
  Passes o c bs = (u : List ℕ) × (v : List ℕ) × (bs ≡ u ++ v) × (c + count_of close_kind u + 4 < o + count_of open_kind u)

  deep_sound : (bs : List ℕ) (o c : ℕ) → too_deep o c bs ≡ true → Passes o c bs
  deep_sound [] o c e = absurd (false≢true e)
  deep_sound (b ∷ bs) o c e = go (bool_cases (eqb (kind_of b) open_kind)) (bool_cases (eqb (kind_of b) close_kind)) e (λ o c. deep_sound bs o c)
    where
      longer : (o' c' : ℕ) → ((u : List ℕ) → c + count_of close_kind (b ∷ u) ≡ c' + count_of close_kind u) → ((u : List ℕ) → o + count_of open_kind (b ∷ u) ≡ o' + count_of open_kind u) → Passes o' c' bs → Passes o c (b ∷ bs)
      longer o' c' f g (u, v, q, h) = (b ∷ u, v, ap (λ l. b ∷ l) q, omega (arith, f u, g u))

      go : (eqb (kind_of b) open_kind ≡ true) ⊎ (eqb (kind_of b) open_kind ≡ false) → (eqb (kind_of b) close_kind ≡ true) ⊎ (eqb (kind_of b) close_kind ≡ false) → too_deep o c (b ∷ bs) ≡ true
          → ((o c : ℕ) → too_deep o c bs ≡ true → Passes o c bs) → Passes o c (b ∷ bs)
      go (inl x) (inl y) e ih = absurd (omega (arith, nat_test.sound (kind_of b) open_kind x, nat_test.sound (kind_of b) close_kind y))
      go (inl x) (inr y) e ih = at (lt_cases (c + 4) (suc o)) (rw x at e)
        where
          at : LtCases (c + 4) (suc o) → choose (ltb (c + 4) (suc o)) (λ _. true) (λ _. too_deep (suc o) c bs) ≡ true → Passes o c (b ∷ bs)
          at (inl p) e = (b ∷ [], bs, refl, rw (x, y) (omega (arith, p.0)))
          at (inr p) e = longer (suc o) c (λ u. rw y) (λ u. rw x (omega arith)) (ih (suc o) c (rw p.1 at e))
      go (inr x) (inl y) e ih = longer o (suc c) (λ u. rw y (omega arith)) (λ u. rw x) (ih o (suc c) (rw (x, y) at e))
      go (inr x) (inr y) e ih = longer o c (λ u. rw y) (λ u. rw x) (ih o c (rw (x, y) at e))

  deep_whole : (u v : List ℕ) (o c : ℕ) → o ≤ c + 4 → c + count_of close_kind u + 4 < o + count_of open_kind u → too_deep o c (u ++ v) ≡ true
  deep_whole [] v o c h p = absurd (omega arith)
  deep_whole (b ∷ u) v o c h p = go (bool_cases (eqb (kind_of b) open_kind)) (bool_cases (eqb (kind_of b) close_kind)) p (λ o c. deep_whole u v o c)
    where
      go : (eqb (kind_of b) open_kind ≡ true) ⊎ (eqb (kind_of b) open_kind ≡ false) → (eqb (kind_of b) close_kind ≡ true) ⊎ (eqb (kind_of b) close_kind ≡ false) → c + count_of close_kind (b ∷ u) + 4 < o + count_of open_kind (b ∷ u)
          → ((o c : ℕ) → o ≤ c + 4 → c + count_of close_kind u + 4 < o + count_of open_kind u → too_deep o c (u ++ v) ≡ true) → too_deep o c (b ∷ (u ++ v)) ≡ true
      go (inl x) (inl y) p ih = absurd (omega (arith, nat_test.sound (kind_of b) open_kind x, nat_test.sound (kind_of b) close_kind y))
      go (inl x) (inr y) p ih = rw x (at (lt_cases (c + 4) (suc o)) (rw (x, y) at p))
        where
          at : LtCases (c + 4) (suc o) → c + count_of close_kind u + 4 < o + suc (count_of open_kind u) → choose (ltb (c + 4) (suc o)) (λ _. true) (λ _. too_deep (suc o) c (u ++ v)) ≡ true
          at (inl z) p = rw z.1
          at (inr z) p = rw z.1 (ih (suc o) c z.0 (omega arith))
      go (inr x) (inl y) p ih = let p' : c + suc (count_of close_kind u) + 4 < o + count_of open_kind u = rw (x, y) at p in rw (x, y) (ih o (suc c) (omega arith) (omega arith))
      go (inr x) (inr y) p ih = rw (x, y) (ih o c h (rw (x, y) at p))

pub deep_exact : (bs : List ℕ) → (too_deep 0 0 bs ≡ true) ↔ PassesFour bs
deep_exact bs = (
  λ e. let (u, v, q, h) = deep_sound bs 0 0 e in (u, v, q, omega arith),
  λ (u, v, q, h). rw q (deep_whole u v 0 0 (omega arith) (omega arith)),
)

-- ---- the table's 3 to 7

module _ (ls names : List ℕ) (l : Line) where
  checked : Countable l.bytes → l.ended ≡ true → (F : Form) → form_of l.bytes ≡ F → LineSays ls names l (check_form ls names F)
  unfolding check_form
  checked C t malformed q = malformed_line C t ((malformed_exact l.bytes).0 q)
  checked C t (define x e) q = go (bool_cases (known ls names e)) (bool_cases (member x names))
    where
      f : LineForm (squeezed l.bytes) (define x e)
      f = (define_exact l.bytes x e).0 q

      go : (known ls names e ≡ true) ⊎ (known ls names e ≡ false) → (member x names ≡ true) ⊎ (member x names ≡ false)
          → LineSays ls names l (unless (known ls names e) (λ _. stops 6) λ _. choose (member x names) (λ _. stops 7) λ _. reads (define x e))
      go (inr k) m = rw k (undefined_symbol C t (define x e) f (λ y. contradict y k))
      go (inl k) (inl m) = rw (k, m) (duplicate_name C t (define x e) f k (λ y. contradict m y))
      go (inl k) (inr m) = rw (k, m) (says C t (define x e) f k m)
  checked C t (rule kind p cs) q = go (bool_cases (known ls names p && all_known ls names cs))
    where
      f : LineForm (squeezed l.bytes) (rule kind p cs)
      f = (rule_exact l.bytes kind p cs).0 q

      go : (known ls names p && all_known ls names cs ≡ true) ⊎ (known ls names p && all_known ls names cs ≡ false)
          → LineSays ls names l (unless (known ls names p && all_known ls names cs) (λ _. stops 6) λ _. reads (rule kind p cs))
      go (inr k) = rw k (undefined_symbol C t (rule kind p cs) f (λ y. contradict y k))
      go (inl k) = rw k (says C t (rule kind p cs) f k tt)

  -- THE LINE is read as the table says,
  pub line_says : LineSays ls names l (read_line ls names l)
  unfolding read_line line_test
  line_says = deep (bool_cases (too_deep 0 0 l.bytes)) (lt_cases 4 (count_of underscore_kind l.bytes)) (bool_cases l.ended)
    where
      test : Bool → Bool → Bool → ℕ
      test a b c = choose a (λ _. 3) λ _. choose b (λ _. 4) λ _. choose c (λ _. 0) (λ _. 5)

      result : Bool → Bool → Bool → LineRead
      result a b c = unless (eqb (test a b c) 0) (λ _. stops (test a b c)) λ _. check_form ls names (form_of l.bytes)

      deep : (too_deep 0 0 l.bytes ≡ true) ⊎ (too_deep 0 0 l.bytes ≡ false) → LtCases 4 (count_of underscore_kind l.bytes) → (l.ended ≡ true) ⊎ (l.ended ≡ false)
          → LineSays ls names l (result (too_deep 0 0 l.bytes) (ltb 4 (count_of underscore_kind l.bytes)) l.ended)
      deep (inl a) b c = rw a (nesting_too_deep ((deep_exact l.bytes).0 a))
      deep (inr a) (inl b) c = rw (a, b.1) (too_many_contexts (λ p. contradict ((deep_exact l.bytes).1 p) a) b.0)
      deep (inr a) (inr b) (inr c) = rw (a, b.1) (subst (λ t. LineSays ls names l (result false false t)) (sym c) (no_line_end (record { nesting = λ p. contradict ((deep_exact l.bytes).1 p) a; contexts = b.0 }) c))
      deep (inr a) (inr b) (inl c) = rw (a, b.1) (subst (λ t. LineSays ls names l (result false false t)) (sym c) (checked (record { nesting = λ p. contradict ((deep_exact l.bytes).1 p) a; contexts = b.0 }) c (form_of l.bytes) refl))

  -- and nothing else: one answer only is right.
  pub line_says_only : (r : LineRead) → LineSays ls names l r → read_line ls names l ≡ r
  line_says_only r s = go (read_line ls names l) r line_says s
    where
      one_form : (F G : Form) → LineForm (squeezed l.bytes) F → LineForm (squeezed l.bytes) G → F ≡ G
      one_form F G f g = sym (form_whole l.bytes F f) ∙ form_whole l.bytes G g

      go : (q r : LineRead) → LineSays ls names l q → LineSays ls names l r → q ≡ r
      go q r (nesting_too_deep p) (nesting_too_deep p') = refl
      go q r (nesting_too_deep p) (too_many_contexts n h) = absurd (n p)
      go q r (nesting_too_deep p) (no_line_end C t) = absurd (C.nesting p)
      go q r (nesting_too_deep p) (malformed_line C t n) = absurd (C.nesting p)
      go q r (nesting_too_deep p) (undefined_symbol C t F f k) = absurd (C.nesting p)
      go q r (nesting_too_deep p) (duplicate_name C t F f k n) = absurd (C.nesting p)
      go q r (nesting_too_deep p) (says C t F f k n) = absurd (C.nesting p)
      go q r (too_many_contexts n h) (nesting_too_deep p) = absurd (n p)
      go q r (too_many_contexts n h) (too_many_contexts n' h') = refl
      go q r (too_many_contexts n h) (no_line_end C t) = absurd (omega (arith, C.contexts))
      go q r (too_many_contexts n h) (malformed_line C t m) = absurd (omega (arith, C.contexts))
      go q r (too_many_contexts n h) (undefined_symbol C t F f k) = absurd (omega (arith, C.contexts))
      go q r (too_many_contexts n h) (duplicate_name C t F f k m) = absurd (omega (arith, C.contexts))
      go q r (too_many_contexts n h) (says C t F f k m) = absurd (omega (arith, C.contexts))
      go q r (no_line_end C t) (nesting_too_deep p) = absurd (C.nesting p)
      go q r (no_line_end C t) (too_many_contexts n h) = absurd (omega (arith, C.contexts))
      go q r (no_line_end C t) (no_line_end C' t') = refl
      go q r (no_line_end C t) (malformed_line C' t' m) = contradict t' t
      go q r (no_line_end C t) (undefined_symbol C' t' F f k) = contradict t' t
      go q r (no_line_end C t) (duplicate_name C' t' F f k m) = contradict t' t
      go q r (no_line_end C t) (says C' t' F f k m) = contradict t' t
      go q r (malformed_line C t m) (nesting_too_deep p) = absurd (C.nesting p)
      go q r (malformed_line C t m) (too_many_contexts n h) = absurd (omega (arith, C.contexts))
      go q r (malformed_line C t m) (no_line_end C' t') = contradict t t'
      go q r (malformed_line C t m) (malformed_line C' t' m') = refl
      go q r (malformed_line C t m) (undefined_symbol C' t' F f k) = absurd (m F f)
      go q r (malformed_line C t m) (duplicate_name C' t' F f k n) = absurd (m F f)
      go q r (malformed_line C t m) (says C' t' F f k n) = absurd (m F f)
      go q r (undefined_symbol C t F f k) (nesting_too_deep p) = absurd (C.nesting p)
      go q r (undefined_symbol C t F f k) (too_many_contexts n h) = absurd (omega (arith, C.contexts))
      go q r (undefined_symbol C t F f k) (no_line_end C' t') = contradict t t'
      go q r (undefined_symbol C t F f k) (malformed_line C' t' m) = absurd (m F f)
      go q r (undefined_symbol C t F f k) (undefined_symbol C' t' G g k') = refl
      go q r (undefined_symbol C t F f k) (duplicate_name C' t' G g k' n) = absurd (k (subst (KnownForm ls names) (one_form G F g f) k'))
      go q r (undefined_symbol C t F f k) (says C' t' G g k' n) = absurd (k (subst (KnownForm ls names) (one_form G F g f) k'))
      go q r (duplicate_name C t F f k n) (nesting_too_deep p) = absurd (C.nesting p)
      go q r (duplicate_name C t F f k n) (too_many_contexts m h) = absurd (omega (arith, C.contexts))
      go q r (duplicate_name C t F f k n) (no_line_end C' t') = contradict t t'
      go q r (duplicate_name C t F f k n) (malformed_line C' t' m) = absurd (m F f)
      go q r (duplicate_name C t F f k n) (undefined_symbol C' t' G g k') = absurd (k' (subst (KnownForm ls names) (one_form F G f g) k))
      go q r (duplicate_name C t F f k n) (duplicate_name C' t' G g k' n') = refl
      go q r (duplicate_name C t F f k n) (says C' t' G g k' n') = absurd (n (subst (NewName names) (one_form G F g f) n'))
      go q r (says C t F f k n) (nesting_too_deep p) = absurd (C.nesting p)
      go q r (says C t F f k n) (too_many_contexts m h) = absurd (omega (arith, C.contexts))
      go q r (says C t F f k n) (no_line_end C' t') = contradict t t'
      go q r (says C t F f k n) (malformed_line C' t' m) = absurd (m F f)
      go q r (says C t F f k n) (undefined_symbol C' t' G g k') = absurd (k' (subst (KnownForm ls names) (one_form F G f g) k))
      go q r (says C t F f k n) (duplicate_name C' t' G g k' n') = absurd (n' (subst (NewName names) (one_form F G f g) n))
      go q r (says C t F f k n) (says C' t' G g k' n') = ap reads (one_form F G f g)

  -- What holds of every refusal and of every form that is read holds of the line.
  pub line_elim : (P : LineRead → Type 0) → ((r : ℕ) → P (stops r)) → ((F : Form) → KnownForm ls names F → NewName names F → form_of l.bytes ≡ F → P (reads F)) → P (read_line ls names l)
  line_elim P off on = go (read_line ls names l) line_says
    where
      go : (r : LineRead) → LineSays ls names l r → P r
      go r (nesting_too_deep p) = off 3
      go r (too_many_contexts n h) = off 4
      go r (no_line_end C t) = off 5
      go r (malformed_line C t n) = off 5
      go r (undefined_symbol C t F f k) = off 6
      go r (duplicate_name C t F f k n) = off 7
      go r (says C t F f k n) = on F k n (form_whole l.bytes F f)
