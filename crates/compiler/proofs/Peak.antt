-- Laws of what specs/Peak.antt defines.
use Rattle.std.specs.Prelude.{◌≡◌, refl, List, [], ◌∷◌, ◌++◌, ℕ, zero, suc, ◌≤◌, ◌<◌, max, length, get_or}
use Rattle.std.proofs.Common.{sym, subst, ◌∙◌, inl, inr, append_assoc, append-nil, suc-le-suc, not-suc-le-zero, le_of_suc-le-suc, zero-lt-suc, arith}
use Rattle.automata.specs.Format.{Format}
use Rattle.automata.specs.Basics.{LtCases, lt_cases}
use Rattle.automata.specs.Machine.{Machine}
use Rattle.automata.specs.Stage.{Made, made, refused, after, kept_one, too_many_sets, too_many_states}
use Rattle.automata.proofs.Stage.{smallest_one, counts_unique}
use Rattle.automata.specs.Exactly.{Then, goes, fails, Given, given}
use Rattle.automata.specs.Given.{all_machine}
use Rattle.automata.specs.Stages.{Pairing, either, both, without}
use Rattle.language.specs.Restriction.{RuleKind, restricts, forbids, obliges}
use Rattle.language.specs.Environment.{names_of}
use Rattle.language.specs.Evaluate.{pattern_of}
use Rattle.language.specs.Expression.{Expr, letter, name, dot, empty, pair, join, star, plus, option, complement}
use Rattle.language.specs.Makes.{Pairs, Joins, Stars, Erasing, Makes, MakesMarked, MakesContext, MakesContexts, MakesUnion, MakesSet, MakesRule}
use Rattle.book.specs.Text.{Line, lines_of, letters_of, Form, define, rule, malformed}
use Rattle.book.specs.Line.{reads, letters}
use Rattle.book.proofs.HeadLaws.{head_letters}
use Rattle.compiler.specs.Allows.{book_letters}
use Rattle.compiler.specs.Book.{Draft, BookResult, done, stopped, start_draft, compile_book}
use Rattle.compiler.specs.Outcome.{most}
use Rattle.compiler.specs.Table.{MakesLine, advance, LinesSay, line_stops, stage_stops, goes_on, all_lines, BookSays, no_bytes, head_stops, head_goes}
use Rattle.compiler.proofs.Table.{line_form, head_form, accepted_says}
use Rattle.compiler.specs.BookStages.{Stage, pairs, joins, stars, erases, Reaches, Leaves, Row, gives, makes, and_then, StageIn, first, later, expression_stages, marked_stages, context_stages, contexts_stages, union_stages, set_stages, rule_stages, form_stages, line_stages, book_stages, Attained, Peak}
use Rattle.compiler.specs.Peak.{Counted, none, one}

-- No count is greater.
pub most_greatest : (cs : List ℕ) (i : ℕ) → i < length cs → get_or cs i 0 ≤ most cs
most_greatest [] i h = absurd (not-suc-le-zero h)
most_greatest (c ∷ cs) zero h = omega arith
most_greatest (c ∷ cs) (suc i) h = omega (arith, most_greatest cs i (le_of_suc-le-suc h))

-- One of the counts it is.
pub most_attained : (cs : List ℕ) → 0 < length cs → (i : ℕ) × (i < length cs) × (get_or cs i 0 ≡ most cs)
most_attained [] h = absurd (not-suc-le-zero h)
most_attained (c ∷ []) h = (zero, h, omega arith)
most_attained (c ∷ d ∷ cs) h = go (lt_cases c (most (d ∷ cs))) (most_attained (d ∷ cs) (zero-lt-suc (length cs)))
  where
    go : LtCases c (most (d ∷ cs)) → (i : ℕ) × (i < length (d ∷ cs)) × (get_or (d ∷ cs) i 0 ≡ most (d ∷ cs)) → (i : ℕ) × (i < length (c ∷ d ∷ cs)) × (get_or (c ∷ d ∷ cs) i 0 ≡ max c (most (d ∷ cs)))
    go (inl p) (i, b, e) = (suc i, suc-le-suc b, omega arith)
    go (inr p) x = (zero, zero-lt-suc (suc (length cs)), omega arith)

-- ---- a row that was made, its stages counted

module _ (m : ℕ) where
  -- what a stage keeps is one machine
  leaves_one : (s : Stage) (M N : Machine) → Leaves m s M → Leaves m s N → M ≡ N
  leaves_one (pairs o A B) M N a b = smallest_one (suc m) _ M N a b
  leaves_one (joins A B) M N a b = smallest_one (suc m) _ M N a b
  leaves_one (stars A) M N a b = smallest_one (suc m) _ M N a b
  leaves_one (erases U) M N a b = smallest_one (suc m) _ M N a b

  -- each number is that of a stage,
  number_stage : (p : Row) (ns : List ℕ) (N : Machine) → Counted m p ns N → (i : ℕ) → i < length ns → (s : Stage) × StageIn m p s × Reaches m s (get_or ns i 0)
  number_stage p ns N (none M) i h = absurd (not-suc-le-zero h)
  number_stage p ns N (one s f n M ms K r l c) zero h = (s, first s f, r)
  number_stage p ns N (one s f n M ms K r l c) (suc i) h =
      let (t, x, q) = number_stage (f M) ms K c i (le_of_suc-le-suc h) in
      (t, later s t f M l x, q)

  -- and each stage has its number.
  stage_number : (p : Row) (t : Stage) → StageIn m p t → (ns : List ℕ) (N : Machine) → Counted m p ns N → (i : ℕ) × (i < length ns) × Reaches m t (get_or ns i 0)
  stage_number p t (first s f) ns N (one s' f' n M ms K r l c) = (zero, zero-lt-suc (length ms), r)
  stage_number p t (later s t' f M l x) ns N (one s' f' n K ms N' r k c) =
      let (i, h, q) = stage_number (f M) t x ms N (subst (λ K. Counted m (f K) ms N) (leaves_one s K M k l) c) in
      (suc i, suc-le-suc h, q)

  counted_then : (p : Row) (f : Machine → Row) (cs : List ℕ) (A : Machine) (ds : List ℕ) (N : Machine) → Counted m p cs A → Counted m (f A) ds N → Counted m (and_then p f) (cs ++ ds) N
  counted_then p f cs A ds N (none M) d = d
  counted_then p f cs A ds N (one s g n M ns B r l c) d = one s (λ K. and_then (g K) f) n M (ns ++ ds) N r l (counted_then (g M) f ns B ds N c d)

  -- The same of what was made, if it was.
  abbrev Made_of : Row → Made → Type 0
  Made_of p (made counts M) = Counted m p counts M
  Made_of p (refused r) = Unit {0}

  given_made : (M : Machine) (r : Made) → Given M r → Made_of (gives M) r
  given_made M r given = none M

  then_made_lem : (p : Row) (f : Machine → Row) (P : Made → Type 0) (Q : Machine → Made → Type 0) → ((r : Made) → P r → Made_of p r) → ((M : Machine) (r : Made) → Q M r → Made_of (f M) r)
      → (r : Made) → Then P Q r → Made_of (and_then p f) r
  then_made_lem p f P Q a b r (goes counts M s x y) = behind s (b M s y)
    where
      behind : (s : Made) → Made_of (f M) s → Made_of (and_then p f) (after counts s)
      behind (made more N) c = counted_then p f counts M more N (a (made counts M) x) c
      behind (refused r) c = tt
  then_made_lem p f P Q a b r (fails n x) = tt

-- ---- the stages of expressions, rules and lines are counted

module _ (fmt : Format) (m : ℕ) where
  pairs_made : (o : Pairing) (A B : Machine) (r : Made) → Pairs fmt (suc m) o A B r → Made_of m (makes (pairs o A B) gives) r
  pairs_made o A B r (kept_one n M C h s b) = one (pairs o A B) gives n M [] M C s (none M)
  pairs_made o A B r (too_many_sets c) = tt
  pairs_made o A B r (too_many_states n M C h s b) = tt

  joins_made : (A B : Machine) (r : Made) → Joins fmt (suc m) A B r → Made_of m (makes (joins A B) gives) r
  joins_made A B r (kept_one n M C h s b) = one (joins A B) gives n M [] M C s (none M)
  joins_made A B r (too_many_sets c) = tt
  joins_made A B r (too_many_states n M C h s b) = tt

  stars_made : (A : Machine) (r : Made) → Stars fmt (suc m) A r → Made_of m (makes (stars A) gives) r
  stars_made A r (kept_one n M C h s b) = one (stars A) gives n M [] M C s (none M)
  stars_made A r (too_many_sets c) = tt
  stars_made A r (too_many_states n M C h s b) = tt

  erases_made : (U : Machine) (r : Made) → Erasing fmt m U r → Made_of m (makes (erases U) gives) r
  erases_made U r (kept_one n M C h s b) = one (erases U) gives n M [] M C s (none M)
  erases_made U r (too_many_sets c) = tt
  erases_made U r (too_many_states n M C h s b) = tt

module _ (fmt : Format) (ls : List ℕ) (env : List (ℕ × Machine)) where
  abbrev m : ℕ
  m = length ls

  abbrev E : Expr → Row
  E = expression_stages ls env

  expression_made : (e : Expr) (r : Made) → Makes fmt ls env e r → Made_of m (expression_stages ls env e) r
  expression_made (letter b) = given_made m _
  expression_made (name b) = given_made m _
  expression_made dot = given_made m _
  expression_made empty = given_made m _
  expression_made (pair o e f) = then_made_lem m (E e) _ _ _ (expression_made e) λ A. then_made_lem m (E f) _ _ _ (expression_made f) λ B. pairs_made fmt m o A B
  expression_made (join e f) = then_made_lem m (E e) _ _ _ (expression_made e) λ A. then_made_lem m (E f) _ _ _ (expression_made f) λ B. joins_made fmt m A B
  expression_made (star e) = then_made_lem m (E e) _ _ _ (expression_made e) λ A. stars_made fmt m A
  expression_made (plus e) = then_made_lem m (E e) _ _ _ (expression_made e) λ A. then_made_lem m _ _ _ _ (stars_made fmt m A) λ B. joins_made fmt m A B
  expression_made (option e) = then_made_lem m (E e) _ _ _ (expression_made e) λ A. pairs_made fmt m _ _ A
  expression_made (complement e) = then_made_lem m (E e) _ _ _ (expression_made e) λ A. pairs_made fmt m _ _ A

  marked_made : (L P R : Machine) (r : Made) → MakesMarked fmt ls env L P R r → Made_of m (marked_stages (length ls) L P R) r
  marked_made L P R =
      then_made_lem m _ _ _ _ (joins_made fmt m L _) λ A.
      then_made_lem m _ _ _ _ (joins_made fmt m A P) λ B.
      then_made_lem m _ _ _ _ (joins_made fmt m B _) λ C.
      joins_made fmt m C R

  context_made : (P : Machine) (c : Expr × Expr) (r : Made) → MakesContext fmt ls env P c r → Made_of m (context_stages ls env P c) r
  context_made P c =
      then_made_lem m (E c.0) _ _ _ (expression_made c.0) λ L.
      then_made_lem m (E c.1) _ _ _ (expression_made c.1) λ R.
      marked_made L P R

  contexts_made : (o : Pairing) (P : Machine) (cs : List (Expr × Expr)) (X : Machine) (r : Made) → MakesContexts fmt ls env o P cs X r → Made_of m (contexts_stages ls env o P cs X) r
  contexts_made o P [] X = given_made m X
  contexts_made o P (c ∷ cs) X =
      then_made_lem m (context_stages ls env P c) _ _ _ (context_made P c) λ C.
      then_made_lem m _ _ _ _ (pairs_made fmt m o X C) λ Y.
      contexts_made o P cs Y

  union_made : (P : Machine) (cs : List (Expr × Expr)) (r : Made) → MakesUnion fmt ls env P cs r → Made_of m (union_stages ls env P cs) r
  union_made P [] = λ r m. absurd m
  union_made P (c ∷ cs) = then_made_lem m (context_stages ls env P c) _ _ _ (context_made P c) λ X. contexts_made either P cs X

  set_made : (kind : RuleKind) (P : Machine) (cs : List (Expr × Expr)) (r : Made) → MakesSet fmt ls env kind P cs r → Made_of m (set_stages ls env kind P cs) r
  set_made restricts P cs =
      then_made_lem m (marked_stages (length ls) (all_machine (length ls)) P (all_machine (length ls))) _ _ _ (marked_made (all_machine (length ls)) P (all_machine (length ls))) λ X.
      contexts_made without P cs X
  set_made forbids P cs = union_made P cs
  set_made obliges P cs = union_made P cs

  rule_made : (kind : RuleKind) (p : Expr) (cs : List (Expr × Expr)) (r : Made) → MakesRule fmt ls env kind p cs r → Made_of m (rule_stages ls env kind p cs) r
  rule_made kind p cs =
      then_made_lem m (E (pattern_of kind p)) _ _ _ (expression_made (pattern_of kind p)) λ P.
      then_made_lem m (set_stages ls env kind P cs) _ _ _ (set_made kind P cs) λ Y.
      then_made_lem m _ _ _ _ (erases_made fmt m Y) λ E.
      pairs_made fmt m _ _ E

-- ---- the stages of a book are counted

module _ (fmt : Format) (ls : List ℕ) where
  -- Behind the lines the counts are those of their stages.
  record Behind (p : Row) (d d' : Draft) : Type 0 where
    numbers : List ℕ
    counts : d'.counts ≡ d.counts ++ numbers
    counted : Counted (length ls) p numbers d'.kept

  abbrev BehindLines : Row → Draft → BookResult → Type 0
  BehindLines p d (done ls' d') = Behind p d d'
  BehindLines p d (stopped r at) = Unit {0}

  -- a line's own stages in front
  behind : (p : Row) (f : Machine → Row) (d d₁ : Draft) (counts : List ℕ) (M : Machine) → Counted (length ls) p counts M → d₁.counts ≡ d.counts ++ counts
      → (b : BookResult) → BehindLines (f M) d₁ b → BehindLines (and_then p f) d b
  behind p f d d₁ counts M c e (done ls' d') B = record {
    numbers = counts ++ B.numbers;
    counts = B.counts ∙ (λ i. e i ++ B.numbers) ∙ append_assoc d.counts counts B.numbers;
    counted = counted_then (length ls) p f counts M B.numbers d'.kept c B.counted;
  }
  behind p f d d₁ counts M c e (stopped r at) B = tt

  form_counted : (d : Draft) (F : Form) (rest : List (ℕ × Machine) → Machine → Row) (counts : List ℕ) (M : Machine) → MakesLine fmt ls d F (made counts M)
      → (b : BookResult) → BehindLines (rest (advance fmt d F counts M).env (advance fmt d F counts M).kept) (advance fmt d F counts M) b → BehindLines (form_stages ls d.env d.kept F rest) d b
  form_counted d (define x e) rest counts M h =
      behind (expression_stages ls d.env e) (λ M. rest ((x, M) ∷ d.env) d.kept) d _ counts M (expression_made fmt ls d.env e (made counts M) h) refl
  form_counted d (rule kind p cs) rest counts M h =
      behind (and_then (rule_stages ls d.env kind p cs) λ R. makes (pairs both d.kept R) gives) (λ M. rest d.env M) d _ counts M rule_counted refl
    where
      rule_counted : Counted (length ls) (and_then (rule_stages ls d.env kind p cs) λ R. makes (pairs both d.kept R) gives) counts M
      rule_counted = then_made_lem (length ls) (rule_stages ls d.env kind p cs) _ _ _ (rule_made fmt ls d.env kind p cs) (λ R. pairs_made fmt (length ls) both d.kept R) (made counts M) h
  form_counted d malformed rest counts M h = λ b B. absurd h

  lines_counted : (lines : List Line) (at : ℕ) (d : Draft) (b : BookResult) → LinesSay fmt ls lines at d b → BehindLines (line_stages lines ls d.env d.kept) d b
  lines_counted lines at d b all_lines = record { numbers = []; counts = sym (append-nil d.counts); counted = none d.kept }
  lines_counted (l ∷ rest) at d b (line_stops s) = tt
  lines_counted (l ∷ rest) at d b (stage_stops F s m) = tt
  lines_counted (l ∷ rest) at d b (goes_on F counts M s m t) =
      subst (λ G. BehindLines (form_stages ls d.env d.kept G (λ env₁ kept₁. line_stages rest ls env₁ kept₁)) d b) (sym (line_form ls (names_of d.env) l (reads F) s).0)
      (form_counted d F _ counts M m b (lines_counted rest (suc at) (advance fmt d F counts M) b t))

-- ---- the peak

BookCounted : List Line → BookResult → Type 0
BookCounted lines (done ls d) = Counted (length (book_letters lines)) (book_stages lines) d.counts d.kept
BookCounted lines (stopped r at) = Unit {0}

book_counted : (fmt : Format) (lines : List Line) (b : BookResult) → BookSays fmt lines b → BookCounted lines b
unfolding BookCounted
book_counted fmt lines b no_bytes = none (all_machine 0)
book_counted fmt (l ∷ rest) b (head_stops s) = tt
book_counted fmt (l ∷ rest) b (head_goes ls s t) = go b (head_letters fmt l ls (head_form fmt l (letters ls) s)) (lines_counted fmt ls rest 2 (start_draft (length ls)) b t)
  where
    go : (b : BookResult) → letters_of l ≡ ls → BehindLines fmt ls (line_stages rest ls [] (all_machine (length ls))) (start_draft (length ls)) b → BookCounted (l ∷ rest) b
    go (done ls' d) e B =
        let c : Counted (length ls) (line_stages rest ls [] (all_machine (length ls))) d.counts d.kept = rw B.counts B.counted in
        rw e c
    go (stopped r at) e B = tt

-- THE PEAK of an accepted book, of its stages.
pub book_peak : (fmt : Format) (text ls : List ℕ) (d : Draft) → compile_book fmt text ≡ done ls d → Peak text (most d.counts)
unfolding BookCounted
book_peak fmt text ls d e = record {
  reached = go d.counts c;
  most = λ s x.
      let (i, h, r) = stage_number m (book_stages (lines_of text)) s x d.counts d.kept c in
      (get_or d.counts i 0, r, most_greatest d.counts i h);
}
  where
    m : ℕ
    m = length (book_letters (lines_of text))

    c : BookCounted (lines_of text) (done ls d)
    c = book_counted fmt (lines_of text) (done ls d) (accepted_says fmt text ls d e)

    go : (ns : List ℕ) → Counted m (book_stages (lines_of text)) ns d.kept → Attained text (most ns)
    go [] k = inr (λ s x. not-suc-le-zero (stage_number m (book_stages (lines_of text)) s x [] d.kept k).1, refl)
    go (n ∷ ns) k =
        let (i, h, q) = most_attained (n ∷ ns) (zero-lt-suc (length ns)) in
        let (s, x, r) = number_stage m (book_stages (lines_of text)) (n ∷ ns) d.kept k i h in
        inl (s, x, rw q at r)

-- One number only is the peak.
pub peak_one : (text : List ℕ) (n k : ℕ) → Peak text n → Peak text k → n ≡ k
peak_one text n k P Q = omega (arith, below n k P Q, below k n Q P)
  where
    m : ℕ
    m = length (book_letters (lines_of text))

    one_number : (s : Stage) (a b : ℕ) → Reaches m s a → Reaches m s b → a ≡ b
    one_number (pairs o A B) a b = counts_unique (suc m) _ a b
    one_number (joins A B) a b = counts_unique (suc m) _ a b
    one_number (stars A) a b = counts_unique (suc m) _ a b
    one_number (erases U) a b = counts_unique (suc m) _ a b

    below : (a b : ℕ) → Peak text a → Peak text b → a ≤ b
    below a b P Q = go P.reached
      where
        go : Attained text a → a ≤ b
        go (inl (s, x, r)) = let (j, q, h) = Q.most s x in omega (arith, one_number s a j r q, h)
        go (inr (f, z)) = omega (arith, z)
