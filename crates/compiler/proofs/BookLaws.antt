-- Laws of what specs/BookLaws.antt defines.
use Rattle.std.specs.Prelude.{◌≡◌, refl, Bool, true, false, ◌&&◌, ◌↔◌, List, [], ◌∷◌, ℕ, suc, length}
use Rattle.std.proofs.Common.{sym, ◌∙◌, subst}
use Rattle.automata.specs.Format.{Format}
use Rattle.automata.specs.Booleans.{and_left, and_right, and_both, and_true}
use Rattle.automata.specs.Automaton.{Over, over_more, accepts}
use Rattle.automata.specs.Machine.{Machine, automaton, Canonical}
use Rattle.automata.specs.Stage.{Made, made, Keeps}
use Rattle.automata.proofs.Stage.{then_keeps}
use Rattle.automata.specs.Exactly.{Exactly}
use Rattle.automata.proofs.Exactly.{then_exactly}
use Rattle.automata.specs.Stages.{both, pair_stage}
use Rattle.language.specs.Cuts.{Word}
use Rattle.language.specs.Language.{Language, all_words, all_words_sound, all_words_whole, intersection}
use Rattle.language.specs.Restriction.{demands}
use Rattle.language.specs.GivenLaws.{all_recognizes}
use Rattle.language.specs.Environment.{names_of, known, all_known}
use Rattle.language.specs.Evaluate.{evaluate_rule}
use Rattle.language.proofs.Makes.{makes_exactly, rule_exactly, pairs_exactly}
use Rattle.language.specs.Matches.{matches, contexts_in, Rule, obeys, Obeys}
use Rattle.language.proofs.Matches.{obeys_sound, obeys_whole}
use Rattle.language.specs.ExpressionLaws.{Right, right_same, right_marks, keeps_map, pair_right, expression_right}
use Rattle.language.proofs.RuleLaws.{rule_right}
use Rattle.book.specs.Line.{reads, letters}
use Rattle.book.specs.LineGrammar.{Contexted}
use Rattle.book.specs.LineLaws.{KnownForm}
use Rattle.book.specs.HeadLaws.{Letters}
use Rattle.book.proofs.HeadLaws.{head_letters}
use Rattle.book.specs.Text.{Line, lines_of, letters_of, Form, define, rule, malformed}
use Rattle.compiler.specs.Allows.{on_form, rules_of, book_letters, book_rules, allows_lines, allows}
use Rattle.compiler.specs.Book.{Draft, BookResult, done, stopped, start_draft, compile_book}
use Rattle.compiler.specs.Table.{MakesLine, advance, LinesSay, line_stops, stage_stops, goes_on, all_lines, BookSays, no_bytes, head_stops, head_goes}
use Rattle.compiler.proofs.Table.{line_form, head_form, accepted_says}
use Rattle.compiler.specs.BookLaws.{Accepts, DraftRight, LettersOf}

pub accepts_map : (P Q : List ℕ → Draft → Type 0) (r : BookResult) → ((ls : List ℕ) (d : Draft) → P ls d → Q ls d) → Accepts P r → Accepts Q r
accepts_map P Q (done ls d) f p = f ls d p
accepts_map P Q (stopped r l) f p = tt

module _ (fmt : Format) (ls : List ℕ) where
  abbrev m : ℕ
  m = length ls

  abbrev all : Language
  all = all_words (length ls)

  -- The kept machine is right for K with the rules rs.
  abbrev Final : Language → List Rule → List ℕ → Draft → Type 0
  Final K rs ls' d = Right (length ls') d.kept (λ w. K w && obeys rs w)

  -- What was made is what the stages answer, so what holds of that holds of it.
  made_keeps : (Q : Machine → Type 0) (P : Made → Type 0) (r : Made) (counts : List ℕ) (M : Machine) → Exactly P r → P (made counts M) → Keeps Q r → Q M
  made_keeps Q P r counts M e p q = subst (Keeps Q) (sym (e.only (made counts M) p)) q

  and_assoc : (a b c : Bool) → (a && b) && c ≡ a && (b && c)
  and_assoc true b c = refl
  and_assoc false b c = refl

  -- K has words of letters only, so that `.*` in it changes nothing
  meet : (K L : Language) → (M : Machine) → Right m M K → (w : Word) → K w && (all w && L w) ≡ K w && L w
  meet K L M r w = go (K w) refl
    where
      go : (b : Bool) → K w ≡ b → b && (all w && L w) ≡ b && L w
      go true e = rw (all_words_whole m w (r.letters w e))
      go false e = refl

  -- A line that was made, and the lines behind it.
  form_right : (rest : List Line) (d : Draft) (ys : List (ℕ × Language)) (K : Language) → DraftRight m d ys K → (F : Form) → KnownForm ls (names_of d.env) F → Contexted F
      → (counts : List ℕ) (M : Machine) → MakesLine fmt ls d F (made counts M) → (b : BookResult)
      → ((zs : List (ℕ × Language)) (L : Language) → DraftRight m (advance fmt d F counts M) zs L → Accepts (Final L (rules_of rest ls zs)) b)
      → Accepts (Final K (on_form ls ys F (λ env₁. rules_of rest ls env₁))) b
  form_right rest d ys K h (define x e) k c counts M h' b f = f ((x, matches ls ys e) ∷ ys) K (record { env = (refl, right, h.env); kept = h.kept })
    where
      right : Right m M (matches ls ys e)
      right = made_keeps (λ M. Right m M (matches ls ys e)) _ _ counts M (makes_exactly fmt ls d.env e) h' (expression_right fmt ls (names_of d.env) d.env ys h.env e k)
  form_right rest d ys K h (rule kind p cs) k c counts M h' b f = again b (f ys (λ w. K w && rs w) (record { env = h.env; kept = right }))
    where
      names : List ℕ
      names = names_of d.env

      rs : Language
      rs = demands kind (matches ls ys p) (contexts_in ls ys cs)

      right : Right m M (λ w. K w && rs w)
      right =
          made_keeps (λ M. Right m M (λ w. K w && rs w)) _ _ counts M
          (then_exactly _ _ _ _ (rule_exactly fmt ls d.env kind p cs c) λ R. pairs_exactly fmt (suc m) both d.kept R) h'
          (then_keeps (λ R. Right m R (intersection all rs)) (λ M. Right m M (λ w. K w && rs w)) (evaluate_rule fmt ls d.env kind p cs) _
          (rule_right fmt ls names d.env ys h.env kind p cs (and_left (known ls names p) (all_known ls names cs) k) (and_right (known ls names p) (all_known ls names cs) k))
          (λ R r. keeps_map (λ M. Right m M (intersection K (intersection all rs))) (λ M. Right m M (λ w. K w && rs w)) (pair_stage fmt (suc m) both d.kept R)
          (λ M q. right_same m M (intersection K (intersection all rs)) (λ w. K w && rs w) (meet K rs d.kept h.kept) q)
          (pair_right fmt m both d.kept R K (intersection all rs) h.kept r)))

      again : (b : BookResult) → Accepts (Final (λ w. K w && rs w) (rules_of rest ls ys)) b
          → Accepts (Final K (record { kind = kind; pattern = matches ls ys p; contexts = contexts_in ls ys cs } ∷ rules_of rest ls ys)) b
      again (done ls' d') r = right_same (length ls') d'.kept (λ w. (K w && rs w) && obeys (rules_of rest ls ys) w) (λ w. K w && (rs w && obeys (rules_of rest ls ys) w)) (λ w. and_assoc (K w) (rs w) (obeys (rules_of rest ls ys) w)) r
      again (stopped r l) t = tt
  form_right rest d ys K h malformed k c counts M h' b f = absurd h'

  pub lines_right : (lines : List Line) (at : ℕ) (d : Draft) (b : BookResult) → LinesSay fmt ls lines at d b → (ys : List (ℕ × Language)) (K : Language) → DraftRight m d ys K
      → Accepts (Final K (rules_of lines ls ys)) b
  lines_right lines at d b all_lines ys K h = right_same m d.kept K (λ w. K w && true) (λ w. sym (and_true (K w))) h.kept
  lines_right (l ∷ rest) at d b (line_stops s) ys K h = tt
  lines_right (l ∷ rest) at d b (stage_stops F s x) ys K h = tt
  lines_right (l ∷ rest) at d b (goes_on F counts M s x t) ys K h =
      let (q, k, c) = line_form ls (names_of d.env) l (reads F) s in
      subst (λ G. Accepts (Final K (on_form ls ys G (λ env₁. rules_of rest ls env₁))) b) (sym q)
      (form_right rest d ys K h F k c counts M x b (λ zs L r. lines_right rest (suc at) (advance fmt d F counts M) b t zs L r))

  -- the letters of an accepted book
  lines_letters : (lines : List Line) (at : ℕ) (d : Draft) (b : BookResult) → LinesSay fmt ls lines at d b → Accepts (λ ls' d'. ls' ≡ ls) b
  lines_letters lines at d b all_lines = refl
  lines_letters (l ∷ rest) at d b (line_stops s) = tt
  lines_letters (l ∷ rest) at d b (stage_stops F s x) = tt
  lines_letters (l ∷ rest) at d b (goes_on F counts M s x t) = lines_letters rest (suc at) (advance fmt d F counts M) b t

book_letters_lem : (fmt : Format) (lines : List Line) (b : BookResult) → BookSays fmt lines b → Accepts (λ ls d. (ls ≡ book_letters lines) × LettersOf fmt lines ls) b
book_letters_lem fmt lines b no_bytes = (refl, refl)
book_letters_lem fmt (l ∷ rest) b (head_stops s) = tt
book_letters_lem fmt (l ∷ rest) b (head_goes ls s t) =
    let f = head_form fmt l (letters ls) s in
    accepts_map (λ ls' d. ls' ≡ ls) (λ ls d. (ls ≡ letters_of l) × Letters fmt ls) b (λ ls' d e. (e ∙ sym (head_letters fmt l ls f), subst (Letters fmt) (sym e) f.1))
    (lines_letters fmt ls rest 2 (start_draft (length ls)) b t)

-- BOOKS. The kept machine of an accepted book is right for the plans that the book allows.
book_right : (fmt : Format) (lines : List Line) (b : BookResult) → BookSays fmt lines b → Accepts (λ ls d. Right (length ls) d.kept (allows_lines lines)) b
book_right fmt lines b no_bytes = right_same 0 _ (all_words 0) (λ w. all_words 0 w && true) (λ w. sym (and_true (all_words 0 w))) (record { recognizes = all_recognizes 0; letters = all_words_sound 0 })
book_right fmt (l ∷ rest) b (head_stops s) = tt
book_right fmt (l ∷ rest) b (head_goes ls s t) =
    subst (λ x. LinesSay fmt x rest 2 (start_draft (length x)) b → Accepts (λ ls d. Right (length ls) d.kept (allows_lines (l ∷ rest))) b) (head_letters fmt l ls (head_form fmt l (letters ls) s)) made t
  where
    n : ℕ
    n = length (letters_of l)

    made : LinesSay fmt (letters_of l) rest 2 (start_draft n) b → Accepts (λ ls d. Right (length ls) d.kept (allows_lines (l ∷ rest))) b
    made t = lines_right fmt (letters_of l) rest 2 (start_draft n) b t [] (all_words n) (record { env = tt; kept = record { recognizes = all_recognizes n; letters = all_words_sound n } })

-- ---- the same of a text that is accepted

module _ (fmt : Format) (text : List ℕ) (ls : List ℕ) (d : Draft) (e : compile_book fmt text ≡ done ls d) where
  pub accepted_right : Right (length ls) d.kept (allows text)
  accepted_right = book_right fmt (lines_of text) (done ls d) (accepted_says fmt text ls d e)

  pub accepted_canonical : Canonical (suc (length ls)) d.kept
  accepted_canonical = accepted_right.recognizes.canonical

  -- A plan of the book's letters is accepted just when the book allows it,
  pub accepted_exact : (w : Word) → Over (length ls) w → accepts (automaton d.kept) w ≡ allows text w
  accepted_exact w o = accepted_right.recognizes.exact w (over_more (length ls) w o)

  -- and a word that has a mark never.
  pub accepted_marks : (w : Word) → Over (suc (length ls)) w → (Over (length ls) w → ⊥) → accepts (automaton d.kept) w ≡ false
  accepted_marks w o n = right_marks (length ls) d.kept (allows text) accepted_right w o n

  pub accepted_letters : ls ≡ book_letters (lines_of text)
  accepted_letters = (book_letters_lem fmt (lines_of text) (done ls d) (accepted_says fmt text ls d e)).0

  -- "1 to 26 letters, strictly rising", or none where the text has no bytes
  pub accepted_alphabet : LettersOf fmt (lines_of text) ls
  accepted_alphabet = (book_letters_lem fmt (lines_of text) (done ls d) (accepted_says fmt text ls d e)).1

  -- THE DEMAND. A plan of the book's letters is accepted exactly when every rule's demand on the cuts of the plan into left, middle and right is met: "A
  -- book allows what all three kinds allow".
  pub accepted_iff : (w : Word) → Over (length ls) w → (accepts (automaton d.kept) w ≡ true) ↔ Obeys (book_rules (lines_of text)) w
  accepted_iff w o = (
    λ t. obeys_sound (book_rules (lines_of text)) w (and_right (all_words (length (book_letters (lines_of text))) w) (obeys (book_rules (lines_of text)) w) (sym (accepted_exact w o) ∙ t)),
    λ h. accepted_exact w o ∙ and_both (all_words (length (book_letters (lines_of text))) w) (obeys (book_rules (lines_of text)) w) letters (obeys_whole (book_rules (lines_of text)) w h),
  )
    where
      letters : all_words (length (book_letters (lines_of text))) w ≡ true
      letters = all_words_whole (length (book_letters (lines_of text))) w (subst (λ l. Over (length l) w) accepted_letters o)
