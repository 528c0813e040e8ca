-- Laws of what specs/Table.antt defines.
use Rattle.std.specs.Prelude.{◌≡◌, false, ◌⊎◌, ℕ, suc, ◌≤◌, ltb}
use Rattle.std.proofs.Math.Path.{refl, ap}
use Rattle.std.proofs.Common.{sym, ◌∙◌, subst, inl, inr}
use Rattle.std.proofs.Math.Bool.{true}
use mathlib.Core.List.{List, [], ◌∷◌}
use Rattle.std.proofs.Math.ListN.{length}
use Rattle.automata.specs.Format.{Format}
use Rattle.automata.specs.Booleans.{choose, bool_cases}
use Rattle.automata.specs.Basics.{LtCases, lt_cases, lt_ltb, ltb_false}
use Rattle.automata.specs.Stage.{Made, made, refused, then_made}
use Rattle.automata.specs.Exactly.{Exactly}
use Rattle.automata.proofs.Exactly.{then_exactly}
use Rattle.automata.specs.Stages.{both, pair_stage}
use Rattle.language.specs.Environment.{names_of}
use Rattle.language.specs.Evaluate.{evaluate, evaluate_rule}
use Rattle.language.proofs.Makes.{makes_exactly, rule_exactly, pairs_exactly}
use Rattle.card.specs.Same.{card_of}
use Rattle.book.specs.Text.{Line, lines_of, Form, define, rule, malformed, unless}
use Rattle.book.specs.Line as L
use Rattle.book.specs.Line.{LineRead, reads, stops, read_line, HeadRead, letters, read_head}
use Rattle.book.specs.LineGrammar.{Contexted}
use Rattle.book.proofs.LineGrammar.{contexts_enough}
use Rattle.book.specs.LineLaws.{LineSays}
use Rattle.book.proofs.LineLaws.{line_says, line_says_only, line_elim}
use Rattle.book.specs.HeadLaws.{HeadSays}
use Rattle.book.proofs.HeadLaws.{head_says, head_says_only, head_elim}
use Rattle.compiler.specs.Book.{Draft, on, on_made, compile_form, after_read, compile_line, BookResult, done, stopped, after_line, compile_lines, start_draft, after_head, compile_head, compile_text, compile_book}
use Rattle.compiler.specs.Outcome.{Outcome, stop, enough, written, outcome}
use Rattle.compiler.specs.Table.{BookSays, HeadIs, LinesSay, MakesLine, Outcomes, Read, advance, all_lines, book_stops, buffer_too_short, gives, goes_on, head_goes, head_stops, line_stops, no_bytes, output_too_short, stage_stops, text_too_long}

-- ---- what was read

pub line_form : (ls names : List ℕ) (l : Line) (q : LineRead) → LineSays ls names l q → Read ls names l q
line_form ls names l q s = subst (Read ls names l) (line_says_only ls names l q s) (line_elim ls names l (Read ls names l) (λ r. tt) (λ F k n e. (e, k, subst Contexted e (contexts_enough l.bytes))))

pub head_form : (fmt : Format) (l : Line) (q : HeadRead) → HeadSays fmt l q → HeadIs fmt l q
head_form fmt l q s = subst (HeadIs fmt l) (head_says_only fmt l q s) (head_elim fmt l (HeadIs fmt l) (λ r. tt) (λ ls f. f))

-- ---- lines

module _ (fmt : Format) (ls : List ℕ) where
  -- the stages of a line, computed
  line_made : Draft → Form → Made
  line_made d (define x e) = evaluate fmt ls d.env e
  line_made d (rule kind p cs) = then_made (evaluate_rule fmt ls d.env kind p cs) (λ R. pair_stage fmt (suc (length ls)) both d.kept R)
  line_made d malformed = refused 5

  line_right : (d : Draft) (F : Form) (names : List ℕ) (l : Line) → LineSays ls names l (reads F) → Exactly (MakesLine fmt ls d F) (line_made d F)
  unfolding line_made
  line_right d (define x e) names l s = makes_exactly fmt ls d.env e
  line_right d (rule kind p cs) names l s =
      then_exactly _ _ _ _ (rule_exactly fmt ls d.env kind p cs (line_form ls names l (reads (rule kind p cs)) s).2) λ R.
      pairs_exactly fmt (suc (length ls)) both d.kept R
  line_right d malformed names l (Rattle.book.specs.LineLaws.LineSays.says C t F f k n) = absurd k

  form_made : (d : Draft) (F : Form) → compile_form fmt ls d F ≡ on_made (line_made d F) (λ counts M. on (advance fmt d F counts M))
  unfolding compile_form line_made
  form_made d (define x e) = refl
  form_made d (rule kind p cs) = refl
  form_made d malformed = refl

  -- THE LINES answer what the table says,
  pub lines_say : (lines : List Line) (at : ℕ) (d : Draft) → LinesSay fmt ls lines at d (compile_lines fmt ls lines at d)
  unfolding compile_lines compile_line
  lines_say [] at d = all_lines
  lines_say (l ∷ rest) at d = read (read_line ls (names_of d.env) l) (line_says ls (names_of d.env) l) (λ d₁. lines_say rest (suc at) d₁)
    where
      next : (F : Form) → LineSays ls (names_of d.env) l (reads F) → (r : Made) → MakesLine fmt ls d F r → ((d₁ : Draft) → LinesSay fmt ls rest (suc at) d₁ (compile_lines fmt ls rest (suc at) d₁))
          → LinesSay fmt ls (l ∷ rest) at d (after_line (on_made r (λ counts M. on (advance fmt d F counts M))) (λ d₁. compile_lines fmt ls rest (suc at) d₁) (λ r. stopped r at))
      next F s (made counts M) m f = goes_on F counts M s m (f (advance fmt d F counts M))
      next F s (refused r) m f = stage_stops F s m

      read : (q : LineRead) → LineSays ls (names_of d.env) l q → ((d₁ : Draft) → LinesSay fmt ls rest (suc at) d₁ (compile_lines fmt ls rest (suc at) d₁))
          → LinesSay fmt ls (l ∷ rest) at d (after_line (after_read q (compile_form fmt ls d)) (λ d₁. compile_lines fmt ls rest (suc at) d₁) (λ r. stopped r at))
      read (stops r) s f = line_stops s
      read (reads F) s f = rw (form_made d F) (next F s (line_made d F) (line_right d F (names_of d.env) l s).right f)

  -- and nothing else.
  pub lines_say_only : (lines : List Line) (at : ℕ) (d : Draft) (b : BookResult) → LinesSay fmt ls lines at d b → compile_lines fmt ls lines at d ≡ b
  unfolding compile_lines compile_line
  lines_say_only lines at d b all_lines = refl
  lines_say_only (l ∷ rest) at d b (line_stops {r = r} s) =
      ap (λ q. after_line (after_read q (compile_form fmt ls d)) (λ d₁. compile_lines fmt ls rest (suc at) d₁) (λ r. stopped r at)) (line_says_only ls (names_of d.env) l (stops r) s)
  lines_say_only (l ∷ rest) at d b (stage_stops {r = r} F s m) =
      ap (λ q. after_line (after_read q (compile_form fmt ls d)) (λ d₁. compile_lines fmt ls rest (suc at) d₁) (λ r. stopped r at)) (line_says_only ls (names_of d.env) l (reads F) s)
      ∙ ap (λ x. after_line x (λ d₁. compile_lines fmt ls rest (suc at) d₁) (λ r. stopped r at))
      (form_made d F ∙ ap (λ x. on_made x (λ counts M. on (advance fmt d F counts M))) (sym ((line_right d F (names_of d.env) l s).only (refused r) m)))
  lines_say_only (l ∷ rest) at d b (goes_on F counts M s m t) =
      ap (λ q. after_line (after_read q (compile_form fmt ls d)) (λ d₁. compile_lines fmt ls rest (suc at) d₁) (λ r. stopped r at)) (line_says_only ls (names_of d.env) l (reads F) s)
      ∙ ap (λ x. after_line x (λ d₁. compile_lines fmt ls rest (suc at) d₁) (λ r. stopped r at))
      (form_made d F ∙ ap (λ x. on_made x (λ counts M. on (advance fmt d F counts M))) (sym ((line_right d F (names_of d.env) l s).only (made counts M) m)))
      ∙ lines_say_only rest (suc at) (advance fmt d F counts M) b t

-- ---- books

pub book_says : (fmt : Format) (lines : List Line) → BookSays fmt lines (compile_text fmt lines)
unfolding compile_text compile_head
book_says fmt [] = no_bytes
book_says fmt (l ∷ rest) = go (read_head fmt l) (head_says fmt l)
  where
    go : (r : HeadRead) → HeadSays fmt l r → BookSays fmt (l ∷ rest) (after_head r (λ ls. compile_lines fmt ls rest 2 (start_draft (length ls))))
    go (letters ls) s = head_goes ls s (lines_say fmt ls rest 2 (start_draft (length ls)))
    go (L.HeadRead.stops r) s = head_stops s

pub book_says_only : (fmt : Format) (lines : List Line) (b : BookResult) → BookSays fmt lines b → compile_text fmt lines ≡ b
unfolding compile_text compile_head
book_says_only fmt lines b no_bytes = refl
book_says_only fmt (l ∷ rest) b (head_stops {r = r} s) = ap (λ q. after_head q (λ ls. compile_lines fmt ls rest 2 (start_draft (length ls)))) (head_says_only fmt l (L.HeadRead.stops r) s)
book_says_only fmt (l ∷ rest) b (head_goes ls s t) =
    ap (λ q. after_head q (λ ls. compile_lines fmt ls rest 2 (start_draft (length ls)))) (head_says_only fmt l (letters ls) s) ∙ lines_say_only fmt ls rest 2 (start_draft (length ls)) b t

pub accepted_says : (fmt : Format) (text ls : List ℕ) (d : Draft) → compile_book fmt text ≡ done ls d → BookSays fmt (lines_of text) (done ls d)
unfolding compile_book
accepted_says fmt text ls d e = subst (BookSays fmt (lines_of text)) e (book_says fmt (lines_of text))

-- ---- the table

module _ (fmt : Format) (needs text lent : List ℕ) (room : ℕ) where
  -- COMPILING answers what the table says,
  pub outcomes : Outcomes fmt needs text lent room (outcome fmt needs text lent room)
  unfolding outcome compile_book
  outcomes = long (lt_cases 16384 (length text)) (bool_cases (enough needs lent))
    where
      book : length text ≤ 16384 → enough needs lent ≡ true → (b : BookResult) → BookSays fmt (lines_of text) b → Outcomes fmt needs text lent room (written fmt room b)
      book h e (stopped r at) s = book_stops h e r at s
      book h e (done ls d) s = go (lt_cases room (length (card_of fmt ls d.kept)))
        where
          go : LtCases room (length (card_of fmt ls d.kept)) → Outcomes fmt needs text lent room (written fmt room (done ls d))
          go (inl p) = rw p.1 (output_too_short h e ls d s p.0)
          go (inr p) = rw p.1 (gives h e ls d s p.0)

      long : LtCases 16384 (length text) → (enough needs lent ≡ true) ⊎ (enough needs lent ≡ false)
          → Outcomes fmt needs text lent room (choose (ltb 16384 (length text)) (λ _. stop 1 0) λ _. unless (enough needs lent) (λ _. stop 2 0) λ _. written fmt room (compile_text fmt (lines_of text)))
      long (inl p) e = rw p.1 (text_too_long p.0)
      long (inr p) (inr e) = rw (p.1, e) (buffer_too_short p.0 e)
      long (inr p) (inl e) = rw (p.1, e) (book p.0 e (compile_text fmt (lines_of text)) (book_says fmt (lines_of text)))

  -- and one answer only is right.
  pub outcomes_only : (o : Outcome) → Outcomes fmt needs text lent room o → outcome fmt needs text lent room ≡ o
  unfolding outcome compile_book
  outcomes_only o (text_too_long h) = rw (lt_ltb 16384 (length text) h)
  outcomes_only o (buffer_too_short h e) = rw (ltb_false 16384 (length text) h, e)
  outcomes_only o (book_stops h e r at s) = rw (ltb_false 16384 (length text) h, e, book_says_only fmt (lines_of text) (stopped r at) s)
  outcomes_only o (output_too_short h e ls d s x) =
      rw (ltb_false 16384 (length text) h, e, book_says_only fmt (lines_of text) (done ls d) s, lt_ltb room (length (card_of fmt ls d.kept)) x)
  outcomes_only o (gives h e ls d s x) =
      rw (ltb_false 16384 (length text) h, e, book_says_only fmt (lines_of text) (done ls d) s, ltb_false room (length (card_of fmt ls d.kept)) x)
