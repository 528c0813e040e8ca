-- Laws of what specs/Bounds.antt defines.
use Rattle.std.specs.Prelude.{◌≡◌, List, [], ◌∷◌, ◌++◌, ℕ, suc, ◌≤◌, length}
use Rattle.std.proofs.Common.{arith}
use Rattle.automata.specs.Format.{Format}
use Rattle.automata.specs.Automaton.{Automaton}
use Rattle.automata.specs.Machine.{Machine, size}
use Rattle.automata.specs.Stage.{Made, made, refused, after, StageResult, kept_one, too_many_sets, too_many_states}
use Rattle.automata.specs.Exactly.{Then, goes, fails}
use Rattle.language.specs.GivenLaws.{all_size}
use Rattle.language.specs.Stagewise.{Stagewise, expression_holds, rule_holds}
use Rattle.book.specs.Text.{Line, lines_of, Form, define, rule, malformed}
use Rattle.compiler.specs.Book.{Draft, BookResult, done, start_draft, compile_book}
use Rattle.compiler.specs.BookLaws.{Accepts}
use Rattle.compiler.specs.Table.{MakesLine, advance, LinesSay, line_stops, stage_stops, goes_on, all_lines, BookSays, no_bytes, head_stops, head_goes}
use Rattle.compiler.proofs.Table.{accepted_says}
use Rattle.compiler.specs.Bounds.{DraftWithin, EachMost}

each_append : (n : ℕ) (cs ds : List ℕ) → EachMost n cs → EachMost n ds → EachMost n (cs ++ ds)
each_append n [] ds a b = b
each_append n (c ∷ cs) ds a b = (a.0, each_append n cs ds a.1 b)

module _ (fmt : Format) where
  -- every stage is within the limit of sets
  abbrev Within : Made → Type 0
  Within (made counts M) = EachMost fmt.most_sets counts
  Within (refused r) = Unit {0}

  -- and the kept machine within that of states
  abbrev Small : Made → Type 0
  Small (made counts M) = EachMost fmt.most_sets counts × (size M ≤ fmt.most_states)
  Small (refused r) = Unit {0}

  stage_small : {S : Type 0} (k : ℕ) (A : Automaton S) (r : Made) → StageResult fmt k A r → Small r
  stage_small k A r (kept_one n M C b s t) = ((b, tt), t)
  stage_small k A r (too_many_sets c) = tt
  stage_small k A r (too_many_states n M C b s t) = tt

  small_within : (r : Made) → Small r → Within r
  small_within (made counts M) s = s.0
  small_within (refused r) s = tt

  within : Stagewise fmt Within
  within = record {
    here = λ M. tt;
    staged = λ k A r s. small_within r (stage_small k A r s);
    behind = behind;
  }
    where
      behind : (counts : List ℕ) (M : Machine) (r : Made) → Within (made counts M) → Within r → Within (after counts r)
      behind counts M (made more N) v w = each_append fmt.most_sets counts more v w
      behind counts M (refused r) v w = tt

  then_small : (P : Made → Type 0) (Q : Machine → Made → Type 0) → ((r : Made) → P r → Within r) → ((M : Machine) (r : Made) → Q M r → Small r) → (r : Made) → Then P Q r → Small r
  then_small P Q p q r (goes counts M s a b) = behind s (q M s b)
    where
      behind : (s : Made) → Small s → Small (after counts s)
      behind (made more N) w = (each_append fmt.most_sets counts more (p (made counts M) a) w.0, w.1)
      behind (refused r) w = tt
  then_small P Q p q r (fails n a) = tt

  -- ---- lines and books

  form_within : (ls : List ℕ) (d : Draft) → DraftWithin fmt d → (F : Form) (counts : List ℕ) (M : Machine) → MakesLine fmt ls d F (made counts M) → DraftWithin fmt (advance fmt d F counts M)
  form_within ls d h (define x e) counts M m =
      record { counts = each_append fmt.most_sets d.counts counts h.counts (expression_holds fmt Within within ls d.env e (made counts M) m); states = h.states }
  form_within ls d h (rule kind p cs) counts M m =
      let w = then_small _ _ (rule_holds fmt Within within ls d.env kind p cs) (λ R. stage_small _ _) (made counts M) m in
      record { counts = each_append fmt.most_sets d.counts counts h.counts w.0; states = w.1 }
  form_within ls d h malformed counts M m = absurd m

  lines_within : (ls : List ℕ) (lines : List Line) (at : ℕ) (d : Draft) (b : BookResult) → LinesSay fmt ls lines at d b → DraftWithin fmt d → Accepts (λ ls d. DraftWithin fmt d) b
  lines_within ls lines at d b all_lines h = h
  lines_within ls (l ∷ rest) at d b (line_stops s) h = tt
  lines_within ls (l ∷ rest) at d b (stage_stops F s m) h = tt
  lines_within ls (l ∷ rest) at d b (goes_on F counts M s m t) h = lines_within ls rest (suc at) (advance fmt d F counts M) b t (form_within ls d h F counts M m)

  book_within : 2 ≤ fmt.most_states → (lines : List Line) (b : BookResult) → BookSays fmt lines b → Accepts (λ ls d. DraftWithin fmt d) b
  book_within two lines b no_bytes = record { counts = tt; states = omega (arith, all_size 0) }
  book_within two (l ∷ rest) b (head_stops s) = tt
  book_within two (l ∷ rest) b (head_goes ls s t) = lines_within ls rest 2 (start_draft (length ls)) b t (record { counts = tt; states = omega (arith, all_size (length ls)) })

  -- An accepted book keeps to the limits, where these let `.*` be kept.
  pub accepted_within : 2 ≤ fmt.most_states → (text ls : List ℕ) (d : Draft) → compile_book fmt text ≡ done ls d → DraftWithin fmt d
  accepted_within two text ls d e = book_within two (lines_of text) (done ls d) (accepted_says fmt text ls d e)
