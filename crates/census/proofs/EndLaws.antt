-- Laws of what specs/EndLaws.antt defines.
use Rattle.std.specs.Prelude.{◌≡◌, refl, List, [], ◌∷◌, map, ℕ, zero, suc, ◌+◌, ◌<◌, length, eqb}
use Rattle.std.proofs.Common.{sym, ap, ap₂, ◌∙◌, subst, append-nil}
use Rattle.automata.specs.Decide.{contradict}
use Rattle.automata.specs.Automaton.{run}
use Rattle.automata.specs.Machine.{Machine, automaton, run_inside}
use Rattle.automata.specs.Format.{Format}
use Rattle.card.specs.Mark.{Mark, is_accepting, is_dead, is_live}
use Rattle.card.specs.Layout.{letter_count, state_count, mark_at, move_at, letters_of, machine_of}
use Rattle.card.proofs.LayoutLaws.{letters_length, size_is}
use Rattle.card.specs.Alphabet.{column, columns, spell, Known}
use Rattle.card.specs.Loads.{Loaded}
use Rattle.card.proofs.Loads.{loaded_formed}
use Rattle.card.proofs.Allowed.{allows_known, allows_dead, allows_word}
use Rattle.card.specs.Verdict.{Verdict, Says, is_allowed, is_unfinished, is_hopeless, hopeless_plan}
use Rattle.card.specs.Judge.{state_after, plan_verdict, card_allows}
use Rattle.card.proofs.JudgeLaws.{loaded_says}
use Rattle.card.proofs.RunLaws.{state_machine}
use Rattle.census.specs.Listing.{passing}
use Rattle.census.specs.Plans.{prefixed, plans_of, allowed_verdict, unfinished_verdict, hopeless_verdict}
use Rattle.census.specs.Census.{count_of}
use Rattle.census.proofs.PlanLaws.{plans_listed}
use Rattle.census.specs.CountLaws.{passing_alike, passing_append, passing_map}
use Rattle.census.specs.EndLaws.{Told, ending, sum_over}

module _ (fmt : Format) (c : List ℕ) (l : Loaded fmt c) where
  abbrev ls : List ℕ
  ls = letters_of fmt c

  abbrev M : Machine
  M = machine_of fmt c

  -- The marks byte after the plan tells the verdict's kind.
  told : (plan : List ℕ) → Known ls plan → Told (plan_verdict fmt c plan) (mark_at fmt c (state_after fmt c plan 0))
  told plan o = subst (λ p. Told (plan_verdict fmt c plan) (mark_at fmt c p)) (sym (state_machine fmt c l plan 0 l.contents.states_some o))
      (go (plan_verdict fmt c plan) (mark_at fmt c q) (loaded_says fmt c l plan o) (l.marked q within))
    where
      q : ℕ
      q = run (automaton M) zero (columns ls plan)

      width : length ls ≡ letter_count fmt c
      width = letters_length fmt c l.contents

      within : q < state_count fmt c
      within = rw (← size_is fmt c l.contents)
          (run_inside (letter_count fmt c) M (loaded_formed fmt c l) zero (columns ls plan) (rw (size_is fmt c l.contents) l.contents.states_some) (rw (← width) o))

      go : (v : Verdict) (b : ℕ) → Says (card_allows fmt c) plan v → Mark (letter_count fmt c) M q b → Told v b
      go v b (is_allowed t) (is_accepting f) = record { allowed = refl; unfinished = refl; hopeless = refl }
      go v b (is_allowed t) (is_dead d) = contradict (ap (card_allows fmt c) (append-nil plan) ∙ t) (allows_dead ls M plan o (rw width d) [])
      go v b (is_allowed t) (is_live f w x a) = contradict t (allows_known ls M plan o ∙ f)
      go v b (is_unfinished n rest t s) (is_accepting f) = contradict (allows_known ls M plan o ∙ f) n
      go v b (is_unfinished n rest t s) (is_dead d) = contradict t (allows_dead ls M plan o (rw width d) rest)
      go v b (is_unfinished n rest t s) (is_live f w x a) = record { allowed = refl; unfinished = refl; hopeless = refl }
      go v b (is_hopeless k h n g) (is_accepting f) =
          contradict (ap (card_allows fmt c) (append-nil plan) ∙ allows_known ls M plan o ∙ f) (hopeless_plan (card_allows fmt c) plan k n [])
      go v b (is_hopeless k h n g) (is_dead d) = record { allowed = refl; unfinished = refl; hopeless = refl }
      go v b (is_hopeless k h n g) (is_live f w x a) =
          contradict (allows_word ls M l.alphabet plan o w (rw width x) a) (hopeless_plan (card_allows fmt c) plan k n (spell ls w))

  -- THE THREE NUMBERS by marks bytes, from the start.
  pub allowed_ending : (k : ℕ) → count_of fmt c k allowed_verdict ≡ ending fmt c 1 k 0
  allowed_ending k = passing_alike [] _ _ (plans_of ls k) (λ plan s. (told plan ((plans_listed ls l.alphabet k).sound plan s).0).allowed)

  pub unfinished_ending : (k : ℕ) → count_of fmt c k unfinished_verdict ≡ ending fmt c 0 k 0
  unfinished_ending k = passing_alike [] _ _ (plans_of ls k) (λ plan s. (told plan ((plans_listed ls l.alphabet k).sound plan s).0).unfinished)

  pub hopeless_ending : (k : ℕ) → count_of fmt c k hopeless_verdict ≡ ending fmt c 2 k 0
  hopeless_ending k = passing_alike [] _ _ (plans_of ls k) (λ plan s. (told plan ((plans_listed ls l.alphabet k).sound plan s).0).hopeless)

-- ---- letter by letter

-- ONE LETTER MORE: the number from p is the sum of the numbers from where the letters lead.
pub ending_more : (fmt : Format) (c : List ℕ) (mark k p : ℕ)
    → ending fmt c mark (suc k) p ≡ sum_over (letters_of fmt c) (λ l. ending fmt c mark k (move_at fmt c p (column (letters_of fmt c) l)))
ending_more fmt c mark k p = go (letters_of fmt c)
  where
    go : (ls : List ℕ) → length (passing (λ plan. eqb (mark_at fmt c (state_after fmt c plan p)) mark) (prefixed ls (plans_of (letters_of fmt c) k)))
        ≡ sum_over ls (λ l. ending fmt c mark k (move_at fmt c p (column (letters_of fmt c) l)))
    go [] = refl
    go (l ∷ ls) =
        passing_append (λ plan. eqb (mark_at fmt c (state_after fmt c plan p)) mark) (map (λ plan. l ∷ plan) (plans_of (letters_of fmt c) k)) (prefixed ls (plans_of (letters_of fmt c) k))
        ∙ ap₂ ◌+◌ (passing_map (λ plan. eqb (mark_at fmt c (state_after fmt c plan p)) mark) (λ plan. l ∷ plan) (plans_of (letters_of fmt c) k)) (go ls)
