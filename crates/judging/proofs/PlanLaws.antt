-- Runs of plan after plan on a card that was tested.
use mathlib.Core.Path.{◌≡◌, refl, sym, ap, subst, ◌∙◌}
use mathlib.Core.Bool.{true, false}
use mathlib.Core.Logic.{◌⊎◌, inl, inr}
use mathlib.Core.List.{List, [], ◌∷◌, ◌++◌}
use Prim.Native.Nat.{ℕ, suc, ◌+◌, ◌≤◌}
use native.Mathlib.Omega.{arith}
use lib.ListN.{length}
use lib.Dec.{ltb}
use Rattle.automata.specs.Booleans.{bool_cases}
use Rattle.automata.specs.Format.{narrow}
use Rattle.card.specs.Layout.{letter_count, state_count, letters_of}
use Rattle.card.specs.Load.{load_test}
use Rattle.card.specs.Alphabet.{column}
use Rattle.card.specs.Answer.{rejected, load}
use Rattle.card.specs.Judge.{Place, none, found, judge}
use Rattle.card.specs.Run.{Run, run_start, run_letter, run_on, run_reply}
use Rattle.run.specs.declared.Run.{Run as Run'}
use Rattle.run.specs.declared.Verdict.{Verdict}
use Rattle.run.specs.declared.UnknownLetter.{UnknownLetter}
use Rattle.run.specs.declared.loaded.Card.{Card}
use Rattle.std.specs.Prelude.{Result, Ok, Err, IfOk}
use Rattle.loading.specs.declared.Fault.{Fault}
use Rattle.loading.specs.Faults.{fault_number}
use Rattle.board.specs.declared.refusals.Refusal.TheVariants.{Card as CardFault}
use Rattle.run.specs.Reading.{run_of, reply_of}
use Rattle.run.specs.Cards.{bytes_of, states_in, ready_of}
use Rattle.run.specs.Walk.{Runs, ColumnTable, OwedTable}
use Rattle.run.specs.Pieces.{after_piece, after_reply}
use Rattle.board.specs.Answers.{loading}
use Rattle.board.proofs.EntryLaws.{refused_judge, rejected_test, rejected_some}
use Rattle.judging.specs.Plan.{Loads, Columns, Owed, Goes, Judges, More, Answers}

-- ---- the test

pub loads_of : (c : List ℕ) (r : Result Card Fault) → loading r ≡ load narrow c → IfOk r (λ k. bytes_of k ≡ c) → Loads c r
loads_of c r e s = record {
  refused = λ f z. ap loading (sym z) ∙ e;
  accepted = λ k z. let y : IfOk {E = Fault} (Ok k) (λ k. bytes_of k ≡ c) = rw z at s in y;
}

-- ---- a card that loads

module _ (k : Card) where
  abbrev c : List ℕ
  c = bytes_of k

  abbrev n : ℕ
  n = state_count narrow c

  counted : (s : Run) (r : Run') → Runs c (states_in k) s r → Runs c n s r
  counted s r w = subst (λ x. Runs c x s r) (sym (ready_of k).states) w

  pub goes_more : (r : Run') (v : List ℕ) (s : Run') → Runs c (states_in k) (run_on narrow c (run_of r) v) s → More c r v s
  goes_more r v s w =
      let y : Runs c n (run_on narrow c (run_of r) v) s = counted (run_on narrow c (run_of r) v) s w in
      record { goes = record { underway = λ _. y.underway }; judges = λ u a. record { after = λ z. after_piece c n u v r s (a.after z) y } }

  pub columns_of : (t : List ℕ) → ColumnTable (letters_of narrow c) t → Columns c t
  columns_of t w = record { table = λ _. w }

  pub owed_of : (t : List ℕ) → OwedTable c (states_in k) t → Owed c t
  owed_of t w = record { table = λ _. subst (λ x. OwedTable c x t) (sym (ready_of k).states) w }

  pub answers : (r : Run') (a : Result Verdict UnknownLetter) → reply_of a ≡ run_reply narrow c (run_of r) → (u : List ℕ) → Judges c u r → reply_of a ≡ judge narrow c u
  answers r a w u b = after_reply c n (letter_count narrow c) (record { loads = k.loads; letters = refl; states = refl }) u r a (b.after k.loads) w

-- ---- a card that is refused

module _ (c : List ℕ) (f : Fault) (e : rejected (fault_number f) ≡ load narrow c) where
  not_loaded : {A : Type 0} → load_test narrow c ≡ 0 → A
  not_loaded z = absurd (rejected_some c (fault_number f) e (sym (rejected_test c (fault_number f) e).0 ∙ z))

  pub refused_columns : (t : List ℕ) → Columns c t
  refused_columns t = record { table = λ z. not_loaded z }

  pub refused_owed : (t : List ℕ) → Owed c t
  refused_owed t = record { table = λ z. not_loaded z }

  pub refused_judges : (u : List ℕ) (r : Run') → Judges c u r
  refused_judges u r = record { after = λ z. not_loaded z }

  pub refused_more : (r : Run') (v : List ℕ) → More c r v r
  refused_more r v = record { goes = record { underway = λ z. not_loaded z }; judges = λ u a. refused_judges (u ++ v) r }

  pub refused_answers : (r : Run') → Answers c r (Err (CardFault f))
  refused_answers r = record { is = λ u b. refused_judge c u (fault_number f) e }

pub judges_goes : (c u : List ℕ) (r : Run') → Judges c u r → Goes c r
judges_goes c u r w = record { underway = λ z. (w.after z).underway }

-- ---- letters

-- a run takes no more letters than come
module _ (c : List ℕ) where
  letter_few : (r : Run) (l : ℕ) → (run_letter narrow c r l).letters ≤ suc r.letters
  letter_few r l = go r.unknown refl (bool_cases (ltb (column (letters_of narrow c) l) (length (letters_of narrow c))))
    where
      go : (p : Place) → r.unknown ≡ p → (ltb (column (letters_of narrow c) l) (length (letters_of narrow c)) ≡ true) ⊎ (ltb (column (letters_of narrow c) l) (length (letters_of narrow c)) ≡ false)
          → (run_letter narrow c r l).letters ≤ suc r.letters
      go (found k) e b = rw e (omega arith)
      go none e (inl b) = rw (e, b) (omega arith)
      go none e (inr b) = rw (e, b) (omega arith)

  run_few : (r : Run) (u : List ℕ) → (run_on narrow c r u).letters ≤ r.letters + length u
  run_few r [] = omega arith
  run_few r (l ∷ u) = omega (arith, run_few (run_letter narrow c r l) u, letter_few r l)

  pub letters_few : (u : List ℕ) (r : Run') → Judges c u r → load_test narrow c ≡ 0 → r.letters ≤ length u
  letters_few u r w z = omega (arith, ap (λ x. x.letters) (w.after z).is, run_few (run_start narrow c) u)
