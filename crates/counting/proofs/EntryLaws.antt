-- From what the parts leave to the answer of the definitions.
use mathlib.Core.Path.{◌≡◌, sym, ap, ◌∙◌, subst}
use mathlib.Core.Bool.{true, false}
use mathlib.Core.Logic.{inl, inr}
use mathlib.Core.List.{List}
use Prim.Native.Nat.{ℕ, ◌^◌, ◌≤◌, ◌<◌}
use native.Mathlib.Nat.{le_refl}
use native.Mathlib.Omega.{arith}
use lib.ListN.{length}
use Rattle.automata.specs.Format.{narrow}
use Rattle.card.specs.Layout.{marks_of, moves_of}
use Rattle.card.specs.Load.{Tested}
use Rattle.card.proofs.LoadLaws.{tested}
use Rattle.card.specs.Loads.{Loaded}
use Rattle.card.proofs.Loads.{load_loaded}
use Rattle.card.specs.Answer.{load, rejected}
use Rattle.fields.specs.Counts.{Counted}
use Rattle.fields.specs.CardTable.{states_many}
use Rattle.run.specs.Walk.{Ready}
use Rattle.run.proofs.WalkLaws.{ready_counted}
use Rattle.board.proofs.EntryLaws.{rejected_test, rejected_some}
use Rattle.census.specs.Census.{longest_plan, counts, refused, census, no_card, count_too_large, are_counts}
use Rattle.census.proofs.CardLaws.{answers_only, loaded_counted}
use Rattle.census.specs.EndLaws.{ending}
use Rattle.census.proofs.EndLaws.{allowed_ending, unfinished_ending, hopeless_ending}
use Rattle.arrivals.specs.Weights.{most_words, weighed, earlier, each, mark_weight, fits}
use Rattle.arrivals.specs.WeightLaws.{earlier_each}
use Rattle.moves.specs.Holds.{Table}
use Rattle.arrivals.specs.Rounds.{Startable, Arrived, Countable as Summable}
use Rattle.arrivals.proofs.PowerLaws.{fits_true, fits_false, powers_fit}
use Rattle.counting.specs.Counting.{Countable, sums_of}
use Rattle.counting.proofs.EndingLaws.{ending_earlier}

-- a card that does not load
pub refused_card : (c : List ℕ) (k number : ℕ) → rejected number ≡ load narrow c → refused number ≡ census narrow c k
refused_card c k number e =
    sym (answers_only narrow c k (refused number) (no_card number (rejected_some c number e) (subst (Tested narrow c) (rejected_test c number e).0 (tested narrow c))))

module _ (c : List ℕ) (m n : ℕ) (R : Ready c m n) (k : ℕ) where
  -- too many letters, or too many plans
  pub refused_long : longest_plan < k → refused 31 ≡ census narrow c k
  refused_long h = sym (answers_only narrow c k (refused 31) (count_too_large R.loads (inl h)))

  pub refused_many : false ≡ fits (m ^ k) → refused 31 ≡ census narrow c k
  refused_many e = sym (answers_only narrow c k (refused 31) (count_too_large R.loads (inr (rw R.letters (fits_false (m ^ k) e)))))

  -- else the plans can be counted
  pub countable : (here next : List ℕ) → k ≤ longest_plan → true ≡ fits (m ^ k) → length here ≡ n → length next ≡ n → Countable m n k here next
  countable here next h e a b = record { short = h; few = fits_true (m ^ k) e; here_long = a; next_long = b }

module _ (c : List ℕ) (m n k : ℕ) (here next : List ℕ) (R : Ready c m n) (C : Countable m n k here next) where
  l : Loaded narrow c
  l = load_loaded narrow c R.loads

  pub parts : Counted narrow c m n
  parts = ready_counted c m n R

  -- the table of moves of x letters
  module _ (x : ℕ) (q : x ≡ m) (ms bs : List ℕ) (f : ms ≡ marks_of narrow c) (e : bs ≡ moves_of narrow c) where
    many : length ms ≡ n
    many = states_many c m n parts ms f ∙ R.states

    few : (j : ℕ) → j ≤ k → x ^ j ≤ most_words
    few = rw q (powers_fit m k C.few)

    pub startable : Table 120 x ms bs → Startable bs x k here next
    startable t =
        let z : length here ≡ length ms = C.here_long ∙ sym many in
        record { some = rw z t.some; targets = rw z (record { long = t.long; inside = t.inside }); long = C.next_long ∙ sym C.here_long; fits = few }

    module _ (row : List ℕ) (A : Arrived bs x k (length here) row) where
      pub summable : Summable row ms
      summable = record { long = many ∙ sym (A.long ∙ C.here_long); fits = omega (arith, A.sum each, earlier_each bs x k 0, few k (le_refl k)) }

      -- A sum by marks byte is the number of plans that end so,
      ending_sum : (mark : ℕ) → weighed (mark_weight ms mark) row ≡ ending narrow c mark k 0
      ending_sum mark = A.sum (mark_weight ms mark)
          ∙ sym (ending_earlier c l m n parts ms bs f e mark k 0 l.contents.states_some ∙ ap (λ y. earlier bs y k (mark_weight ms mark) 0) (R.letters ∙ sym q))

      -- and the three are the answer.
      pub counted : sums_of row ms ≡ census narrow c k
      counted =
          (λ t. counts ((ending_sum 1 ∙ sym (allowed_ending narrow c l k)) t) ((ending_sum 0 ∙ sym (unfinished_ending narrow c l k)) t) ((ending_sum 2 ∙ sym (hopeless_ending narrow c l k)) t))
          ∙ sym (answers_only narrow c k _ (are_counts R.loads (C.short, rw R.letters C.few) _ _ _ (loaded_counted narrow c l k)))
