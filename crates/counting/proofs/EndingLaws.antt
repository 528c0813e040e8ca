-- The weights of a row of arrivals are the numbers of plans that end with a marks byte.
use mathlib.Core.Path.{◌≡◌, refl, sym, ap, ◌∙◌}
use mathlib.Core.Bool.{Bool, true, false}
use mathlib.Core.List.{List, [], ◌∷◌}
use Prim.Native.Nat.{ℕ, zero, suc, ◌+◌, ◌<◌}
use lib.ListN.{length, get_or}
use lib.Dec.{eqb}
use Rattle.automata.specs.Booleans.{choose}
use Rattle.automata.specs.Format.{narrow}
use Rattle.card.specs.Layout.{letter_count, state_count, mark_at, move_at, letters_of, marks_of, moves_of}
use Rattle.card.proofs.LayoutLaws.{letters_length}
use Rattle.card.specs.Alphabet.{column}
use Rattle.card.proofs.Alphabet.{column_letter}
use Rattle.card.specs.Loads.{Loaded}
use Rattle.fields.specs.Counts.{Counted}
use Rattle.fields.specs.CardTable.{cell, mark_at_lem}
use Rattle.census.specs.EndLaws.{ending, sum_over}
use Rattle.census.proofs.EndLaws.{ending_more}
use Rattle.arrivals.specs.Weights.{sum_below, behind, before, earlier, mark_weight}
use Rattle.arrivals.specs.WeightLaws.{sum_alike, sum_front, earlier_front}

-- a sum over letters, by their places
sum_letters : (ls : List ℕ) (g : ℕ → ℕ) → sum_over ls g ≡ sum_below (λ i. g (get_or ls i 0)) (length ls)
sum_letters [] g = refl
sum_letters (l ∷ ls) g = ap (λ x. g l + x) (sum_letters ls g) ∙ sym (sum_front (λ i. g (get_or (l ∷ ls) i 0)) (length ls))

-- one plan, or none
passing_one : (b : Bool) → length (choose {A = List (List ℕ)} b (λ _. [] ∷ []) (λ _. [])) ≡ choose b (λ _. 1) (λ _. 0)
passing_one true = refl
passing_one false = refl

module _ (c : List ℕ) (l : Loaded narrow c) (m n : ℕ) (r : Counted narrow c m n) (ms bs : List ℕ) (f : ms ≡ marks_of narrow c) (e : bs ≡ moves_of narrow c) where
  -- PLANS THAT END with a marks byte are weighed by that byte, some letters before.
  pub ending_earlier : (mark k p : ℕ) → p < state_count narrow c → ending narrow c mark k p ≡ earlier bs (letter_count narrow c) k (mark_weight ms mark) p
  unfolding behind
  ending_earlier mark zero p h = passing_one (eqb (mark_at narrow c p) mark) ∙ ap (λ x. choose (eqb x mark) (λ _. 1) (λ _. 0)) (sym (mark_at_lem c m n r ms f p h))
  ending_earlier mark (suc k) p h =
      ending_more narrow c mark k p
      ∙ sum_letters (letters_of narrow c) (λ x. ending narrow c mark k (move_at narrow c p (column (letters_of narrow c) x)))
      ∙ ap (sum_below (λ i. ending narrow c mark k (move_at narrow c p (column (letters_of narrow c) (get_or (letters_of narrow c) i 0))))) (letters_length narrow c l.contents)
      ∙ each (ending_earlier mark k)
      ∙ sym (ap (λ g. g p) (earlier_front bs (letter_count narrow c) k (mark_weight ms mark)))
    where
      each : ((q : ℕ) → q < state_count narrow c → ending narrow c mark k q ≡ earlier bs (letter_count narrow c) k (mark_weight ms mark) q)
          → sum_below (λ i. ending narrow c mark k (move_at narrow c p (column (letters_of narrow c) (get_or (letters_of narrow c) i 0)))) (letter_count narrow c)
          ≡ before bs (letter_count narrow c) (earlier bs (letter_count narrow c) k (mark_weight ms mark)) p
      each g = sum_alike _ _ (letter_count narrow c) (λ i b.
          ap (λ j. ending narrow c mark k (move_at narrow c p j)) (column_letter (letters_of narrow c) l.alphabet i (rw (letters_length narrow c l.contents) b))
          ∙ g (move_at narrow c p i) (l.inside p i h b)
          ∙ ap (earlier bs (letter_count narrow c) k (mark_weight ms mark)) (sym (cell c bs e p i h b)))
