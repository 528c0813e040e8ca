-- The shortest factor that lies inside no allowed plan, computed: for any test of factors, and by a card's bytes; the reply, and what each reply means.
use Rattle.std.specs.Prelude.{Bool, not, List, ℕ, suc, ◌-◌, length, eqb, ltb}
use Rattle.automata.specs.Booleans.{choose}
use Rattle.automata.specs.Decide.{any_below, first_from}
use Rattle.automata.specs.Format.{Format}
use Rattle.card.specs.Layout.{state_count, mark_at}
use Rattle.card.specs.Reply.{Reply, asked, Replies}
use Rattle.card.specs.Judge.{state_after, card_allows}
use Rattle.factor.specs.Factor.{factor, Shortest, none, at, Blames}

-- ---- by any test of factors

-- at how many places a factor of k letters begins
abbrev pub places : List ℕ → ℕ → ℕ
places plan k = suc (length plan - k)

-- "of equal ones the leftmost": the first place of a factor of k letters that fails the test, past the places where none does
unfoldable pub leftmost : (List ℕ → Bool) → List ℕ → ℕ → ℕ
leftmost inside plan k = first_from (λ i. not (inside (factor plan i k))) 0 (places plan k)

-- "the shortest": the least length of a factor that fails, past the plan's length where none does
unfoldable pub least : (List ℕ → Bool) → List ℕ → ℕ
least inside plan = first_from (λ k. ltb (leftmost inside plan k) (places plan k)) 0 (suc (length plan))

unfoldable pub shortest_by : (List ℕ → Bool) → List ℕ → Shortest
shortest_by inside plan =
    let k = least inside plan in
    choose (ltb k (suc (length plan))) (λ _. at (leftmost inside plan k) k) (λ _. none)

-- ---- by a card's bytes

-- The letters s lead some state to one that is not dead.
unfoldable pub lies_inside : Format → List ℕ → List ℕ → Bool
lies_inside fmt c s = any_below (λ p. not (eqb (mark_at fmt c (state_after fmt c s p)) 2)) (state_count fmt c)

-- "Card and letters are tested as in judging."
unfoldable pub shortest : Format → List ℕ → List ℕ → Reply Shortest
shortest fmt c plan = asked fmt c plan (shortest_by (lies_inside fmt c) plan)

-- What each reply means: the factor, or none, is the right one for the plans that the card allows.
abbrev pub Searches : Format → List ℕ → List ℕ → Reply Shortest → Type 0
Searches fmt c plan = Replies fmt c plan (Blames (card_allows fmt c) plan)
