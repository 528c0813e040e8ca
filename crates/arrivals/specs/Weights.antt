-- Rows of numbers, one a state, summed by weights of the states; and the weights that states had some letters before.
use Rattle.std.specs.Prelude.{Bool, not, List, ℕ, zero, suc, ◌+◌, ◌*◌, length, get_or, eqb, ltb}
use Rattle.automata.specs.Booleans.{choose}

-- the greatest number of 64 bits
abbrev pub most_words : ℕ
most_words = 18446744073709551615

unfoldable pub fits : ℕ → Bool
fits n = not (ltb most_words n)

-- f 0 + f 1 + .. + f (n - 1)
abbrev pub sum_below : (ℕ → ℕ) → ℕ → ℕ
sum_below f zero = 0
sum_below f (suc n) = sum_below f n + f n

-- The numbers of a row, each times the weight of its state, summed.
unfoldable pub weighed : (ℕ → ℕ) → List ℕ → ℕ
weighed w row = sum_below (λ p. get_or row p 0 * w p) (length row)

-- The weight of the states that the m moves from the place `at` on lead to, summed.
unfoldable pub behind : List ℕ → ℕ → ℕ → (ℕ → ℕ) → ℕ
behind bs at m w = sum_below (λ i. w (get_or bs (at + i) 0)) m

-- The weight of a state one letter before: that of the states behind it.
abbrev pub before : List ℕ → ℕ → (ℕ → ℕ) → ℕ → ℕ
before bs m w p = behind bs (p * m) m w

-- k letters before.
abbrev pub earlier : List ℕ → ℕ → ℕ → (ℕ → ℕ) → ℕ → ℕ
earlier bs m zero w = w
earlier bs m (suc k) w = earlier bs m k (before bs m w)

-- 1 for each state
abbrev pub each : ℕ → ℕ
each p = 1

-- 1 for each state with this marks byte
abbrev pub mark_weight : List ℕ → ℕ → ℕ → ℕ
mark_weight ms mark p = choose (eqb (get_or ms p 0) mark) (λ _. 1) (λ _. 0)
