-- How far a change is: of each state the fewest letters that change its answer, as numbers that the moves confirm. Of the states, `key` is what each answers,
-- `step` where a letter leads, `far` the numbers; `top` stands for a change that is not known.
use Rattle.std.specs.Prelude.{◌≡◌, ◌⊎◌, ℕ, suc, ◌≤◌, ◌<◌, eqb}
use Rattle.automata.specs.Booleans.{choose}

-- What is known behind a state that answers a and has the number f, from a state that answers b: 0 where the answer changes.
unfoldable pub behind : ℕ → ℕ → ℕ → ℕ
behind a b f = choose (eqb a b) (λ _. f) (λ _. 0)

-- The same for letter c of state p.
abbrev pub after : (ℕ → ℕ) → (ℕ → ℕ → ℕ) → (ℕ → ℕ) → ℕ → ℕ → ℕ
after key step far p c = behind (key (step p c)) (key p) (far (step p c))

-- r is the least of what f knows behind the first m letters, less than `top`.
pub record Nearest (top : ℕ) (f : ℕ → ℕ) (m r : ℕ) : Type 0 where
  pub most : r < top
  pub low : (c : ℕ) → c < m → r ≤ f c
  pub met : (suc r ≡ top) ⊎ ((c : ℕ) × (c < m) × (f c ≡ r))

-- Each number of the n states is `top`, or one of the k letters shows no farther a change.
pub record Backed (top n k : ℕ) (key : ℕ → ℕ) (step : ℕ → ℕ → ℕ) (far : ℕ → ℕ) : Type 0 where
  pub most : (p : ℕ) → p < n → far p ≤ top
  pub back : (p : ℕ) → p < n → (far p ≡ top) ⊎ ((c : ℕ) × (c < k) × (after key step far p c < far p))

-- No letter of the states below m shows a nearer change.
pub record Closed (k : ℕ) (key : ℕ → ℕ) (step : ℕ → ℕ → ℕ) (far : ℕ → ℕ) (m : ℕ) : Type 0 where
  pub near : (p c : ℕ) → p < m → c < k → far p ≤ suc (after key step far p c)
