-- Numbering by first arrival, as code keeps it in two lists: of each its number, and the order. What holds of these lists when m have numbers, and what one that
-- arrives adds.
use Rattle.std.specs.Prelude.{◌≡◌, List, ℕ, suc, max, ◌≤◌, ◌<◌, length, get_or, take, Option, Some, None}
use Rattle.automata.specs.Basics.{nat_test}
use Rattle.automata.specs.Listing.{add}

-- m have numbers, so many at most: what stands in the order has a place in the other list, and there its place in the order as its number.
pub record Roll (most m : ℕ) (numbers order : List ℕ) : Type 0 where
  pub room : most ≤ length order
  pub few : length numbers < 65536
  pub bytes : most ≤ 256
  pub within : m ≤ most
  pub below : (i : ℕ) → i < m → get_or order i 0 < length numbers
  pub back : (i : ℕ) → i < m → get_or numbers (get_or order i 0) 0 ≡ i

-- d has the number x; or it has none.
abbrev pub NumberOf : ℕ → ℕ → List ℕ → Option ℕ → Type 0
NumberOf m d order (Some x) = (x < m) × (get_or order x 0 ≡ d)
NumberOf m d order None = (i : ℕ) → i < m → get_or order i 0 ≡ d → ⊥

-- x is d's number, its old one or the next.
pub record Numbered (most m d : ℕ) (order numbers' order' : List ℕ) (x : ℕ) : Type 0 where
  pub low : x ≤ m
  pub listed : take (max m (suc x)) order' ≡ add nat_test (take m order) d
  pub place : get_or order' x 0 ≡ d
  pub roll : Roll most (max m (suc x)) numbers' order'

-- d has its number; or there is no room for it.
abbrev pub Arrived : ℕ → ℕ → ℕ → List ℕ → List ℕ → List ℕ → Option ℕ → Type 0
Arrived most m d order numbers' order' (Some x) = Numbered most m d order numbers' order' x
Arrived most m d order numbers' order' None = most < length (add nat_test (take m order) d)
