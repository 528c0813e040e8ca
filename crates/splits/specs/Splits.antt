-- Classes of states in an array, each named by the least state in it; what splitting them by keys and by one column says.
use Rattle.std.specs.Prelude.{◌≡◌, ◌⊎◌, ◌≢◌, List, ℕ, zero, suc, ◌+◌, ◌*◌, ◌≤◌, ◌<◌, length, get_or, eqb}
use Rattle.automata.specs.Booleans.{choose}

-- Each link leads to a greater state, up to n; 0 is none.
pub record Links (ls : List ℕ) (n : ℕ) : Type 0 where
  pub rises : (r : ℕ) → r < n → get_or ls r 0 ≢ 0 → (r < get_or ls r 0) × (get_or ls r 0 < n)
  pub last : get_or ls n 0 ≡ 0

-- The links lead from r to q.
pub data Reach (ls : List ℕ) : ℕ → ℕ → Type 0 where
  here : (r : ℕ) → Reach ls r r
  there : (r q : ℕ) → get_or ls r 0 ≢ 0 → Reach ls (get_or ls r 0) q → Reach ls r q

-- r is on the way from s; a state on the way with the key comes no earlier; and r has the key or is the last.
pub record Found (ks ls : List ℕ) (s k n r : ℕ) : Type 0 where
  pub low : r ≤ n
  pub way : Reach ls s r
  pub first : (q : ℕ) → Reach ls s q → get_or ks q 0 ≡ k → Reach ls r q
  pub stop : (get_or ks r 0 ≡ k) ⊎ (get_or ls r 0 ≡ 0)

-- A class is named by its least state.
pub record Named (cs : List ℕ) (n : ℕ) : Type 0 where
  pub low : (p : ℕ) → p < n → get_or cs p 0 ≤ p
  pub own : (p : ℕ) → p < n → get_or cs (get_or cs p 0) 0 ≡ get_or cs p 0

-- how many states below n name a class
unfoldable pub owned : List ℕ → ℕ → ℕ
owned cs zero = 0
owned cs (suc n) = choose (eqb (get_or cs n 0) n) (λ _. suc (owned cs n)) (λ _. owned cs n)

-- The classes cs, split by the keys ks, are ns, r of them.
pub record Split (n : ℕ) (ks cs ns : List ℕ) (r : ℕ) : Type 0 where
  pub long : length ns ≡ 120
  pub named : Named ns n
  pub key : (p : ℕ) → p < n → get_or ks (get_or ns p 0) 0 ≡ get_or ks p 0
  pub class : (p : ℕ) → p < n → get_or cs (get_or ns p 0) 0 ≡ get_or cs p 0
  pub joins : (p q : ℕ) → p < n → q < n → get_or cs p 0 ≡ get_or cs q 0 → get_or ks p 0 ≡ get_or ks q 0 → get_or ns p 0 ≡ get_or ns q 0
  pub count : r ≡ owned ns n

-- Column c of n rows of m moves, each to one of n states.
pub record Columns (m n c : ℕ) (bs : List ℕ) : Type 0 where
  pub some : 1 ≤ n
  pub most : n ≤ 120
  pub column : c < m
  pub long : length bs ≡ n * m
  pub inside : (q : ℕ) → q < length bs → get_or bs q 0 < n

-- The key of a state is the class that column c leads to.
pub record ColumnKeys (m : ℕ) (bs : List ℕ) (n c : ℕ) (cs ks : List ℕ) : Type 0 where
  pub long : length ks ≡ 120
  pub key : (p : ℕ) → p < n → get_or ks p 0 ≡ get_or cs (get_or bs (p * m + c) 0) 0

-- The classes cs, split by where column c leads, are ns, r of them.
pub record Refined (m : ℕ) (bs : List ℕ) (n c : ℕ) (cs ns : List ℕ) (r : ℕ) : Type 0 where
  pub long : length ns ≡ 120
  pub named : Named ns n
  pub parts : (p q : ℕ) → p < n → q < n → get_or ns p 0 ≡ get_or ns q 0 → (get_or cs p 0 ≡ get_or cs q 0) × (get_or cs (get_or bs (p * m + c) 0) 0 ≡ get_or cs (get_or bs (q * m + c) 0) 0)
  pub joins : (p q : ℕ) → p < n → q < n → get_or cs p 0 ≡ get_or cs q 0 → get_or cs (get_or bs (p * m + c) 0) 0 ≡ get_or cs (get_or bs (q * m + c) 0) 0 → get_or ns p 0 ≡ get_or ns q 0
  pub count : r ≡ owned ns n
