-- The plans of a length over some letters, listed; what a listing is, and the number in one; the plans of a length on which judging is of one mind.
use Rattle.std.specs.Prelude.{◌≡◌, Bool, true, false, List, [], ◌∷◌, ◌++◌, map, ℕ, zero, suc, length}
use Rattle.card.specs.Alphabet.{Known}
use Rattle.card.specs.Verdict.{Verdict, allowed, unfinished, hopeless, Says}
use Rattle.census.specs.Listing.{In, Once}

-- each letter before each plan
abbrev pub prefixed : List ℕ → List (List ℕ) → List (List ℕ)
prefixed [] plans = []
prefixed (l ∷ ls) plans = map (λ plan. l ∷ plan) plans ++ prefixed ls plans

-- "all plans of length k over the card's letters"; "Length 0 has one plan"
abbrev pub plans_of : List ℕ → ℕ → List (List ℕ)
plans_of ls zero = [] ∷ []
plans_of ls (suc k) = prefixed ls (plans_of ls k)

-- A plan of k of these letters.
abbrev pub OfLength : List ℕ → ℕ → List ℕ → Type 0
OfLength ls k plan = Known ls plan × (length plan ≡ k)

-- ---- listings

-- "a listing of those plans without repeats": it has just the plans that P says, each once.
pub record Lists (P : List ℕ → Type 0) (l : List (List ℕ)) : Type 0 where
  pub sound : (plan : List ℕ) → In [] plan l → P plan
  pub whole : (plan : List ℕ) → P plan → In [] plan l
  pub once : Once [] l

-- "the number in a listing of those plans without repeats"
pub record NumberOf (P : List ℕ → Type 0) (n : ℕ) : Type 0 where
  pub list : List (List ℕ)
  pub lists : Lists P list
  pub long : length list ≡ n

-- ---- "how many are allowed, unfinished and hopeless"

abbrev pub allowed_verdict : Verdict → Bool
allowed_verdict allowed = true
allowed_verdict (unfinished j) = false
allowed_verdict (hopeless j) = false

abbrev pub unfinished_verdict : Verdict → Bool
unfinished_verdict allowed = false
unfinished_verdict (unfinished j) = true
unfinished_verdict (hopeless j) = false

abbrev pub hopeless_verdict : Verdict → Bool
hopeless_verdict allowed = false
hopeless_verdict (unfinished j) = false
hopeless_verdict (hopeless j) = true

-- A plan of k letters, of which a verdict of this kind is the right one for the plans ok.
abbrev pub OfKind : (List ℕ → Bool) → List ℕ → ℕ → (Verdict → Bool) → List ℕ → Type 0
OfKind ok ls k is plan = OfLength ls k plan × ((v : Verdict) × Says ok plan v × (is v ≡ true))

-- So many plans of each of the three kinds.
pub record NumbersOf (P : (Verdict → Bool) → List ℕ → Type 0) (a u h : ℕ) : Type 0 where
  pub allowed : NumberOf (P allowed_verdict) a
  pub unfinished : NumberOf (P unfinished_verdict) u
  pub hopeless : NumberOf (P hopeless_verdict) h

-- Of all plans of k letters so many are allowed, so many unfinished, so many hopeless.
abbrev pub RightCounts : (List ℕ → Bool) → List ℕ → ℕ → ℕ → ℕ → ℕ → Type 0
RightCounts ok ls k = NumbersOf (OfKind ok ls k)
