-- Demand 2 in the plan's own bytes: what it is for a row of bytes to be in a set that an expression means, and what the rules ask of the cuts of a plan.
use Rattle.std.specs.Prelude.{◌≡◌, true, ◌⊎◌, ℕ}
use mathlib.Core.List.{List, [], ◌∷◌, ◌++◌}
use Rattle.language.specs.Language.{Language}
use Rattle.language.specs.Restriction.{RuleKind, restricts, forbids, obliges, Context}
use Rattle.language.specs.Matches.{Rule}
use Rattle.card.specs.Alphabet.{columns}

-- A row of bytes is one of a set's plans, over the letters ls: the columns of its letters are.
abbrev pub In : List ℕ → Language → List ℕ → Type 0
In ls L plan = L (columns ls plan) ≡ true

-- "one listed context has both that left and that right"
abbrev pub OneContext : List ℕ → List Context → List ℕ → List ℕ → Type 0
OneContext ls [] left right = ⊥
OneContext ls (c ∷ cs) left right = (In ls c.0 left × In ls c.1 right) ⊎ OneContext ls cs left right

-- `>`: "every cut of the plan into left, middle and right with the middle in the rule's pattern"; `<`: "no cut has its middle in the pattern together with
-- both sides of a listed context"; `^`: "every cut whose sides fit a listed context has its middle in the pattern"
abbrev pub EveryCut : List ℕ → RuleKind → Language → List Context → List ℕ → Type 0
EveryCut ls restricts pattern contexts plan = (v x y : List ℕ) → plan ≡ v ++ (x ++ y) → In ls pattern x → OneContext ls contexts v y
EveryCut ls forbids pattern contexts plan = (v x y : List ℕ) → plan ≡ v ++ (x ++ y) → ¬ (In ls pattern x × OneContext ls contexts v y)
EveryCut ls obliges pattern contexts plan = (v x y : List ℕ) → plan ≡ v ++ (x ++ y) → OneContext ls contexts v y → In ls pattern x

-- "for every rule in the book"
abbrev pub EveryRule : List ℕ → List Rule → List ℕ → Type 0
EveryRule ls [] plan = Unit {0}
EveryRule ls (r ∷ rs) plan = EveryCut ls r.kind r.pattern r.contexts plan × EveryRule ls rs plan
