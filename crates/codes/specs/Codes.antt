-- What each code asks for: the machine that an operand is, and the step of a code by its sort.
use Rattle.std.specs.Prelude.{◌≡◌, refl, Bool, true, false, ◌&&◌, ◌≢◌, ◌⊎◌, List, [], ◌∷◌, Option, None, Some, ℕ, zero, suc, ◌-◌, ◌≤◌, ◌<◌, eqb, leb, length}
use Rattle.std.proofs.Common.{sym, subst, inl, inr, arith, ne_eqb, le-leb}
use Rattle.std.proofs.lemmas.Bool.{lt-leb}
use Rattle.automata.specs.Format.{Format}
use Rattle.automata.specs.Booleans.{choose}
use Rattle.automata.specs.Machine.{Machine}
use Rattle.automata.specs.Stage.{then_made}
use Rattle.automata.specs.Given.{letter_machine, dot_machine, empty_machine, all_machine, mark_machine}
use Rattle.automata.specs.Stages.{star_stage, concat_stage}
use Rattle.language.specs.Environment.{lookup}
use Rattle.language.specs.Evaluate.{column}
use Rattle.book.specs.Kind.{kind_of, sign_kind, signs, is_letter, is_name}
use Rattle.book.specs.StackLaws.{height_after, height_while, besides}
use Rattle.sets.specs.Operations.{operation_of, operands_of}
use Rattle.sets.specs.declared.Operation.{Operation}
use Rattle.sets.specs.declared.Operation.TheVariants.{Either, Both, Without, Join, Star, Erase}
use Rattle.answers.specs.Operate.{operate}
use Rattle.codes.specs.Execute.{Store, Ran, ran, stuck, push_made, with_one, with_two, step}
use Rattle.codes.specs.declared.Given as given
use Rattle.codes.specs.declared.Given.TheVariants.{Empty, All, Dot, Mark}
use Rattle.codes.specs.declared.Register as register
use Rattle.codes.specs.declared.Register.TheVariants.{Book, Pattern, Right}
use Rattle.codes.specs.declared.Source.{Source}
use Rattle.codes.specs.declared.Source.TheVariants.{Letter, Name, Given, Register}
use Rattle.codes.specs.declared.Sort.{Sort}
use Rattle.codes.specs.declared.Sort.TheVariants.{Push, Top, Beside, Plus, Store as Storing}

-- the given machines
abbrev pub given_of : ℕ → given.Given → Machine
given_of m Empty = empty_machine m
given_of m All = all_machine m
given_of m Dot = dot_machine m
given_of m Mark = mark_machine m

-- the registers' places
abbrev pub index_of : register.Register → ℕ
index_of Book = 0
index_of Pattern = 1
index_of Right = 2

pub index_small : (i : register.Register) → index_of i < 3
index_small Book = omega arith
index_small Pattern = omega arith
index_small Right = omega arith

-- The machine that an operand is.
abbrev pub operand_of : List ℕ → List (ℕ × Machine) → Machine → Store → Source → Machine
operand_of ls env kept s (Letter b) = letter_machine (length ls) (column ls b)
operand_of ls env kept s (Name b) = lookup b (empty_machine (length ls)) env
operand_of ls env kept s (Given g) = given_of (length ls) g
operand_of ls env kept s (Register Book) = kept
operand_of ls env kept s (Register Pattern) = s.pattern
operand_of ls env kept s (Register Right) = s.right

abbrev pub pushed : Store → Machine → List Machine → Store
pushed s M rest = record { stack = M ∷ rest; pattern = s.pattern; right = s.right }

-- a register written, and the top gone
abbrev pub stored : Store → register.Register → Machine → List Machine → Store
stored s Book A rest = record { stack = rest; pattern = s.pattern; right = s.right }
stored s Pattern A rest = record { stack = rest; pattern = A; right = s.right }
stored s Right A rest = record { stack = rest; pattern = s.pattern; right = A }

-- an operation on the topmost machines, one or two
abbrev pub on_top : Format → List ℕ → Store → Operation → ℕ → Ran
on_top fmt ls s op zero = stuck
on_top fmt ls s op (suc zero) = with_one s.stack λ A rest. push_made s rest (operate fmt (length ls) (operation_of op) A A)
on_top fmt ls s op (suc (suc n)) = with_two s.stack λ A B rest. push_made s rest (operate fmt (length ls) (operation_of op) A B)

-- The step of a code of each sort, or of none, whatever the letters, names and machines are.
abbrev pub step_as : Format → List ℕ → List (ℕ × Machine) → Machine → Store → Option Sort → Ran
step_as fmt ls env kept s (Some (Push x)) = ran [] (pushed s (operand_of ls env kept s x) s.stack)
step_as fmt ls env kept s (Some (Top op)) = on_top fmt ls s op (operands_of op)
step_as fmt ls env kept s (Some (Beside op x)) = with_one s.stack λ A rest. push_made s rest (operate fmt (length ls) (operation_of op) (operand_of ls env kept s x) A)
step_as fmt ls env kept s (Some Plus) = with_one s.stack λ A rest. push_made s rest (then_made (star_stage fmt (suc (length ls)) A) λ B. concat_stage fmt (suc (length ls)) A B)
step_as fmt ls env kept s (Some (Storing i)) = with_one s.stack λ A rest. ran [] (stored s i A rest)
step_as fmt ls env kept s None = stuck

-- The height behind a code of each sort, and the height that it needs while it runs.
abbrev pub BehindAs : Option Sort → ℕ → ℕ → Type 0
BehindAs (Some (Push x)) h a = a ≡ suc h
BehindAs (Some (Top op)) h a = a ≡ suc h - operands_of op
BehindAs (Some (Beside op x)) h a = a ≡ h
BehindAs (Some Plus) h a = a ≡ h
BehindAs (Some (Storing i)) h a = a ≡ h - 1
BehindAs None h a = Unit {0}

abbrev pub while_as : Option Sort → ℕ → ℕ
while_as (Some (Push x)) h = h
while_as (Some (Top op)) h = h
while_as (Some (Beside op x)) h = suc h
while_as (Some Plus) h = suc h
while_as (Some (Storing i)) h = h
while_as None h = h

-- The operand of the code c: its name is the code itself.
abbrev pub SourceIn : ℕ → Source → Type 0
SourceIn c (Letter b) = Unit {0}
SourceIn c (Name b) = (b ≡ c) × (is_name c ≡ true) × (65 ≤ c) × (c ≤ 90)
SourceIn c (Given g) = Unit {0}
SourceIn c (Register i) = Unit {0}

abbrev pub SortIn : ℕ → Option Sort → Type 0
SortIn c (Some (Push x)) = SourceIn c x
SortIn c (Some (Top op)) = Unit {0}
SortIn c (Some (Beside op x)) = SourceIn c x
SortIn c (Some Plus) = Unit {0}
SortIn c (Some (Storing i)) = 1 ≤ index_of i
SortIn c None = Unit {0}

pub record Sorted (c : ℕ) (r : Option Sort) : Type 0 where
  pub steps : (fmt : Format) (ls : List ℕ) (env : List (ℕ × Machine)) (kept : Machine) (s : Store) → step fmt ls env kept s c ≡ step_as fmt ls env kept s r
  pub behind : (h : ℕ) → BehindAs r h (height_after c h)
  pub meanwhile : (h : ℕ) → while_as r h ≤ height_while c h
  pub operand : SortIn c r

-- ---- letters and names

-- neither a letter nor a name
pub record Leafless (c : ℕ) : Type 0 where
  pub letter : is_letter c ≡ false
  pub name : is_name c ≡ false

-- a sign's kind, counted from k, is no number between 0 and k
sign_not : (c : ℕ) (ss : List ℕ) (k n : ℕ) → 1 ≤ n → n < k → eqb (sign_kind c ss k) n ≡ false
sign_not c [] k n h g = ne_eqb 0 n (λ e. omega arith)
sign_not c (s ∷ ss) k n h g = go (eqb c s) (sign_not c ss (suc k) n h (omega arith))
  where
    go : (t : Bool) → eqb (sign_kind c ss (suc k)) n ≡ false → eqb (choose t (λ _. k) (λ _. sign_kind c ss (suc k))) n ≡ false
    go true q = ne_eqb k n (λ e. omega arith)
    go false q = q

-- outside of the letters, and of the names
abbrev pub Outside : ℕ → ℕ → ℕ → Type 0
Outside lo hi c = (c < lo) ⊎ (hi < c)

outside : (lo hi c : ℕ) → Outside lo hi c → leb lo c && leb c hi ≡ false
outside lo hi c (inl h) = rw (lt-leb lo c h)
outside lo hi c (inr h) = go (leb lo c) (lt-leb c hi h)
  where
    go : (t : Bool) → leb c hi ≡ false → t && leb c hi ≡ false
    go true q = q
    go false q = refl

inside : (lo hi c : ℕ) → lo ≤ c → c ≤ hi → leb lo c && leb c hi ≡ true
inside lo hi c h g = rw (le-leb lo c h, le-leb c hi g)

pub leafless : (c : ℕ) → Outside 97 122 c → Outside 65 90 c → Leafless c
leafless c h g = record {
  letter = rw (outside 97 122 c h, outside 65 90 c g) (sign_not c signs 3 1 (omega arith) (omega arith));
  name = rw (outside 97 122 c h, outside 65 90 c g) (sign_not c signs 3 2 (omega arith) (omega arith));
}

no_less : (n : ℕ) (t : Bool) → n ≤ choose t (λ _. suc n) (λ _. n)
no_less n true = omega arith
no_less n false = omega arith

letter_kind_lem : (c : ℕ) → 97 ≤ c → c ≤ 122 → kind_of c ≡ 1
letter_kind_lem c h g = rw (inside 97 122 c h g)

name_kind_lem : (c : ℕ) → 65 ≤ c → c ≤ 90 → kind_of c ≡ 2
name_kind_lem c h g = rw (outside 97 122 c (inl (omega arith)), inside 65 90 c h g)

pub letter_sorted : (c : ℕ) → 97 ≤ c → c ≤ 122 → Sorted c (Some (Push (Letter c)))
unfolding step
letter_sorted c h g =
    let z : kind_of c ≡ 1 = letter_kind_lem c h g in
    record { steps = λ fmt ls env kept s. rw z; behind = λ n. rw z; meanwhile = λ n. no_less n (besides c); operand = tt }

pub name_sorted : (c : ℕ) → 65 ≤ c → c ≤ 90 → Sorted c (Some (Push (Name c)))
unfolding step
name_sorted c h g =
    let z : kind_of c ≡ 2 = name_kind_lem c h g in
    record { steps = λ fmt ls env kept s. rw z; behind = λ n. rw z; meanwhile = λ n. no_less n (besides c); operand = (refl, rw z, h, g) }

-- ---- signs

pub sorted_at : {r : Option Sort} (c k : ℕ) → c ≡ k → Sorted k r → Sorted c r
sorted_at {r} c k e S = subst (λ c. Sorted c r) (sym e) S

abbrev plain : (n : ℕ) → n ≤ n
plain n = omega arith

-- one machine goes, or none
less : (n : ℕ) → n - 1 ≡ suc n - 2
less n = omega arith

same : (n : ℕ) → n ≡ suc n - 1
same n = omega arith

pub sorted_46 : Sorted 46 (Some (Push (Given Dot)))
unfolding step
sorted_46 = record { steps = λ fmt ls env kept s. refl; behind = λ n. refl; meanwhile = λ n. plain n; operand = tt }

pub sorted_64 : Sorted 64 (Some (Push (Given Empty)))
unfolding step
sorted_64 = record { steps = λ fmt ls env kept s. refl; behind = λ n. refl; meanwhile = λ n. plain n; operand = tt }

pub sorted_1 : Sorted 1 (Some (Push (Given All)))
unfolding step
sorted_1 = record { steps = λ fmt ls env kept s. refl; behind = λ n. refl; meanwhile = λ n. plain n; operand = tt }

pub sorted_2 : Sorted 2 (Some (Push (Given Mark)))
unfolding step
sorted_2 = record { steps = λ fmt ls env kept s. refl; behind = λ n. refl; meanwhile = λ n. plain n; operand = tt }

pub sorted_3 : Sorted 3 (Some (Push (Register Pattern)))
unfolding step
sorted_3 = record { steps = λ fmt ls env kept s. refl; behind = λ n. refl; meanwhile = λ n. plain n; operand = tt }

pub sorted_4 : Sorted 4 (Some (Push (Register Right)))
unfolding step
sorted_4 = record { steps = λ fmt ls env kept s. refl; behind = λ n. refl; meanwhile = λ n. plain n; operand = tt }

pub sorted_124 : Sorted 124 (Some (Top Either))
unfolding step
sorted_124 = record { steps = λ fmt ls env kept s. refl; behind = λ n. less n; meanwhile = λ n. plain n; operand = tt }

pub sorted_38 : Sorted 38 (Some (Top Both))
unfolding step
sorted_38 = record { steps = λ fmt ls env kept s. refl; behind = λ n. less n; meanwhile = λ n. plain n; operand = tt }

pub sorted_45 : Sorted 45 (Some (Top Without))
unfolding step
sorted_45 = record { steps = λ fmt ls env kept s. refl; behind = λ n. less n; meanwhile = λ n. plain n; operand = tt }

pub sorted_59 : Sorted 59 (Some (Top Join))
unfolding step
sorted_59 = record { steps = λ fmt ls env kept s. refl; behind = λ n. less n; meanwhile = λ n. plain n; operand = tt }

pub sorted_42 : Sorted 42 (Some (Top Star))
unfolding step
sorted_42 = record { steps = λ fmt ls env kept s. refl; behind = λ n. same n; meanwhile = λ n. plain n; operand = tt }

pub sorted_7 : Sorted 7 (Some (Top Erase))
unfolding step
sorted_7 = record { steps = λ fmt ls env kept s. refl; behind = λ n. same n; meanwhile = λ n. plain n; operand = tt }

pub sorted_63 : Sorted 63 (Some (Beside Either (Given Empty)))
unfolding step
sorted_63 = record { steps = λ fmt ls env kept s. refl; behind = λ n. refl; meanwhile = λ n. plain (suc n); operand = tt }

pub sorted_33 : Sorted 33 (Some (Beside Without (Given All)))
unfolding step
sorted_33 = record { steps = λ fmt ls env kept s. refl; behind = λ n. refl; meanwhile = λ n. plain (suc n); operand = tt }

pub sorted_8 : Sorted 8 (Some (Beside Both (Register Book)))
unfolding step
sorted_8 = record { steps = λ fmt ls env kept s. refl; behind = λ n. refl; meanwhile = λ n. plain (suc n); operand = tt }

pub sorted_43 : Sorted 43 (Some Plus)
unfolding step
sorted_43 = record { steps = λ fmt ls env kept s. refl; behind = λ n. refl; meanwhile = λ n. plain (suc n); operand = tt }

pub sorted_5 : Sorted 5 (Some (Storing Pattern))
unfolding step
sorted_5 = record { steps = λ fmt ls env kept s. refl; behind = λ n. refl; meanwhile = λ n. plain n; operand = omega arith }

pub sorted_6 : Sorted 6 (Some (Storing Right))
unfolding step
sorted_6 = record { steps = λ fmt ls env kept s. refl; behind = λ n. refl; meanwhile = λ n. plain n; operand = omega arith }

-- none of the codes
pub unknown_sorted : (c : ℕ) → Leafless c → c ≢ 46 → c ≢ 64 → c ≢ 124 → c ≢ 38 → c ≢ 45 → c ≢ 59 → c ≢ 42 → c ≢ 43 → c ≢ 63 → c ≢ 33 → c ≢ 1 → c ≢ 2 → c ≢ 3 → c ≢ 4 → c ≢ 5 → c ≢ 6 → c ≢ 7 → c ≢ 8 → Sorted c None
unfolding step
unknown_sorted c l h46 h64 h124 h38 h45 h59 h42 h43 h63 h33 h1 h2 h3 h4 h5 h6 h7 h8 = record {
  steps = λ fmt ls env kept s. rw (l.letter, l.name, ne_eqb c 46 h46, ne_eqb c 64 h64, ne_eqb c 124 h124, ne_eqb c 38 h38, ne_eqb c 45 h45, ne_eqb c 59 h59, ne_eqb c 42 h42, ne_eqb c 43 h43, ne_eqb c 63 h63, ne_eqb c 33 h33, ne_eqb c 1 h1, ne_eqb c 2 h2, ne_eqb c 3 h3, ne_eqb c 4 h4, ne_eqb c 5 h5, ne_eqb c 6 h6, ne_eqb c 7 h7, ne_eqb c 8 h8);
  behind = λ n. tt;
  meanwhile = λ n. no_less n (besides c);
  operand = tt;
}
