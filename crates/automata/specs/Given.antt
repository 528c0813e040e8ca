-- The given machines: "Letter and `.` have 3 states, `@` 2, `.*` 2, the day M made of one mark 3; these are given and make no sets."
-- Each is the smallest machine, numbered by first arrival, of an automaton of at most three states.
use Rattle.std.specs.Prelude.{Bool, false, cond, ℕ, suc, eqb, ltb}
use Rattle.automata.specs.Basics.{nat_test}
use Rattle.automata.specs.Automaton.{Automaton}
use Rattle.automata.specs.Machine.{Machine}
use Rattle.automata.specs.Smallest.{smallest_of}

-- One sign that passes: 0 before it, 1 behind it, 2 for anything else.
abbrev pub one_sign : (ℕ → Bool) → Automaton ℕ
one_sign good = record { start = 0; step = λ s c. cond (eqb s 0) (cond (good c) 1 2) 2; accepting = λ s. eqb s 1 }

-- Any number of signs that pass: 0 so far, 1 for anything else.
abbrev pub many_signs : (ℕ → Bool) → Automaton ℕ
many_signs good = record { start = 0; step = λ s c. cond (eqb s 0) (cond (good c) 0 1) 1; accepting = λ s. eqb s 0 }

abbrev pub given : ℕ → Automaton ℕ → Machine
given k A = smallest_of nat_test A k 3

-- m letters, columns 0 to m - 1, and the mark, column m.
abbrev pub letter_machine : ℕ → ℕ → Machine
letter_machine m c = given (suc m) (one_sign (eqb c))

abbrev pub dot_machine : ℕ → Machine
dot_machine m = given (suc m) (one_sign (λ c. ltb c m))

abbrev pub empty_machine : ℕ → Machine
empty_machine m = given (suc m) (many_signs (λ c. false))

abbrev pub all_machine : ℕ → Machine
all_machine m = given (suc m) (many_signs (λ c. ltb c m))

abbrev pub mark_machine : ℕ → Machine
mark_machine m = letter_machine m m
