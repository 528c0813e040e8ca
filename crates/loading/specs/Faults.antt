-- The number of each fault of a card: 21 to 26 of the load test.
use Rattle.std.specs.Prelude.{ℕ}
use Rattle.loading.specs.declared.Fault.{Fault}
use Rattle.loading.specs.declared.Fault.TheVariants.{BadContents, BadAlphabet, TransitionOutOfRange, NotNumbered, WrongMarks, EquivalentStates}

abbrev pub fault_number : Fault → ℕ
fault_number BadContents = 21
fault_number BadAlphabet = 22
fault_number TransitionOutOfRange = 23
fault_number NotNumbered = 24
fault_number WrongMarks = 25
fault_number EquivalentStates = 26
