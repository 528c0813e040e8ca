-- What a view and its counts say, as the paper's numbers of loading: a refusal's number or 0, the letters and the states.
use Rattle.std.specs.Prelude.{Result, Ok, Err}
use Rattle.card.specs.Answer.{Numbers}
use Rattle.fields.specs.declared.Counts.{Counts}
use Rattle.loading.specs.declared.Fault.{Fault}
use Rattle.loading.specs.Faults.{fault_number}
use Rattle.view.specs.declared.View.{View}

abbrev pub numbers_of : Result Counts Fault → Numbers
numbers_of (Ok counts) = record { number = 0; first = counts.letters; second = counts.states }
numbers_of (Err fault) = record { number = fault_number fault; first = 0; second = 0 }

abbrev pub view_numbers : View → Numbers
view_numbers v = numbers_of v.loaded
