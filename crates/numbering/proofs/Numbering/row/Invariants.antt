-- `row` meets its contract: what the letters passed lead to has numbers.
use Rattle.numbering.specs.Arrival.{Rowed, row_place}
use Rattle.numbering.proofs.Numbering.row.Given as goal

abbrev pub invariant-loop-state : goal.invariant-loop-state
invariant-loop-state l =
    Rowed 120 (row_place l.machine.letters l.s) l.state-index l.initial.self.count l.machine.bytes.now l.initial.self.order l.initial.self.number l.self.order l.self.number l.self.count
