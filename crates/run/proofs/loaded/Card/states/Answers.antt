-- `states` meets its contract: the moves of a card that loads are to its states.
use Rattle.automata.specs.Format.{narrow}
use Rattle.card.proofs.Loads.{load_loaded}
use Rattle.run.proofs.loaded.Card.states.Goals as goal

pub states-requires : goal.states-requires
states-requires c = (load_loaded narrow _ c.args.self.now.loads).inside
