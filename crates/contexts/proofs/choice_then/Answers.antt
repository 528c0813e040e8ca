-- `contexts::choice_then` meets its contract: a choice that is read has the row behind its code.
use Rattle.std.proofs.Common.{refl}
use Rattle.choice.specs.ReadingLaws.{read_to}
use Rattle.contexts.proofs.ContextLaws.{then_done}
use Rattle.contexts.proofs.choice_then.Goals as goal

pub returns : goal.returns
returns c = then_done (read_to c.in_ok-n.ensures refl) c.put_row-pos.ensures
