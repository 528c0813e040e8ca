-- `contexts::further` meets its contract: a context, and one code more.
use Rattle.std.proofs.Common.{refl}
use Rattle.contexts.proofs.ContextLaws.{context_to, further_done}
use Rattle.contexts.proofs.further.Goals as goal

pub returns : goal.returns
returns c = further_done (context_to c.in_ok-n.ensures refl) c.put.ensures
