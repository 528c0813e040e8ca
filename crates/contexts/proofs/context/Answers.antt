-- `contexts::context` meets its contract: each answer is one case of `context_of`.
use Rattle.std.proofs.Common.{refl}
use Rattle.choice.specs.ReadingLaws.{read_to}
use Rattle.contexts.proofs.ContextLaws.{context_read}
use Rattle.contexts.proofs.context.Goals as goal

pub returns : goal.returns
returns c = context_read (read_to c.in_ok-n.ensures refl) _ c.right.ensures
