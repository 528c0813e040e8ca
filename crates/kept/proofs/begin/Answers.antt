-- `kept::begin` meets its contract: `.*` is copied into each register.
use Rattle.kept.proofs.SlotLaws.{registers_begin}
use Rattle.kept.proofs.begin.Goals as goal

pub returns : goal.returns
returns c =
    registers_begin c.args.m _ c.args.registers.now _ _ _ c.requires.m_bound c.all.ensures c.requires.in_bounds c.copy.ensures c.copy-2.ensures c.copy-3.ensures
