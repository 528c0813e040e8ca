-- `begin` meets its contract.
use Rattle.arrivals.proofs.RoundLaws.{begun_none, begun_roomy, begun_one}
use Rattle.arrivals.proofs.begin.Goals as goal

pub returns-then-k-eq0 : goal.returns-then-k-eq0
returns-then-k-eq0 c = begun_none _ _ _ _ _ c.requires.0 _ c.if-k-eq0.true c.start.ensures

pub advance-requires : goal.advance-requires
advance-requires c = begun_roomy _ _ _ _ _ c.requires.0 _ c.start-2.ensures c.if-k-eq0.false

pub returns : goal.returns
returns c = begun_one _ _ _ _ _ c.requires.0 _ c.start-2.ensures _ c.if-k-eq0.false c.requires.1 c.advance.ensures
