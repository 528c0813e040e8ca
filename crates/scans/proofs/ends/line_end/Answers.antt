-- `scans::ends::line_end` meets its contract: no byte passed is a line end.
use Rattle.scans.proofs.LineLaws.{ends_from}
use Rattle.scans.proofs.ends.line_end.Goals as goal

pub returns : goal.returns
returns c = ends_from _ _ _ c.requires c.place_from.ensures
