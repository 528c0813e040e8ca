-- `line_end` meets its contract: no line end was passed.
use Rattle.octets.proofs.PlaceLaws.{place_within, place_before, place_found}
use Rattle.plans.proofs.line_end.Goals as goal

pub returns : goal.returns
returns c =
    let s = c.args.bytes.now in
    let at = c.args.from in
    let e = c.place_from.result in
    let h = c.requires in
    let q = c.place_from.ensures in
    record { low = (place_within s at 10 e h q).0; most = (place_within s at 10 e h q).1; before = place_before s at 10 e h q; end = place_found s at 10 e h q }
