-- `place` meets its contract: a state that leads its class, and one that is entered under a leader.
use mathlib.Core.Path.{◌∙◌}
use Rattle.classes.proofs.PlaceLaws.{place_head, place_joins, place_leads}
use Rattle.classes.proofs.refine.place.Goals as goal

pub returns-then-c-p : goal.returns-then-c-p
returns-then-c-p c =
    place_head c.requires _ c.from-c.ensures c.if-c-p.true

pub leader-requires : goal.leader-requires
leader-requires c =
    record { under = record { next = c.args.next.now; under = c.requires }; fact = λ e. c.if-c-p.false (c.from-c.ensures ∙ e) }

pub returns-in-Some : goal.returns-in-Some
returns-in-Some c =
    place_joins c.requires _ c.from-c.ensures c.if-c-p.false _ (c.in-Some.ensures c.args.next.now c.requires)

pub returns : goal.returns
returns c =
    place_leads c.requires _ c.from-c.ensures c.if-c-p.false (c.in_default.ensures c.args.next.now c.requires)
