-- `some_accepting` meets its contract.
use Rattle.std.proofs.Common.{rules, tests, ◌∙◌}
use Rattle.std.proofs.lemmas.Iterator.{YieldsList-from_slice, YieldsList-from_zip}
use Rattle.std.proofs.lemmas.Iterator.Search.{any_from_yields_List}
use Rattle.flags.proofs.FlagLaws.{both, both_any}
use Rattle.flags.proofs.bits.some_accepting.Goals as goal

pub returns : goal.returns
returns c =
    any_from_yields_List both c.any.new.self _ _ c.any.ensures.ran (YieldsList-from_zip (YieldsList-from_slice c.args.row.now cc) (YieldsList-from_slice c.args.cells.now cc)) (λ x b q k. search (rules, tests))
    ∙ both_any c.args.row.now c.args.cells.now c.requires
