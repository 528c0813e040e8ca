-- `reader::symbols::has_letter` meets its contract.
use Rattle.std.proofs.Common.{rules, tests, nat_eq, ◌∙◌}
use Rattle.std.proofs.lemmas.Iterator.{YieldsList-from_slice}
use Rattle.std.proofs.lemmas.Iterator.Search.{any_from_yields_List}
use Rattle.reader.proofs.SymbolLaws.{member_any}
use Rattle.reader.proofs.symbols.has_letter.Goals as goal

pub returns : goal.returns
returns c =
    any_from_yields_List (λ y. nat_eq y c.args.b) c.any.new.self _ _ c.any.ensures.ran (YieldsList-from_slice c.args.letters.now cc) (λ x b q k. search (rules, tests))
    ∙ member_any c.args.b c.args.letters.now
