-- `push` meets its contract: the part that was put is the row at its place.
use mathlib.Core.Path.{refl}
use Rattle.rows.proofs.RowLaws.{appended}
use Rattle.rows.proofs.chains.Found.push.Goals as goal

pub returns-clause-pushed : goal.returns-clause-pushed
returns-clause-pushed g c =
    record { appended = appended _ _ _ _ _ c.requires.row_len c.requires.w_in_bounds c.put.ensures; links = refl; heads = refl; count = refl }
