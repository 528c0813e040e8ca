-- The stages: the sets that each operation makes, for machines of any size and any limits; k columns are the letters and the mark. That a kept machine
-- accepts exactly the operation on its operands' languages is shown in the crate `language` (StageLaws.antt).
use Rattle.std.specs.Prelude.{Bool, not, ◌&&◌, ◌||◌, ℕ, suc}
use Rattle.automata.specs.Machine.{Machine}
use Rattle.automata.specs.Flags.{flags_test}
use Rattle.automata.specs.Subset.{subset}
use Rattle.automata.specs.Operations.{product, pair_test, concat_NFA, star_NFA, erase_NFA}
use Rattle.automata.specs.Format.{Format}
use Rattle.automata.specs.Stage.{Made, stage}

-- `|`, `&`, `-`
pub data Pairing : Type 0 where
  either both without : Pairing

abbrev pub combine : Pairing → Bool → Bool → Bool
combine either a b = a || b
combine both a b = a && b
combine without a b = a && not b

-- "`|`, `&`, `-`: a set is a pair reached from (0, 0)."
unfoldable pub pair_stage : Format → ℕ → Pairing → Machine → Machine → Made
pair_stage fmt k o A B = stage pair_test fmt k (product (combine o) A B)

-- "AB: sets of states of A and B together. Start with A's 0; a set with an accepting state of A gains B's 0. Accepting if it holds an accepting state
-- of B." B's state q is the node size A + q.
unfoldable pub concat_stage : Format → ℕ → Machine → Machine → Made
concat_stage fmt k A B = stage flags_test fmt k (subset (concat_NFA A B))

-- "`A*`: states of A and an extra e without moves. Start with e and 0; a set with an accepting state of A gains e and 0. Accepting if it holds e."
-- e is the node size A.
unfoldable pub star_stage : Format → ℕ → Machine → Made
star_stage fmt k A = stage flags_test fmt k (subset (star_NFA A))

-- "Erase U: start with 0; a set gains whatever its members reach by one mark or more. Letters move it; a mark leads to the empty set, which stays
-- itself. Accepting if a member is." The mark is the column m.
unfoldable pub erase_stage : Format → ℕ → Machine → Made
erase_stage fmt m U = stage flags_test fmt (suc m) (subset (erase_NFA m U))
