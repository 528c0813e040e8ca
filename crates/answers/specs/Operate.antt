-- A stage by its operation: the stage's answer from what was found of the rows, and what was found of the rows from the table that exploring lays out.
use Rattle.std.specs.Prelude.{◌≡◌, List, [], ◌∷◌, ℕ, suc, ◌≤◌, ◌<◌}
use Rattle.std.proofs.Common.{◌∙◌, arith}
use Rattle.automata.specs.Automaton.{Automaton}
use Rattle.automata.specs.Machine.{Machine, size, automaton, WellFormed}
use Rattle.automata.specs.Smallest.{smallest, smallest_canonical, smallest_words}
use Rattle.automata.specs.Table.{table_machine, table_formed}
use Rattle.automata.specs.Format.{Format}
use Rattle.automata.specs.Stage.{Made, made, refused, MoreThan, Smallest, StageResult, kept_one, too_many_sets, too_many_states}
use Rattle.automata.specs.Stages.{pair_stage, concat_stage, star_stage, erase_stage}
use Rattle.sets.specs.Operations.{Operation, pairing, concatenation, star, erase, rows_of}
use Rattle.turns.specs.Exploring.{AllRows}
use Rattle.turns.specs.ExploringLaws.{explored_closed, explored_words, explored_counts}
use Rattle.answers.specs.RowSets.{pair_stage_by, concat_stage_by, star_stage_by, erase_stage_by}

-- The stage of an operation on machines over m letters and the mark; star and erase take the first machine.
abbrev pub operate : Format → ℕ → Operation → Machine → Machine → Made
operate fmt m (pairing o) A B = pair_stage fmt (suc m) o A B
operate fmt m concatenation A B = concat_stage fmt (suc m) A B
operate fmt m star A B = star_stage fmt (suc m) A
operate fmt m erase A B = erase_stage fmt m A

-- ONE OPERATION: what is found of its rows is its stage's answer.
pub operate_by : (o : Operation) (m : ℕ) (A B : Machine) → WellFormed (suc m) A → WellFormed (suc m) B → (fmt : Format) (r : Made)
    → StageResult fmt (suc m) (rows_of o m (size A) (automaton A) (size B) (automaton B)) r → operate fmt m o A B ≡ r
operate_by (pairing o) m A B F G fmt r s = pair_stage_by (suc m) o A B fmt r s
operate_by concatenation m A B F G fmt r s = concat_stage_by (suc m) A B F G fmt r s
operate_by star m A B F G fmt r s = star_stage_by (suc m) A F fmt r s
operate_by erase m A B F G fmt r s = erase_stage_by m A F fmt r s

-- ---- the answer by what was found

module _ (R : Automaton (List ℕ)) (k w limit n : ℕ) (rows table : List ℕ) (H : AllRows R k w limit n rows table) where
  -- The smallest machine of the table is the smallest of the rows.
  rows_smallest : Smallest k R (smallest k (table_machine limit n k table))
  rows_smallest =
      let F : WellFormed k (table_machine limit n k table) = table_formed limit n k table (explored_closed R k w limit n rows table H) in
      record { canonical = smallest_canonical k (table_machine limit n k table) F; words = λ v o. explored_words R k w limit n rows table H v o ∙ smallest_words k (table_machine limit n k table) F v o }

  module _ (fmt : Format) (e : fmt.most_sets ≡ limit) where
    within : n ≤ fmt.most_sets
    within = omega (arith, e, H.within)

    pub found_kept : size (smallest k (table_machine limit n k table)) ≤ fmt.most_states → StageResult fmt k R (made (n ∷ []) (smallest k (table_machine limit n k table)))
    found_kept h = kept_one n (smallest k (table_machine limit n k table)) (explored_counts R k w limit n rows table H) within rows_smallest h

    pub found_large : fmt.most_states < size (smallest k (table_machine limit n k table)) → StageResult fmt k R (refused 9)
    found_large h = too_many_states n (smallest k (table_machine limit n k table)) (explored_counts R k w limit n rows table H) within rows_smallest h

pub found_many : (R : Automaton (List ℕ)) (k limit : ℕ) (fmt : Format) → fmt.most_sets ≡ limit → MoreThan k R limit → StageResult fmt k R (refused 8)
found_many R k limit fmt e c = too_many_sets (rw (← e) at c)
