-- Judging in parts: pieces one after the other are the whole (`run_append`); what a run over known letters is (`run_going`, `run_known`) and one over an
-- unknown letter (`run_unknown`); and the reply after the whole plan is the reply of judging (`judge_run`).
use Rattle.std.specs.Prelude.{List, [], ◌∷◌, ℕ, suc}
use Rattle.automata.specs.Format.{Format}
use Rattle.card.specs.Layout.{move_at, letters_of}
use Rattle.card.specs.Alphabet.{column}
use Rattle.card.specs.Judge.{Place, none, first_dead}

module _ (fmt : Format) (c : List ℕ) where
  abbrev ls : List ℕ
  ls = letters_of fmt c

  -- the first dead place after this state
  abbrev pub later_dead : List ℕ → ℕ → ℕ → Place
  later_dead [] p k = none
  later_dead (l ∷ plan) p k = first_dead fmt c plan (move_at fmt c p (column ls l)) (suc k)
