-- How much is owed, by the table of moves that a card holds.
use mathlib.Core.Path.{◌≡◌, sym, ap, ◌∙◌}
use mathlib.Core.Logic.{◌≢◌}
use mathlib.Core.List.{List}
use Prim.Native.Nat.{ℕ, ◌<◌}
use native.Mathlib.Omega.{arith}
use lib.ListN.{get_or}
use Rattle.automata.specs.Format.{narrow}
use Rattle.automata.specs.Distance.{distance}
use Rattle.card.specs.Layout.{letter_count, mark_at, marks_of, moves_of, machine_of}
use Rattle.card.specs.Loads.{Loaded}
use Rattle.card.proofs.Loads.{load_loaded}
use Rattle.card.specs.Mark.{Mark, is_accepting, is_dead, is_live}
use Rattle.card.specs.Judge.{owed}
use Rattle.fields.specs.CardTable.{card_holds}
use Rattle.moves.specs.Holds.{Holds}
use Rattle.levels.specs.Levels.{DistanceExactly, DistancesExactly}
use Rattle.run.specs.Walk.{Ready, OwedTable}
use Rattle.run.proofs.WalkLaws.{ready_counted, mark_room, mark_is}

module _ (c : List ℕ) (m n : ℕ) (y : Ready c m n) (ms : List ℕ) (f : ms ≡ marks_of narrow c) (bs : List ℕ) (e : bs ≡ moves_of narrow c) where
  on_card : Loaded narrow c
  on_card = load_loaded narrow c y.loads

  holds_of : Holds m ms bs (machine_of narrow c)
  holds_of = card_holds c m n (ready_counted c m n y) ms f bs e on_card.inside

  pub not_accepting : (q : ℕ) → q < n → mark_at narrow c q ≡ 0 → get_or ms q 0 ≢ 1
  not_accepting q h z x = omega (arith, mark_is c m n y q ms f h, z, x)

  pub owed_is : (q r : ℕ) → q < n → mark_at narrow c q ≡ 0 → DistanceExactly m ms bs q r → r ≡ owed narrow c q
  owed_is q r h z D = go (mark_at narrow c q) z (on_card.marked q (rw y.states h))
    where
      go : (v : ℕ) → v ≡ 0 → Mark (letter_count narrow c) (machine_of narrow c) q v → r ≡ owed narrow c q
      go v x (is_accepting a) = absurd (omega arith)
      go v x (is_dead a) = absurd (omega arith)
      go v x (is_live a w o t) = D.exact (machine_of narrow c) holds_of w (rw (← y.letters) o) t ∙ ap (λ k. distance k (machine_of narrow c) q) (sym y.letters)

  pub owed_table : (t : List ℕ) → DistancesExactly m ms bs t → OwedTable c n t
  owed_table t D = record { entry = λ q h z. owed_is q (get_or t q 0) h z (D.each q (mark_room c m n y q ms f h) (mark_is c m n y q ms f h ∙ z)) }
