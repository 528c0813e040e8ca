-- How far a change is from the states of a table of moves: numbers that are settled are the same for equivalent states.
use Rattle.std.specs.Prelude.{◌≡◌, List, [], true, ℕ, ◌<◌, length, get_or}
use Rattle.std.proofs.Common.{refl, sym, ◌∙◌, arith}
use Rattle.automata.specs.Machine.{Machine, Equivalent}
use Rattle.distance.specs.Changes.{far, Settled}
use Rattle.distance.proofs.DistanceLaws as laws
use Rattle.moves.specs.Holds.{Table, Holds, AcceptKeys}
use Rattle.moves.specs.TableLaws.{move_inside}
use Rattle.sweeps.specs.Change.{leads, entry, stepping, Alike}

module _ (m : ℕ) (ms bs ks : List ℕ) (t : Table 120 m ms bs) (a : AcceptKeys ms ks) where
  same_key : (M : Machine) → Holds m ms bs M → (p q : ℕ) → p < length ms → q < length ms → Equivalent m M p q → get_or ks p 0 ≡ get_or ks q 0
  same_key M H p q h b e = a.whole p q h b (sym (H.accepting p h) ∙ e [] tt ∙ H.accepting q b)

  -- l is the first part of fs
  module _ (l fs : List ℕ) (n : (p : ℕ) → p < length ms → get_or fs p 0 ≡ get_or l p 0) where
    pub changes_alike : Settled (stepping m ms bs ks) l true → Alike m ms bs fs
    changes_alike S = record {
      alike = λ M H p q h b e.
          omega (
            arith,
            n p h,
            n q b,
            laws.closed_alike (length ms) (length ms) m (entry ks) (leads m bs) (far l) S.numbers.backed (S.closed refl) M (λ p i h v. move_inside 120 m ms bs t p i h v) H.step (same_key M H) p q h b e,
          );
    }
