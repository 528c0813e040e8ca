-- How far a change is from the states of a table: the numbers that the sweeps found.
use Rattle.std.specs.Prelude.{◌≡◌, Bool, true, List, [], ℕ, ◌<◌}
use Rattle.std.proofs.Common.{refl, sym, ap, ◌∙◌, arith}
use Rattle.automata.specs.Machine.{size, Equivalent}
use Rattle.automata.specs.Partition.{bit}
use Rattle.distance.specs.Changes.{far, Settled}
use Rattle.distance.proofs.DistanceLaws as laws
use Rattle.entries.specs.declared.table.Table.{Table}
use Rattle.entries.specs.Entries.{flag_bit, machine_of}
use Rattle.entries.proofs.EntryLaws.{machine_size, machine_accepting, machine_formed}
use Rattle.spread.specs.Change.{leads, stepping, Alike, Settling}

module _ (T : Table) where
  inside : (p : ℕ) → p < size (machine_of T) → p < T.states
  inside p h = rw (machine_size T) at h

  moved : (p c : ℕ) → p < T.states → c < T.columns → leads T p c < T.states
  moved p c h b = inside (leads T p c) ((machine_formed T).inside p c (rw (machine_size T) h) b)

  answers : (p q : ℕ) → p < T.states → q < T.states → Equivalent T.columns (machine_of T) p q → flag_bit T.cells.now p ≡ flag_bit T.cells.now q
  answers p q h b e = ap bit (sym (machine_accepting T p h) ∙ e [] tt ∙ machine_accepting T q b)

  pub settling : (l : List ℕ) (r : Bool) → Settled (stepping T) l r → Settling T l r
  settling l r S = record { most = S.numbers.backed.most; alike = alike }
    where
      alike : r ≡ true → Alike T l
      alike z p q hp hq e =
          omega (
            arith,
            laws.closed_alike T.states T.states T.columns (flag_bit T.cells.now) (leads T) (far l) S.numbers.backed (S.closed z) (machine_of T) moved (λ p c h b. refl) answers p q (inside p hp)
                (inside q hq) e,
          )
