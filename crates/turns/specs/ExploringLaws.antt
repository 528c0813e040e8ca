-- What the answer of the exploring is worth: n rows counted, and a closed table whose machine accepts the words of the automaton of rows, where row i is the
-- table's state i; or more rows than the limit.
use Rattle.std.specs.Prelude.{◌≡◌, refl, Bool, true, false, List, [], ◌∷◌, ℕ, ◌+◌, ◌*◌, ◌<◌, get_or, None}
use Rattle.std.proofs.Common.{sym, ap, ◌∙◌, inl, inr, arith}
use Rattle.automata.specs.Basics.{LtCases, lt_cases, Inj}
use Rattle.automata.specs.Automaton.{Automaton, Over, run, Reachable}
use Rattle.automata.specs.Machine.{automaton, SameWords}
use Rattle.automata.specs.Table.{ClosedTable, table_machine, table_step, table_accepting, flag_of}
use Rattle.automata.specs.Stage.{Counts, MoreThan}
use Rattle.rows.specs.Rows.{row_at, bit}
use Rattle.turns.specs.Exploring.{AllRows, Answers}

flag_bit_lem : (b : Bool) → flag_of (bit b) ≡ b
flag_bit_lem true = refl
flag_bit_lem false = refl

-- More rows are reached than the limit.
pub explored_more : (R : Automaton (List ℕ)) (k w limit : ℕ) (rows table : List ℕ) → Answers R k w limit rows table None → MoreThan k R limit
explored_more R k w limit rows table m = m

module _ (R : Automaton (List ℕ)) (k w limit n : ℕ) (rows table : List ℕ) (A : AllRows R k w limit n rows table) where
  pub explored_closed : ClosedTable limit n k table
  explored_closed = record { some = A.some; flags = A.within; long = A.long; inside = A.inside }

  abbrev T : Automaton ℕ
  T = automaton (table_machine limit n k table)

  below : (u : List ℕ) (p : ℕ) → Over k u → p < n → run T p u < n
  below [] p o h = h
  below (c ∷ u) p o h = below u (T.step p c) o.1 (rw (table_step limit n k table explored_closed p c h o.0) (A.inside p c h o.0))

  -- the rows are walked as the table's states are
  walk : (u : List ℕ) (p : ℕ) → Over k u → p < n → run R (row_at w p rows) u ≡ row_at w (run T p u) rows
  walk [] p o h = refl
  walk (c ∷ u) p o h =
      let e : T.step p c ≡ get_or table (limit + (p * k + c)) 0 = table_step limit n k table explored_closed p c h o.0 in
      ap (λ (r : List ℕ). run R r u) (sym (A.moves p c h o.0) ∙ ap (λ (q : ℕ). row_at w q rows) (sym e))
      ∙ walk u (T.step p c) o.1 (rw e (A.inside p c h o.0))

  from_start : (u : List ℕ) → Over k u → run R R.start u ≡ row_at w (run T 0 u) rows
  from_start u o = ap (λ (r : List ℕ). run R r u) (sym A.start) ∙ walk u 0 o A.some

  -- The table's machine accepts the words of the rows.
  pub explored_words : SameWords k R (automaton (table_machine limit n k table))
  explored_words u o =
      let h : run T 0 u < n = below u 0 o A.some in
      ap R.accepting (from_start u o)
      ∙ sym (flag_bit_lem (R.accepting (row_at w (run T 0 u) rows)))
      ∙ ap flag_of (sym (A.flags (run T 0 u) h))
      ∙ sym (table_accepting limit n k table explored_closed (run T 0 u) h)

  -- There are n reachable rows.
  pub explored_counts : Counts k R n
  explored_counts = record { state = λ i. row_at w i rows; reachable = A.reached; once = once; all = all }
    where
      once : Inj n (λ i. row_at w i rows)
      once i j bi bj e = go (lt_cases i j) (lt_cases j i)
        where
          go : LtCases i j → LtCases j i → i ≡ j
          go (inl x) y = absurd (A.distinct i j x.0 bj e)
          go (inr x) (inl y) = absurd (A.distinct j i y.0 bi (sym e))
          go (inr x) (inr y) = omega arith

      all : (r : List ℕ) → Reachable k R r → (i : ℕ) × (i < n) × (row_at w i rows ≡ r)
      all r (u, o, e) = (run T 0 u, below u 0 o A.some, sym (from_start u o) ∙ e)
