-- The rows found so far: what one more transition, one more row, and one row too many make of them. For any automaton of rows.
use mathlib.Core.Path.{◌≡◌, sym, ap, ◌∙◌, subst}
use mathlib.Core.Bool.{Bool, cond}
use mathlib.Core.Logic.{◌⊎◌, inl, inr}
use mathlib.Core.List.{List, []}
use Prim.Native.Nat.{ℕ, suc, ◌+◌, ◌*◌, ◌≤◌, ◌<◌}
use native.Mathlib.Omega.{arith}
use lib.Dec.{ltb}
use lib.ListN.{length, get_or, set}
use lib.Seq.{get_or-set_same, get_or-set_other}
use Rattle.automata.specs.Basics.{LtCases, lt_cases, Inj, lt_ltb, ltb_false}
use Rattle.automata.specs.Automaton.{Automaton, Reachable, reached_step}
use Rattle.automata.specs.Stage.{MoreThan}
use Rattle.rows.specs.Chains.{Chained, Appended}
use Rattle.rows.specs.Rows.{row_at}
use Rattle.rows.proofs.HashLaws.{chained_store}
use Rattle.rows.proofs.RowLaws.{row_within}
use Rattle.repeats.specs.Repeats.{Earlier}
use Rattle.turns.specs.Partial.{Partial, Place}
use Rattle.repeats.specs.declared.Turn.{Turn}

-- what lies before the next place is before this one, or this one
earlier_split : (p c state column : ℕ) → Earlier p c state (column + 1) → Earlier p c state column ⊎ ((p ≡ state) × (c ≡ column))
earlier_split p c state column (inl h) = inl (inl h)
earlier_split p c state column (inr (e, h)) = go (lt_cases c column)
  where
    go : LtCases c column → Earlier p c state column ⊎ ((p ≡ state) × (c ≡ column))
    go (inl x) = inl (inr (e, x.0))
    go (inr x) = inr (e, omega arith)

earlier_cell : (k p c state column : ℕ) → c < k → Earlier p c state column → p * k + c < state * k + column
earlier_cell k p c state column b (inl h) = omega (arith, row_within p state k h)
earlier_cell k p c state column b (inr (e, h)) = rw e (omega arith)

earlier_below : (p c state column count : ℕ) → state < count → Earlier p c state column → p < count
earlier_below p c state column count h (inl g) = omega arith
earlier_below p c state column count h (inr (e, g)) = rw e h

module _ (R : Automaton (List ℕ)) (k w limit : ℕ) where
  pub partial_start : (rows table heads : List ℕ) → 1 ≤ limit → row_at w 0 rows ≡ R.start → Chained w 1 rows table heads → length heads ≡ 512 → Partial R k w limit 1 0 0 rows table heads
  partial_start rows table heads h e v l = record {
    some = omega arith;
    within = h;
    start = e;
    distinct = λ i j a b q. absurd (omega arith);
    reached = λ i b. let z : i ≡ 0 = omega arith in ([], tt, rw z (sym e));
    inside = λ p c b f. absurd (none p c f);
    moves = λ p c b f. absurd (none p c f);
    chained = v;
    heads_long = l;
  }
    where
      none : (p c : ℕ) → Earlier p c 0 0 → ⊥
      none p c (inl h) = omega arith
      none p c (inr (e, h)) = omega arith

  -- all columns of a state are laid out
  pub partial_wrap : (count state column : ℕ) (rows table heads : List ℕ) → column ≡ k → Partial R k w limit count state column rows table heads → Partial R k w limit count (state + 1) 0 rows table heads
  partial_wrap count state column rows table heads e P = record {
    some = P.some;
    within = P.within;
    start = P.start;
    distinct = P.distinct;
    reached = P.reached;
    inside = λ p c b f. P.inside p c b (back p c b f);
    moves = λ p c b f. P.moves p c b (back p c b f);
    chained = P.chained;
    heads_long = P.heads_long;
  }
    where
      back : (p c : ℕ) → c < k → Earlier p c (state + 1) 0 → Earlier p c state column
      back p c b (inr (z, h)) = absurd (omega arith)
      back p c b (inl h) = go (lt_cases p state)
        where
          go : LtCases p state → Earlier p c state column
          go (inl x) = inl x.0
          go (inr x) = inr (omega arith, omega arith)

  -- a place for a link that is not used yet
  pub partial_store : (count state column x v : ℕ) (rows table heads : List ℕ) → count ≤ x → x < limit → Partial R k w limit count state column rows table heads → Partial R k w limit count state column rows (set table x v) heads
  partial_store count state column x v rows table heads h b P = record {
    some = P.some;
    within = P.within;
    start = P.start;
    distinct = P.distinct;
    reached = P.reached;
    inside = λ p c l f. rw (other (limit + (p * k + c)) (omega arith)) (P.inside p c l f);
    moves = λ p c l f. rw (other (limit + (p * k + c)) (omega arith)) (P.moves p c l f);
    chained = chained_store w count x v rows table heads h P.chained;
    heads_long = P.heads_long;
  }
    where
      other : (i : ℕ) → limit ≤ i → get_or (set table x v) i 0 ≡ get_or table i 0
      other i g = get_or-set_other table x i v 0 (λ z. omega arith)

  module _ (count : ℕ) (t : Turn) (rows table heads row : List ℕ) (P : Partial R k w limit count t.state t.column rows table heads) (L : Place k count t) (e : row ≡ R.step (row_at w t.state rows) t.column) where
    reach : Reachable k R row
    reach = subst (Reachable k R) (sym e) (reached_step k R (row_at w t.state rows) t.column L.column (P.reached t.state L.state))

    module _ (j : ℕ) (long : limit + t.place < length table) where
      abbrev table' : List ℕ
      table' = set table (limit + t.place) j

      old : (p c : ℕ) → c < k → Earlier p c t.state t.column → get_or table' (limit + (p * k + c)) 0 ≡ get_or table (limit + (p * k + c)) 0
      old p c b f = get_or-set_other table (limit + t.place) (limit + (p * k + c)) j 0
          (λ z. let g = earlier_cell k p c t.state t.column b f in omega (arith, L.cell))

      new : get_or table' (limit + (t.state * k + t.column)) 0 ≡ j
      new = ap (λ (i : ℕ). get_or table' (limit + i) 0) (sym L.cell) ∙ get_or-set_same table (limit + t.place) j 0 long

      -- the row is there already
      pub partial_found : j < count → row_at w j rows ≡ row → Partial R k w limit count t.state (t.column + 1) rows table' heads
      partial_found b f = record {
        some = P.some;
        within = P.within;
        start = P.start;
        distinct = P.distinct;
        reached = P.reached;
        inside = λ p c l g. inside p c l (earlier_split p c t.state t.column g);
        moves = λ p c l g. moves p c l (earlier_split p c t.state t.column g);
        chained = chained_store w count (limit + t.place) j rows table heads (omega (arith, P.within)) P.chained;
        heads_long = P.heads_long;
      }
        where
          inside : (p c : ℕ) → c < k → Earlier p c t.state t.column ⊎ ((p ≡ t.state) × (c ≡ t.column)) → get_or table' (limit + (p * k + c)) 0 < count
          inside p c l (inl g) = rw (old p c l g) (P.inside p c l g)
          inside p c l (inr (x, y)) = rw (x, y, new) b

          moves : (p c : ℕ) → c < k → Earlier p c t.state t.column ⊎ ((p ≡ t.state) × (c ≡ t.column)) → row_at w (get_or table' (limit + (p * k + c)) 0) rows ≡ R.step (row_at w p rows) c
          moves p c l (inl g) = rw (old p c l g) (P.moves p c l g)
          moves p c l (inr (x, y)) = rw (x, y, new) (f ∙ e)

    module _ (long : limit + t.place < length table) (none : (j : ℕ) → j < count → row_at w j rows ≡ row → ⊥) where
      -- the row is put behind the others
      pub partial_new : (rows' heads' : List ℕ) → count < limit → Appended w count rows row rows' → Chained w (count + 1) rows' table heads' → length heads' ≡ 512
          → Partial R k w limit (count + 1) t.state (t.column + 1) rows' (set table (limit + t.place) count) heads'
      partial_new rows' heads' room A v u = record {
        some = omega arith;
        within = omega arith;
        start = A.before 0 P.some ∙ P.start;
        distinct = λ i j a b. distinct i j a (lt_cases j count) b;
        reached = λ i b. reached i b (lt_cases i count);
        inside = λ p c l g. inside p c l (earlier_split p c t.state t.column g);
        moves = λ p c l g. moves p c l (earlier_split p c t.state t.column g);
        chained = chained_store w (count + 1) (limit + t.place) count rows' table heads' (omega arith) v;
        heads_long = u;
      }
        where
          distinct : (i j : ℕ) → i < j → LtCases j count → j < count + 1 → row_at w i rows' ≡ row_at w j rows' → ⊥
          distinct i j a (inl x) b z = P.distinct i j a x.0 (sym (A.before i (omega arith)) ∙ z ∙ A.before j x.0)
          distinct i j a (inr x) b z =
              let y : j ≡ count = omega arith in
              none i (omega arith) (sym (A.before i (omega arith)) ∙ z ∙ rw y A.here)

          reached : (i : ℕ) → i < count + 1 → LtCases i count → Reachable k R (row_at w i rows')
          reached i b (inl x) = subst (Reachable k R) (sym (A.before i x.0)) (P.reached i x.0)
          reached i b (inr x) =
              let y : i ≡ count = omega arith in
              subst (Reachable k R) (sym (ap (λ (n : ℕ). row_at w n rows') y ∙ A.here)) reach

          inside : (p c : ℕ) → c < k → Earlier p c t.state t.column ⊎ ((p ≡ t.state) × (c ≡ t.column)) → get_or (table' count long) (limit + (p * k + c)) 0 < count + 1
          inside p c l (inl g) = let h = P.inside p c l g in rw (old count long p c l g) (omega arith)
          inside p c l (inr (x, y)) = rw (x, y, new count long) (omega arith)

          moves : (p c : ℕ) → c < k → Earlier p c t.state t.column ⊎ ((p ≡ t.state) × (c ≡ t.column)) → row_at w (get_or (table' count long) (limit + (p * k + c)) 0) rows' ≡ R.step (row_at w p rows') c
          moves p c l (inl g) =
              rw (old count long p c l g, A.before (get_or table (limit + (p * k + c)) 0) (P.inside p c l g), A.before p (earlier_below p c t.state t.column count L.state g)) (P.moves p c l g)
          moves p c l (inr (x, y)) = rw (x, y, new count long, A.here, A.before t.state L.state) e

      -- no room is left for it
      pub partial_full : limit ≤ count → MoreThan k R limit
      partial_full full = (f, reached, one)
        where
          f : ℕ → List ℕ
          f i = cond (ltb i count) (row_at w i rows) row

          low : (i : ℕ) → i < count → f i ≡ row_at w i rows
          low i h = ap (λ (b : Bool). cond b (row_at w i rows) row) (lt_ltb i count h)

          high : (i : ℕ) → count ≤ i → f i ≡ row
          high i h = ap (λ (b : Bool). cond b (row_at w i rows) row) (ltb_false i count h)

          reached : (i : ℕ) → i < suc limit → Reachable k R (f i)
          reached i b = go (lt_cases i count)
            where
              go : LtCases i count → Reachable k R (f i)
              go (inl x) = subst (Reachable k R) (sym (low i x.0)) (P.reached i x.0)
              go (inr x) = subst (Reachable k R) (sym (high i x.0)) reach

          differ : (i j : ℕ) → i < j → j < suc limit → f i ≡ f j → ⊥
          differ i j a b z = go (lt_cases j count)
            where
              go : LtCases j count → ⊥
              go (inl x) = P.distinct i j a x.0 (sym (low i (omega arith)) ∙ z ∙ low j x.0)
              go (inr x) = none i (omega (arith, P.within)) (sym (low i (omega (arith, P.within))) ∙ z ∙ high j x.0)

          one : Inj (suc limit) f
          one i j bi bj z = go (lt_cases i j) (lt_cases j i)
            where
              go : LtCases i j → LtCases j i → i ≡ j
              go (inl x) y = absurd (differ i j x.0 bj z)
              go (inr x) (inl y) = absurd (differ j i y.0 bi (sym z))
              go (inr x) (inr y) = omega arith
