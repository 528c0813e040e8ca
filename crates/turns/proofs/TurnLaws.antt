-- One turn of the loop: what its calls ask, and what it leaves.
use mathlib.Core.Path.{◌≡◌, refl, sym, ap, ◌∙◌}
use Rattle.std.specs.Prelude.{None}
use mathlib.Core.Bool.{true}
use mathlib.Core.List.{List}
use Prim.Native.Nat.{ℕ, ◌+◌, ◌*◌, ◌≤◌, ◌<◌}
use native.Mathlib.Nat.{le_refl, le-add_right}
use native.Mathlib.Omega.{arith}
use lib.ListN.{length, get_or, set, length-set}
use Rattle.automata.specs.Automaton.{Automaton}
use Rattle.automata.specs.Stage.{MoreThan}
use Rattle.rows.specs.Chains.{Looked}
use Rattle.rows.specs.Found.{Pushed}
use Rattle.rows.specs.Rows.{row_at, number_at, pair_row}
use Rattle.rows.specs.Sums.{row_hash}
use Rattle.rows.specs.declared.chains.Found.{Found}
use Rattle.rows.proofs.HashLaws.{chained_more}
use Rattle.rows.proofs.RowLaws.{row_within, cell_within, row_length}
use Rattle.entries.specs.Entries.{Target}
use Rattle.sets.specs.Fits.{rows_for, Source, Step, ListedFor}
use Rattle.sets.specs.Operations.{operation_of, is_pairing}
use Rattle.sets.specs.declared.operands.Operands.{Operands}
use Rattle.sets.proofs.FitLaws.{reach_fits}
use Rattle.sets.proofs.PairLaws.{pair_room, pair_left, pair_right, pair_next}
use Rattle.repeats.specs.Repeats.{Repeats, Asking, Earlier}
use Rattle.turns.specs.Partial.{Laying, Laid, Standing, Turning}
use Rattle.repeats.specs.declared.Turn.{Turn}
use Rattle.turns.proofs.LoopLaws.{partial_store, partial_found, partial_new, partial_full}

-- ---- the row that a transition leads to is laid out

module _ (s : Operands) (f : Found) (row : List ℕ) (t : Turn) (L : Laying s f row t) where
  pub lay_cell : s.limit + t.place < length f.table.now
  lay_cell = omega (arith, cell_within t.state s.limit s.left.columns t.column (omega (arith, L.place.state, L.within)) L.place.column, L.place.cell, L.room.table_long)

  module _ (A : Automaton (List ℕ)) (P : Standing A s f t) (e : row ≡ A.step (row_at s.width t.state f.rows.now) t.column) where
    pub lay_found : (j : ℕ) → j < f.count → row_at s.width j f.rows.now ≡ row → Laid A s f t f.count f.rows.now (set f.table.now (s.limit + t.place) j) f.heads
    lay_found j h same = (le_refl f.count, partial_found A s.left.columns s.width s.limit f.count t f.rows.now f.table.now f.heads row P L.place e j lay_cell h same)

    pub lay_new : Looked s.width f.count f.rows.now row None → f.count < s.limit → (h : ℕ) → h ≡ row_hash row → h < 512 → (g : Found) → Pushed s.width f row h g
        → Laid A s f t g.count g.rows.now (set g.table.now (s.limit + t.place) f.count) g.heads
    lay_new none room h e' low g G =
        let v = get_or f.heads h 0 in
        let long : s.limit + t.place < length (set f.table.now f.count v) = omega (arith, lay_cell, length-set f.table.now f.count v) in
        let chained = chained_more s.width f.count h f.rows.now row g.rows.now f.table.now f.heads P.chained G.appended e' low (omega (arith, lay_cell, room)) P.heads_long in
        rw (G.links, G.heads, G.count) (
          le-add_right f.count 1,
          partial_new A s.left.columns s.width s.limit f.count t f.rows.now (set f.table.now f.count v) f.heads row
              (partial_store A s.left.columns s.width s.limit f.count t.state t.column f.count v f.rows.now f.table.now f.heads (le_refl f.count) room P) L.place e long none g.rows.now (set f.heads h (f.count + 1)) room G.appended chained (length-set f.heads h (f.count + 1) ∙ P.heads_long),
        )

    pub lay_full : Looked s.width f.count f.rows.now row None → s.limit ≤ f.count → MoreThan s.left.columns A s.limit
    lay_full none h = partial_full A s.left.columns s.width s.limit f.count t f.rows.now f.table.now f.heads row P L.place e lay_cell none h

-- ---- one turn

module _ (s : Operands) (f : Found) (row : List ℕ) (t : Turn) (T : Turning s f row t) where
  pub turn_row : t.state * s.width + s.width ≤ length f.rows.now
  turn_row = omega (arith, row_within t.state s.limit s.width (omega (arith, T.place.state, T.partial.within)), T.room.rows_long)

  pub turn_cell : s.limit + t.place < length f.table.now
  turn_cell = omega (arith, cell_within t.state s.limit s.left.columns t.column (omega (arith, T.place.state, T.partial.within)) T.place.column, T.place.cell, T.room.table_long)

  pub turn_step : Step s t.column (row_at s.width t.state f.rows.now) row
  turn_step = record {
    column = T.place.column;
    source = record {
      long = row_length s.width t.state f.rows.now turn_row;
      fits = reach_fits s (row_at s.width t.state f.rows.now) (T.partial.reached t.state T.place.state);
    };
    long = T.room.row_long;
  }

  -- an earlier transition leads to the same row
  turn_copy : (p d : ℕ) → d < s.left.columns → Earlier p d t.state t.column → (rows_for s).step (row_at s.width p f.rows.now) d ≡ (rows_for s).step (row_at s.width t.state f.rows.now) t.column → (j : ℕ)
      → j ≡ get_or f.table.now (s.limit + (p * s.left.columns + d)) 0 → Laid (rows_for s) s f t f.count f.rows.now (set f.table.now (s.limit + t.place) j) f.heads
  turn_copy p d l before same j y =
      let inside : j < f.count = rw y (T.partial.inside p d l before) in
      let to : row_at s.width j f.rows.now ≡ (rows_for s).step (row_at s.width t.state f.rows.now) t.column = ap (λ (i : ℕ). row_at s.width i f.rows.now) y ∙ T.partial.moves p d l before ∙ same in (
        le_refl f.count,
        partial_found (rows_for s) s.left.columns s.width s.limit f.count t f.rows.now f.table.now f.heads ((rows_for s).step (row_at s.width t.state f.rows.now) t.column)
            T.partial T.place refl j turn_cell inside to,
      )

  -- an earlier transition is repeated
  pub turn_repeats : (r : ℕ) → Repeats s f.rows.now t.state t.column r → (j : ℕ) → j ≡ get_or f.table.now (s.limit + r) 0 → Laid (rows_for s) s f t f.count f.rows.now (set f.table.now (s.limit + t.place) j) f.heads
  turn_repeats r E j e = turn_copy E.row E.by E.within E.before E.same j (e ∙ ap (λ (i : ℕ). get_or f.table.now (s.limit + i) 0) E.place)

  pub turn_asking : (held : ℕ) (members : List ℕ) → ListedFor s (row_at s.width t.state f.rows.now) held members → Asking s f.rows.now held members t.state t.column t.place
  turn_asking held members L = record {
    within = T.place.column;
    place = T.place.cell;
    room = turn_row;
    states = reach_fits s (row_at s.width t.state f.rows.now) (T.partial.reached t.state T.place.state);
    listed = L;
  }

-- ---- a row of a pair

module _ (s : Operands) (f : Found) (row : List ℕ) (t : Turn) (T : Turning s f row t) (h : is_pairing (operation_of s.op) ≡ true) where
  source : Source s (row_at s.width t.state f.rows.now)
  source = (turn_step s f row t T).source

  pub two_long : 4 ≡ length (row_at s.width t.state f.rows.now)
  two_long = sym (source.long ∙ pair_room s h)

  pub two_left : (p : ℕ) → p ≡ number_at (row_at s.width t.state f.rows.now) 0 → p < s.left.states
  two_left p e = rw e (pair_left s (row_at s.width t.state f.rows.now) source h)

  pub two_right : (r : ℕ) → r ≡ number_at (row_at s.width t.state f.rows.now) 2 → r < s.right.states
  two_right r e = rw e (pair_right s (row_at s.width t.state f.rows.now) source h)

  pub two_next : (p r x y : ℕ) → p ≡ number_at (row_at s.width t.state f.rows.now) 0 → r ≡ number_at (row_at s.width t.state f.rows.now) 2 → Target s.left p t.column x → Target s.right r t.column y
      → pair_row x y ≡ (rows_for s).step (row_at s.width t.state f.rows.now) t.column
  two_next p r x y ep er ex ey = pair_next s (row_at s.width t.state f.rows.now) source h t.column x y (rw ep at ex) (rw er at ey)
