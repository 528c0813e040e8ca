-- The loop over all transitions: what holds where it begins, on its way and at its end.
use mathlib.Core.Path.{◌≡◌, ap, ◌∙◌}
use mathlib.Core.List.{List}
use mathlib.Core.Logic.{inl, inr}
use Rattle.automata.specs.Automaton.{Automaton}
use Prim.Native.Nat.{ℕ, ◌+◌, ◌*◌, ◌-◌, ◌≤◌, ◌<◌}
use native.Mathlib.Nat.{mul-le-mul_right, suc-mul, zero-mul}
use native.Mathlib.Numerals.{add-one}
use native.Mathlib.Omega.{arith}
use lib.ListN.{length, get_or, set, replicate, length-set, length-replicate}
use Rattle.automata.specs.Basics.{SameCases, same_cases, nat_test}
use Rattle.rows.specs.Chains.{Chained}
use Rattle.rows.specs.Found.{Kept, Pushed}
use Rattle.rows.specs.declared.chains.Found.{Found}
use Rattle.rows.specs.Rows.{row_at}
use Rattle.rows.specs.Sums.{row_hash}
use Rattle.rows.proofs.HashLaws.{chained_none, chained_more}
use Rattle.rows.proofs.RowLaws.{row_within, cell_within}
use Rattle.sets.specs.Fits.{ListedFor, Listing, rows_for, RowFits}
use Rattle.sets.specs.Operations.{operation_of}
use Rattle.sets.specs.declared.operands.Operands.{Operands}
use Rattle.sets.proofs.FitLaws.{reach_fits}
use Rattle.repeats.specs.Order.{Follows}
use Rattle.repeats.specs.declared.Turn.{Turn}
use Rattle.turns.specs.Partial.{Room, Partial, Standing, Turning, Turned}
use Rattle.std.specs.Prelude.{Some}
use Rattle.turns.proofs.LoopLaws.{partial_start, partial_wrap}
use Rattle.readings.specs.Flagged.{Flagging, Flagged}
use Rattle.turns.specs.Exploring.{Explores, AllRows}

-- The transitions before the turn's are laid out.
pub record Running (s : Operands) (f : Found) (row : List ℕ) (t : Turn) : Type 0 where
  pub room : Room s f.rows.now row f.table.now
  pub state : t.state ≤ f.count
  pub column : t.column < s.left.columns
  pub cell : t.place ≡ t.state * s.left.columns + t.column
  pub partial : Standing (rows_for s) s f t

pub room_kept : {s : Operands} {rows row table : List ℕ} → Room s rows row table → (rows' row' table' : List ℕ) → length rows' ≡ length rows → length row' ≡ length row → length table' ≡ length table → Room s rows' row' table'
room_kept R rows' row' table' x y z = record {
  some = R.some;
  small = R.small;
  rows_long = omega (arith, R.rows_long);
  row_long = y ∙ R.row_long;
  table_long = omega (arith, R.table_long);
}

pub first_room : {s : Operands} {rows row table : List ℕ} → Room s rows row table → 0 * s.width + s.width ≤ length rows
first_room {s} R = omega (arith, row_within 0 s.limit s.width R.some, R.rows_long)

-- before the first turn the first row is put
pub run_start_lem : (s : Operands) (f : Found) (row row' : List ℕ) (h : ℕ) (g : Found) (t : Turn) → Pushed s.width f row' h g → Kept f g → Explores s f.rows.now row f.table.now → f.count ≡ 0 → f.heads ≡ replicate 512 0
    → row' ≡ (rows_for s).start → length row' ≡ length row → h ≡ row_hash row' → h < 512 → t.state ≡ 0 → t.column ≡ 0 → t.place ≡ 0 → Running s g row' t
run_start_lem s f row row' h g t P K E z hs e y v l es ec ep = record {
  room = room_kept E.room g.rows.now row' g.table.now K.2 y K.3;
  state = omega (arith, es);
  column = omega (arith, ec, s.fits.columns);
  cell = rw (es, ec, ep) (omega (arith, zero-mul s.left.columns));
  partial = rw (es, ec, P.links, P.heads, P.count, z)
      (partial_start (rows_for s) s.left.columns s.width s.limit g.rows.now (set f.table.now 0 (get_or f.heads h 0)) (set f.heads h 1) E.room.some (rw z at P.appended.here ∙ e) (rw z at chained) (length-set f.heads h 1 ∙ long));
}
  where
    long : length f.heads ≡ 512
    long = ap length hs ∙ length-replicate {A = ℕ} 512 0

    none : Chained s.width f.count f.rows.now f.table.now f.heads
    none = rw (z, hs) (chained_none s.width f.rows.now f.table.now)

    chained : Chained s.width (f.count + 1) g.rows.now (set f.table.now f.count (get_or f.heads h 0)) (set f.heads h (f.count + 1))
    chained = chained_more s.width f.count h f.rows.now row' g.rows.now f.table.now f.heads none P.appended v l (omega (arith, z, E.room.some, E.room.table_long)) long

pub listing_kept : {s : Operands} {members : List ℕ} → Listing s members → (members' : List ℕ) → length members' ≡ length members → Listing s members'
listing_kept L members' e = record { left = omega (arith, L.left); right = omega (arith, L.right); small = omega (arith, L.small) }

-- all rows have their transitions, and the flags are laid out
partial_done : (R : Automaton (List ℕ)) (k w limit count state column : ℕ) (rows table heads table' : List ℕ) → count ≤ state → Partial R k w limit count state column rows table heads → Flagged R w limit count rows table table'
    → limit + count * k ≤ length table' → AllRows R k w limit count rows table'
partial_done R k w limit count state column rows table heads table' h P F l = record {
  some = P.some;
  within = P.within;
  start = P.start;
  distinct = P.distinct;
  reached = P.reached;
  inside = λ p c b g. rw (F.kept (limit + (p * k + c)) (omega arith)) (P.inside p c g (inl (omega arith)));
  moves = λ p c b g. rw (F.kept (limit + (p * k + c)) (omega arith)) (P.moves p c g (inl (omega arith)));
  flags = F.set;
  long = l;
}

module _ (s : Operands) (f : Found) (row : List ℕ) (t : Turn) (R : Running s f row t) where
  module _ (h : t.state < f.count) where
    pub run_turning : Turning s f row t
    run_turning = record {
      room = R.room;
      place = record { state = h; column = R.column; cell = R.cell };
      partial = R.partial;
    }

    -- the row whose states are listed
    pub run_source : (t.state * s.width + s.width ≤ length f.rows.now) × RowFits (operation_of s.op) s.left.states s.right.states (row_at s.width t.state f.rows.now)
    run_source = (
      omega (arith, row_within t.state s.limit s.width (omega (arith, R.partial.within)), R.room.rows_long),
      reach_fits s (row_at s.width t.state f.rows.now) (R.partial.reached t.state h),
    )

    -- fewer transitions than room was made for
    pub run_below : t.place < s.limit * s.left.columns
    run_below = omega (arith, cell_within t.state s.limit s.left.columns t.column (omega (arith, R.partial.within)) R.column, R.cell)

    pub run_less : (u : Turn) → Follows s.left.columns t u → s.limit * s.left.columns - u.place < s.limit * s.left.columns - t.place
    run_less u F = omega (arith, run_below, F.place)

    module _ (u : Turn) (F : Follows s.left.columns t u) (g : Found) where
      -- the states listed are those of the next transition's row, where it is not by the first column
      pub run_listed : row_at s.width t.state g.rows.now ≡ row_at s.width t.state f.rows.now → (held : ℕ) (members : List ℕ) → ListedFor s (row_at s.width t.state f.rows.now) held members
          → 0 < u.column → ListedFor s (row_at s.width u.state g.rows.now) held members
      run_listed e held members L b = go (same_cases nat_test (t.column + 1) s.left.columns)
        where
          go : SameCases nat_test (t.column + 1) s.left.columns → ListedFor s (row_at s.width u.state g.rows.now) held members
          go (inl p) = let w = F.wrap p.0 in absurd (omega (arith, w.1))
          go (inr p) = let o = F.on p.0 in rw (o.0, e) L

      -- the next transition
      pub run_next : (row' : List ℕ) → length row' ≡ length row → Kept f g → Turned (rows_for s) s f t g (Some tt) → Running s g row' u
      run_next row' y K v = go (same_cases nat_test (t.column + 1) s.left.columns)
        where
          room : Room s g.rows.now row' g.table.now
          room = room_kept R.room g.rows.now row' g.table.now K.2 y K.3

          go : SameCases nat_test (t.column + 1) s.left.columns → Running s g row' u
          go (inl p) =
              let w = F.wrap p.0 in
              let m : (t.state + 1) * s.left.columns ≡ t.state * s.left.columns + s.left.columns = rw (add-one, suc-mul) in
              let c : u.place ≡ (t.state + 1) * s.left.columns + 0 = omega (arith, F.place, R.cell, m, p.0) in
              record {
                room = room;
                state = omega (arith, v.0, h, w.0);
                column = omega (arith, w.1, s.fits.columns);
                cell = rw (w.0, w.1) c;
                partial = rw (w.0, w.1) (partial_wrap (rows_for s) s.left.columns s.width s.limit g.count t.state (t.column + 1) g.rows.now g.table.now g.heads p.0 v.1);
              }
          go (inr p) =
              let o = F.on p.0 in
              let c : u.place ≡ t.state * s.left.columns + (t.column + 1) = omega (arith, F.place, R.cell) in
              record {
                room = room;
                state = omega (arith, v.0, h, o.0);
                column = omega (arith, o.1, R.column, p.0);
                cell = rw (o.0, o.1) c;
                partial = rw (o.0, o.1) v.1;
              }

  module _ (h : f.count ≤ t.state) where
    cells : f.count * s.left.columns ≤ s.limit * s.left.columns
    cells = mul-le-mul_right {m = f.count} {n = s.limit} s.left.columns R.partial.within

    pub run_flagging : Flagging s f.count f.rows.now f.table.now
    run_flagging = record {
      within = R.partial.within;
      rows_long = omega (arith, mul-le-mul_right {m = f.count} {n = s.limit} s.width R.partial.within, R.room.rows_long);
      table_long = omega (arith, R.partial.within, R.room.table_long);
      sources = λ i g. reach_fits s (row_at s.width i f.rows.now) (R.partial.reached i g);
    }

    pub run_done : (table' : List ℕ) → length table' ≡ length f.table.now → Flagged (rows_for s) s.width s.limit f.count f.rows.now f.table.now table' → AllRows (rows_for s) s.left.columns s.width s.limit f.count f.rows.now table'
    run_done table' z F = partial_done (rows_for s) s.left.columns s.width s.limit f.count t.state t.column f.rows.now f.table.now f.heads table' h R.partial F (omega (arith, cells, R.room.table_long))
