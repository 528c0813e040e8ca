-- The marks and moves of a card whose contents are right and whose moves stay among its states are a table of moves, and hold the card's machine.
use Rattle.std.specs.Prelude.{◌≡◌, List, ℕ, ◌+◌, ◌*◌, ◌/◌, ◌%◌, ◌<◌, length, get_or, eqb}
use Rattle.std.proofs.Common.{sym, ap, ◌∙◌, inl, inr, mod-lt, div-add-mod', div-lt_iff_lt-mul, mul-zero, arith}
use Rattle.automata.specs.Basics.{LtCases, lt_cases}
use Rattle.automata.specs.Format.{narrow}
use Rattle.card.specs.Layout.{letter_count, state_count, mark_at, move_at, marks_of, moves_of, machine_of}
use Rattle.card.proofs.LayoutLaws.{marks_of_length, marks_at, size_is, accepting_at, moves_length, moves_at, step_at, machine_formed}
use Rattle.card.specs.Load.{CardInside}
use Rattle.moves.specs.Holds.{Table, Holds}
use Rattle.fields.specs.Counts.{Counted}

positive : (n m q : ℕ) → q < n * m → 0 < m
positive n m q h = go (lt_cases 0 m)
  where
    go : LtCases 0 m → 0 < m
    go (inl x) = x.0
    go (inr x) = let z : m ≡ 0 = omega arith in let y : q < n * 0 = rw z at h in absurd (omega (arith, mul-zero n))

-- the row and the column of the place q
pub record Cell (n m q : ℕ) : Type 0 where
  pub row : q / m < n
  pub column : q % m < m
  pub place : q / m * m + q % m ≡ q

pub cell_of : (n m q : ℕ) → q < n * m → Cell n m q
cell_of n m q h = let w : 0 < m = positive n m q h in record { row = (div-lt_iff_lt-mul w).1 h; column = mod-lt q w; place = div-add-mod' q m }

module _ (c bs : List ℕ) (e : bs ≡ moves_of narrow c) where
  pub cells : length bs ≡ state_count narrow c * letter_count narrow c
  cells = ap length e ∙ moves_length narrow c

  pub cell : (p i : ℕ) → p < state_count narrow c → i < letter_count narrow c → get_or bs (p * letter_count narrow c + i) 0 ≡ move_at narrow c p i
  cell p i h b = ap (λ l. get_or l (p * letter_count narrow c + i) 0) e ∙ moves_at narrow c p i h b

module _ (c : List ℕ) (m n : ℕ) (r : Counted narrow c m n) (ms : List ℕ) (f : ms ≡ marks_of narrow c) where
  pub states_many : length ms ≡ state_count narrow c
  states_many = ap length f ∙ marks_of_length narrow c r.right

  pub mark_at_lem : (p : ℕ) → p < state_count narrow c → get_or ms p 0 ≡ mark_at narrow c p
  mark_at_lem p h = ap (λ l. get_or l p 0) f ∙ marks_at narrow c r.right p h

  module _ (bs : List ℕ) (e : bs ≡ moves_of narrow c) (i : CardInside narrow c) where
    pub card_holds : Holds m ms bs (machine_of narrow c)
    card_holds = rw (← r.letters) (record {
      formed = machine_formed narrow c r.right i;
      states = size_is narrow c r.right ∙ sym states_many;
      accepting = λ p h. let h' : p < state_count narrow c = rw states_many at h in accepting_at narrow c r.right p h' ∙ ap (eqb 1) (sym (mark_at_lem p h'));
      step = λ p j h v. let h' : p < state_count narrow c = rw states_many at h in step_at narrow c p j h' v ∙ sym (cell c bs e p j h' v);
    })

    pub card_table : Table 120 m ms bs
    card_table = rw (← r.letters) (record {
      some = rw states_many r.right.states_some;
      states_most = rw states_many r.right.states_most;
      long = rw states_many (cells c bs e);
      inside = λ q h.
          let k : Cell (state_count narrow c) (letter_count narrow c) q = cell_of (state_count narrow c) (letter_count narrow c) q (rw (cells c bs e) at h) in
          let y : get_or bs q 0 ≡ move_at narrow c (q / letter_count narrow c) (q % letter_count narrow c) =
          ap (λ j. get_or bs j 0) (sym k.place) ∙ cell c bs e (q / letter_count narrow c) (q % letter_count narrow c) k.row k.column in
          rw (states_many, y) (i (q / letter_count narrow c) (q % letter_count narrow c) k.row k.column);
    })
