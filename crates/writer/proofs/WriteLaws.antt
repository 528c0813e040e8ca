-- Laws of the card as a whole: its length, and that its parts laid one behind the other are the card.
use mathlib.Core.Path.{◌≡◌, ap, ◌∙◌}
use mathlib.Core.List.{List, ◌++◌}
use Prim.Native.Nat.{ℕ, suc, ◌+◌, ◌*◌, ◌≤◌, ◌<◌}
use native.Mathlib.Nat.{mul-le-mul_right}
use native.Mathlib.Omega.{arith}
use lib.ListN.{length, length-append}
use Rattle.automata.specs.Basics.{lt_ltb, ltb_false}
use Rattle.automata.specs.Format.{narrow}
use Rattle.automata.specs.Machine.{Machine, size, WellFormed}
use Rattle.automata.specs.Restrict.{restrict}
use Rattle.automata.proofs.Restrict.{restrict_formed}
use Rattle.automata.specs.Rows.{flat, flat_length}
use Rattle.automata.specs.Table.{table_formed}
use Rattle.card.specs.Mark.{marks_length}
use Rattle.card.proofs.Number.{bytes_of_length}
use Rattle.card.specs.Layout.{contents, encode}
use Rattle.card.proofs.LayoutLaws.{contents_length}
use Rattle.card.specs.Same.{card_of}
use Rattle.numbering.specs.Arrival.{kept_machine, Arranged}
use Rattle.sections.specs.Laid.{Laid}
use Rattle.sections.specs.Parts.{mark_bytes, move_bytes}
use Rattle.writer.specs.Written.{Written, kept_card}
use Rattle.std.proofs.Common.{Some, None}
use Rattle.sections.proofs.LaidLaws.{laid_join, laid_whole}
use Rattle.sections.proofs.RestrictLaws.{restrict_count}

module _ (n : ℕ) (ls t o u : List ℕ) (count : ℕ) (R : Arranged n (length ls) t o u count) where
  abbrev m : ℕ
  m = length ls

  abbrev N : Machine
  N = restrict (length ls) (kept_machine n (length ls) t)

  formed : WellFormed m N
  formed = restrict_formed m (kept_machine n m t) (table_formed 120 n (suc m) t R.closed)

  states : size N ≡ count
  states = restrict_count n m t R.closed o count R.ordered

  -- the card, part by part
  parts : kept_card n ls t ≡ contents narrow m count ++ (ls ++ (mark_bytes n m t ++ move_bytes n m t))
  unfolding card_of encode
  parts = ap (λ k. contents narrow m k ++ (ls ++ (mark_bytes n m t ++ move_bytes n m t))) states

  -- THE LENGTH of the card
  pub card_length_lem : length (kept_card n ls t) ≡ 12 + m + count + count * m
  card_length_lem =
      ap length parts ∙ omega (
        arith,
        length-append (contents narrow m count) (ls ++ (mark_bytes n m t ++ move_bytes n m t)),
        length-append ls (mark_bytes n m t ++ move_bytes n m t),
        length-append (mark_bytes n m t) (move_bytes n m t),
        contents_length narrow m count,
        marks_length m N,
        states,
        bytes_of_length 1 (flat N.moves),
        flat_length count m N.moves (formed.rows ∙ states) (λ p h. formed.wide p (rw states h)),
      )

  -- a card of at most 26 letters is short
  pub count_small : m ≤ 26 → count * m ≤ 3120
  count_small h = omega (arith, mul-le-mul_right {m = count} {n = 120} m R.roll.within)

  pub write_short : (old : List ℕ) → length old < 12 + m + count + count * m → Written (kept_card n ls t) old old None
  write_short old h = let z = lt_ltb (length old) (length (kept_card n ls t)) (rw card_length_lem h) in record { result = rw z; buffer = rw z }

  module _ (c₀ c₁ c₂ c₃ c₄ : List ℕ) (h : 12 + m + count + count * m ≤ length c₀)
      (a : Laid 0 12 (contents narrow m count) c₀ c₁) (b : Laid 12 (12 + m) ls c₁ c₂) (c : Laid (12 + m) (12 + m + count) (mark_bytes n m t) c₂ c₃)
      (d : Laid (12 + m + count) (12 + m + count + count * m) (move_bytes n m t) c₃ c₄) where
    whole : Laid 0 (12 + m + count + count * m) (kept_card n ls t) c₀ c₄
    whole = rw parts
        (laid_join 0 12 (12 + m + count + count * m) (contents narrow m count) (ls ++ (mark_bytes n m t ++ move_bytes n m t)) c₀ c₁ c₄ (omega arith) a
        (laid_join 12 (12 + m) (12 + m + count + count * m) ls (mark_bytes n m t ++ move_bytes n m t) c₁ c₂ c₄ (omega arith) b
        (laid_join (12 + m) (12 + m + count) (12 + m + count + count * m) (mark_bytes n m t) (move_bytes n m t) c₂ c₃ c₄ (omega arith) c d)))

    pub write_full : Written (kept_card n ls t) c₀ c₄ (Some (12 + m + count + count * m))
    write_full =
        let z = ltb_false (length c₀) (length (kept_card n ls t)) (rw card_length_lem h) in
        record { result = rw (z, card_length_lem); buffer = rw z (laid_whole (kept_card n ls t) c₀ c₄ (rw card_length_lem whole)) }
