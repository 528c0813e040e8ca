-- Runs: past a dead state, and one piece more.
use mathlib.Core.Path.{◌≡◌, sym, ap, ◌∙◌}
use mathlib.Core.List.{List, []}
use Prim.Native.Nat.{ℕ, zero, suc, ◌+◌, ◌-◌, ◌≤◌, ◌<◌}
use native.Mathlib.Omega.{arith}
use lib.ListN.{length, get_or, drop, drop_of_length-le}
use Rattle.automata.specs.Format.{narrow}
use Rattle.card.specs.Layout.{mark_at, letters_of}
use Rattle.card.specs.Alphabet.{column}
use Rattle.card.specs.Judge.{none, found}
use Rattle.card.specs.Run.{going, halted, run_on}
use Rattle.card.proofs.RunLaws.{letter_known, letter_unknown, run_halted}
use Rattle.std.specs.Prelude.{Option, Some, None}
use Rattle.run.specs.declared.Run.{Run as Run'}
use Rattle.run.specs.declared.Walk.{Walk}
use Rattle.run.specs.declared.Walk.TheVariants.{Done, Dead, Unknown}
use Rattle.run.specs.Reading.{place_of, run_of}
use Rattle.run.specs.Walk.{Ready, Underway, KnownTo, Walked, rest, Runs}
use Rattle.run.proofs.WalkLaws.{front, letters_many_lem, dead_same}

-- ---- past a dead state

module _ (c : List ℕ) (m n : ℕ) (r : Ready c m n) (plan : List ℕ) (from k q l d : ℕ) (u : KnownTo (letters_of narrow c) plan from k) (h : q < n) (dead : mark_at narrow c q ≡ 2) where
  past : (i : ℕ) → from + i ≤ k → run_on narrow c (going q l (found d)) (drop from plan) ≡ run_on narrow c (going q (l + i) (found d)) (drop (from + i) plan)
  past zero b = let y : l + 0 ≡ l = omega arith in let z : from + 0 ≡ from = omega arith in rw (y, z)
  past (suc i) b =
      let v : column (letters_of narrow c) (get_or plan (from + i) 0) < length (letters_of narrow c) = u.known (from + i) (omega arith) (omega arith) in
      let w : column (letters_of narrow c) (get_or plan (from + i) 0) < m = rw (letters_many_lem c m n r) at v in
      let y : suc (l + i) ≡ l + suc i = omega arith in
      let z : from + i + 1 ≡ from + suc i = omega arith in
      past i (omega arith)
      ∙ ap (run_on narrow c (going q (l + i) (found d))) (front plan (from + i) (omega (arith, u.most)))
      ∙ ap (λ s. run_on narrow c s (drop (from + i + 1) plan)) (letter_known narrow c q (l + i) (found d) (get_or plan (from + i) 0) v
      ∙ (λ t. going (dead_same c m n r q (column (letters_of narrow c) (get_or plan (from + i) 0)) h w dead t) (y t) (found d)))
      ∙ ap (λ x. run_on narrow c (going q (l + suc i) (found d)) (drop x plan)) z

  all : run_on narrow c (going q l (found d)) (drop from plan) ≡ run_on narrow c (going q (l + (k - from)) (found d)) (drop k plan)
  all = let z : from + (k - from) ≡ k = omega (arith, u.low) in past (k - from) (omega arith) ∙ ap (λ x. run_on narrow c (going q (l + (k - from)) (found d)) (drop x plan)) z

  pub past_unknown : k < length plan → run_on narrow c (going q l (found d)) (drop from plan) ≡ halted q (l + (k - from)) (found d) (l + (k - from))
  past_unknown b = all ∙ ap (run_on narrow c (going q (l + (k - from)) (found d))) (front plan k b)
      ∙ ap (λ s. run_on narrow c s (drop (k + 1) plan)) (letter_unknown narrow c q (l + (k - from)) (found d) (get_or plan k 0) (u.unknown b))
      ∙ run_halted narrow c q (l + (k - from)) (found d) (l + (k - from)) (drop (k + 1) plan)

  pub past_end : length plan ≤ k → run_on narrow c (going q l (found d)) (drop from plan) ≡ going q (l + (k - from)) (found d)
  past_end b = let z : drop k plan ≡ [] = drop_of_length-le plan {i = k} b in all ∙ (rw z)

-- ---- a place, or none

pub never : {A : Type 0} (k : ℕ) → ◌≡◌ {A = Option ℕ} None (Some k) → A
never k e = cc

pub placed : {A : Type 0} (k : ℕ) → Some k ≡ None → A
placed k e = never k (sym e)

-- ---- one piece more

module _ (c plan : List ℕ) (r : Run') where
  pub piece_halted : (k : ℕ) → r.unknown ≡ Some k → run_of r ≡ run_on narrow c (run_of r) plan
  piece_halted k e = let z : run_of r ≡ halted r.state r.letters (place_of r.dead) k = (λ t. record { state = r.state; letters = r.letters; dead = place_of r.dead; unknown = place_of (e t) }) in
      z ∙ sym (ap (λ s. run_on narrow c s plan) z ∙ run_halted narrow c r.state r.letters (place_of r.dead) k plan)

  pub piece_dead : (k : ℕ) → r.unknown ≡ None → r.dead ≡ Some k → run_of r ≡ going r.state r.letters (found k)
  piece_dead k e f = λ t. record { state = r.state; letters = r.letters; dead = place_of (f t); unknown = place_of (e t) }

  pub piece_live : r.unknown ≡ None → r.dead ≡ None → run_of r ≡ going r.state r.letters none
  piece_live e f = λ t. record { state = r.state; letters = r.letters; dead = place_of (f t); unknown = place_of (e t) }

  pub piece_walk : (n : ℕ) (w : Walk) → r.unknown ≡ None → r.dead ≡ None → Walked c n plan r.state w → rest c plan r.letters w ≡ run_on narrow c (run_of r) plan
  piece_walk n w e f u = sym (ap (λ s. run_on narrow c s plan) (piece_live e f) ∙ u.is r.letters)

-- ---- the cases of a piece

module _ (c : List ℕ) (m n : ℕ) (plan : List ℕ) (r : Run') where
  pub runs_halted : Underway c n r → (k : ℕ) → r.unknown ≡ Some k → Runs c n (run_on narrow c (run_of r) plan) r
  runs_halted u k e = record { is = piece_halted c plan r k e; underway = u }

  pub runs_dead : (k : ℕ) (s : Run') → r.unknown ≡ None → r.dead ≡ Some k → Runs c n (run_on narrow c (going r.state r.letters (found k)) (drop 0 plan)) s → Runs c n (run_on narrow c (run_of r) plan) s
  runs_dead k s e f w = record { is = w.is ∙ sym (ap (λ x. run_on narrow c x plan) (piece_dead c plan r k e f)); underway = w.underway }

  module _ (w : Walk) (e : r.unknown ≡ None) (f : r.dead ≡ None) (u : Walked c n plan r.state w) where
    pub runs_done : (q : ℕ) → w ≡ Done q → Runs c n (run_on narrow c (run_of r) plan) (record { state = q; letters = r.letters + length plan; dead = None; unknown = None })
    runs_done q z = let u' : Walked c n plan r.state (Done q) = rw z at u in
        record { is = piece_walk c plan r n (Done q) e f u'; underway = record { inside = u'.end.0; dead = λ k x. never k x; alive = λ _. u'.end.1 } }

    pub runs_unknown : (q a : ℕ) → w ≡ Unknown q a → Runs c n (run_on narrow c (run_of r) plan) (record { state = q; letters = r.letters + a; dead = None; unknown = Some (r.letters + a) })
    runs_unknown q a z = let u' : Walked c n plan r.state (Unknown q a) = rw z at u in
        record { is = piece_walk c plan r n (Unknown q a) e f u'; underway = record { inside = u'.end.0; dead = λ k x. never k x; alive = λ _. u'.end.1 } }

    pub runs_past : (q a : ℕ) (s : Run') → w ≡ Dead q a → Runs c n (run_on narrow c (going q (r.letters + a) (found (r.letters + a))) (drop a plan)) s → Runs c n (run_on narrow c (run_of r) plan) s
    runs_past q a s z x = let u' : Walked c n plan r.state (Dead q a) = rw z at u in
        record { is = x.is ∙ piece_walk c plan r n (Dead q a) e f u'; underway = x.underway }

    pub ends_dead : (q a : ℕ) → w ≡ Dead q a → (q < n) × (mark_at narrow c q ≡ 2) × (a ≤ length plan)
    ends_dead q a z = let u' : Walked c n plan r.state (Dead q a) = rw z at u in u'.end

    pub ends_unknown : (q a : ℕ) → w ≡ Unknown q a → a ≤ length plan
    ends_unknown q a z = let u' : Walked c n plan r.state (Unknown q a) = rw z at u in u'.end.2
