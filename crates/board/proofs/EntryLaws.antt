-- One step, and judging from what loading answers.
use mathlib.Core.Path.{◌≡◌, sym, ap, ◌∙◌}
use mathlib.Core.Bool.{true, false}
use mathlib.Core.Logic.{◌⊎◌, inl, inr, ◌≢◌}
use mathlib.Core.List.{List}
use Prim.Native.Nat.{ℕ, ◌+◌, ◌*◌, ◌≤◌, ◌<◌, ◌^◌}
use native.Mathlib.Omega.{arith}
use lib.ListN.{length, get_or}
use lib.Dec.{ltb, eqb}
use borrow.Author.Tests.{lt-ltb, le-ltb}
use Rattle.automata.specs.Booleans.{bool_cases}
use Rattle.automata.specs.Basics.{nat_test}
use Rattle.automata.specs.Decide.{unless, contradict}
use Rattle.automata.specs.Format.{narrow}
use Rattle.card.specs.Layout.{letter_count, state_count, move_at, letters_of, moves_of}
use Rattle.card.specs.Alphabet.{column}
use Rattle.card.specs.Load.{load_test}
use Rattle.card.specs.Answer.{holds, rejected, load}
use Rattle.card.specs.Reply.{refused, asked}
use Rattle.card.specs.Judge.{judge}
use Rattle.card.specs.Step.{Stepped, stopped, landing, step_on}
use Rattle.card.specs.Run.{run_start}
use Rattle.fields.specs.Counts.{Counted}
use Rattle.loading.specs.declared.Fault.{Fault}
use Rattle.loading.specs.Faults.{fault_number}
use Rattle.loading.proofs.LoadLaws.{loading_accepted, loading_refused}
use Rattle.run.specs.declared.Run.{Run as Run'}
use Rattle.run.specs.Walk.{Ready, Runs}
use Rattle.run.proofs.WalkLaws.{move_is, move_inside}

-- ---- one step

module _ (c : List ℕ) (m n : ℕ) (y : Ready c m n) (p l i : ℕ) (ls : List ℕ) (a : ls ≡ letters_of narrow c) (b : i ≡ column ls l) where
  place : column (letters_of narrow c) l ≡ i
  place = ap (λ x. column x l) (sym a) ∙ sym b

  pub step_27 : m ≤ i → stopped 27 ≡ step_on narrow c p l
  unfolding step_on unless
  step_27 h = rw (y.loads, place, le-ltb i (letter_count narrow c) (rw y.letters h))

  module _ (h : i < m) where
    on : ltb i (letter_count narrow c) ≡ true
    on = lt-ltb i (letter_count narrow c) (rw y.letters h)

    pub step_28 : n ≤ p → stopped 28 ≡ step_on narrow c p l
    unfolding step_on unless
    step_28 v = rw (y.loads, place, on, le-ltb p (state_count narrow c) (rw y.states v))

    pub step_lands : p < n → (bs : List ℕ) → bs ≡ moves_of narrow c → (q : ℕ) → q ≡ get_or bs (p * m + i) 0 → (s : Stepped) → s ≡ landing narrow c q → s ≡ step_on narrow c p l
    unfolding step_on unless
    step_lands v bs e q x s z =
        let w : q ≡ move_at narrow c p i = x ∙ move_is c m n y p i v h bs e in
        rw (y.loads, place, on, lt-ltb p (state_count narrow c) (rw y.states v)) (z ∙ ap (landing narrow c) w)

    pub step_inside : p < n → (bs : List ℕ) → bs ≡ moves_of narrow c → (q : ℕ) → q ≡ get_or bs (p * m + i) 0 → q < n
    step_inside v bs e q x = rw (x ∙ move_is c m n y p i v h bs e) (move_inside c m n y p i v h)

-- ---- judging from loading

-- the bytes b are those of the layout, which were tested
module _ (b c : List ℕ) (e : c ≡ b) where
  pub load_refused : (f : Fault) → load_test narrow c ≡ fault_number f → rejected (fault_number f) ≡ load narrow b
  load_refused f t = rw (← e) (loading_refused c f t)

  pub load_accepted : (m n : ℕ) → Counted narrow c m n → load_test narrow c ≡ 0 → holds m n ≡ load narrow b
  load_accepted m n r t = rw (← e) (loading_accepted c m n r t)

-- what loading refuses is what the card's test says
pub rejected_test : (c : List ℕ) (k : ℕ) → rejected k ≡ load narrow c → (load_test narrow c ≡ k) × (eqb (load_test narrow c) 0 ≡ false)
unfolding load
rejected_test c k e = go (bool_cases (eqb (load_test narrow c) 0))
  where
    go : (eqb (load_test narrow c) 0 ≡ true) ⊎ (eqb (load_test narrow c) 0 ≡ false) → (load_test narrow c ≡ k) × (eqb (load_test narrow c) 0 ≡ false)
    go (inl t) = let f : rejected k ≡ holds (letter_count narrow c) (state_count narrow c) = rw t at e in absurd (let z : ◌≡◌ {A = ℕ} 0 1 = cc in omega arith)
    go (inr t) = let f : rejected k ≡ rejected (load_test narrow c) = rw t at e in (cc, t)

pub refused_judge : (c plan : List ℕ) (k : ℕ) → rejected k ≡ load narrow c → refused k 0 ≡ judge narrow c plan
unfolding judge asked unless
refused_judge c plan k e = let (z, t) = rejected_test c k e in rw t (ap (λ x. refused x 0) (sym z))

pub refused_step : (c : List ℕ) (p l k : ℕ) → rejected k ≡ load narrow c → stopped k ≡ step_on narrow c p l
unfolding step_on unless
refused_step c p l k e = let (z, t) = rejected_test c k e in rw t (ap stopped (sym z))

-- a run before the first letter has taken none
pub start_fits : (c : List ℕ) (n : ℕ) (r : Run') (plan : List ℕ) → Runs c n (run_start narrow c) r → length plan < 2 ^ 64 → r.letters + length plan < 2 ^ 64
start_fits c n r plan w h = omega (arith, ap (λ x. x.letters) w.is)

-- a refusal has a number
pub rejected_some : (c : List ℕ) (k : ℕ) → rejected k ≡ load narrow c → k ≢ 0
rejected_some c k e z = let (y, t) = rejected_test c k e in contradict (rw (y ∙ z) (nat_test.whole 0)) t
