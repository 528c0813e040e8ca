-- Laws of the marks bytes: by the table alone, and that they are those of the restriction to letters.
use mathlib.Core.Path.{◌≡◌, sym, ap, ◌∙◌}
use mathlib.Core.Bool.{true, false}
use mathlib.Core.Logic.{◌⊎◌, inl, inr, ◌≢◌}
use mathlib.Core.List.{List, [], ◌∷◌}
use Prim.Native.Nat.{ℕ, suc, ◌+◌, ◌<◌}
use lib.ListN.{length, get_or}
use Rattle.automata.specs.Automaton.{Automaton}
use Rattle.automata.specs.Basics.{nat_test, find}
use Rattle.automata.specs.Booleans.{bool_cases}
use Rattle.automata.specs.Dead.{Dead, dead_stays}
use Rattle.automata.specs.Live.{live}
use Rattle.automata.proofs.Live.{live_dead, dead_live}
use Rattle.automata.specs.Machine.{Machine, size, automaton, Canonical}
use Rattle.automata.specs.Restrict.{restrict}
use Rattle.automata.proofs.Restrict.{restrict_canonical}
use Rattle.automata.specs.Table.{flag_of, table_accepting}
use Rattle.card.specs.Mark.{marks, mark_by, marks_get_or, marks_length}
use Rattle.numbering.specs.Arrival.{kept_machine, LetterRow, Ordered}
use Rattle.sections.specs.StateMark.{row_of, StateMark, accepts, stays, leaves}
use Rattle.sections.specs.Kept.{Kept}
use Rattle.numbering.proofs.NumberLaws.{row_step}
use Rattle.sections.proofs.RestrictLaws.{L, list_at, order_below, restrict_count, restrict_step, find_there, up}

-- ---- one state

module _ (n m : ℕ) (t : List ℕ) (s : ℕ) (row : List ℕ) (R : LetterRow n m t s row) where
  pub mark_stays : flag_of (get_or t s 0) ≡ false → ((c : ℕ) → c < length row → get_or row c 0 ≡ s) → StateMark m t s 2
  mark_stays e u = stays e (λ c b. sym (R.entry c b) ∙ u c (rw R.long b))

  pub mark_leaves : flag_of (get_or t s 0) ≡ false → (c : ℕ) × (c < length row) × (get_or row c 0 ≢ s) → StateMark m t s 0
  mark_leaves e (c, b, d) = let b' : c < m = rw R.long at b in leaves e c b' (λ x. d (R.entry c b' ∙ x))

-- ---- the marks bytes of the restriction

module _ (n m : ℕ) (t : List ℕ) (K : Kept n m t) (o : List ℕ) (count : ℕ) (O : Ordered n m t o count) where
  abbrev A : Automaton ℕ
  A = automaton (kept_machine n m t)

  abbrev N : Machine
  N = restrict m (kept_machine n m t)

  canonical : Canonical m N
  canonical = restrict_canonical m (kept_machine n m t) K.canonical K.unmarked

  module _ (i s : ℕ) (h : i < count) (e : s ≡ get_or o i 0) where
    inside : i < size N
    inside = rw (restrict_count n m t K.closed o count O) h

    sn : s < n
    sn = rw e (order_below n m t K.closed o count O i h)

    flag : (automaton N).accepting i ≡ flag_of (get_or t s 0)
    flag = sym (rw (← e) at (up n m t K.closed o count O i h [] tt)) ∙ table_accepting 120 n (suc m) t K.closed s sn

    step_s : (c : ℕ) → c < m → A.step s c ≡ get_or t (row_of m s + c) 0
    step_s c b = row_step n m t K.closed s sn c b

    -- a state that letters do not leave is dead,
    dead_old : flag_of (get_or t s 0) ≡ false → ((c : ℕ) → c < m → get_or t (row_of m s + c) 0 ≡ s) → Dead m A s
    dead_old f g [] v = table_accepting 120 n (suc m) t K.closed s sn ∙ f
    dead_old f g (c ∷ w) v = let z : A.step s c ≡ s = step_s c v.0 ∙ g c v.0 in rw z (dead_old f g w v.1)

    dead_new : Dead m A s → Dead m (automaton N) i
    dead_new d w v = sym (rw (← e) at (up n m t K.closed o count O i h w v)) ∙ d w v

    -- and no other is
    back : Dead m (automaton N) i → (c : ℕ) → c < m → get_or t (row_of m s + c) 0 ≡ s
    back d c b =
        let x : find nat_test (A.step s c) (L n m t K.closed o count O) ≡ i = rw e (sym (restrict_step n m t K.closed o count O i c h b) ∙ dead_stays m N canonical i inside d c b) in
        let y : get_or (L n m t K.closed o count O) (find nat_test (A.step s c) (L n m t K.closed o count O)) 0 ≡ A.step s c = rw e (find_there n m t K.closed o count O i c h b).1 in
        sym (step_s c b) ∙ sym y ∙ ap (λ q. get_or (L n m t K.closed o count O) q 0) x ∙ list_at n m t K.closed o count O i h ∙ sym e

    -- THE MARKS BYTE of state i.
    pub mark_right : (r : ℕ) → StateMark m t s r → r ≡ get_or (marks m N) i 0
    mark_right r k = go r k ∙ sym (marks_get_or m N i inside)
      where
        go : (r : ℕ) → StateMark m t s r → r ≡ mark_by ((automaton N).accepting i) (get_or (live m N) i false)
        go r (accepts f) = rw (flag ∙ f)
        go r (stays f g) = rw (flag ∙ f, dead_live m N canonical.formed i inside (dead_new (dead_old f g)))
        go r (leaves f c b d) = rw (flag ∙ f) (lives (bool_cases (get_or (live m N) i false)))
          where
            lives : (get_or (live m N) i false ≡ true) ⊎ (get_or (live m N) i false ≡ false) → 0 ≡ mark_by false (get_or (live m N) i false)
            lives (inl y) = rw y
            lives (inr y) = absurd (d (back (live_dead m N canonical.formed i inside y) c b))

  pub marks_count : length (marks m N) ≡ count
  marks_count = marks_length m N ∙ restrict_count n m t K.closed o count O
