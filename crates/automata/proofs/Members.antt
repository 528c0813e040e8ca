-- Laws of what specs/Members.antt defines.
use Rattle.std.specs.Prelude.{◌≡◌, Bool, true, ◌⊎◌, ◌↔◌, List, [], ℕ, zero, suc, ◌+◌, ◌-◌, ◌<◌, length}
use Rattle.std.proofs.Common.{sym, ap, ◌∙◌, inl, inr, le_refl, arith}
use Rattle.automata.specs.Basics.{LtCases, lt_cases, lt_ltb, ltb_false, nat_test}
use Rattle.automata.specs.Machine.{Machine, size, automaton, WellFormed}
use Rattle.automata.specs.Flags.{flag_inside}
use Rattle.automata.specs.Subset.{NFA, epsilons, subset, MovesTo}
use Rattle.automata.proofs.Subset.{subset_members, subset_step}
use Rattle.automata.specs.Operations.{concat_NFA, star_NFA, erase_NFA}
use Rattle.automata.proofs.Operations.{concat_inside, low_epsilons, high_epsilons, low_move, high_move, star_inside, epsilon_end, epsilon_accepting, end_epsilons, state_epsilons, state_move, erase_inside, other}
use Rattle.automata.specs.Members.{In, mark_steps}

-- ---- concatenation

module _ (k : ℕ) (M N : Machine) (F : WellFormed k M) (G : WellFormed k N) where
  abbrev J : NFA
  J = concat_NFA M N

  high_same : (q : ℕ) → size M + q - size M ≡ q
  high_same q = omega arith

  pub concat_start_left : (y : ℕ) → y < size M → In (subset J).start y ↔ (y ≡ zero)
  concat_start_left y h = (to, from)
    where
      to : In (subset J).start y → y ≡ zero
      to e =
          let (i, q) = (subset_members J (concat_inside k M N F G) (omega (arith, F.some)) [] y).0 e in
          go i q (low_epsilons k M N F G i zero F.some)
        where
          go : (i : ℕ) → epsilons J i zero ≡ y → (epsilons J i zero ≡ zero) ⊎ (((automaton M).accepting zero ≡ true) × (epsilons J i zero ≡ size M)) → y ≡ zero
          go i q (inl r) = sym q ∙ r
          go i q (inr r) = absurd (omega (arith, sym q ∙ r.1))

      from : y ≡ zero → In (subset J).start y
      from e = (subset_members J (concat_inside k M N F G) (omega (arith, F.some)) [] y).1 (zero, sym e)

  pub concat_start_right : (q : ℕ) → q < size N → In (subset J).start (size M + q) ↔ ((q ≡ zero) × ((automaton M).accepting zero ≡ true))
  concat_start_right q h = (to, from)
    where
      to : In (subset J).start (size M + q) → (q ≡ zero) × ((automaton M).accepting zero ≡ true)
      to e =
          let (i, r) = (subset_members J (concat_inside k M N F G) (omega (arith, F.some)) [] (size M + q)).0 e in
          go i r (low_epsilons k M N F G i zero F.some)
        where
          go : (i : ℕ) → epsilons J i zero ≡ size M + q → (epsilons J i zero ≡ zero) ⊎ (((automaton M).accepting zero ≡ true) × (epsilons J i zero ≡ size M)) → (q ≡ zero) × ((automaton M).accepting zero ≡ true)
          go i r (inl s) = absurd (omega (arith, sym r ∙ s, F.some))
          go i r (inr s) = (omega (arith, sym r ∙ s.1), s.0)

      from : (q ≡ zero) × ((automaton M).accepting zero ≡ true) → In (subset J).start (size M + q)
      from (e, t) =
          let z : size M ≡ size M + q = omega arith in
          (subset_members J (concat_inside k M N F G) (omega (arith, F.some)) [] (size M + q)).1 (1, rw (lt_ltb zero (size M) F.some, t) z)

  module _ (X : List Bool) (long : length X ≡ size M + size N) (c : ℕ) (v : c < k) where
    -- M's state y is where a member of M's moves to.
    pub concat_step_left : (y : ℕ) → y < size M → In ((subset J).step X c) y ↔ ((x : ℕ) × (x < size M) × In X x × ((automaton M).step x c ≡ y))
    concat_step_left y h = (λ e. to ((subset_step J (concat_inside k M N F G) X c y).0 e), from)
      where
        to : MovesTo J (concat_inside k M N F G) X c y → (x : ℕ) × (x < size M) × In X x × ((automaton M).step x c ≡ y)
        to (x, i, t, m, q) = go (lt_cases x (size M))
          where
            go : LtCases x (size M) → (x : ℕ) × (x < size M) × In X x × ((automaton M).step x c ≡ y)
            go (inl p) = low (low_epsilons k M N F G i ((automaton M).step x c) (F.inside x c p.0 v)) (rw (low_move k M N F G x c p.0) at q)
              where
                low : (epsilons J i ((automaton M).step x c) ≡ (automaton M).step x c) ⊎ (((automaton M).accepting ((automaton M).step x c) ≡ true) × (epsilons J i ((automaton M).step x c) ≡ size M))
                    → epsilons J i ((automaton M).step x c) ≡ y → (x : ℕ) × (x < size M) × In X x × ((automaton M).step x c ≡ y)
                low (inl r) q = (x, p.0, t, sym r ∙ q)
                low (inr r) q = absurd (omega (arith, sym q ∙ r.1))
            go (inr p) =
                let s : ℕ = (automaton N).step (x - size M) c in
                let z : epsilons J i (size M + s) ≡ y = rw (high_move k M N F G x c p.0) at q in
                absurd (omega (arith, sym z ∙ high_epsilons k M N F G i (size M + s) (omega arith)))

        from : (x : ℕ) × (x < size M) × In X x × ((automaton M).step x c ≡ y) → In ((subset J).step X c) y
        from (x, b, t, e) = (subset_step J (concat_inside k M N F G) X c y).1
            (x, zero, t, rw (low_move k M N F G x c b) (omega (arith, F.inside x c b v)), low_move k M N F G x c b ∙ e)

    -- N's state q is where a member of N's moves to, or it is N's 0 and a member of M's moves to an accepting state.
    pub concat_step_right : (q : ℕ) → q < size N → In ((subset J).step X c) (size M + q)
        ↔ (((x : ℕ) × (x < size N) × In X (size M + x) × ((automaton N).step x c ≡ q)) ⊎ ((q ≡ zero) × ((x : ℕ) × (x < size M) × In X x × ((automaton M).accepting ((automaton M).step x c) ≡ true))))
    concat_step_right q h = (λ e. to ((subset_step J (concat_inside k M N F G) X c (size M + q)).0 e), from)
      where
        Source : Type 0
        Source = ((x : ℕ) × (x < size N) × In X (size M + x) × ((automaton N).step x c ≡ q)) ⊎ ((q ≡ zero) × ((x : ℕ) × (x < size M) × In X x × ((automaton M).accepting ((automaton M).step x c) ≡ true)))

        to : MovesTo J (concat_inside k M N F G) X c (size M + q) → Source
        to (x, i, t, m, e) = go (lt_cases x (size M))
          where
            go : LtCases x (size M) → Source
            go (inl p) = low (low_epsilons k M N F G i ((automaton M).step x c) (F.inside x c p.0 v)) (rw (low_move k M N F G x c p.0) at e)
              where
                low : (epsilons J i ((automaton M).step x c) ≡ (automaton M).step x c) ⊎ (((automaton M).accepting ((automaton M).step x c) ≡ true) × (epsilons J i ((automaton M).step x c) ≡ size M))
                    → epsilons J i ((automaton M).step x c) ≡ size M + q → Source
                low (inl r) e = absurd (omega (arith, sym r ∙ e, F.inside x c p.0 v))
                low (inr r) e = inr (omega (arith, sym e ∙ r.1), (x, p.0, t, r.0))
            go (inr p) =
                let y : ℕ = x - size M in
                let s : ℕ = (automaton N).step y c in
                let z : epsilons J i (size M + s) ≡ size M + q = rw (high_move k M N F G x c p.0) at e in
                let b : x < size M + size N = rw long at (flag_inside X x t) in
                let same : x ≡ size M + y = omega arith in
                inl (y, omega arith, rw same at t, omega (arith, sym z ∙ high_epsilons k M N F G i (size M + s) (omega arith)))

        from : Source → In ((subset J).step X c) (size M + q)
        from (inl (x, b, t, e)) =
            let g : J.move (size M + x) c ≡ size M + q = high_move k M N F G (size M + x) c (omega arith) ∙ ap (λ y. size M + (automaton N).step y c) (high_same x) ∙ ap (λ y. size M + y) e in
            (subset_step J (concat_inside k M N F G) X c (size M + q)).1 (size M + x, zero, t, rw g (omega arith), g)
        from (inr (e, (x, b, t, a))) =
            let z : size M ≡ size M + q = omega arith in
            (subset_step J (concat_inside k M N F G) X c (size M + q)).1
            (x, 1, t, rw (low_move k M N F G x c b) (omega (arith, F.inside x c b v)), rw (low_move k M N F G x c b, lt_ltb ((automaton M).step x c) (size M) (F.inside x c b v), a) z)

-- ---- star

module _ (k : ℕ) (M : Machine) (F : WellFormed k M) where
  abbrev R : NFA
  R = star_NFA M

  -- the extra node, and M's 0
  pub star_start : (y : ℕ) → In (subset R).start y ↔ ((y ≡ size M) ⊎ (y ≡ zero))
  star_start y = (to, from)
    where
      to : In (subset R).start y → (y ≡ size M) ⊎ (y ≡ zero)
      to e =
          let (i, q) = (subset_members R (star_inside k M F) (le_refl (suc (size M))) [] y).0 e in
          rw q at (end_epsilons k M F i)

      from : (y ≡ size M) ⊎ (y ≡ zero) → In (subset R).start y
      from (inl e) = (subset_members R (star_inside k M F) (le_refl (suc (size M))) [] y).1 (zero, sym e)
      from (inr e) = (subset_members R (star_inside k M F) (le_refl (suc (size M))) [] y).1 (1, epsilon_end k M F ∙ sym e)

  module _ (X : List Bool) (c : ℕ) (v : c < k) where
    -- where a member moves to; or one of these, the extra node and 0, and a member moves to an accepting state
    pub star_step : (y : ℕ) → In ((subset R).step X c) y
        ↔ (((x : ℕ) × (x < size M) × In X x × ((automaton M).step x c ≡ y)) ⊎ (((y ≡ size M) ⊎ (y ≡ zero)) × ((x : ℕ) × (x < size M) × In X x × ((automaton M).accepting ((automaton M).step x c) ≡ true))))
    star_step y = (λ e. to ((subset_step R (star_inside k M F) X c y).0 e), from)
      where
        Source : Type 0
        Source = ((x : ℕ) × (x < size M) × In X x × ((automaton M).step x c ≡ y)) ⊎ (((y ≡ size M) ⊎ (y ≡ zero)) × ((x : ℕ) × (x < size M) × In X x × ((automaton M).accepting ((automaton M).step x c) ≡ true)))

        to : MovesTo R (star_inside k M F) X c y → Source
        to (x, i, t, m, q) = go (lt_cases x (size M))
          where
            go : LtCases x (size M) → Source
            go (inl p) = low (state_epsilons k M F i ((automaton M).step x c) (F.inside x c p.0 v)) (rw (state_move k M F x c p.0) at q)
              where
                low : (epsilons R i ((automaton M).step x c) ≡ (automaton M).step x c) ⊎ (((automaton M).accepting ((automaton M).step x c) ≡ true) × ((epsilons R i ((automaton M).step x c) ≡ size M) ⊎ (epsilons R i ((automaton M).step x c) ≡ zero)))
                    → epsilons R i ((automaton M).step x c) ≡ y → Source
                low (inl r) q = inl (x, p.0, t, sym r ∙ q)
                low (inr (a, l)) q = inr (rw q at l, (x, p.0, t, a))
            go (inr p) = absurd (omega (arith, rw (ltb_false x (size M) p.0) at m))

        two : (x : ℕ) (b : x < size M) → In X x → (automaton M).accepting ((automaton M).step x c) ≡ true → (y ≡ size M) ⊎ (y ≡ zero) → MovesTo R (star_inside k M F) X c y
        two x b t a (inl e) = (x, 1, t, rw (state_move k M F x c b) (omega (arith, F.inside x c b v)), rw (state_move k M F x c b) (epsilon_accepting k M F ((automaton M).step x c) (F.inside x c b v) a ∙ sym e))
        two x b t a (inr e) = (
          x,
          2,
          t,
          rw (state_move k M F x c b) (omega (arith, F.inside x c b v)),
          rw (state_move k M F x c b) (ap R.epsilon (epsilon_accepting k M F ((automaton M).step x c) (F.inside x c b v) a) ∙ epsilon_end k M F ∙ sym e),
        )

        from : Source → In ((subset R).step X c) y
        from (inl (x, b, t, e)) = (subset_step R (star_inside k M F) X c y).1
            (x, zero, t, rw (state_move k M F x c b) (omega (arith, F.inside x c b v)), state_move k M F x c b ∙ e)
        from (inr (l, (x, b, t, a))) = (subset_step R (star_inside k M F) X c y).1 (two x b t a l)

-- ---- erasing column m

module _ (m : ℕ) (M : Machine) (F : WellFormed (suc m) M) where
  pub erase_start : (y : ℕ) → In (subset (erase_NFA m M)).start y ↔ ((i : ℕ) × (mark_steps m M F i zero ≡ y))
  erase_start y = subset_members (erase_NFA m M) (erase_inside m M F) F.some [] y

  -- a letter: where members move to, and what marks reach from there
  pub erase_step : (X : List Bool) → length X ≡ size M → (c : ℕ) → c < m → (y : ℕ)
      → In ((subset (erase_NFA m M)).step X c) y ↔ ((x : ℕ) × (i : ℕ) × (x < size M) × In X x × (mark_steps m M F i ((automaton M).step x c) ≡ y))
  erase_step X long c v y = (
    λ e. let (x, i, t, b, q) = (subset_step (erase_NFA m M) (erase_inside m M F) X c y).0 e in (x, i, rw long at (flag_inside X x t), t, rw (other m M F c v) at q),
    λ (x, i, b, t, q). (subset_step (erase_NFA m M) (erase_inside m M F) X c y).1 (x, i, t, rw (other m M F c v) (F.inside x c b (omega arith)), rw (other m M F c v) q),
  )

  -- the mark: nothing
  pub erase_mark : (X : List Bool) (y : ℕ) → In ((subset (erase_NFA m M)).step X m) y → ⊥
  erase_mark X y e =
      let (x, i, t, b, q) = (subset_step (erase_NFA m M) (erase_inside m M F) X m y).0 e in
      let z : size M < size M = rw (nat_test.whole m) at b in
      omega arith
