-- Laws of what specs/Operations.antt defines.
use Rattle.std.specs.Prelude.{◌≡◌, refl, Bool, true, false, cond, ◌&&◌, ◌⊎◌, ◌≢◌, ◌↔◌, List, [], ◌∷◌, ◌++◌, ℕ, zero, suc, ◌+◌, ◌-◌, ◌≤◌, ◌<◌, ltb, eqb}
use Rattle.std.proofs.Common.{sym, ap, ◌∙◌, subst, inl, inr, le_refl, zero-lt-suc, lt_irrefl, arith}
use Rattle.std.proofs.lemmas.Bool.{false≢true}
use Rattle.automata.specs.Booleans.{bool_cases}
use Rattle.automata.specs.Basics.{ltb_false, SameCases, lt_ltb, nat_test, same_cases}
use Rattle.automata.specs.Automaton.{Over, run, accepts}
use Rattle.automata.specs.Machine.{Machine, size, automaton, WellFormed}
use Rattle.automata.specs.Subset.{NFA, epsilons, Path, subset}
use Rattle.automata.proofs.Subset.{path_epsilons, subset_accept}
use Rattle.automata.specs.Operations.{Concatenated, Each, Erased, InStar, Rest, concat_NFA, erase_NFA, in_row, product, star_NFA, strip}

-- ---- products: union, intersection, difference

product_run : (f : Bool → Bool → Bool) (M N : Machine) (p q : ℕ) (w : List ℕ) → run (product f M N) (p, q) w ≡ (run (automaton M) p w, run (automaton N) q w)
product_run f M N p q [] = refl
product_run f M N p q (c ∷ w) = product_run f M N ((automaton M).step p c) ((automaton N).step q c) w

pub product_accept : (f : Bool → Bool → Bool) (M N : Machine) (w : List ℕ) → accepts (product f M N) w ≡ f (accepts (automaton M) w) (accepts (automaton N) w)
product_accept f M N w = ap (product f M N).accepting (product_run f M N zero zero w)

-- ---- concatenation

module _ (k : ℕ) (M N : Machine) (F : WellFormed k M) (G : WellFormed k N) where
  abbrev J : NFA
  J = concat_NFA M N

  high_epsilon : (x : ℕ) → size M ≤ x → J.epsilon x ≡ x
  high_epsilon x h = rw (ltb_false x (size M) h)

  pub high_epsilons : (i x : ℕ) → size M ≤ x → epsilons J i x ≡ x
  high_epsilons zero x h = refl
  high_epsilons (suc i) x h = rw (high_epsilon x h) (high_epsilons i x h)

  pub high_move : (x c : ℕ) → size M ≤ x → J.move x c ≡ size M + (automaton N).step (x - size M) c
  high_move x c h = rw (ltb_false x (size M) h)

  high_accepting : (x : ℕ) → size M ≤ x → J.accepting x ≡ (automaton N).accepting (x - size M)
  high_accepting x h = rw (ltb_false x (size M) h)

  pub low_epsilons : (i p : ℕ) → p < size M → (epsilons J i p ≡ p) ⊎ (((automaton M).accepting p ≡ true) × (epsilons J i p ≡ size M))
  low_epsilons zero p h = inl refl
  low_epsilons (suc i) p h = go (bool_cases ((automaton M).accepting p)) (low_epsilons i p h)
    where
      stay : (automaton M).accepting p ≡ false → J.epsilon p ≡ p
      stay t = rw (lt_ltb p (size M) h, t)

      go : ((automaton M).accepting p ≡ true) ⊎ ((automaton M).accepting p ≡ false) → (epsilons J i p ≡ p) ⊎ (((automaton M).accepting p ≡ true) × (epsilons J i p ≡ size M))
          → (epsilons J (suc i) p ≡ p) ⊎ (((automaton M).accepting p ≡ true) × (epsilons J (suc i) p ≡ size M))
      go (inl t) r = inr (t, rw (lt_ltb p (size M) h, t) (high_epsilons i (size M) (le_refl (size M))))
      go (inr t) r = subst (λ y. (epsilons J i y ≡ p) ⊎ (((automaton M).accepting p ≡ true) × (epsilons J i y ≡ size M))) (sym (stay t)) r

  pub low_move : (p c : ℕ) → p < size M → J.move p c ≡ (automaton M).step p c
  low_move p c h = rw (lt_ltb p (size M) h)

  pub concat_inside : (x : ℕ) → x < J.nodes → J.epsilon x < J.nodes
  concat_inside x h = elim (ltb x (size M) && (automaton M).accepting x) as (λ b. cond b (size M) x < size M + size N) [ true ↦ omega (arith, G.some) | false ↦ h ]

  high_sound : (x : ℕ) (w : List ℕ) → size M ≤ x → Path J x w → (automaton N).accepting (run (automaton N) (x - size M) w) ≡ true
  high_sound x [] h (i, e) = sym (high_accepting x h) ∙ sym (ap J.accepting (high_epsilons i x h)) ∙ e
  high_sound x (c ∷ w) h (i, b, p) =
      let s : ℕ = (automaton N).step (x - size M) c in
      let z : size M + s - size M ≡ s = omega arith in
      let e : J.move (epsilons J i x) c ≡ size M + s = ap (λ y. J.move y c) (high_epsilons i x h) ∙ high_move x c h in
      subst (λ y. (automaton N).accepting (run (automaton N) y w) ≡ true) z (high_sound (size M + s) w (omega arith) (subst (λ y. Path J y w) e p))

  high_whole : (x : ℕ) (w : List ℕ) → size M ≤ x → x < J.nodes → Over k w → (automaton N).accepting (run (automaton N) (x - size M) w) ≡ true → Path J x w
  high_whole x [] h l o e = (zero, high_accepting x h ∙ e)
  high_whole x (c ∷ w) h l o e =
      let s : ℕ = (automaton N).step (x - size M) c in
      let z : size M + s - size M ≡ s = omega arith in
      let b : s < size N = G.inside (x - size M) c (omega arith) o.0 in (
        zero,
        rw (high_move x c h) (omega arith),
        rw (high_move x c h) (high_whole (size M + s) w (omega arith) (omega arith) o.1 (subst (λ y. (automaton N).accepting (run (automaton N) y w) ≡ true) (sym z) e)),
      )

  zero_high : size M - size M ≡ zero
  zero_high = omega arith

  low_sound : (p : ℕ) (w : List ℕ) → p < size M → Over k w → Path J p w → Concatenated M N p w
  low_sound p [] h o (i, e) = go (low_epsilons i p h)
    where
      go : (epsilons J i p ≡ p) ⊎ (((automaton M).accepting p ≡ true) × (epsilons J i p ≡ size M)) → Concatenated M N p []
      go (inl r) = absurd (false≢true (sym (ap (λ b. cond b false ((automaton N).accepting (p - size M))) (lt_ltb p (size M) h)) ∙ ap J.accepting (sym r) ∙ e))
      go (inr (t, r)) = ([], [], refl, t, subst (λ y. (automaton N).accepting y ≡ true) zero_high (sym (high_accepting (size M) (le_refl (size M))) ∙ ap J.accepting (sym r) ∙ e))
  low_sound p (c ∷ w) h o (i, b, q) = go (low_epsilons i p h) (low_sound ((automaton M).step p c) w (F.inside p c h o.0) o.1)
    where
      go : (epsilons J i p ≡ p) ⊎ (((automaton M).accepting p ≡ true) × (epsilons J i p ≡ size M)) → (Path J ((automaton M).step p c) w → Concatenated M N ((automaton M).step p c) w) → Concatenated M N p (c ∷ w)
      go (inl r) f =
          let (u, v, e, x, y) = f (subst (λ s. Path J s w) (ap (λ s. J.move s c) r ∙ low_move p c h) q) in
          (c ∷ u, v, ap (λ l. c ∷ l) e, x, y)
      go (inr (t, r)) f = (
        [],
        c ∷ w,
        refl,
        t,
        subst (λ y. (automaton N).accepting (run (automaton N) y (c ∷ w)) ≡ true) zero_high
            (high_sound (size M) (c ∷ w) (le_refl (size M)) (zero, rw r at b, rw r at q)),
      )

  low_whole : (p : ℕ) (u v : List ℕ) → p < size M → Over k (u ++ v) → (automaton M).accepting (run (automaton M) p u) ≡ true → (automaton N).accepting (run (automaton N) zero v) ≡ true → Path J p (u ++ v)
  low_whole p [] v h o x y =
      path_epsilons J concat_inside 1 p v (rw (lt_ltb p (size M) h, x) (high_whole (size M) v (le_refl (size M)) (omega (arith, G.some)) o (subst (λ z. (automaton N).accepting (run (automaton N) z v) ≡ true) (sym zero_high) y)))
  low_whole p (c ∷ u) v h o x y =
      (zero, rw (low_move p c h) (omega (arith, F.inside p c h o.0)), rw (low_move p c h) (low_whole ((automaton M).step p c) u v (F.inside p c h o.0) o.1 x y))

  -- CONCATENATION: the sets accept a word just when it is one of M's followed by one of N's.
  pub concat_accept : (w : List ℕ) → Over k w → (accepts (subset J) w ≡ true) ↔ Concatenated M N zero w
  concat_accept w o = (
    λ e. low_sound zero w F.some o ((subset_accept J concat_inside (omega (arith, F.some)) w).0 e),
    λ (u, v, e, x, y). (subset_accept J concat_inside (omega (arith, F.some)) w).1 (rw e (low_whole zero u v F.some (rw e at o) x y)),
  )

pub over_tail : (k : ℕ) (u v : List ℕ) → Over k (u ++ v) → Over k v
over_tail k [] v o = o
over_tail k (c ∷ u) v o = over_tail k u v o.1

-- ---- star

module _ (k : ℕ) (M : Machine) (F : WellFormed k M) where
  abbrev R : NFA
  R = star_NFA M

  pub star_inside : (x : ℕ) → x < R.nodes → R.epsilon x < R.nodes
  star_inside x h = elim (ltb x (size M)) as (λ b. cond b (cond ((automaton M).accepting x) (size M) x) zero < suc (size M))
      [ true ↦ elim ((automaton M).accepting x) as (λ b. cond b (size M) x < suc (size M)) [ true ↦ le_refl (suc (size M)) | false ↦ h ] | false ↦ zero-lt-suc (size M) ]

  pub epsilon_end : R.epsilon (size M) ≡ zero
  epsilon_end = rw (ltb_false (size M) (size M) (le_refl (size M)))

  pub epsilon_accepting : (p : ℕ) → p < size M → (automaton M).accepting p ≡ true → R.epsilon p ≡ size M
  epsilon_accepting p h t = rw (lt_ltb p (size M) h, t)

  epsilon_stays : (p : ℕ) → p < size M → (automaton M).accepting p ≡ false → R.epsilon p ≡ p
  epsilon_stays p h t = rw (lt_ltb p (size M) h, t)

  -- silent moves from the end go between it and the start
  abbrev Loop : ℕ → Type 0
  Loop x = (x ≡ size M) ⊎ (x ≡ zero)

  mutual
    pub end_epsilons : (i : ℕ) → Loop (epsilons R i (size M))
    end_epsilons zero = inl refl
    end_epsilons (suc i) = subst (λ y. Loop (epsilons R i y)) (sym epsilon_end) (zero_epsilons i)

    pub zero_epsilons : (i : ℕ) → Loop (epsilons R i zero)
    zero_epsilons zero = inr refl
    zero_epsilons (suc i) = go (bool_cases ((automaton M).accepting zero)) (end_epsilons i) (zero_epsilons i)
      where
        go : ((automaton M).accepting zero ≡ true) ⊎ ((automaton M).accepting zero ≡ false) → Loop (epsilons R i (size M)) → Loop (epsilons R i zero) → Loop (epsilons R i (R.epsilon zero))
        go (inl t) a b = subst (λ y. Loop (epsilons R i y)) (sym (epsilon_accepting zero F.some t)) a
        go (inr t) a b = subst (λ y. Loop (epsilons R i y)) (sym (epsilon_stays zero F.some t)) b

  pub state_epsilons : (i p : ℕ) → p < size M → (epsilons R i p ≡ p) ⊎ (((automaton M).accepting p ≡ true) × Loop (epsilons R i p))
  state_epsilons zero p h = inl refl
  state_epsilons (suc i) p h = go (bool_cases ((automaton M).accepting p)) (state_epsilons i p h)
    where
      go : ((automaton M).accepting p ≡ true) ⊎ ((automaton M).accepting p ≡ false) → (epsilons R i p ≡ p) ⊎ (((automaton M).accepting p ≡ true) × Loop (epsilons R i p))
          → (epsilons R i (R.epsilon p) ≡ p) ⊎ (((automaton M).accepting p ≡ true) × Loop (epsilons R i (R.epsilon p)))
      go (inl t) r = inr (t, subst (λ y. Loop (epsilons R i y)) (sym (epsilon_accepting p h t)) (end_epsilons i))
      go (inr t) r = subst (λ y. (epsilons R i y ≡ p) ⊎ (((automaton M).accepting p ≡ true) × Loop (epsilons R i y))) (sym (epsilon_stays p h t)) r

  pub state_move : (p c : ℕ) → p < size M → R.move p c ≡ (automaton M).step p c
  state_move p c h = rw (lt_ltb p (size M) h)

  pub end_move : (c : ℕ) → R.move (size M) c < R.nodes → ⊥
  end_move c b = lt_irrefl (suc (size M)) (rw (ltb_false (size M) (size M) (le_refl (size M))) at b)

  -- a first column taken from the loop begins a word
  again : (c : ℕ) (w : List ℕ) → (Path R ((automaton M).step zero c) w → Rest k M F ((automaton M).step zero c) w)
      → (x : ℕ) → Loop x → R.move x c < R.nodes → Path R (R.move x c) w → InStar M (c ∷ w)
  again c w f x (inl r) b q = absurd (end_move c (rw r at b))
  again c w f x (inr r) b q =
      let (u, v, e, t, (us, e', a)) = f (subst (λ s. Path R s w) (ap (λ s. R.move s c) r ∙ state_move zero c F.some) q) in
      ((c ∷ u) ∷ us, ap (λ l. c ∷ l) (e ∙ ap (λ l. u ++ l) e'), (t, a))

  state_sound : (p : ℕ) (w : List ℕ) → p < size M → Over k w → Path R p w → Rest k M F p w
  state_sound p [] h o (i, e) = go (state_epsilons i p h)
    where
      go : (epsilons R i p ≡ p) ⊎ (((automaton M).accepting p ≡ true) × Loop (epsilons R i p)) → Rest k M F p []
      go (inl r) = absurd (omega (arith, nat_test.sound p (size M) (ap (λ x. eqb x (size M)) (sym r) ∙ e)))
      go (inr (t, r)) = ([], [], refl, t, ([], refl, tt))
  state_sound p (c ∷ w) h o (i, b, q) =
      go (state_epsilons i p h) (state_sound ((automaton M).step p c) w (F.inside p c h o.0) o.1) (state_sound ((automaton M).step zero c) w (F.inside zero c F.some o.0) o.1)
    where
      go : (epsilons R i p ≡ p) ⊎ (((automaton M).accepting p ≡ true) × Loop (epsilons R i p)) → (Path R ((automaton M).step p c) w → Rest k M F ((automaton M).step p c) w)
          → (Path R ((automaton M).step zero c) w → Rest k M F ((automaton M).step zero c) w) → Rest k M F p (c ∷ w)
      go (inl r) f g =
          let (u, v, e, x, y) = f (subst (λ s. Path R s w) (ap (λ s. R.move s c) r ∙ state_move p c h) q) in
          (c ∷ u, v, ap (λ l. c ∷ l) e, x, y)
      go (inr (t, r)) f g = ([], c ∷ w, refl, t, again c w g (epsilons R i p) r b q)

  end_sound : (w : List ℕ) → Over k w → Path R (size M) w → InStar M w
  end_sound [] o q = ([], refl, tt)
  end_sound (c ∷ w) o (i, b, q) = again c w (state_sound ((automaton M).step zero c) w (F.inside zero c F.some o.0) o.1) (epsilons R i (size M)) (end_epsilons i) b q

  state_whole : (p : ℕ) (u v : List ℕ) → p < size M → Over k (u ++ v) → (automaton M).accepting (run (automaton M) p u) ≡ true → Path R (size M) v → Path R p (u ++ v)
  state_whole p [] v h o t q = path_epsilons R star_inside 1 p v (subst (λ y. Path R y v) (sym (epsilon_accepting p h t)) q)
  state_whole p (c ∷ u) v h o t q =
      (zero, rw (state_move p c h) (omega (arith, F.inside p c h o.0)), rw (state_move p c h) (state_whole ((automaton M).step p c) u v (F.inside p c h o.0) o.1 t q))

  end_whole : (us : List (List ℕ)) → Over k (in_row us) → Each M us → Path R (size M) (in_row us)
  end_whole [] o a = (zero, nat_test.whole (size M))
  end_whole (u ∷ us) o (t, a) =
      path_epsilons R star_inside 1 (size M) (u ++ in_row us) (subst (λ y. Path R y (u ++ in_row us)) (sym epsilon_end) (state_whole zero u (in_row us) F.some o t (end_whole us (over_tail k u (in_row us) o) a)))

  -- STAR: the sets accept a word just when it is words of M in a row.
  pub star_accept : (w : List ℕ) → Over k w → (accepts (subset R) w ≡ true) ↔ InStar M w
  star_accept w o = (
    λ e. end_sound w o ((subset_accept R star_inside (le_refl (suc (size M))) w).0 e),
    λ (us, e, a). (subset_accept R star_inside (le_refl (suc (size M))) w).1 (rw e (end_whole us (rw e at o) a)),
  )

-- ---- erasing

module _ (k : ℕ) (M : Machine) (F : WellFormed (suc k) M) where
  abbrev X : NFA
  X = erase_NFA k M

  pub erase_inside : (x : ℕ) → x < X.nodes → X.epsilon x < X.nodes
  erase_inside x h = F.inside x k h (le_refl (suc k))

  pub other : (c : ℕ) → c < k → eqb c k ≡ false
  other c h = go (same_cases nat_test c k)
    where
      go : SameCases nat_test c k → eqb c k ≡ false
      go (inl p) = absurd (omega arith)
      go (inr p) = p.1

  -- marks in front of a word are silent moves
  marks : (i x : ℕ) (w : List ℕ) → Erased k M (epsilons X i x) w → Erased k M x w
  marks zero x w r = r
  marks (suc i) x w r =
      let (u, o, e, f) = marks i (X.epsilon x) w r in
      (k ∷ u, (le_refl (suc k), o), rw (nat_test.whole k) e, f)

  erase_sound : (x : ℕ) (w : List ℕ) → Over k w → Path X x w → Erased k M x w
  erase_sound x [] o (i, e) = marks i x [] ([], tt, refl, e)
  erase_sound x (c ∷ w) o (i, b, p) =
      let y = epsilons X i x in
      let (u, v, e, f) = erase_sound ((automaton M).step y c) w o.1 (rw (other c o.0) at p) in
      marks i x (c ∷ w) (c ∷ u, (omega (arith, o.0), v), rw (other c o.0) (ap (λ l. c ∷ l) e), f)

  erase_whole : (x : ℕ) (u : List ℕ) → x < size M → Over (suc k) u → (automaton M).accepting (run (automaton M) x u) ≡ true → Path X x (strip k u)
  erase_whole x [] h o e = (zero, e)
  erase_whole x (c ∷ u) h (b, o) e = go (same_cases nat_test c k) (erase_whole ((automaton M).step x c) u (F.inside x c h b) o e)
    where
      go : SameCases nat_test c k → Path X ((automaton M).step x c) (strip k u) → Path X x (cond (eqb c k) (strip k u) (c ∷ strip k u))
      go (inl p) q = rw p.1 (path_epsilons X erase_inside 1 x (strip k u) (subst (λ y. Path X ((automaton M).step x y) (strip k u)) p.0 q))
      go (inr p) q = rw p.1 (zero, rw p.1 (F.inside x c h b), rw p.1 q)

  -- ERASING: the sets accept a word without marks just when M accepts it with marks put in.
  pub erase_accept : (w : List ℕ) → Over k w → (accepts (subset X) w ≡ true) ↔ Erased k M zero w
  erase_accept w o = (
    λ e. erase_sound zero w o ((subset_accept X erase_inside F.some w).0 e),
    λ (u, v, e, f). (subset_accept X erase_inside F.some w).1 (rw (← e) (erase_whole zero u F.some v f)),
  )

  -- and no word with a mark
  path_letters : (x : ℕ) (w : List ℕ) → Over (suc k) w → Path X x w → Over k w
  path_letters x [] o p = tt
  path_letters x (c ∷ w) o (i, b, p) = go (same_cases nat_test c k) (path_letters (X.move (epsilons X i x) c) w o.1 p)
    where
      go : SameCases nat_test c k → Over k w → Over k (c ∷ w)
      go (inl q) v = absurd (lt_irrefl (size M) (rw q.1 at b))
      go (inr q) v = let n : c ≢ k = q.0 in (omega (arith, o.0), v)

  pub erase_letters : (w : List ℕ) → Over (suc k) w → accepts (subset X) w ≡ true → Over k w
  erase_letters w o e = path_letters zero w o ((subset_accept X erase_inside F.some w).0 e)
