-- Laws of what specs/Subset.antt defines.
use Rattle.std.specs.Prelude.{◌≡◌, Bool, ◌⊎◌, ◌↔◌}
use Rattle.std.proofs.Math.Path.{refl, ap}
use Rattle.std.proofs.Common.{sym, ◌∙◌, subst, true≢false, inl, inr}
use Rattle.std.proofs.Math.Bool.{true, false}
use mathlib.Core.List.{List, [], ◌∷◌}
use Prim.Native.Nat.{ℕ, zero, suc, ◌+◌, ◌≤◌, ◌<◌}
use native.Mathlib.Omega.{arith}
use Rattle.std.proofs.Math.ListN.{length, get_or}
use Rattle.automata.specs.Booleans.{choose}
use Rattle.automata.specs.Automaton.{run, accepts}
use Rattle.automata.specs.Flags.{none, set_flag, scatter, length_none, none_flag, flag_inside, set_length, set_sound, set_here, some_sound, some_whole, scatter_length, scatter_keeps, Hit, scatter_sound, scatter_hits, count_flags, count_full, count_grows, flags_test}
use Rattle.automata.specs.Subset.{Leads, MovesTo, NFA, Path, epsilons, gain, gains, subset}

-- ---- what the sets are

module _ (H : NFA) (inside : (x : ℕ) → x < H.nodes → H.epsilon x < H.nodes) where
  epsilons_inside : (i x : ℕ) → x < H.nodes → epsilons H i x < H.nodes
  epsilons_inside zero x h = h
  epsilons_inside (suc i) x h = epsilons_inside i (H.epsilon x) (inside x h)

  -- A set with all that silent moves lead to from it.
  abbrev Closed : List Bool → Type 0
  Closed X = (x : ℕ) → get_or X x false ≡ true → get_or X (H.epsilon x) false ≡ true

  closed_epsilons : (X : List Bool) → Closed X → (i x : ℕ) → get_or X x false ≡ true → get_or X (epsilons H i x) false ≡ true
  closed_epsilons X g zero x e = e
  closed_epsilons X g (suc i) x e = closed_epsilons X g i (H.epsilon x) (g x e)

  gain_hits : (X : List Bool) → length X ≡ H.nodes → (x : ℕ) → get_or X x false ≡ true → get_or (gain H X) (H.epsilon x) false ≡ true
  gain_hits X l x e =
      let n : 0 + x ≡ x = omega arith in
      scatter_hits H.epsilon zero x (H.epsilon x) X X e (ap H.epsilon n) (rw l (inside x (rw l at (flag_inside X x e))))

  gains_length : (n : ℕ) (X : List Bool) → length (gains H n X) ≡ length X
  unfolding gains
  gains_length zero X = refl
  gains_length (suc n) X = go (flags_test.same X (gain H X)) (gains_length n (gain H X))
    where
      go : (b : Bool) → length (gains H n (gain H X)) ≡ length (gain H X) → length (choose b (λ _. X) (λ _. gains H n (gain H X))) ≡ length X
      go true f = refl
      go false f = f ∙ scatter_length H.epsilon zero X X

  gains_keeps : (n : ℕ) (X : List Bool) (z : ℕ) → get_or X z false ≡ true → get_or (gains H n X) z false ≡ true
  unfolding gains
  gains_keeps zero X z e = e
  gains_keeps (suc n) X z e = go (flags_test.same X (gain H X)) (gains_keeps n (gain H X) z (scatter_keeps H.epsilon zero z X X e))
    where
      go : (b : Bool) → get_or (gains H n (gain H X)) z false ≡ true → get_or (choose b (λ _. X) (λ _. gains H n (gain H X))) z false ≡ true
      go true f = e
      go false f = f

  Source : List Bool → ℕ → Type 0
  Source X z = (x : ℕ) × (i : ℕ) × (get_or X x false ≡ true) × (epsilons H i x ≡ z)

  gains_sound : (n : ℕ) (X : List Bool) (z : ℕ) → get_or (gains H n X) z false ≡ true → Source X z
  unfolding gains Source Hit
  gains_sound zero X z e = (z, zero, e, refl)
  gains_sound (suc n) X z e = go (flags_test.same X (gain H X)) e (gains_sound n (gain H X) z)
    where
      back : Source (gain H X) z → Source X z
      back (x, i, t, q) = from (scatter_sound H.epsilon zero x X X t)
        where
          from : (get_or X x false ≡ true) ⊎ Hit H.epsilon zero x X → Source X z
          from (inl a) = (x, i, a, q)
          from (inr (y, b, t', q')) =
              let m : y ≡ 0 + y = omega arith in
              (y, suc i, t', ap (epsilons H i) (ap H.epsilon m ∙ q') ∙ q)

      go : (b : Bool) → get_or (choose b (λ _. X) (λ _. gains H n (gain H X))) z false ≡ true → (get_or (gains H n (gain H X)) z false ≡ true → Source (gain H X) z) → Source X z
      go true t f = (z, zero, t, refl)
      go false t f = back (f t)

  gains_closed : (n : ℕ) (X : List Bool) → length X ≡ H.nodes → H.nodes ≤ n + count_flags X → Closed (gains H n X)
  unfolding gains
  gains_closed zero X l h = λ x e. count_full X (omega arith) (H.epsilon x) (rw l (inside x (rw l at (flag_inside X x e))))
  gains_closed (suc n) X l h =
      go (flags_test.same X (gain H X)) refl (gains_closed n (gain H X) (scatter_length H.epsilon zero X X ∙ l))
      (count_grows X (gain H X) (sym (scatter_length H.epsilon zero X X)) (λ z t. scatter_keeps H.epsilon zero z X X t))
    where
      fixed : X ≡ gain H X → Closed X
      fixed q x e = ap (λ Y. get_or Y (H.epsilon x) false) q ∙ gain_hits X l x e

      go : (b : Bool) → flags_test.same X (gain H X) ≡ b → (H.nodes ≤ n + count_flags (gain H X) → Closed (gains H n (gain H X)))
          → (X ≡ gain H X) ⊎ (count_flags X < count_flags (gain H X)) → Closed (choose b (λ _. X) (λ _. gains H n (gain H X)))
      go true e f r = fixed (flags_test.sound X (gain H X) e)
      go false e f (inl q) = absurd (true≢false (sym (flags_test.whole X) ∙ ap (flags_test.same X) q ∙ e))
      go false e f (inr q) = f (omega arith)

  pub path_epsilons : (i x : ℕ) (w : List ℕ) → Path H (epsilons H i x) w → Path H x w
  path_epsilons zero x w p = p
  path_epsilons (suc i) x w p = one (H.epsilon x) x w refl (path_epsilons i (H.epsilon x) w p)
    where
      one : (y x : ℕ) (w : List ℕ) → H.epsilon x ≡ y → Path H y w → Path H x w
      one y x [] e (i, f) = (suc i, rw e f)
      one y x (c ∷ w) e (i, b, p) = (suc i, rw e b, rw e p)

  -- what holds of every set that is reached
  record Set (X : List Bool) : Type 0 where
    long : length X ≡ H.nodes
    closed : Closed X

  set_of : (X : List Bool) → length X ≡ H.nodes → Set (gains H H.nodes X)
  set_of X l = record { long = gains_length H.nodes X ∙ l; closed = gains_closed H.nodes X l (omega arith) }

  module _ (X : List Bool) (c : ℕ) where
    moved : List Bool
    moved = scatter (λ x. H.move x c) zero X (none H.nodes)

    moved_length : length moved ≡ H.nodes
    unfolding moved
    moved_length = scatter_length (λ x. H.move x c) zero X (none H.nodes) ∙ length_none H.nodes

    step_set : Set ((subset H).step X c)
    unfolding subset moved
    step_set = set_of moved moved_length

    step_sound : (y : ℕ) → get_or ((subset H).step X c) y false ≡ true
        → (x : ℕ) × (i : ℕ) × (x < length X) × (get_or X x false ≡ true) × (H.move x c < H.nodes) × (epsilons H i (H.move x c) ≡ y)
    unfolding subset moved Source Hit
    step_sound y e =
        let (z, i, t, q) = gains_sound H.nodes moved y e in
        go z i t q (scatter_sound (λ x. H.move x c) zero z X (none H.nodes) t)
      where
        go : (z i : ℕ) → get_or moved z false ≡ true → epsilons H i z ≡ y → (get_or (none H.nodes) z false ≡ true) ⊎ Hit (λ x. H.move x c) zero z X
            → (x : ℕ) × (i : ℕ) × (x < length X) × (get_or X x false ≡ true) × (H.move x c < H.nodes) × (epsilons H i (H.move x c) ≡ y)
        go z i t q (inl a) = absurd (none_flag H.nodes z a)
        go z i t q (inr (x, b, t', q')) =
            let n : x ≡ 0 + x = omega arith in
            let m : H.move x c ≡ z = ap (λ x. H.move x c) n ∙ q' in
            (x, i, b, t', rw m (rw moved_length at (flag_inside moved z t)), ap (epsilons H i) m ∙ q)

    step_whole : (x : ℕ) → get_or X x false ≡ true → H.move x c < H.nodes → get_or ((subset H).step X c) (H.move x c) false ≡ true
    unfolding subset moved
    step_whole x t b =
        let n : 0 + x ≡ x = omega arith in
        gains_keeps H.nodes moved (H.move x c)
        (scatter_hits (λ x. H.move x c) zero x (H.move x c) X (none H.nodes) t (ap (λ x. H.move x c) n) (rw (length_none H.nodes) b))

  -- THE SETS accept a word just when a path from one of their nodes does.
  abbrev From : List Bool → List ℕ → Type 0
  From X w = (x : ℕ) × (get_or X x false ≡ true) × Path H x w

  subset_sound : (X : List Bool) (w : List ℕ) → (subset H).accepting (run (subset H) X w) ≡ true → From X w
  unfolding subset
  subset_sound X [] e =
      let (x, b, t, q) = some_sound H.accepting zero X e in
      let n : x ≡ 0 + x = omega arith in
      (x, t, (zero, ap H.accepting n ∙ q))
  subset_sound X (c ∷ w) e =
      let (y, t, p) = subset_sound ((subset H).step X c) w e in
      let (x, i, b, t', m, q) = step_sound X c y t in
      (x, t', (zero, m, path_epsilons i (H.move x c) w (rw q p)))

  subset_whole : (X : List Bool) (w : List ℕ) → Set X → From X w → (subset H).accepting (run (subset H) X w) ≡ true
  unfolding subset
  subset_whole X [] g (x, t, (i, f)) =
      let n : 0 + epsilons H i x ≡ epsilons H i x = omega arith in
      some_whole H.accepting zero (epsilons H i x) X (closed_epsilons X g.closed i x t) (ap H.accepting n ∙ f)
  subset_whole X (c ∷ w) g (x, t, (i, m, p)) =
      let y = epsilons H i x in
      subset_whole ((subset H).step X c) w (step_set X c)
      (H.move y c, step_whole X c y (closed_epsilons X g.closed i x t) m, p)

  alone : List Bool
  alone = set_flag H.start (none H.nodes)

  start_set : Set (subset H).start
  unfolding subset alone
  start_set = set_of alone (set_length H.start (none H.nodes) ∙ length_none H.nodes)

  pub subset_accept : H.start < H.nodes → (w : List ℕ) → (accepts (subset H) w ≡ true) ↔ Path H H.start w
  unfolding subset alone Source
  subset_accept b w = (to, from)
    where
      only : (x : ℕ) → get_or alone x false ≡ true → H.start ≡ x
      only x t = go (set_sound H.start x (none H.nodes) t)
        where
          go : (get_or (none H.nodes) x false ≡ true) ⊎ (H.start ≡ x) → H.start ≡ x
          go (inl a) = absurd (none_flag H.nodes x a)
          go (inr q) = q

      to : accepts (subset H) w ≡ true → Path H H.start w
      to e =
          let (x, t, p) = subset_sound (subset H).start w e in
          let (y, i, t', q) = gains_sound H.nodes alone x t in
          path_epsilons i H.start w (subst (λ z. Path H z w) (sym (ap (epsilons H i) (only y t') ∙ q)) p)

      from : Path H H.start w → accepts (subset H) w ≡ true
      from p = subset_whole (subset H).start w start_set
          (H.start, gains_keeps H.nodes alone H.start (set_here H.start (none H.nodes) (rw (length_none H.nodes) b)), p)

  -- ---- the members of a set

  leads_epsilons : (i x : ℕ) (w : List ℕ) (y : ℕ) → Leads H inside (epsilons H i x) w y → Leads H inside x w y
  leads_epsilons zero x w y p = p
  leads_epsilons (suc i) x w y p = one (H.epsilon x) x w refl (leads_epsilons i (H.epsilon x) w y p)
    where
      one : (z x : ℕ) (w : List ℕ) → H.epsilon x ≡ z → Leads H inside z w y → Leads H inside x w y
      one z x [] e (i, f) = (suc i, ap (epsilons H i) e ∙ f)
      one z x (c ∷ w) e (i, b, p) = (suc i, rw e b, rw e p)

  members_sound : (X : List Bool) (w : List ℕ) (y : ℕ) → Set X → get_or (run (subset H) X w) y false ≡ true → (x : ℕ) × (get_or X x false ≡ true) × Leads H inside x w y
  members_sound X [] y g e = (y, e, (zero, refl))
  members_sound X (c ∷ w) y g e =
      let (z, t, p) = members_sound ((subset H).step X c) w y (step_set X c) e in
      let (x, i, b, t', m, q) = step_sound X c z t in
      (x, t', (zero, m, leads_epsilons i (H.move x c) w y (subst (λ v. Leads H inside v w y) (sym q) p)))

  members_whole : (X : List Bool) (w : List ℕ) (x y : ℕ) → Set X → get_or X x false ≡ true → Leads H inside x w y → get_or (run (subset H) X w) y false ≡ true
  members_whole X [] x y g t (i, q) = subst (λ v. get_or X v false ≡ true) q (closed_epsilons X g.closed i x t)
  members_whole X (c ∷ w) x y g t (i, m, p) =
      members_whole ((subset H).step X c) w (H.move (epsilons H i x) c) y (step_set X c)
      (step_whole X c (epsilons H i x) (closed_epsilons X g.closed i x t) m) p

  -- THE SET that a word leads to has the nodes that the word leads to, and no other.
  pub subset_members : H.start < H.nodes → (w : List ℕ) (y : ℕ) → (get_or (run (subset H) (subset H).start w) y false ≡ true) ↔ Leads H inside H.start w y
  unfolding subset alone Source
  subset_members b w y = (to, from)
    where
      only : (x : ℕ) → get_or alone x false ≡ true → H.start ≡ x
      only x t = go (set_sound H.start x (none H.nodes) t)
        where
          go : (get_or (none H.nodes) x false ≡ true) ⊎ (H.start ≡ x) → H.start ≡ x
          go (inl a) = absurd (none_flag H.nodes x a)
          go (inr q) = q

      to : get_or (run (subset H) (subset H).start w) y false ≡ true → Leads H inside H.start w y
      to e =
          let (x, t, p) = members_sound (subset H).start w y start_set e in
          let (z, i, t', q) = gains_sound H.nodes alone x t in
          leads_epsilons i H.start w y (subst (λ v. Leads H inside v w y) (sym (ap (epsilons H i) (only z t') ∙ q)) p)

      from : Leads H inside H.start w y → get_or (run (subset H) (subset H).start w) y false ≡ true
      from p = members_whole (subset H).start w H.start y start_set
          (gains_keeps H.nodes alone H.start (set_here H.start (none H.nodes) (rw (length_none H.nodes) b))) p

  -- ---- the members of a step

  -- THE STEP of a set has the nodes that its members move to, with what silent moves lead to from there, and no other.
  pub subset_step : (X : List Bool) (c y : ℕ) → (get_or ((subset H).step X c) y false ≡ true) ↔ MovesTo H inside X c y
  subset_step X c y = (
    λ e. let (x, i, b, t, m, q) = step_sound X c y e in (x, i, t, m, q),
    λ (x, i, t, m, q). subst (λ v. get_or ((subset H).step X c) v false ≡ true) q (closed_epsilons ((subset H).step X c) (step_set X c).closed i (H.move x c) (step_whole X c x t m)),
  )

  pub step_long : (X : List Bool) (c : ℕ) → length ((subset H).step X c) ≡ H.nodes
  step_long X c = (step_set X c).long

  pub start_long : length (subset H).start ≡ H.nodes
  start_long = start_set.long
