-- Laws of what specs/Distance.antt defines.
use Rattle.std.specs.Prelude.{◌≡◌, Bool, List, [], ◌∷◌}
use Rattle.std.proofs.Math.Bool.{true, false}
use Rattle.std.proofs.Common.{inl, inr, arith}
use Prim.Native.Nat.{ℕ, ◌≤◌, ◌<◌, zero-le}
use Rattle.std.proofs.Math.Nat.{le_refl}
use Rattle.std.proofs.Math.ListN.{length, get_or}
use Rattle.automata.specs.Basics.{LtCases, lt_cases}
use Rattle.automata.specs.Automaton.{Over, run}
use Rattle.automata.specs.Machine.{Machine, size, automaton, WellFormed}
use Rattle.automata.specs.Decide.{contradict, first_from, first_from_lem}
use Rattle.automata.specs.Live.{live_round, live}
use Rattle.automata.proofs.Live.{round_sound, round_whole, live_word}
use Rattle.automata.specs.Distance.{Fewest, distance}

pub distance_most : (k : ℕ) (M : Machine) (p : ℕ) → distance k M p ≤ size M
unfolding distance
distance_most k M p = omega (arith, (first_from_lem (λ j. get_or (live_round k M j) p false) 0 (size M)).most)

-- One number at most is the fewest.
pub fewest_one : (k : ℕ) (M : Machine) (p d d' : ℕ) → Fewest k M p d → Fewest k M p d' → d ≡ d'
fewest_one k M p d d' f g =
    let (w, o, e, t) = f.word in
    let (w', o', e', t') = g.word in
    omega (arith, f.least w' o' t', g.least w o t)

-- From a state that does not accept it is 1 at least.
pub fewest_some : (k : ℕ) (M : Machine) (p d : ℕ) → Fewest k M p d → (automaton M).accepting p ≡ false → 1 ≤ d
fewest_some k M p d f e = let (w, o, l, t) = f.word in go w l t
  where
    go : (w : List ℕ) → length w ≡ d → (automaton M).accepting (run (automaton M) p w) ≡ true → 1 ≤ d
    go [] l t = contradict t e
    go (c ∷ w) l t = omega (arith, l)

module _ (k : ℕ) (M : Machine) (F : WellFormed k M) (p : ℕ) (h : p < size M) where
  abbrev f : ℕ → Bool
  f j = get_or (live_round k M j) p false

  abbrev d : ℕ
  d = first_from f 0 (size M)

  -- No shorter word is accepted,
  pub distance_least : (w : List ℕ) → Over k w → (automaton M).accepting (run (automaton M) p w) ≡ true → distance k M p ≤ length w
  unfolding distance
  distance_least w o e = go (lt_cases (length w) d)
    where
      go : LtCases (length w) d → d ≤ length w
      go (inl x) = contradict (round_whole k M F (length w) p h (w, o, le_refl (length w), e)) ((first_from_lem f 0 (size M)).before (length w) zero-le x.0)
      go (inr x) = x.0

  -- and where any word is accepted, one of so many columns is: THE DISTANCE is the fewest.
  pub distance_fewest : (u : List ℕ) → Over k u → (automaton M).accepting (run (automaton M) p u) ≡ true → Fewest k M p (distance k M p)
  distance_fewest u o e = record { word = shortest; least = distance_least }
    where
      reached : get_or (live_round k M (distance k M p)) p false ≡ true
      reached = unfold distance in go (lt_cases d (size M))
        where
          go : LtCases d (size M) → get_or (live_round k M d) p false ≡ true
          go (inl x) = (first_from_lem f 0 (size M)).passes (omega arith)
          go (inr x) =
              let z : d ≡ size M = omega (arith, (first_from_lem f 0 (size M)).most) in
              rw z (unfold live in live_word k M F u p h o e)

      shortest : (w : List ℕ) × Over k w × (length w ≡ distance k M p) × ((automaton M).accepting (run (automaton M) p w) ≡ true)
      shortest =
          let (w, v, b, t) = round_sound k M F (distance k M p) p h reached in
          (w, v, omega (arith, b, distance_least w v t), t)
