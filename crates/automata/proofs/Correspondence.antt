-- Laws of what specs/Correspondence.antt defines.
use Rattle.std.specs.Prelude.{◌≡◌, ℕ, suc, ◌<◌}
use Rattle.std.proofs.Common.{sym, ◌∙◌}
use Rattle.automata.specs.Basics.{Inj, Test}
use Rattle.automata.specs.Automaton.{Automaton, run, Reachable}
use Rattle.automata.specs.Simulation.{both_run}
use Rattle.automata.specs.Machine.{Machine, automaton, SameWords, choice_function}
use Rattle.automata.specs.Format.{Format}
use Rattle.automata.specs.Stage.{Made, Counts, MoreThan, Smallest, StageResult, kept_one, too_many_sets, too_many_states, stage}
use Rattle.automata.proofs.Stage.{stage_only}
use Rattle.automata.specs.Correspondence.{StandsFor}

module _ {S' S : Type 0} (k : ℕ) (R : Automaton S') (A : Automaton S) (Rep : S' → S → Type 0) (C : StandsFor k R A Rep) where
  -- what a reached state of R stands for is reached too
  image : (r : S') → Reachable k R r → (s : S) × (Reachable k A s × Rep r s)
  image r (w, o, e) = (run A A.start w, ((w, o, λ i. run A A.start w), rw e at (both_run Rep R A k C.steps R.start A.start w o C.starts)))

  images : (n : ℕ) (f : ℕ → S') → ((i : ℕ) → i < n → Reachable k R (f i)) → (g : ℕ → S) × ((i : ℕ) → i < n → Reachable k A (g i) × Rep (f i) (g i))
  images n f reach = choice_function A.start n (λ i s. Reachable k A s × Rep (f i) s) (λ i h. image (f i) (reach i h))

  images_once : (n : ℕ) (f : ℕ → S') (g : ℕ → S) → ((i : ℕ) → i < n → Reachable k A (g i) × Rep (f i) (g i)) → Inj n f → Inj n g
  images_once n f g p inj i j hi hj e = inj i j hi hj (C.back (f i) (f j) (g i) (g j) (p i hi).1 (p j hj).1 e)

  pub stands_counts : (n : ℕ) → Counts k R n → Counts k A n
  stands_counts n D =
      let (g, p) = images n D.state D.reachable in
      record { state = g; reachable = λ i h. (p i h).0; once = images_once n D.state g p D.once; all = λ s r. found g p s r }
    where
      found : (g : ℕ → S) → ((i : ℕ) → i < n → Reachable k A (g i) × Rep (D.state i) (g i)) → (s : S) → Reachable k A s → (i : ℕ) × (i < n) × (g i ≡ s)
      found g p s (w, o, e) =
          let r : S' = run R R.start w in
          let q : Rep r s = rw e at (both_run Rep R A k C.steps R.start A.start w o C.starts) in
          let (i, h, t) = D.all r (w, o, λ i. r) in
          (i, h, C.one (D.state i) r (g i) s (p i h).1 q t)

  pub stands_more : (n : ℕ) → MoreThan k R n → MoreThan k A n
  stands_more n (f, reach, inj) =
      let (g, p) = images (suc n) f reach in
      (g, λ i h. (p i h).0, images_once (suc n) f g p inj)

  pub stands_words : {T : Type 0} (B : Automaton T) → SameWords k R B → SameWords k A B
  stands_words B same w o =
      sym (C.answers (run R R.start w) (run A A.start w) (both_run Rep R A k C.steps R.start A.start w o C.starts)) ∙ same w o

  stands_smallest : (M : Machine) → Smallest k R M → Smallest k A M
  stands_smallest M s = record { canonical = s.canonical; words = stands_words (automaton M) s.words }

  pub stands_result : (fmt : Format) (r : Made) → StageResult fmt k R r → StageResult fmt k A r
  stands_result fmt r (kept_one n M D h s b) = kept_one n M (stands_counts n D) h (stands_smallest M s) b
  stands_result fmt r (too_many_sets c) = too_many_sets (stands_more fmt.most_sets c)
  stands_result fmt r (too_many_states n M D h s b) = too_many_states n M (stands_counts n D) h (stands_smallest M s) b

  -- THE STAGE on A answers what was found of R.
  pub stage_by : (E : Test S) (fmt : Format) (r : Made) → StageResult fmt k R r → stage E fmt k A ≡ r
  stage_by E fmt r s = stage_only E fmt k A r (stands_result fmt r s)
