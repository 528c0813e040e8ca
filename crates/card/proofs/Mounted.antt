-- Laws of what specs/Mounted.antt defines.
use Rattle.std.specs.Prelude.{◌≡◌, refl, false, ◌↔◌, List, [], ◌∷◌, ℕ, suc, ◌≤◌}
use Rattle.std.proofs.Common.{sym, ap, ◌∙◌, arith}
use borrow.Author.Tests.{le-leb}
use Rattle.automata.specs.Booleans.{not_true}
use Rattle.automata.specs.Decide.{unless}
use Rattle.automata.specs.Format.{narrow}
use Rattle.card.specs.Layout.{Sound, letter_count, move_at, letters_of, marks_of, moves_of, machine_of, contents_test}
use Rattle.card.proofs.LayoutLaws.{contents_sound}
use Rattle.card.specs.Alphabet.{column}
use Rattle.card.specs.Load.{load_test, row_inside, inside_test, marks_test}
use Rattle.card.proofs.Loads.{load_loaded}
use Rattle.card.specs.Answer.{load, rejected}
use Rattle.card.specs.Reply.{refused, asked, map_reply}
use Rattle.card.specs.Judge.{judge, state_after, first_dead, dead_at, by_place, found}
use Rattle.card.specs.MountedVerdict.{mounted_judge, less_number}
use Rattle.card.proofs.MountedVerdict.{less_number_lem}
use Rattle.card.specs.Step.{step_on}
use Rattle.card.specs.MountedStep.{mounted_step, stopped, less_owed}
use Rattle.card.proofs.MountedStep.{step_less}
use Rattle.card.specs.Mounted.{mounted}

pub mounted_sound : Sound mounted
mounted_sound = record { numbers = omega arith; moves = omega arith }

-- ---- a card without letters

module _ (c : List ℕ) (e : letter_count narrow c ≡ 0) where
  no_contents : contents_test mounted c ≡ false
  no_contents = not_true (contents_test mounted c) (λ t. let r = contents_sound mounted c t in omega (arith, r.letters_least, e))

  -- "mounted ones refuse m = 0 by 21": loading, a step, judging
  pub mounted_refuses : load_test mounted c ≡ 21
  unfolding load_test unless
  mounted_refuses = rw no_contents

  pub mounted_rejects : load mounted c ≡ rejected 21
  unfolding load
  mounted_rejects = rw mounted_refuses

  pub mounted_stops : (p l : ℕ) → mounted_step mounted c p l ≡ stopped 21
  unfolding mounted_step unless
  mounted_stops p l = rw no_contents

  pub mounted_judges_none : (plan : List ℕ) → mounted_judge mounted c plan ≡ refused 21 0
  unfolding mounted_judge asked unless
  mounted_judges_none plan = rw mounted_refuses

-- ---- any other card

-- the places of judging are the same
pub state_same : (c plan : List ℕ) (p : ℕ) → state_after mounted c plan p ≡ state_after narrow c plan p
unfolding letters_of
state_same c [] p = refl
state_same c (l ∷ plan) p = state_same c plan (move_at narrow c p (column (letters_of narrow c) l))

dead_same : (c plan : List ℕ) (p k : ℕ) → first_dead mounted c plan p k ≡ first_dead narrow c plan p k
unfolding letters_of
dead_same c [] p k = refl
dead_same c (l ∷ plan) p k = ap (λ d. by_place (dead_at narrow c p k) found (λ _. d)) (dead_same c plan (move_at narrow c p (column (letters_of narrow c) l)) (suc k))

module _ (c : List ℕ) (h : 1 ≤ letter_count narrow c) where
  same_contents : contents_test mounted c ≡ contents_test narrow c
  unfolding contents_test
  same_contents = rw (le-leb 1 (letter_count narrow c) h, le-leb 0 (letter_count narrow c) (omega arith))

  pub same_test : load_test mounted c ≡ load_test narrow c
  unfolding load_test inside_test row_inside marks_test machine_of letters_of marks_of moves_of
  same_test = rw same_contents

  pub mounted_loads : load mounted c ≡ load narrow c
  unfolding load
  mounted_loads = rw same_test

  pub mounted_steps_same : (p l : ℕ) → mounted_step mounted c p l ≡ mounted_step narrow c p l
  unfolding mounted_step letters_of
  mounted_steps_same p l = rw same_contents

  pub mounted_judges_same : (plan : List ℕ) → mounted_judge mounted c plan ≡ mounted_judge narrow c plan
  unfolding mounted_judge asked letters_of
  mounted_judges_same plan = rw (same_test, dead_same c plan 0 0, state_same c plan 0)

  -- so that they step and reply as today's boards do, less the number.
  pub mounted_steps_less : load_test narrow c ≡ 0 → (p l : ℕ) → mounted_step mounted c p l ≡ less_owed (step_on narrow c p l)
  mounted_steps_less z p l = mounted_steps_same p l ∙ step_less narrow c z p l

  pub mounted_judges : (plan : List ℕ) → mounted_judge mounted c plan ≡ map_reply less_number (judge narrow c plan)
  mounted_judges plan = mounted_judges_same plan ∙ less_number_lem narrow c plan

-- What a mounted board loads is what today's load, where there is a letter.
pub mounted_iff : (c : List ℕ) → (load_test mounted c ≡ 0) ↔ ((load_test narrow c ≡ 0) × (1 ≤ letter_count narrow c))
mounted_iff c = (
  λ e. let h : 1 ≤ letter_count narrow c = (load_loaded mounted c e).contents.letters_least in (sym (same_test c h) ∙ e, h),
  λ (e, h). same_test c h ∙ e,
)
