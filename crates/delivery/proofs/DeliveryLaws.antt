-- From the contracts of the three entries to that of the whole way.
use mathlib.Core.Path.{◌≡◌, refl, sym, ap, ap₂, ◌∙◌}
use mathlib.Core.List.{List, ◌++◌}
use Prim.Native.Nat.{ℕ, ◌≤◌}
use native.Mathlib.Omega.{arith}
use lib.ListN.{length, take, drop, length-append}
use Rattle.automata.specs.Format.{narrow}
use Rattle.automata.specs.Machine.{Machine, size}
use Rattle.card.specs.Layout.{narrow_sound, letter_count, state_count}
use Rattle.card.proofs.LayoutLaws.{encode_letter_count, encode_state_count}
use Rattle.card.proofs.Loads.{card_fits, load_loaded}
use Rattle.card.specs.Answer.{holds, load, load_holds}
use Rattle.card.specs.Verdict.{allowed, unfinished, hopeless}
use Rattle.card.specs.Reply.{unknown_letter}
use Rattle.card.specs.Judge.{judge}
use Rattle.card.proofs.JudgeLaws.{replies_only}
use Rattle.card.specs.Demand.{Demand3}
use Rattle.compiler.specs.Outcome.{Outcome, card, stop, answer, outcome, card_stands}
use Rattle.std.specs.Prelude.{Result, Ok, Err}
use Rattle.compiler.specs.declared.Compiled.{Compiled}
use Rattle.compiler.specs.declared.Refusal.{Refusal}
use Rattle.driver.specs.Entry.{documented, reading, Answers}
use Rattle.promises.specs.Demands.{book_allows}
use Rattle.promises.proofs.Today.{card_keeps_demand, rules_obeyed, one_card}
use Rattle.promises.proofs.Refusals.{refusal_numbered}
use Rattle.handing.specs.declared.Delivered.{Delivered}
use Rattle.handing.specs.Answers.{board_says, delivery}
use Rattle.handing.specs.Answers as A
use Rattle.handing.specs.Handing.{Within, handed}
use Rattle.delivery.specs.Delivers.{letters_in, Accepted, Delivers}
use Rattle.delivery.proofs.VerdictLaws.{verdict_means, other_means}

-- ---- an accepted book

module _ (text lent old new : List ℕ) where
  abbrev o : Outcome
  o = outcome narrow documented text lent (length old)

  -- a card is no refusal
  no_refusal : (n : Compiled) (r at : ℕ) → outcome narrow documented text lent (length old) ≡ stop r at → reading (Ok n) ≡ answer (stop r at) → ⊥
  no_refusal n r at e a = let b = (refusal_numbered narrow documented text lent (length old) r at e).0 in let z : 0 ≡ r = ap (λ x. x.number) a in omega arith

  -- The card is within its buffer.
  pub card_within : (s : Result Compiled Refusal) → Answers (outcome narrow documented text lent (length old)) old new s → Within s new
  card_within (Err refusal) a = tt
  card_within (Ok n) a = go o refl a
    where
      go : (x : Outcome) → outcome narrow documented text lent (length old) ≡ x → Answers x old new (Ok n) → n.length ≤ length new
      go (card c peak) e a =
          let z : n.length ≡ length c = ap (λ x. x.length) a.answer in
          omega (arith, ap length a.buffer, length-append c (drop (length c) old))
      go (stop r at) e a = absurd (no_refusal n r at e a.answer)

module _ (text plan lent old new : List ℕ) where
  module _ (c : List ℕ) (peak : ℕ) (e : outcome narrow documented text lent (length old) ≡ card c peak) where
    demand : Demand3 narrow (letters_in text) (book_allows text) c
    demand = card_keeps_demand documented text lent (length old) c peak e

    abbrev M : Machine
    M = demand.laid_out.0

    states : state_count narrow c ≡ size M
    states = ap (state_count narrow) demand.laid_out.2 ∙ encode_state_count narrow narrow_sound (letters_in text) M (card_fits narrow (letters_in text) M demand.laid_out.1)

    letters : letter_count narrow c ≡ length (letters_in text)
    letters = ap (letter_count narrow) demand.laid_out.2 ∙ encode_letter_count narrow narrow_sound (letters_in text) M (card_fits narrow (letters_in text) M demand.laid_out.1)

    loads : load narrow c ≡ holds (length (letters_in text)) (size M)
    loads = load_holds narrow c demand.loads ∙ ap₂ holds letters states

    -- a card has bytes
    some : length c ≡ 0 → ⊥
    some z = omega (arith, (load_loaded narrow c demand.loads).contents.long)

    -- DEMAND 3, where the answer and the buffer are those of the entries.
    whole : (r : Result Delivered Refusal) → delivery r ≡ A.card (length c) peak (board_says (load narrow c) (judge narrow c plan)) → new ≡ c ++ drop (length c) old → Accepted text plan c peak old new r
    whole r a b = record {
      machine = M;
      reply = judge narrow c plan;
      answer = a ∙ ap (λ x. A.card (length c) peak (board_says x (judge narrow c plan))) loads;
      buffer = b;
      loaded = loads;
      replied = refl;
      laid_out = demand.laid_out.2;
      numbered = demand.laid_out.1;
      judges = λ k. ((demand.verdicts plan k).answer, (demand.verdicts plan k).replied);
      allows = λ k. verdict_means text plan c (demand.verdicts plan k) allowed;
      hopeless_after = λ k j. verdict_means text plan c (demand.verdicts plan k) (hopeless j);
      other = λ k. other_means text plan c (demand.verdicts plan k);
      owed = λ k j. verdict_means text plan c (demand.verdicts plan k) (unfinished j);
      obeys = λ k.
          let a = verdict_means text plan c (demand.verdicts plan k) allowed in
          let o = rules_obeyed documented text lent (length old) c peak e plan k in
          (λ t. o.0 (demand.plans plan ∙ a.0 t), λ t. a.1 (sym (demand.plans plan) ∙ o.1 t));
      foreign = λ j F. replies_only narrow c plan _ (unknown_letter demand.loads j F.within (rw demand.letters F.before) (rw demand.letters F.foreign));
      least = λ B m k s. rw states at (demand.least B m k s);
      same = one_card documented text lent (length old) c peak e;
      every = demand;
    }

  -- THE WHOLE WAY: what the compiler answers, handed over.
  pub delivers : (s : Result Compiled Refusal) (r : Result Delivered Refusal) → Answers (outcome narrow documented text lent (length old)) old new s → delivery r ≡ handed s new plan → Delivers text plan lent old new r
  delivers (Ok n) r a h = record { accepted = accepted; refusal = λ number line e. absurd (no_refusal text lent old new n number line e (rw e at a.answer)) }
    where
      accepted : (c : List ℕ) (peak : ℕ) → outcome narrow documented text lent (length old) ≡ card c peak → Accepted text plan c peak old new r
      accepted c peak e =
          let x : Answers (card c peak) old new (Ok n) = rw e at a in
          let l : n.length ≡ length c = ap (λ x. x.length) x.answer in
          let t : take n.length new ≡ c = ap₂ take l x.buffer ∙ card_stands c peak old in
          whole c peak e r
          (h ∙ (λ i. A.card (l i) (x.answer i).peak (board_says (load narrow (t i)) (judge narrow (t i) plan))))
          x.buffer
  delivers (Err refusal) r a h = record {
    accepted = λ c peak e. let x : Answers (card c peak) old new (Err refusal) = rw e at a in absurd (some c peak e (sym (ap (λ y. y.length) x.answer)));
    refusal = λ n at e. let x : Answers (stop n at) old new (Err refusal) = rw e at a in (h ∙ (λ i. A.refused (x.answer i).number (x.answer i).line), x.buffer);
  }
