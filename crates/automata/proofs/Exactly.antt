-- Laws of what specs/Exactly.antt defines.
use Rattle.std.specs.Prelude.{◌≡◌, refl, List, ℕ}
use Rattle.std.proofs.Common.{sym, ap, ◌∙◌, arith}
use Rattle.automata.specs.Automaton.{Automaton}
use Rattle.automata.specs.Basics.{Test}
use Rattle.automata.specs.Machine.{Machine}
use Rattle.automata.specs.Format.{Format}
use Rattle.automata.specs.Stage.{Made, made, refused, after, then_made, present, stage, StageResult}
use Rattle.automata.proofs.Stage.{stage_result, stage_only}
use Rattle.automata.specs.Exactly.{Exactly, Given, Then, fails, given, goes}

pub given_exactly : (M : Machine) → Exactly (Given M) (present M)
given_exactly M = record { right = given; only = one }
  where
    one : (q : Made) → Given M q → q ≡ present M
    one q given = refl

pub stage_exactly : {S : Type 0} (E : Test S) (fmt : Format) (k : ℕ) (A : Automaton S) → Exactly (StageResult fmt k A) (stage E fmt k A)
stage_exactly E fmt k A = record { right = stage_result E fmt k A; only = λ q s. sym (stage_only E fmt k A q s) }

pub then_exactly : (P : Made → Type 0) (Q : Machine → Made → Type 0) (r : Made) (f : Machine → Made) → Exactly P r → ((M : Machine) → Exactly (Q M) (f M)) → Exactly (Then P Q) (then_made r f)
then_exactly P Q (made counts M) f p g = record { right = goes counts M (f M) p.right (g M).right; only = one }
  where
    one : (q : Made) → Then P Q q → q ≡ after counts (f M)
    one q (goes cs N s a b) = go (p.only (made cs N) a) b
      where
        go : made cs N ≡ made counts M → Q N s → after cs s ≡ after counts (f M)
        go e b =
            let c : cs ≡ counts = ap (λ r. counts_of r) e in
            let m : N ≡ M = ap (λ r. kept_of r M) e in
            (λ i. after (c i) s) ∙ ap (after counts) ((g M).only s (rw m at b))
          where
            counts_of : Made → List ℕ
            counts_of (made cs N) = cs
            counts_of (refused n) = counts

            kept_of : Made → Machine → Machine
            kept_of (made cs N) d = N
            kept_of (refused n) d = d
    one q (fails n a) = let z : ◌≡◌ {A = ℕ} 0 1 = cc (p.only (refused n) a) in absurd (omega arith)
then_exactly P Q (refused n) f p g = record { right = fails n p.right; only = one }
  where
    one : (q : Made) → Then P Q q → q ≡ refused n
    one q (goes cs N s a b) = let z : ◌≡◌ {A = ℕ} 0 1 = cc (p.only (made cs N) a) in absurd (omega arith)
    one q (fails m a) = p.only (refused m) a
