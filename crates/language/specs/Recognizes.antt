-- A kept machine is right for a language: it is canonical (complete, smallest, numbered by first arrival) and accepts exactly that language.
use Rattle.std.specs.Prelude.{◌≡◌, ℕ}
use Rattle.std.proofs.Common.{sym, ◌∙◌}
use Rattle.automata.specs.Automaton.{Automaton, Over, accepts}
use Rattle.automata.specs.Machine.{Machine, automaton, Canonical}
use Rattle.automata.specs.Stage.{Smallest}
use Rattle.language.specs.Cuts.{Word}
use Rattle.language.specs.Language.{Language}

-- Over k columns: the letters and, last, the mark.
pub record Recognizes (k : ℕ) (M : Machine) (L : Language) : Type 0 where
  pub canonical : Canonical k M
  pub exact : (w : Word) → Over k w → accepts (automaton M) w ≡ L w

-- the same machine, for a language that is the same over k columns
pub recognizes_same : (k : ℕ) (M : Machine) (L L' : Language) → ((w : Word) → Over k w → L w ≡ L' w) → Recognizes k M L → Recognizes k M L'
recognizes_same k M L L' e r = record { canonical = r.canonical; exact = λ w o. r.exact w o ∙ e w o }

-- the smallest machine of an automaton that accepts L
pub smallest_recognizes : {S : Type 0} (k : ℕ) (A : Automaton S) (M : Machine) (L : Language) → ((w : Word) → Over k w → accepts A w ≡ L w) → Smallest k A M → Recognizes k M L
smallest_recognizes k A M L e s = record { canonical = s.canonical; exact = λ w o. sym (s.words w o) ∙ e w o }
