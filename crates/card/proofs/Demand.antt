-- Laws of what specs/Demand.antt defines.
use Rattle.std.specs.Prelude.{◌≡◌, refl, Bool, ◌⊎◌, List, ℕ, length}
use Rattle.std.proofs.Math.Path.{sym, ap, fun_ext}
use Rattle.std.proofs.Common.{◌∙◌, inl, inr}
use Rattle.automata.specs.Booleans.{not_true}
use Rattle.automata.specs.Automaton.{over_more, accepts}
use Rattle.automata.specs.Machine.{Machine}
use Rattle.automata.specs.Restrict.{restrict, Unmarked}
use Rattle.automata.proofs.Restrict.{over_dec}
use Rattle.automata.specs.Format.{Format}
use Rattle.card.specs.Number.{Bytes}
use Rattle.card.specs.Layout.{Sound, letters_of}
use Rattle.card.specs.Alphabet.{columns, Known}
use Rattle.card.specs.Load.{load_test}
use Rattle.card.proofs.Loads.{load_loaded}
use Rattle.card.specs.Verdict.{Says, says_one}
use Rattle.card.proofs.Allowed.{allows_unknown}
use Rattle.card.specs.Judge.{plan_verdict, card_allows}
use Rattle.card.proofs.JudgeLaws.{loaded_says, judge_iff}
use Rattle.card.specs.Same.{card_of}
use Rattle.card.proofs.Same.{card_of_card_lem, card_of_loads, card_of_bytes, card_of_letters, card_of_allows, same_bytes, card_least}
use Rattle.card.specs.Demand.{Compiled, Demand3}

module _ (fmt : Format) (s : Sound fmt) (ls : List ℕ) (L : List ℕ → Bool) (M : Machine) (k : Compiled fmt ls L M) where
  abbrev c : List ℕ
  c = card_of fmt ls M

  -- the plans of L, as rows of letters: a letter that is none of ls has the column of the mark
  abbrev ok : List ℕ → Bool
  ok plan = L (columns ls plan)

  unmarked : Unmarked (length ls) M
  unmarked w o e = k.letters w (sym (k.exact w o) ∙ e)

  loads' : load_test fmt c ≡ 0
  loads' = card_of_loads fmt s ls M k.alphabet k.letters_least k.letters_most k.canonical unmarked k.states_most

  pub card_bytes : Bytes (card_of fmt ls M)
  card_bytes = card_of_bytes fmt s ls M k.alphabet k.letters_least k.letters_most k.canonical unmarked k.states_most

  letters' : letters_of fmt c ≡ ls
  letters' = card_of_letters fmt s ls M k.alphabet k.letters_least k.letters_most k.canonical unmarked k.states_most

  plans' : (plan : List ℕ) → card_allows fmt c plan ≡ ok plan
  plans' plan = go (over_dec (length ls) (columns ls plan))
    where
      go : Known ls plan ⊎ (Known ls plan → ⊥) → card_allows fmt c plan ≡ ok plan
      go (inl o) = card_of_allows fmt s ls M k.alphabet k.letters_least k.letters_most k.canonical unmarked k.states_most plan o
          ∙ k.exact (columns ls plan) (over_more (length ls) (columns ls plan) o)
      go (inr f) = allows_unknown (letters_of fmt c) _ plan (rw letters' f) ∙ sym (not_true (ok plan) (λ e. f (k.letters (columns ls plan) e)))

  -- DEMAND 3 for the card.
  pub demand_3 : Demand3 fmt ls (λ plan. L (columns ls plan)) (card_of fmt ls M)
  demand_3 = record {
    loads = loads';
    laid_out = (restrict (length ls) M, card_of_card_lem fmt s ls M k.alphabet k.letters_least k.letters_most k.canonical unmarked k.states_most, unfold card_of in refl);
    letters = letters';
    plans = plans';
    verdicts = λ plan o.
        let says : Says (λ plan. L (columns ls plan)) plan (plan_verdict fmt c plan) =
        rw (fun_ext plans') at (loaded_says fmt c (load_loaded fmt c loads') plan (rw letters' o)) in
        record {
          answer = plan_verdict fmt c plan;
          replied = (judge_iff fmt c plan (plan_verdict fmt c plan) loads' (rw letters' o)).1 (loaded_says fmt c (load_loaded fmt c loads') plan (rw letters' o));
          right = says;
          only = λ v t. says_one (λ plan. L (columns ls plan)) plan v (plan_verdict fmt c plan) t says;
        };
    least = λ B m q s. card_least fmt c loads' B m (rw letters' q)
        (λ plan o. ap (λ l. accepts B (columns l plan)) letters' ∙ s plan (rw letters' at o) ∙ sym (plans' plan));
    one = λ d b z e t. same_bytes fmt c d card_bytes b loads' z (letters' ∙ sym e) (λ plan. plans' plan ∙ sym (t plan));
  }
