-- What is written, answer by answer.
use mathlib.Core.Path.{◌≡◌, sym, ap, ap₂, ◌∙◌}
use mathlib.Core.List.{List, ◌++◌}
use Prim.Native.Nat.{ℕ, ◌≤◌, min}
use native.Mathlib.Omega.{arith}
use lib.ListN.{length, take}
use Rattle.std.proofs.lemmas.List.{take_min}
use Rattle.std.specs.Prelude.{Result, Ok, Err}
use Rattle.compiler.specs.declared.Compiled.{Compiled}
use Rattle.compiler.specs.declared.Refusal.{Refusal}
use Rattle.compiler.specs.Refusals.{refused_number, refused_line}
use Rattle.stream.specs.Text.{Put, PutNumber, decimal}
use Rattle.stream.specs.TextLaws.{put_put}
use Rattle.report.specs.Shown.{refused_word, line_word, newline, refusal_line, longest, shown, Shows}

module _ (a : Result Compiled Refusal) (card : List ℕ) where
  -- the card, or as much of it as the buffer holds
  pub shows_card : (c : Compiled) → a ≡ Ok c → (r : ℕ) → r ≡ min c.length (length card) → Shows a card card r
  shows_card c e r m = record { within = omega (arith, m); is = ap (λ n. take n card) m ∙ take_min c.length card ∙ ap (λ x. shown x card) (sym e) }

  -- word, number, word, line, the line's end
  pub shows_refused : (x : Refusal) → a ≡ Err x → (number line : ℕ) → number ≡ refused_number x → line ≡ refused_line x
      → (b : List ℕ) (q : ℕ) → Put card 0 refused_word b q → (c : List ℕ) (s : ℕ) → PutNumber b q number c s
      → (d : List ℕ) (t : ℕ) → Put c s line_word d t → (f : List ℕ) (v : ℕ) → PutNumber d t line f v → (out : List ℕ) (r : ℕ) → Put f v newline out r → longest ≤ length out → Shows a card out r
  shows_refused x e number line i j b q p₁ c s p₂ d t p₃ f v p₄ out r p₅ h = record {
    within = omega (arith, p₁.place, p₂.most, p₃.place, p₄.most, p₅.place);
    is = whole.is ∙ ap₂ refusal_line i j ∙ ap (λ x. shown x card) (sym e);
  }
    where
      two : Put card 0 (refused_word ++ decimal number) c s
      two = put_put card 0 refused_word b q (decimal number) c s p₁ p₂.put

      three : Put card 0 ((refused_word ++ decimal number) ++ line_word) d t
      three = put_put card 0 (refused_word ++ decimal number) c s line_word d t two p₃

      four : Put card 0 (((refused_word ++ decimal number) ++ line_word) ++ decimal line) f v
      four = put_put card 0 ((refused_word ++ decimal number) ++ line_word) d t (decimal line) f v three p₄.put

      whole : Put card 0 (refusal_line number line) out r
      whole = put_put card 0 (((refused_word ++ decimal number) ++ line_word) ++ decimal line) f v newline out r four p₅
