-- Laws of what specs/Accepted.antt defines.
use Rattle.std.specs.Prelude.{◌≡◌, Bool, true, false, List, [], ◌∷◌, ℕ, ◌≤◌, eqb, length}
use Rattle.std.proofs.Math.Path.{sym}
use Rattle.std.proofs.Common.{ap, not-suc-le-zero, arith}
use Rattle.automata.specs.Booleans.{choose}
use Rattle.automata.specs.Format.{Format}
use Rattle.card.specs.Alphabet.{Alphabet}
use Rattle.card.proofs.NoLetters.{no_alphabet}
use Rattle.card.specs.Same.{card_of}
use Rattle.card.specs.Demand.{Compiled}
use Rattle.book.specs.Kind.{kind_of, line_end_kind}
use Rattle.book.specs.Text.{Line, put_byte, lines_of}
use Rattle.compiler.specs.Allows.{book_letters, allows}
use Rattle.compiler.specs.Book.{done, compile_book}
use Rattle.compiler.specs.BookLaws.{LettersOf}
use Rattle.compiler.proofs.BookLaws.{accepted_right, accepted_letters, accepted_alphabet}
use Rattle.compiler.proofs.Bounds.{accepted_within}
use Rattle.compiler.specs.Outcome.{Outcome, card, stop, outcome}
use Rattle.compiler.specs.Table.{Outcomes, text_too_long, buffer_too_short, book_stops, output_too_short, gives}
use Rattle.compiler.proofs.Table.{outcomes, book_says_only}
use Rattle.compiler.specs.BookStages.{Peak}
use Rattle.compiler.proofs.Peak.{book_peak}
use Rattle.promises.specs.Accepted.{Accepted}

-- A text with a byte has a line.
lines_some : (text : List ℕ) → 1 ≤ length text → 1 ≤ length (lines_of text)
lines_some [] h = h
lines_some (b ∷ text) h = go (eqb (kind_of b) line_end_kind) (lines_of text)
  where
    go : (v : Bool) (ls : List Line) → 1 ≤ length (choose v (λ _. record { bytes = []; ended = true } ∷ ls) (λ _. put_byte b ls))
    go true ls = omega arith
    go false [] = omega arith
    go false (l ∷ ls) = omega arith

module _ (fmt : Format) (needs text lent : List ℕ) (room : ℕ) (c : List ℕ) (peak : ℕ) (e : outcome fmt needs text lent room ≡ card c peak) where
  pub accepted : Accepted fmt text c room peak
  accepted = go (outcome fmt needs text lent room) e (outcomes fmt needs text lent room)
    where
      no_card : (r at : ℕ) → ◌≡◌ {A = Outcome} (stop r at) (card c peak) → ⊥
      no_card r at e = let z : ◌≡◌ {A = ℕ} 0 1 = cc in omega arith

      bytes_in : Outcome → List ℕ
      bytes_in (card b p) = b
      bytes_in (stop r at) = c

      peak_in : Outcome → ℕ
      peak_in (card b p) = p
      peak_in (stop r at) = peak

      go : (o : Outcome) → o ≡ card c peak → Outcomes fmt needs text lent room o → Accepted fmt text c room peak
      go o e (text_too_long h) = absurd (no_card 1 0 e)
      go o e (buffer_too_short h b) = absurd (no_card 2 0 e)
      go o e (book_stops h b r at s) = absurd (no_card r at e)
      go o e (output_too_short h b ls d s x) = absurd (no_card 11 0 e)
      go o e (gives h b ls d s x) =
          let z : c ≡ card_of fmt ls d.kept = sym (ap bytes_in e) in
          let q : compile_book fmt text ≡ done ls d = unfold compile_book in book_says_only fmt (lines_of text) (done ls d) s in
          let l : ls ≡ book_letters (lines_of text) = accepted_letters fmt text ls d q in
          record {
            draft = d;
            compiled = rw (← l) q;
            bytes = rw (← l) z;
            fits = rw z x;
            peak_is = sym (ap peak_in e);
          }

  abbrev ls : List ℕ
  ls = book_letters (lines_of text)

  pub letters_form : LettersOf fmt (lines_of text) (book_letters (lines_of text))
  letters_form = accepted_alphabet fmt text ls accepted.draft accepted.compiled

  pub alphabet : Alphabet (book_letters (lines_of text))
  alphabet = go (lines_of text) letters_form
    where
      go : (lines : List Line) → LettersOf fmt lines (book_letters lines) → Alphabet (book_letters lines)
      go [] f = no_alphabet
      go (l ∷ rest) f = record { letter = f.letter; rising = f.rises }

  pub letters_most : length (book_letters (lines_of text)) ≤ fmt.most_letters
  letters_most = go (lines_of text) letters_form
    where
      go : (lines : List Line) → LettersOf fmt lines (book_letters lines) → length (book_letters lines) ≤ fmt.most_letters
      go [] f = omega arith
      go (l ∷ rest) f = f.most

  -- "Line 1 is `:` and then 1 to 26 letters": an accepted text with a byte has a letter
  pub letters_some : 1 ≤ length text → 1 ≤ length (book_letters (lines_of text))
  letters_some h = go (lines_of text) (lines_some text h) letters_form
    where
      go : (lines : List Line) → 1 ≤ length lines → LettersOf fmt lines (book_letters lines) → 1 ≤ length (book_letters lines)
      go [] b f = absurd (not-suc-le-zero b)
      go (l ∷ rest) b f = f.least

  -- the kept machine, as the laws of a card ask for it, where a card may have so few letters
  pub compiled : 2 ≤ fmt.most_states → fmt.least_letters ≤ length (book_letters (lines_of text)) → Compiled fmt (book_letters (lines_of text)) (allows text) accepted.draft.kept
  compiled two some =
      let r = accepted_right fmt text ls accepted.draft accepted.compiled in
      record {
        alphabet = alphabet;
        letters_least = some;
        letters_most = letters_most;
        states_most = (accepted_within fmt two text ls accepted.draft accepted.compiled).states;
        canonical = r.recognizes.canonical;
        exact = r.recognizes.exact;
        letters = r.letters;
      }

  -- THE PEAK is the most sets that one stage of the book reaches.
  pub peak_of_stages : Peak text peak
  peak_of_stages = rw accepted.peak_is (book_peak fmt text ls accepted.draft accepted.compiled)
