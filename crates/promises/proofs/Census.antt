-- Laws of what specs/Census.antt defines.
use Rattle.std.specs.Prelude.{◌≡◌, true, ◌↔◌, List, ℕ, ◌+◌, ◌^◌, ◌≤◌, length}
use Rattle.std.proofs.Common.{sym, ap, ◌∙◌, subst, arith}
use Rattle.std.proofs.Math.Path.{fun_ext}
use Rattle.automata.specs.Format.{Format, narrow}
use Rattle.card.specs.Layout.{Sound, narrow_sound, letter_count, letters_of}
use Rattle.card.proofs.LayoutLaws.{letters_length}
use Rattle.card.proofs.Loads.{load_loaded}
use Rattle.card.specs.Judge.{card_allows}
use Rattle.card.specs.Demand.{Demand3}
use Rattle.census.specs.Plans.{RightCounts}
use Rattle.census.specs.Census.{Past, Within, counts, refused, census}
use Rattle.census.proofs.CardLaws.{too_large_iff, census_iff, three_sum}
use Rattle.census.proofs.FewerLaws.{counts_fewer}
use Rattle.book.specs.Text.{lines_of}
use Rattle.compiler.specs.Allows.{book_letters}
use Rattle.compiler.specs.Outcome.{card, outcome}
use Rattle.promises.specs.Demands.{book_allows}
use Rattle.promises.proofs.Demands.{demand_three}
use Rattle.promises.specs.Census.{BookCounts, letters_many}

module _ (fmt : Format) (s : Sound fmt) (two : 2 ≤ fmt.most_states) (needs text lent : List ℕ) (room : ℕ) (c : List ℕ) (peak : ℕ)
    (e : outcome fmt needs text lent room ≡ card c peak) (some : fmt.least_letters ≤ length (book_letters (lines_of text))) (k : ℕ) where
  D : Demand3 fmt (book_letters (lines_of text)) (book_allows text) c
  D = demand_three fmt s two needs text lent room c peak e some

  many : letter_count fmt c ≡ letters_many text
  many = sym (letters_length fmt c (load_loaded fmt c D.loads).contents) ∙ ap length D.letters

  -- THE ANSWER is three numbers EXACTLY where they are right for the plans that the book allows,
  pub census_of_book : (a u h : ℕ) → (census fmt c k ≡ counts a u h) ↔ BookCounts text k a u h
  census_of_book a u h =
      subst (λ ok. (census fmt c k ≡ counts a u h) ↔ (Within (letters_many text) k × RightCounts ok (book_letters (lines_of text)) k a u h)) (fun_ext D.plans)
      (subst (λ ls. (census fmt c k ≡ counts a u h) ↔ (Within (letters_many text) k × RightCounts (card_allows fmt c) ls k a u h)) D.letters
      (subst (λ m. (census fmt c k ≡ counts a u h) ↔ (Within m k × RightCounts (card_allows fmt c) (letters_of fmt c) k a u h)) many (census_iff fmt c D.loads k a u h)))

  -- 31 EXACTLY in its two cases, and no other refusal,
  pub past_of_book : (census fmt c k ≡ refused 31) ↔ Past (letters_many text) k
  past_of_book = subst (λ m. (census fmt c k ≡ refused 31) ↔ Past m k) many (too_large_iff fmt c D.loads k)

  -- and the three sum to m to the power k.
  pub sum_of_book : (a u h : ℕ) → census fmt c k ≡ counts a u h → a + u + h ≡ letters_many text ^ k
  sum_of_book a u h f = three_sum fmt c D.loads k a u h f ∙ ap (λ m. m ^ k) many

-- THE PRICE OF A RULE: of two accepted books with the same letters, where each plan that the one allows the other allows too, the first has no more allowed plans
-- of any length, and no fewer hopeless ones.
module _ (fmt : Format) (s : Sound fmt) (two : 2 ≤ fmt.most_states) (needs text lent : List ℕ) (room : ℕ) (c : List ℕ) (peak : ℕ)
    (e : outcome fmt needs text lent room ≡ card c peak) (some : fmt.least_letters ≤ length (book_letters (lines_of text)))
    (text' lent' : List ℕ) (room' : ℕ) (c' : List ℕ) (peak' : ℕ) (e' : outcome fmt needs text' lent' room' ≡ card c' peak')
    (same : book_letters (lines_of text) ≡ book_letters (lines_of text')) (fewer : (plan : List ℕ) → book_allows text plan ≡ true → book_allows text' plan ≡ true) (k : ℕ) where
  pub price_of_rule : (a u h a' u' h' : ℕ) → census fmt c k ≡ counts a u h → census fmt c' k ≡ counts a' u' h' → (a ≤ a') × (h' ≤ h)
  price_of_rule a u h a' u' h' f f' =
      counts_fewer (book_allows text) (book_allows text') fewer (book_letters (lines_of text)) k
      (λ plan o. let v = (demand_three fmt s two needs text lent room c peak e some).verdicts plan o in (v.answer, v.right))
      a u h a' u' h'
      ((census_of_book fmt s two needs text lent room c peak e some k a u h).0 f).1
      (rw same ((census_of_book fmt s two needs text' lent' room' c' peak' e' (rw same at some) k a' u' h').0 f').1)

-- For today's cards nothing is left to assume but that compiling answered a card.
module _ (needs text lent : List ℕ) (room : ℕ) (c : List ℕ) (peak : ℕ) (e : outcome narrow needs text lent room ≡ card c peak) (k : ℕ) where
  pub census_today : (a u h : ℕ) → (census narrow c k ≡ counts a u h) ↔ BookCounts text k a u h
  census_today = census_of_book narrow narrow_sound (omega arith) needs text lent room c peak e (omega arith) k

  pub past_today : (census narrow c k ≡ refused 31) ↔ Past (letters_many text) k
  past_today = past_of_book narrow narrow_sound (omega arith) needs text lent room c peak e (omega arith) k

  pub sum_today : (a u h : ℕ) → census narrow c k ≡ counts a u h → a + u + h ≡ letters_many text ^ k
  sum_today = sum_of_book narrow narrow_sound (omega arith) needs text lent room c peak e (omega arith) k

pub price_today : (needs text lent : List ℕ) (room : ℕ) (c : List ℕ) (peak : ℕ) → outcome narrow needs text lent room ≡ card c peak
    → (text' lent' : List ℕ) (room' : ℕ) (c' : List ℕ) (peak' : ℕ) → outcome narrow needs text' lent' room' ≡ card c' peak'
    → book_letters (lines_of text) ≡ book_letters (lines_of text') → ((plan : List ℕ) → book_allows text plan ≡ true → book_allows text' plan ≡ true)
    → (k a u h a' u' h' : ℕ) → census narrow c k ≡ counts a u h → census narrow c' k ≡ counts a' u' h' → (a ≤ a') × (h' ≤ h)
price_today needs text lent room c peak e = price_of_rule narrow narrow_sound (omega arith) needs text lent room c peak e (omega arith)
