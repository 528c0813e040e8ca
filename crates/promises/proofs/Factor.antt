-- The shortest stretch to blame, for the card of an accepted book: it is that of the plans that the book allows.
use Rattle.std.specs.Prelude.{◌≡◌, false, ◌↔◌, List, ℕ, ◌≤◌, length}
use Rattle.std.proofs.Common.{subst, arith}
use Rattle.std.proofs.Math.Path.{fun_ext}
use Rattle.automata.specs.Format.{Format, narrow}
use Rattle.card.specs.Layout.{Sound, narrow_sound, letters_of}
use Rattle.card.specs.Alphabet.{Known}
use Rattle.card.specs.Reply.{answered}
use Rattle.card.specs.Judge.{card_allows}
use Rattle.card.specs.Demand.{Demand3}
use Rattle.factor.specs.Factor.{Inside, Shortest, none, at, Blames}
use Rattle.factor.specs.Shortest.{shortest}
use Rattle.factor.proofs.CardLaws.{shortest_iff, none_iff, nothing_allowed}
use Rattle.book.specs.Text.{lines_of}
use Rattle.compiler.specs.Allows.{book_letters}
use Rattle.compiler.specs.Outcome.{card, outcome}
use Rattle.promises.specs.Demands.{book_allows}
use Rattle.promises.proofs.Demands.{demand_three}

module _ (fmt : Format) (s : Sound fmt) (two : 2 ≤ fmt.most_states) (needs text lent : List ℕ) (room : ℕ) (c : List ℕ) (peak : ℕ)
    (e : outcome fmt needs text lent room ≡ card c peak) (some : fmt.least_letters ≤ length (book_letters (lines_of text)))
    (plan : List ℕ) (o : Known (book_letters (lines_of text)) plan) where
  D : Demand3 fmt (book_letters (lines_of text)) (book_allows text) c
  D = demand_three fmt s two needs text lent room c peak e some

  same : card_allows fmt c ≡ book_allows text
  same = fun_ext D.plans

  own : Known (letters_of fmt c) plan
  own = rw D.letters o

  -- THE REPLY IS r EXACTLY WHEN r is the right answer for the plans that the book allows,
  pub shortest_of_book : (r : Shortest) → (shortest fmt c plan ≡ answered r) ↔ Blames (book_allows text) plan r
  shortest_of_book r = rw (← same) (shortest_iff fmt c plan D.loads own r)

  -- NONE EXACTLY WHEN the whole plan lies inside some plan that the book allows,
  pub none_of_book : (shortest fmt c plan ≡ answered none) ↔ Inside (book_allows text) plan
  none_of_book = subst (λ ok. (shortest fmt c plan ≡ answered none) ↔ Inside ok plan) same (none_iff fmt c plan D.loads own)

  -- and the empty stretch at place 0 where the book allows nothing.
  pub nothing_of_book : ((w : List ℕ) → book_allows text w ≡ false) → shortest fmt c plan ≡ answered (at 0 0)
  nothing_of_book f = nothing_allowed fmt c plan D.loads own (rw same f)

-- For today's cards nothing is left to assume but that compiling answered a card and the plan is of the book's letters.
module _ (needs text lent : List ℕ) (room : ℕ) (c : List ℕ) (peak : ℕ) (e : outcome narrow needs text lent room ≡ card c peak)
    (plan : List ℕ) (o : Known (book_letters (lines_of text)) plan) where
  pub shortest_today : (r : Shortest) → (shortest narrow c plan ≡ answered r) ↔ Blames (book_allows text) plan r
  shortest_today = shortest_of_book narrow narrow_sound (omega arith) needs text lent room c peak e (omega arith) plan o

  pub none_today : (shortest narrow c plan ≡ answered none) ↔ Inside (book_allows text) plan
  none_today = none_of_book narrow narrow_sound (omega arith) needs text lent room c peak e (omega arith) plan o

  pub nothing_today : ((w : List ℕ) → book_allows text w ≡ false) → shortest narrow c plan ≡ answered (at 0 0)
  nothing_today = nothing_of_book narrow narrow_sound (omega arith) needs text lent room c peak e (omega arith) plan o
