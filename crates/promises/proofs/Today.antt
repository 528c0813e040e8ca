-- The demands for today's cards: nothing is left to assume but that compiling answered a card.
use Rattle.std.specs.Prelude.{◌≡◌, true, ◌↔◌, List, ℕ}
use Rattle.std.proofs.Common.{arith}
use Rattle.automata.specs.Format.{narrow}
use Rattle.language.specs.Matches.{Obeys}
use Rattle.card.specs.Number.{Bytes}
use Rattle.card.specs.Layout.{narrow_sound}
use Rattle.card.specs.Alphabet.{columns, Known}
use Rattle.card.specs.Answer.{holds, load}
use Rattle.card.specs.Judge.{card_allows}
use Rattle.card.specs.Demand.{Demand3}
use Rattle.book.specs.Text.{lines_of}
use Rattle.compiler.specs.Allows.{book_letters, book_rules}
use Rattle.compiler.specs.Outcome.{card, outcome}
use Rattle.promises.specs.Demands.{book_allows, SmallestCard}
use Rattle.promises.proofs.Demands.{demand_two, demand_two_cuts, demand_two_board, demand_three, same_card}
use Rattle.promises.specs.PlanCuts.{EveryRule}

module _ (needs text lent : List ℕ) (room : ℕ) (c : List ℕ) (peak : ℕ) (e : outcome narrow needs text lent room ≡ card c peak) where
  pub rules_obeyed : (plan : List ℕ) → Known (book_letters (lines_of text)) plan
      → (card_allows narrow c plan ≡ true) ↔ Obeys (book_rules (lines_of text)) (columns (book_letters (lines_of text)) plan)
  rules_obeyed = demand_two narrow narrow_sound (omega arith) needs text lent room c peak e (omega arith)

  pub cuts_obeyed : (plan : List ℕ) → Known (book_letters (lines_of text)) plan → (card_allows narrow c plan ≡ true) ↔ EveryRule (book_letters (lines_of text)) (book_rules (lines_of text)) plan
  cuts_obeyed = demand_two_cuts narrow narrow_sound (omega arith) needs text lent room c peak e (omega arith)

  pub card_keeps_demand : Demand3 narrow (book_letters (lines_of text)) (book_allows text) c
  card_keeps_demand = demand_three narrow narrow_sound (omega arith) needs text lent room c peak e (omega arith)

  pub one_card : (text' lent' : List ℕ) (room' : ℕ) (c' : List ℕ) (peak' : ℕ) → outcome narrow needs text' lent' room' ≡ card c' peak' → book_letters (lines_of text) ≡ book_letters (lines_of text')
      → ((plan : List ℕ) → Known (book_letters (lines_of text)) plan → book_allows text plan ≡ book_allows text' plan) → c ≡ c'
  one_card = same_card narrow narrow_sound (omega arith) needs text lent room c peak e (omega arith)

-- "A board loads exactly those bytes that are the numbered smallest machine, within 26 letters and 120 states, of some set of plans.": today's limits.
pub board_loads : (c : List ℕ) → Bytes c → (m n : ℕ) → (load narrow c ≡ holds m n) ↔ SmallestCard narrow m n c
board_loads c b = demand_two_board narrow narrow_sound c b
