-- What a case says of a text, from the definitions.
use Rattle.std.specs.Prelude.{ℕ, zero, suc, ◌≡◌, List, [], ◌∷◌, map}
use Prim.Native.String.{String, [] as nil, ◌∷◌ as ◌∷ˢ◌}
use Prim.Native.Char.{code}
use Rattle.automata.specs.Format.{narrow}
use Rattle.automata.specs.Given.{all_machine, mark_machine}
use Rattle.card.specs.Alphabet.{Known}
use Rattle.card.specs.Verdict.{Verdict}
use Rattle.card.specs.Reply.{Reply, answered as verdict}
use Rattle.card.specs.Judge.{judge}
use Rattle.book.specs.Text.{lines_of}
use Rattle.compiler.specs.Allows.{book_letters}
use Rattle.compiler.specs.Outcome.{Outcome, card, stop, outcome}
use Rattle.compiler.specs.Lent.{documented}
use Rattle.compiler.specs.BookStages.{joins, Reaches}

abbrev pub bytes_of : String → List ℕ
bytes_of nil = []
bytes_of (c ∷ˢ s) = code c ∷ bytes_of s

-- a text of n bytes b
abbrev pub bytes : ℕ → ℕ → List ℕ
bytes zero b = []
bytes (suc n) b = b ∷ bytes n b

pub data Case : Type 0 where
  -- compiled with work buffers of these lengths and a card buffer of this one, the text is answered so
  answered : (text lent : List ℕ) (room : ℕ) → Outcome → Case
  -- its card judges these plans so
  judged : (text : List ℕ) → List (String × Reply Verdict) → Case
  -- its card judges every plan of its letters so
  always : (text : List ℕ) → Verdict → Case
  -- joining `.*` and M over so many letters makes so many sets
  joining : (letters sets : ℕ) → Case

-- a card buffer that is long enough for every book here
abbrev pub ample : ℕ
ample = 4096

abbrev pub card_in : Outcome → List ℕ
card_in (card c peak) = c
card_in (stop r at) = []

-- the card of a text, compiled with the documented lengths
abbrev pub card_for : List ℕ → List ℕ
card_for text = card_in (outcome narrow documented text documented ample)

abbrev pub Holds : Case → Type 0
Holds (answered text lent room o) = outcome narrow documented text lent room ≡ o
Holds (judged text plans) = map (λ p. judge narrow (card_for text) (bytes_of p.0)) plans ≡ map (λ p. p.1) plans
Holds (always text v) = (plan : List ℕ) → Known (book_letters (lines_of text)) plan → judge narrow (card_for text) plan ≡ verdict v
Holds (joining m n) = Reaches m (joins (all_machine m) (mark_machine m)) n

infixr 5 ◌and◌
pub data AllHold : List Case → Type 0 where
  none : AllHold []
  ◌and◌ : {c : Case} {cs : List Case} → Holds c → AllHold cs → AllHold (c ∷ cs)

-- ---- cases with the documented lengths

abbrev pub compiles : String → Outcome → Case
compiles book o = answered (bytes_of book) documented ample o

abbrev pub judges : String → List (String × Reply Verdict) → Case
judges book plans = judged (bytes_of book) plans
