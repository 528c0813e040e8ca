-- Laws of what specs/Owed.antt defines.
use Rattle.std.specs.Prelude.{◌≡◌, ◌↔◌, List, [], ◌∷◌, ◌++◌, ℕ, ◌≤◌, length}
use Rattle.std.proofs.Common.{subst, arith}
use Rattle.std.proofs.Math.Path.{fun_ext}
use Rattle.automata.specs.Format.{Format, narrow}
use Rattle.card.specs.Layout.{Sound, narrow_sound, letters_of}
use Rattle.card.specs.Alphabet.{Known}
use Rattle.card.specs.Verdict.{Verdict, Says, unfinished}
use Rattle.card.specs.Reply.{answered}
use Rattle.card.specs.Judge.{judge}
use Rattle.card.proofs.JudgeLaws.{judge_iff}
use Rattle.card.proofs.StepLaws.{step_same}
use Rattle.card.specs.Demand.{Demand3}
use Rattle.card.specs.MountedVerdict.{MountedDemand3}
use Rattle.card.proofs.MountedVerdict.{mounted_demand}
use Rattle.book.specs.Text.{lines_of}
use Rattle.compiler.specs.Allows.{book_letters}
use Rattle.compiler.specs.Outcome.{card, outcome}
use Rattle.promises.specs.Demands.{book_allows}
use Rattle.promises.proofs.Demands.{demand_three}
use Rattle.promises.specs.Owed.{StepOwes}

module _ (fmt : Format) (s : Sound fmt) (two : 2 ≤ fmt.most_states) (needs text lent : List ℕ) (room : ℕ) (c : List ℕ) (peak : ℕ)
    (e : outcome fmt needs text lent room ≡ card c peak) (some : fmt.least_letters ≤ length (book_letters (lines_of text))) where
  D : Demand3 fmt (book_letters (lines_of text)) (book_allows text) c
  D = demand_three fmt s two needs text lent room c peak e some

  own : (plan : List ℕ) → Known (book_letters (lines_of text)) plan → Known (letters_of fmt c) plan
  own plan o = rw D.letters o

  -- THE REPLY IS v EXACTLY WHEN v is what the paper says of the plan, for the plans that the book allows: unfinished k when the plan is not allowed, k further
  -- letters make it one that is, and no fewer do.
  pub verdict_of_book : (plan : List ℕ) → Known (book_letters (lines_of text)) plan → (v : Verdict) → (judge fmt c plan ≡ answered v) ↔ Says (book_allows text) plan v
  verdict_of_book plan o v = subst (λ ok. (judge fmt c plan ≡ answered v) ↔ Says ok plan v) (fun_ext D.plans) (judge_iff fmt c plan v D.loads (own plan o))

  -- "A step that lands on marks 0 gives the same number": of the book's plans, where the letters u lead to the state and l is the letter.
  pub step_of_book : (u : List ℕ) (l k : ℕ) → Known (book_letters (lines_of text)) (u ++ (l ∷ [])) → StepOwes fmt text c u l k
  step_of_book u l k o =
      let a = step_same fmt c D.loads u l k (own (u ++ (l ∷ [])) o) in
      let b = verdict_of_book (u ++ (l ∷ [])) o (unfinished k) in
      (λ s. b.0 (a.0 s), λ s. a.1 (b.1 s))

-- For today's cards nothing is left to assume but that compiling answered a card and the letters are the book's.
module _ (needs text lent : List ℕ) (room : ℕ) (c : List ℕ) (peak : ℕ) (e : outcome narrow needs text lent room ≡ card c peak) where
  pub verdict_today : (plan : List ℕ) → Known (book_letters (lines_of text)) plan → (v : Verdict) → (judge narrow c plan ≡ answered v) ↔ Says (book_allows text) plan v
  verdict_today = verdict_of_book narrow narrow_sound (omega arith) needs text lent room c peak e (omega arith)

  pub step_today : (u : List ℕ) (l k : ℕ) → Known (book_letters (lines_of text)) (u ++ (l ∷ [])) → StepOwes narrow text c u l k
  step_today = step_of_book narrow narrow_sound (omega arith) needs text lent room c peak e (omega arith)

  -- ---- mounted boards

  -- On a board that was mounted after W2 and before W3 every accepted text keeps demand 3 with 01's verdicts; on one from before W2 a text with a byte does
  -- (Islands.antt, `mounted_keeps_demand`).
  pub mounted_since : MountedDemand3 narrow (book_letters (lines_of text)) (book_allows text) c
  mounted_since = mounted_demand narrow (book_letters (lines_of text)) (book_allows text) c
      (demand_three narrow narrow_sound (omega arith) needs text lent room c peak e (omega arith))
