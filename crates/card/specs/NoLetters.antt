-- Cards without letters: there are two, and the empty plan alone can be judged there.
use Rattle.std.specs.Prelude.{List, [], ◌∷◌, ℕ}

-- "the card with m = 0, one state, marks 01, no moves", and "its like with marks 02"
abbrev pub no_letters : ℕ → List ℕ
no_letters mark = 0x0C ∷ 0 ∷ 0 ∷ 0 ∷ 0x0C ∷ 0 ∷ 1 ∷ 0 ∷ 0x0D ∷ 0 ∷ 0 ∷ 0 ∷ mark ∷ []
