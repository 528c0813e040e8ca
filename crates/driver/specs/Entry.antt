-- What the entry promises: its answer and the card buffer are those of `outcome`.
use Rattle.std.specs.Prelude.{List, ◌∷◌, [], ℕ, length}
pub use Rattle.compiler.specs.Lent.{documented}
pub use Rattle.compiler.specs.Reading.{reading, Answers}

-- the lengths of the lent buffers, in this order
abbrev pub lent_lengths : List ℕ → List ℕ → List ℕ → List ℕ → List ℕ → List ℕ → List ℕ → List ℕ → List ℕ
lent_lengths low high registers stack rows table work code =
    length low ∷ length high ∷ length registers ∷ length stack ∷ length rows ∷ length table ∷ length work ∷ length code ∷ []
