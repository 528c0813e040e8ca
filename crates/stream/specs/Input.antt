-- A whole input in a lent buffer.
use Rattle.std.specs.Prelude.{◌≡◌, ◌≤◌, ◌<◌, List, Option, ℕ, length, take}
use Rattle.std.specs.Io.KnownBytes.{Consumes, IsAtEnd}

-- n bytes are among the list's, so that its first n can be lent.
abbrev pub IsPrefixLen : ℕ → List ℕ → Type 0
IsPrefixLen n xs = (n ≤ length xs) × (n ≡ length (take n xs))

-- Where the input's bytes are known, the buffer's first n are its first, in their order, and none are left if the buffer has room for more.
pub record ReadsFirst (input input' : Option (List ℕ)) (n : ℕ) (buf : List ℕ) : Type 0 where
  pub bytes : Consumes input input' (take n buf)
  pub whole : n < length buf → IsAtEnd input'
