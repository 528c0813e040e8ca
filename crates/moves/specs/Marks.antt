-- A mark and its byte.
use Rattle.std.specs.Prelude.{ℕ}
use Rattle.moves.specs.declared.Mark.{Mark}
use Rattle.moves.specs.declared.Mark.TheVariants.{Unfinished, Accepting, Dead}

-- "1 where a plan may end, 2 where no continuation is allowed, else 0"
abbrev pub mark_byte : Mark → ℕ
mark_byte Unfinished = 0
mark_byte Accepting = 1
mark_byte Dead = 2
