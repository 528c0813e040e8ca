-- What a program says of what it could not do.
use Rattle.std.specs.Prelude.{List, ℕ, codes}
use Rattle.stream.specs.declared.Failure.{Failure}
use Rattle.stream.specs.declared.Failure.TheVariants.{NotRead, NotWritten}

abbrev pub failure_text : Failure → List ℕ
failure_text NotRead = codes "standard input cannot be read"
failure_text NotWritten = codes "standard output cannot be written"
