-- The answer, read as that of the definitions, with the paper's values for each case.
use Rattle.std.specs.Prelude.{Result, Ok, Err}
use Rattle.census.specs.Census.{Census, counts, refused}
use Rattle.counting.specs.declared.Census.{Census as Census'}
use Rattle.counting.specs.declared.refusals.Refusal.{Refusal}
use Rattle.counting.specs.Refusals.{refusal_number}

-- "how many are allowed, unfinished and hopeless"
abbrev pub census_in : Census' → Census
census_in c = counts c.allowed c.unfinished c.hopeless

-- or 21 to 26, or 31
abbrev pub answer_of : Result Census' Refusal → Census
answer_of (Ok c) = census_in c
answer_of (Err refusal) = refused (refusal_number refusal)
