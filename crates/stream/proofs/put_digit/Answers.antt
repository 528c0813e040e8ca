use Rattle.stream.proofs.PutLaws.{digit_put}
use Rattle.stream.proofs.put_digit.Goals as goal

pub returns : goal.returns
returns c = digit_put _ _ _ c.requires.0 c.requires.1
