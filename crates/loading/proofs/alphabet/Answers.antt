-- `alphabet` meets its contract.
use Rattle.loading.proofs.LoadLaws.{alphabet_rises, alphabet_falls}
use Rattle.loading.proofs.alphabet.Goals as goal

pub returns-then-rising : goal.returns-then-rising
returns-then-rising c = alphabet_rises _ _ c.rising.ensures c.if-rising.true _ c.lowercase.ensures

pub returns-else-rising : goal.returns-else-rising
returns-else-rising c = alphabet_falls _ _ c.rising.ensures c.if-rising.false
