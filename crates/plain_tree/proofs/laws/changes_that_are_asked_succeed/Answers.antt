use Rattle.plain_tree.proofs.Succeeds.{asked_succeeds}
use Rattle.plain_tree.proofs.laws.changes_that_are_asked_succeed.Goals as goal

-- src/laws.rt:11:1
pub returns : goal.returns
returns c state client id request change = asked_succeeds state client id request change
