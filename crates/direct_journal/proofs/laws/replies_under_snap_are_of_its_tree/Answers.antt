use Rattle.direct_journal.proofs.Replies.{from_snap}
use Rattle.direct_journal.proofs.laws.replies_under_snap_are_of_its_tree.Goals as goal

pub returns : goal.returns
returns c = λ lines history. from_snap history lines
