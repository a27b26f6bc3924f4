use Rattle.journal_uses.proofs.Counted.{unlink_more}
use Rattle.journal_uses.proofs.laws.an_unlink_is_a_name_less.Goals as goal

pub returns : goal.returns
returns c entries e dir ino name legal is found = unlink_more entries e legal dir ino name is found
