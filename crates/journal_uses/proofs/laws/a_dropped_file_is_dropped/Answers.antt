use Rattle.journal_uses.proofs.Moves.{drop_more}
use Rattle.journal_uses.proofs.laws.a_dropped_file_is_dropped.Goals as goal

pub returns : goal.returns
returns c entries e ino legal is = drop_more entries e legal ino is
