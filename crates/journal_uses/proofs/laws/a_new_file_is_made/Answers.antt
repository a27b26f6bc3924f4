use Rattle.journal_uses.proofs.Made.{create_more}
use Rattle.journal_uses.proofs.laws.a_new_file_is_made.Goals as goal

pub returns : goal.returns
returns c entries e dir ino name mode legal is = create_more entries e legal dir name ino mode is
