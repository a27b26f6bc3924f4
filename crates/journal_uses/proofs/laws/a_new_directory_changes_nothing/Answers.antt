use Rattle.journal_uses.proofs.Made.{mkdir_more}
use Rattle.journal_uses.proofs.laws.a_new_directory_changes_nothing.Goals as goal

pub returns : goal.returns
returns c entries e dir ino name legal is = mkdir_more entries e legal dir name ino is
