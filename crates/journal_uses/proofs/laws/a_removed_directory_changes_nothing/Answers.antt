use Rattle.journal_uses.proofs.Folders.{rmdir_more}
use Rattle.journal_uses.proofs.laws.a_removed_directory_changes_nothing.Goals as goal

pub returns : goal.returns
returns c entries e dir name legal is = rmdir_more entries e legal dir name is
