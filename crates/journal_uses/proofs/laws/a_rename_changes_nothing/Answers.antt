use Rattle.journal_uses.proofs.Counted.{rename_more}
use Rattle.journal_uses.proofs.laws.a_rename_changes_nothing.Goals as goal

pub returns : goal.returns
returns c entries e dir to_dir name to_name legal is = rename_more entries e legal dir to_dir name to_name is
