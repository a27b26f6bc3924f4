use Rattle.journal_format.proofs.Journals.{one_list}
use Rattle.journal_format.proofs.laws.a_file_has_one_list.Goals as goal

pub returns : goal.returns
returns c = one_list
