use Rattle.direct_journal.proofs.Empty.{bytes_none}
use Rattle.direct_journal.proofs.Sizes.{sizes_none}
use Rattle.direct_journal.proofs.laws.files_are_empty.Goals as goal

pub returns : goal.returns
returns c = record { bytes = λ entries ino. bytes_none entries ino; sizes = λ history ino s. sizes_none history ino s }
