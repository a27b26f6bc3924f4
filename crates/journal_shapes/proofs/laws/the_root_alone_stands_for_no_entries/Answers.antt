use Rattle.journal_shapes.proofs.Steps.{root_stands}
use Rattle.journal_shapes.proofs.laws.the_root_alone_stands_for_no_entries.Goals as goal

-- src/laws.rt
pub returns : goal.returns
returns c table call = root_stands table call
