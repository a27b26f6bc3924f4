use Rattle.journal_names.proofs.Entries.{live_names}
use Rattle.journal_names.proofs.laws.live_names_are_those_of_the_plain_tree.Goals as goal

-- src/laws.rt
pub returns : goal.returns
returns c tree entries legal stands = live_names tree entries legal stands
