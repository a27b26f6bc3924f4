use Rattle.journal_names.proofs.Fine.{empty_stands}
use Rattle.journal_names.proofs.laws.an_empty_tree_stands.Goals as goal

-- src/laws.rt
pub returns : goal.returns
returns c tree names kinds none = empty_stands tree names kinds none
