use Rattle.journal_moments.proofs.Moments.{moves_at}
use Rattle.journal_moments.proofs.laws.trees_move_by_one_entry.Goals as goal

-- src/laws.rt
pub returns : goal.returns
returns c entries e legal s asked = moves_at entries e legal s asked
