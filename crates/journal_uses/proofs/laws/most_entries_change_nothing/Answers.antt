use Rattle.std.proofs.Common.{refl}
use Rattle.journal_uses.proofs.Moves.{kept}
use Rattle.journal_uses.proofs.laws.most_entries_change_nothing.Goals as goal

pub returns : goal.returns
returns c entries e legal keeps = kept entries e legal e.what refl keeps
