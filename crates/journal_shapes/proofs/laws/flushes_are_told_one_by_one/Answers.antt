use Rattle.journal_shapes.proofs.Sizes.{past_push}
use Rattle.journal_shapes.proofs.laws.flushes_are_told_one_by_one.Goals as goal

-- src/laws.rt
pub returns : goal.returns
returns c entries e x = past_push 1 entries e x
