use Rattle.std.proofs.Common.{sym, ◌∙◌}
use Rattle.mds_rows.proofs.Turning.{tended}
use Rattle.mds_rows.proofs.tending.can_tend.Goals as goal

pub returns-then-all_connected : goal.returns-then-all_connected
returns-then-all_connected c = λ s taken stands.
    c.has_turn.ensures s taken stands ∙ tended s (sym (c.all_connected.ensures s taken stands) ∙ c.if-all_connected.true)
