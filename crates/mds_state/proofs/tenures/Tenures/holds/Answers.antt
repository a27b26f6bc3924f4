use Rattle.std.proofs.Common.{ap, ◌∙◌}
use Rattle.std.specs.Prelude.{is_some}
use Rattle.std.specs.List.{list_any}
use Rattle.cap_state.specs.Table.{is_at}
use Rattle.mds_state.specs.Parts.{TenureParts}
use Rattle.mds_state.proofs.Places.{held_at}
use Rattle.mds_state.proofs.tenures.Tenures.holds.Goals as goal

pub returns : goal.returns
returns c =
    c.is_some.ensures ∙ ap is_some c.mode_of.ensures ∙ held_at c.args.client c.args.ino c.self.inside.caps
    ∙ ap (λ (t : TenureParts). list_any (is_at c.args.client c.args.ino) t.holdings) c.self.view_is
