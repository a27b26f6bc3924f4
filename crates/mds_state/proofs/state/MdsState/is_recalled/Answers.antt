use Rattle.std.proofs.Common.{subst, sym, ◌∙◌}
use Rattle.mds_state.specs.Parts.{Parts}
use Rattle.mds_state.specs.Stands.{StandsFor}
use Rattle.mds_state.proofs.state.MdsState.is_recalled.Goals as goal

pub returns : goal.returns
returns c = λ s taken stands.
    let now = subst (λ (p : Parts). StandsFor p taken s) (sym c.self.view_is) stands in
    c.is_recalled.ensures ∙ c.modes_are_the_tables.ensures.recalled _ _ s c.args.client c.args.ino now.tenures.stands
