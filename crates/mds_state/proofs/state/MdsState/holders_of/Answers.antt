use Rattle.std.proofs.Common.{map, ap, subst, sym, ◌∙◌}
use Rattle.cap_state.specs.Table.{Holding}
use Rattle.mds_state.specs.Parts.{Parts}
use Rattle.mds_state.specs.Stands.{StandsFor}
use Rattle.mds_state.proofs.state.MdsState.holders_of.Goals as goal

pub returns : goal.returns
returns c = λ s taken stands.
    let now = subst (λ (p : Parts). StandsFor p taken s) (sym c.self.view_is) stands in
    ap (map (λ (h : Holding). h.0)) c.holders.ensures ∙ c.holders_are_the_tables.ensures _ _ s c.args.ino now.tenures.table now.tenures.theirs now.tenures.stands
