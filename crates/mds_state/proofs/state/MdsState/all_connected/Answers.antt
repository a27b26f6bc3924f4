use Rattle.std.proofs.Common.{◌∙◌, ap}
use Rattle.std.specs.List.{list_all}
use Rattle.mds_state.specs.Parts.{Parts}
use Rattle.mds_state.proofs.Seats.{has_connection, all_connected_is}
use Rattle.mds_state.proofs.state.MdsState.all_connected.Goals as goal

pub returns : goal.returns
returns c = λ s taken stands.
    c.are_connected.ensures ∙ ap (list_all has_connection) c.deref.ensures.value ∙ ap (λ (p : Parts). list_all has_connection p.sessions) c.self.view_is
    ∙ all_connected_is c.args.self.now taken s stands
