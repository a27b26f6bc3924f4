use Rattle.std.proofs.Common.{◌∙◌}
use Rattle.mds_state.proofs.Seats.{number_is}
use Rattle.mds_state.proofs.state.MdsState.number.Goals as goal

pub returns : goal.returns
returns c = λ s taken stands.
    c.some_number.ensures ∙ number_is c.args.self.now taken s stands c.args.client c.connection.result (c.connection.ensures s taken stands)
