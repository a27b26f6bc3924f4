use Rattle.std.proofs.Common.{◌∙◌}
use Rattle.mds_state.proofs.Seats.{flushed_is}
use Rattle.mds_state.proofs.state.MdsState.last_flush.Goals as goal

pub returns : goal.returns
returns c = λ s taken stands.
    c.last_flush.ensures ∙ flushed_is c.args.self.now taken s stands c.args.client c.requires.from_one c.requires.upto c.session.result.now c.session.ensures
