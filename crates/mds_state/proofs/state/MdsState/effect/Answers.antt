use Rattle.std.proofs.Common.{Some}
use Rattle.mds_state.proofs.Quiet.{effects}
use Rattle.mds_state.proofs.state.MdsState.effect.Goals as goal

pub returns-clause-table : goal.returns-clause-table
returns-clause-table c = λ s a change stands may says own.
    effects c.args.self.now _ a s c.args.entry change stands says own (c.in_ok-buffer.ensures.table s (Some a) stands may)
