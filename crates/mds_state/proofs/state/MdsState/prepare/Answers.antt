use Rattle.std.proofs.Common.{None}
use Rattle.mds_state.proofs.Quiet.{prepares}
use Rattle.mds_state.proofs.state.MdsState.prepare.Goals as goal

pub buffer-requires : goal.buffer-requires
buffer-requires c = record { may = c.set_operation.ensures.may c.args.entry c.requires.may }

pub returns-clause-table : goal.returns-clause-table
returns-clause-table c = λ s stands may own.
    prepares c.args.self.now c.buffer.new.self c.args.asked s c.args.entry stands own
    (c.in_ok-buffer.ensures.table _ None (c.set_operation.ensures.table s stands) may)
