use Rattle.std.proofs.Common.{sym, ◌∙◌}
use Rattle.mds_state.proofs.Quiet.{buffers}
use Rattle.mds_state.proofs.state.MdsState.buffer.Goals as goal

pub returns-clause-table : goal.returns-clause-table
returns-clause-table c = λ s taken stands may.
    buffers c.enter.new.self taken s c.args.entry (c.in_ok-enter.ensures.table s taken stands may) (sym c.changes_contexts.ensures ∙ c.if-changes_contexts.false)
