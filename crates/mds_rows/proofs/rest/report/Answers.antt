use Rattle.std.proofs.Common.{subst}
use Rattle.step_table.specs.Row.{Row}
use Rattle.step_table.specs.ServerState.{Server}
use Rattle.step_table.specs.ServerRows.{reported}
use Rattle.mds_rows.specs.Given.{Gives}
use Rattle.mds_requests.proofs.Turned.{as_it_is}
use Rattle.std.proofs.Common.{None}
use Rattle.mds_rows.proofs.Quiet.{quiet_row, reported_shut}
use Rattle.mds_rows.proofs.rest.report.Goals as goal

pub returns-clause-row : goal.returns-clause-row
returns-clause-row c = λ s stands.
    subst (λ (row : Row Server). Gives c.send.new.state c.in_ok-sent.sent row) (quiet_row s (reported s c.args.message.now) (reported_shut s c.args.message.now))
    (c.in_ok-sent.ensures.row _ _ (c.in_ok-on_report.ensures.acts s (as_it_is c.args.state.now None s stands)).0)
