use Rattle.node_core.proofs.Peers.{order, report}
use Rattle.node_core.proofs.laws.orders_and_reports_are_their_own.Goals as goal

pub returns-clause-order : goal.returns-clause-order
returns-clause-order c clients n said some fits = order clients n said some fits

pub returns-clause-report : goal.returns-clause-report
returns-clause-report c clients n said other fits = report clients n said other fits
