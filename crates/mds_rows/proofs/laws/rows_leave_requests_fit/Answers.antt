use Rattle.mds_rows.proofs.Kept.{commit_fit, report_fit, restart_fit, take_fit, tend_fit}
use Rattle.mds_rows.proofs.laws.rows_leave_requests_fit.Goals as goal

pub returns-clause-take : goal.returns-clause-take
returns-clause-take c = λ s client message none from_one upto fit. take_fit s none fit client from_one upto message

pub returns-clause-report : goal.returns-clause-report
returns-clause-report c = λ s message none fit. report_fit s none fit message

pub returns-clause-tend : goal.returns-clause-tend
returns-clause-tend c = λ s none fit. tend_fit s none fit

pub returns-clause-commit : goal.returns-clause-commit
returns-clause-commit c = λ s fit. commit_fit s fit

pub returns-clause-restart : goal.returns-clause-restart
returns-clause-restart c = λ s upto. restart_fit s upto
