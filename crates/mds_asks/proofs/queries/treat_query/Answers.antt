use Rattle.std.proofs.Common.{false, subst}
use Rattle.step_table.specs.Requests.{treat_new}
use Rattle.mds_asks.specs.Treated.{IsTreated}
use Rattle.mds_asks.specs.declared.treated.Treated.{Treated}
use Rattle.mds_asks.proofs.Given.{held_last}
use Rattle.mds_asks.proofs.queries.treat_query.Goals as goal

pub returns-in-Done-clause-acts : goal.returns-in-Done-clause-acts
returns-in-Done-clause-acts c = λ s stands fit past.
    let a = c.args.asked in
    subst (λ (t : Treated). IsTreated c.treat.new.state a s (treat_new false s a a.request) t) c.in-Done.is (c.in_ok-treated.ensures.acts s stands fit past)

pub returns-in_ok-wait-in-Waits-clause-acts : goal.returns-in_ok-wait-in-Waits-clause-acts
returns-in_ok-wait-in-Waits-clause-acts c = λ s stands fit past.
    let a = c.args.asked in
    held_last c.treat.new.state a s c.wait.new.self (treat_new false s a a.request)
    (subst (λ (t : Treated). IsTreated c.treat.new.state a s (treat_new false s a a.request) t) c.in-Waits.is (c.in_ok-treated.ensures.acts s stands fit past))
    c.in_ok-wait-in-Waits.ensures.table
