use Rattle.change_plan.proofs.Shown.{answer_planned, answer_wanted}
use Rattle.change_plan.proofs.plan.plan_change.Goals as goal

pub returns-clause-planned : goal.returns-clause-planned
returns-clause-planned c = answer_planned c.args.names.now c.args.realms.now c.args.uses.now c.args.next c.args.client c.args.id c.args.request.now c.plan_by.result c.plan_by.ensures

pub returns-clause-no_memory : goal.returns-clause-no_memory
returns-clause-no_memory c = answer_wanted c.args.names.now c.args.realms.now c.args.uses.now c.args.next c.args.client c.args.id c.args.request.now c.plan_by.result c.plan_by.ensures
