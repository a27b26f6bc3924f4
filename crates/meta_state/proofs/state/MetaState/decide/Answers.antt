use Rattle.meta_state.proofs.Shows.{shown_by, is_of_by}
use Rattle.meta_state.proofs.Decides.{Told, told, written_is, legal_is, refused_is, answered_is, wanted_is, planned_wants}
use Rattle.meta_state.proofs.state.MetaState.decide.Goals as goal
use Rattle.meta_state.proofs.state.MetaState.decide.Goals.{After-decided}

-- the decision follows from what the state says
decision : (c : After-decided) → Told c.args.self.now c.args.client c.args.number c.args.id c.args.request.now c.decided.result
decision c =
    told c.args.self.now c.args.client c.args.number c.args.id c.args.request.now c.in_ok-planned.planned c.decided.result
    (λ entries stands. c.in_ok-planned.ensures.planned _ (shown_by _ c.args.self.now c.self.view_is entries stands c.next-next.result (c.next-next.ensures entries stands)))
    c.decided.ensures

pub plan_change-requires : goal.plan_change-requires
plan_change-requires c = is_of_by _ c.args.self.now c.self.view_is c.requires.state

pub returns-in_err-planned-clause-no_memory : goal.returns-in_err-planned-clause-no_memory
returns-in_err-planned-clause-no_memory c =
    planned_wants c.args.self.now c.args.client c.args.number c.args.id c.args.request.now c.from_residual.result
    (λ entries stands. c.in_err-planned.ensures.no_memory _ (shown_by _ c.args.self.now c.self.view_is entries stands c.next-next.result (c.next-next.ensures entries stands)))

pub returns-clause-written : goal.returns-clause-written
returns-clause-written c =
    written_is c.args.self.now c.args.client c.args.number c.args.id c.args.request.now c.decided.result (decision (goal.at.returns-clause-written c).After-decided)

pub returns-clause-legal : goal.returns-clause-legal
returns-clause-legal c =
    legal_is c.args.self.now c.args.client c.args.number c.args.id c.args.request.now c.decided.result (decision (goal.at.returns-clause-legal c).After-decided)

pub returns-clause-refused : goal.returns-clause-refused
returns-clause-refused c =
    refused_is c.args.self.now c.args.client c.args.number c.args.id c.args.request.now c.decided.result (decision (goal.at.returns-clause-refused c).After-decided)

pub returns-clause-answered : goal.returns-clause-answered
returns-clause-answered c =
    answered_is c.args.self.now c.args.client c.args.number c.args.id c.args.request.now c.decided.result (decision (goal.at.returns-clause-answered c).After-decided)

pub returns-clause-no_memory : goal.returns-clause-no_memory
returns-clause-no_memory c =
    wanted_is c.args.self.now c.args.client c.args.number c.args.id c.args.request.now c.decided.result (decision (goal.at.returns-clause-no_memory c).After-decided)
