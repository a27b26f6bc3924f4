use Rattle.std.proofs.Common.{ℕ, None, Some, subst}
use Rattle.step_table.specs.ServerState.{Answered, tell}
use Rattle.mds_state.specs.Stands.{StandsFor}
use Rattle.mds_state.proofs.Told.{freed, answers}
use Rattle.mds_state.proofs.state.MdsState.answer.Goals as goal

pub returns-clause-table : goal.returns-clause-table
returns-clause-table c = λ s stands.
    answers c.args.self.now c.tell_answer.new.self c.args.asked.now s stands c.args.answer
    (subst (λ (client : ℕ). StandsFor c.tell_answer.new.self None (tell (record s { hand = None }) client (Answered c.args.asked.now.tid c.args.answer))) c.client.ensures
    (subst (λ (tid : ℕ). StandsFor c.tell_answer.new.self None (tell (record s { hand = None }) c.client.result (Answered tid c.args.answer))) c.tid.ensures
    (c.in_ok-tell_answer.ensures.table (record s { hand = None }) None (freed c.args.self.now (Some c.args.asked.now) s stands))))
