use Rattle.std.proofs.Common.{ℕ, None, Some, subst}
use Rattle.step_table.specs.ServerState.{Granted, tell}
use Rattle.mds_state.specs.Stands.{StandsFor}
use Rattle.mds_state.proofs.Told.{freed, grants}
use Rattle.mds_state.proofs.state.MdsState.grant.Goals as goal

pub returns-clause-table : goal.returns-clause-table
returns-clause-table c = λ s stands file.
    grants c.args.self.now c.tell_grant.new.self c.args.asked.now s stands c.args.ino c.args.mode
    (subst (λ (client : ℕ). StandsFor c.tell_grant.new.self None (tell (record s { hand = None }) client (Granted c.args.asked.now.tid c.args.ino c.args.mode))) c.client.ensures
    (subst (λ (tid : ℕ). StandsFor c.tell_grant.new.self None (tell (record s { hand = None }) c.client.result (Granted tid c.args.ino c.args.mode))) c.tid.ensures
    (c.in_ok-tell_grant.ensures.table (record s { hand = None }) None (freed c.args.self.now (Some c.args.asked.now) s stands) file)))
