use Rattle.std.proofs.Common.{map, None, subst}
use Rattle.plain_journal.specs.Table.{outstanding}
use Rattle.step_table.specs.Acts.{acts, hand_out, TellRestart}
use Rattle.step_table.specs.Row.{Row}
use Rattle.step_table.specs.ServerRows.{restarts, roll_back_from}
use Rattle.step_table.specs.ServerState.{Server, up_to}
use Rattle.mds_rows.specs.Given.{Gives}
use Rattle.mds_rows.proofs.Quiet.{quiet_row, restarts_shut, restarts_then}
use Rattle.mds_rows.proofs.rest.begin_anew.Goals as goal

pub roll_back-requires : goal.roll_back-requires
roll_back-requires c = record {
  taken = c.requires.taken;
  state = acts c.requires.state (map TellRestart (up_to c.requires.state.clients));
  stands = c.in_ok-tell_all.ensures.table c.requires.state c.requires.taken c.requires.stands;
}

pub returns-clause-row : goal.returns-clause-row
returns-clause-row c = λ s stands.
    let told = acts s (map TellRestart (up_to s.clients)) in
    subst (λ (row : Row Server). Gives c.send.new.state c.in_ok-sent.sent row) (quiet_row s (restarts s) (restarts_shut s))
    (subst (λ (u : Server). Gives c.send.new.state c.in_ok-sent.sent (hand_out u)) (restarts_then s)
    (c.in_ok-sent.ensures.row (acts told (roll_back_from (outstanding told.entries))) None
    (c.in_ok-roll_back.ensures.table told None (c.in_ok-tell_all.ensures.table s None stands))))
