use Rattle.std.proofs.Common.{◌∙◌, ap, sym}
use Rattle.plain_types.specs.declared.history.Sent.{Sent}
use Rattle.plain_types.specs.declared.message.Message.TheVariants as message
use Rattle.plain_types.specs.declared.message.Stamp.{Stamp}
use Rattle.plain_types.specs.declared.message.ToClient.TheVariants as told
use Rattle.step_table.specs.ServerState.{WantedBack}
use Rattle.mds_state.proofs.Told.{tells, untold}
use Rattle.mds_state.proofs.state.MdsState.tell_recall.Goals as goal

pub returns-in-None-clause-table : goal.returns-in-None-clause-table
returns-in-None-clause-table c = λ s taken stands.
    untold c.args.self.now taken s c.args.client (WantedBack c.args.ino) (sym (c.number.ensures s taken stands) ∙ c.in-None.is) stands

pub returns-in_ok-send-in-Some-clause-table : goal.returns-in_ok-send-in-Some-clause-table
returns-in_ok-send-in-Some-clause-table c = λ s taken stands.
    tells c.send.new.self taken s c.args.client (WantedBack c.args.ino) c.in-Some.conn (sym (c.number.ensures s taken stands) ∙ c.in-Some.is)
    (c.in_ok-send-in-Some.ensures.sent s taken _ stands
    (ap (λ (stamp : Stamp). let sent : Sent = record { to = c.args.client; message = message.ToClient (told.Recall c.in-Some.conn stamp c.args.ino) } in sent) (c.stamp-stamp.ensures s taken stands)))
