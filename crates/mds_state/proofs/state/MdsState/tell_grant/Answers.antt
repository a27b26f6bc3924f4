use Rattle.std.proofs.Common.{◌∙◌, sym}
use Rattle.plain_types.specs.declared.history.Sent.{Sent}
use Rattle.plain_types.specs.declared.message.Message.TheVariants as message
use Rattle.plain_types.specs.declared.message.ToClient.TheVariants as told
use Rattle.step_table.specs.ServerState.{Granted}
use Rattle.mds_state.proofs.Told.{tells, untold}
use Rattle.mds_state.proofs.state.MdsState.tell_grant.Goals as goal

pub returns-in-None-clause-table : goal.returns-in-None-clause-table
returns-in-None-clause-table c = λ s taken stands file.
    untold c.args.self.now taken s c.args.client (Granted c.args.tid c.args.ino c.args.mode) (sym (c.number.ensures s taken stands) ∙ c.in-None.is) stands

pub returns-in_ok-send-in-Some-clause-table : goal.returns-in_ok-send-in-Some-clause-table
returns-in_ok-send-in-Some-clause-table c = λ s taken stands file.
    tells c.send.new.self taken s c.args.client (Granted c.args.tid c.args.ino c.args.mode) c.in-Some.conn (sym (c.number.ensures s taken stands) ∙ c.in-Some.is)
    (c.in_ok-send-in-Some.ensures.sent s taken _ stands
    (λ i. let sent : Sent = record { to = c.args.client; message = message.ToClient (told.Grant c.in-Some.conn c.args.tid (c.stamp-stamp.ensures s taken stands i) c.args.ino c.args.mode (c.size-size.ensures s taken stands i) (c.in_ok-file-in-Some.ensures.told s taken stands file i)) } in sent))
