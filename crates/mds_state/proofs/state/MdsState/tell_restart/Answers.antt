use Rattle.std.proofs.Common.{ap}
use Rattle.plain_types.specs.declared.history.Sent.{Sent}
use Rattle.plain_types.specs.declared.message.Message.TheVariants as message
use Rattle.plain_types.specs.declared.message.Stamp.{Stamp}
use Rattle.plain_types.specs.declared.message.ToClient.TheVariants as told
use Rattle.mds_state.proofs.state.MdsState.tell_restart.Goals as goal

pub returns-clause-table : goal.returns-clause-table
returns-clause-table c = λ s taken stands.
    c.in_ok-send.ensures.sent s taken _ stands
    (ap (λ (stamp : Stamp). let sent : Sent = record { to = c.args.client; message = message.ToClient (told.Restarted stamp) } in sent) (c.stamp-stamp.ensures s taken stands))
