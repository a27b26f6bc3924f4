use Rattle.std.proofs.Common.{map, ap, ◌∙◌}
use Rattle.plain_types.specs.declared.history.Sent.{Sent}
use Rattle.plain_types.specs.declared.message.Message.TheVariants as message
use Rattle.plain_types.specs.declared.message.ToClient.TheVariants as told
use Rattle.std.specs.List.{list_all}
use Rattle.step_table.specs.Messages.{plain_trace, trace_fits}
use Rattle.mds_state.proofs.state.MdsState.welcome.Goals as goal

pub send-requires : goal.send-requires
send-requires c = ap (list_all trace_fits) c.from_vec.ensures ∙ c.in_ok-files.ensures.fits

pub returns-clause-table : goal.returns-clause-table
returns-clause-table c = λ s taken stands.
    let files = ap (map plain_trace) c.from_vec.ensures ∙ c.in_ok-files.ensures.told s taken stands in
    c.in_ok-send.ensures.sent s taken _ stands
    (λ i. let sent : Sent = record { to = c.args.client; message = message.ToClient (told.Welcome c.args.conn (c.stamp-stamp.ensures s taken stands i) (c.last_flush-flushed.ensures s taken stands i) (files i)) } in sent)
