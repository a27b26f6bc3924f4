use Rattle.std.proofs.Common.{map, ap, sym, ◌∙◌}
use Rattle.plain_types.specs.declared.history.Sent.{Sent}
use Rattle.plain_types.specs.declared.message.Message.TheVariants as message
use Rattle.plain_types.specs.declared.message.ToClient.TheVariants as told
use Rattle.std.specs.List.{list_all}
use Rattle.step_table.specs.Messages.{plain_trace, trace_fits}
use Rattle.step_table.specs.ServerState.{Changed}
use Rattle.mds_state.proofs.Told.{tells, untold}
use Rattle.mds_state.proofs.state.MdsState.tell_files.Goals as goal

pub send-requires : goal.send-requires
send-requires c = ap (list_all trace_fits) c.from_vec.ensures ∙ c.requires.fit

pub returns-in-None-clause-table : goal.returns-in-None-clause-table
returns-in-None-clause-table c = λ s taken inos stands same.
    untold c.args.self.now taken s c.args.client (Changed inos) (sym (c.number.ensures s taken stands) ∙ c.in-None.is) stands

pub returns-in_ok-send-in-Some-clause-table : goal.returns-in_ok-send-in-Some-clause-table
returns-in_ok-send-in-Some-clause-table c = λ s taken inos stands same.
    let files = ap (map plain_trace) c.from_vec.ensures ∙ same in
    tells c.send.new.self taken s c.args.client (Changed inos) c.in-Some.conn (sym (c.number.ensures s taken stands) ∙ c.in-Some.is)
    (c.in_ok-send-in-Some.ensures.sent s taken _ stands
    (λ i. let sent : Sent = record { to = c.args.client; message = message.ToClient (told.Notice c.in-Some.conn (c.stamp-stamp.ensures s taken stands i) (files i)) } in sent))
