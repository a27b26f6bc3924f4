-- What a history says beside the traces in its messages.
use Rattle.std.specs.Prelude.{map, option_map}
use Rattle.plain_types.specs.declared.history.Event.{Event}
use Rattle.step_table.specs.Messages.{plain_message, plain_sent}

-- the event, with each trace written as the table writes one that gives the same context
abbrev pub plain_event : Event → Event
plain_event event = record event {
  taken = option_map plain_message event.taken;
  sent = map plain_sent event.sent;
}
