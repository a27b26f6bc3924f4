use Rattle.std.proofs.Common.{◌≡◌, ◌++◌, take, flat_map}
use Rattle.reply_text.specs.Step.{event_line}
use Rattle.reply_text.proofs.steps.push_events.Given as goal

-- the steps so far are written
abbrev pub invariant-loop-event : goal.invariant-loop-event
invariant-loop-event l = l.out.items ≡ l.fn.out.items ++ flat_map (event_line l.clients) (take l.event-index l.events)
