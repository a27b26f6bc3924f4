-- What channels hold, after a history: what was sent and wasn't taken.
use Rattle.std.specs.Prelude.{◌≡◌, ℕ, ◌+◌, Bool, true, false, List, [], ◌++◌}
use Rattle.std.specs.List.{list_all}
use Rattle.plain_types.specs.declared.history.Event.{Event}
use Rattle.step_table.specs.Legal.{sent_between, taken_between}
use Rattle.node_core.specs.Steps.{are_peers, is_step_of, taken_from, takes_from_peer_if_any, taking_step, is_sent_well}
use Rattle.node_channels.specs.Channels.{Waiting, IsWhole, queue, first, without_first, with_sent}

-- Between two nodes that talk, what was sent is what was taken, followed by what waits; others take nothing from one another.
pub record IsCarried (c : Waiting) (history : List Event) : Type 0 where
  pub whole : IsWhole c
  pub peers : (from to : ℕ) → are_peers c.clients from to ≡ true
      → taken_between (c.clients + 1) from to history ++ queue c (taking_step c.clients from to) ≡ sent_between from to history
  pub strangers : (from to : ℕ) → are_peers c.clients from to ≡ false → taken_between (c.clients + 1) from to history ≡ []

-- An event may come: its step is one of its node, takes the oldest message that waits for it, from a node that talks with
-- this one, and what it sends is sent well.
pub record MayCome (c : Waiting) (event : Event) : Type 0 where
  pub own : is_step_of c.clients event.node event.step ≡ true
  pub taken : event.taken ≡ first (queue c event.step)
  pub from_peer : takes_from_peer_if_any c.clients event.node (taken_from c.clients event.step) ≡ true
  pub sent : list_all (is_sent_well c.clients event.node) event.sent ≡ true

-- the channels after an event
abbrev pub after_event : Waiting → Event → Waiting
after_event c event = with_sent (without_first c event.step) event.node event.sent
