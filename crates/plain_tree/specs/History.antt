-- What a history says: the order of its changes, what each client had been told, and when it heard of a snapshot.
use Rattle.std.specs.Prelude.{ℕ, ◌+◌, Bool, false, ◌&&◌, ◌==◌, nat_lt, nat_le, List, [], ◌∷◌, take, filter, if◌then◌else◌, count_by, flat_map, Option, Some}
use Rattle.snap_ids.specs.declared.id.SnapId.{SnapId}
use Rattle.plain_types.specs.declared.change.Change.{Change}
use Rattle.plain_types.specs.declared.change.Change.TheVariants.{Mksnap}
use Rattle.plain_types.specs.declared.change.Effect.{Effect}
use Rattle.plain_types.specs.declared.history.Event.{Event}
use Rattle.plain_types.specs.declared.history.Replied.{Replied}
use Rattle.plain_types.specs.declared.message.Message.{Message}
use Rattle.plain_types.specs.declared.message.Message.TheVariants as message
use Rattle.plain_types.specs.declared.message.Stamp.{Stamp}
use Rattle.plain_types.specs.declared.message.ToClient.{ToClient}
use Rattle.plain_types.specs.declared.message.ToClient.TheVariants.{Reply, Grant, Recall, Notice, FlushAck, Welcome, Restarted}
use Rattle.plain_tree.specs.State.{State}
use Rattle.plain_tree.specs.Change.{state_after}

-- the effects of all events, in the order of the events
abbrev pub effects : List Event → List Effect
effects history = flat_map (λ event. event.effects) history

-- the replies of all events, in the order of the events
abbrev pub replies : List Event → List Replied
replies history = flat_map (λ event. event.replies) history

-- the change has a place in the journal, among its first entries
abbrev pub is_among : ℕ → Effect → Bool
is_among entries effect = nat_lt 0 effect.entry && nat_le effect.entry entries

-- the plain state after the server's changes among the first entries of the journal
abbrev pub at_entry : List Event → ℕ → State
at_entry history entries = state_after (filter (is_among entries) (effects history))

abbrev pub is_of : ℕ → Effect → Bool
is_of client effect = effect.client == client

abbrev pub makes : SnapId → Change → Bool
makes s (Mksnap id dir name) = id.0 == s.0
makes s change = false

-- the effects before the one that makes a snapshot; all of them where none does
abbrev pub before_snap : SnapId → List Effect → List Effect
before_snap s [] = []
before_snap s (effect ∷ effects) = if makes s effect.change then [] else effect ∷ before_snap s effects

-- how many of a client's changes were answered to it before an event
abbrev pub told : List Event → ℕ → ℕ → ℕ
told history client event =
    count_by (λ reply. reply.client == client && reply.changed) (replies (take event history))

-- the stamp that the server put on a message
abbrev pub stamp_of : ToClient → Stamp
stamp_of (Reply conn tid stamp answer) = stamp
stamp_of (Grant conn tid stamp ino mode size file) = stamp
stamp_of (Recall conn stamp ino) = stamp
stamp_of (Notice conn stamp update) = stamp
stamp_of (FlushAck conn stamp number) = stamp
stamp_of (Welcome conn stamp flushed update) = stamp
stamp_of (Restarted stamp) = stamp

-- the message is the server's, and was made when the snapshot was there
abbrev pub tells_of : SnapId → Option Message → Bool
tells_of s (Some (message.ToClient told)) = nat_le s.0 (stamp_of told).snap.0
tells_of s taken = false

-- The event at which a client hears of a snapshot: the first at which it takes a message of the server that was made
-- when the snapshot was there, also one that it drops; the end where it takes none. Ceph developer guide, CephFS
-- Snapshots: clients hear of a snapshot late, and flush lazily.
abbrev pub mark : List Event → ℕ → SnapId → ℕ
mark [] client s = 0
mark (event ∷ history) client s =
    if event.node == client && tells_of s event.taken then 0 else mark history client s + 1
