-- Which messages a node can take at all, and how the table writes the contexts in them.
use Rattle.std.specs.Prelude.{ℕ, ◌+◌, Bool, true, not, ◌&&◌, ◌||◌, nat_lt, List, [], ◌∷◌, length, map, Option, None, Some}
use Rattle.std.specs.List.{list_all}
use Rattle.snap_ids.specs.declared.id.Ino.{Ino}
use Rattle.snap_ids.specs.declared.id.SnapId.{SnapId}
use Rattle.snap_ids.specs.declared.id.TheConstants.{NOSNAP, GLOBAL}
use Rattle.snap_ids.specs.declared.values.CloneList.{CloneList}
use Rattle.snap_ids.specs.declared.values.RealmInfo.{RealmInfo}
use Rattle.snap_ids.specs.Context.{Context}
use Rattle.snap_ids.specs.Traces.{context_of}
use Rattle.plain_types.specs.declared.answer.Answer.{Answer}
use Rattle.plain_types.specs.declared.answer.Answer.TheVariants as answer
use Rattle.plain_types.specs.declared.history.Sent.{Sent}
use Rattle.plain_types.specs.declared.message.Claim.{Claim}
use Rattle.plain_types.specs.declared.message.FileTrace.{FileTrace}
use Rattle.plain_types.specs.declared.message.FlushMsg.{FlushMsg}
use Rattle.plain_types.specs.declared.message.FromStore.{FromStore}
use Rattle.plain_types.specs.declared.message.FromStore.TheVariants as from_store
use Rattle.plain_types.specs.declared.message.Message.{Message}
use Rattle.plain_types.specs.declared.message.Message.TheVariants as message
use Rattle.plain_types.specs.declared.message.ToClient.{ToClient}
use Rattle.plain_types.specs.declared.message.ToClient.TheVariants as to_client
use Rattle.plain_types.specs.declared.message.ToServer.{ToServer}
use Rattle.plain_types.specs.declared.message.ToServer.TheVariants as to_server
use Rattle.plain_types.specs.declared.message.ToStore.{ToStore}
use Rattle.plain_types.specs.declared.message.ToStore.TheVariants as to_store
use Rattle.plain_tree.specs.Change.{is_too_large}
use Rattle.plain_tree.specs.History.{stamp_of}

-- an id of a snapshot is below the one that stands for what is live
abbrev pub is_id : SnapId → Bool
is_id s = nat_lt s.0 NOSNAP.0

-- a size, a length or an end of bytes that a file can have
abbrev pub is_size : ℕ → Bool
is_size size = not (is_too_large size)

abbrev pub context_fits : Context → Bool
context_fits context = is_id context.seq && list_all is_id context.ids

abbrev pub realm_fits : RealmInfo → Bool
realm_fits realm = is_id realm.seq && is_id realm.since && list_all is_id realm.own && list_all is_id realm.past

abbrev pub trace_fits : FileTrace → Bool
trace_fits file = is_id file.birth && list_all realm_fits file.trace

abbrev pub claim_fits : Claim → Bool
claim_fits claim = is_id claim.settled

-- a release settles all that comes after it, so its last id counts for nothing
abbrev pub flush_fits : FlushMsg → Bool
flush_fits flush = is_id flush.follows && (flush.release || is_id flush.upto) && is_size flush.size

-- a clone's id and the ids that it lists can be, and the head's length
abbrev pub clone_fits : SnapId × List SnapId → Bool
clone_fits clone = is_id clone.0 && list_all is_id clone.1

abbrev pub head_fits : Option ℕ → Bool
head_fits None = true
head_fits (Some size) = is_size size

abbrev pub clones_fit : CloneList → Bool
clones_fit list = list_all clone_fits list.clones && head_fits list.head

-- the numbers in an answer can be
abbrev pub answer_fits : Answer → Bool
answer_fits (answer.Snap id) = is_id id
answer_fits (answer.FileBytes bytes) = is_size (length bytes)
answer_fits (answer.StatFile mode size) = is_size size
answer_fits (answer.RealmIs ino context) = context_fits context
answer_fits (answer.FoundLive ino perm size write_held) = is_size size
answer_fits (answer.FoundSnap ino snap size) = is_id snap && is_size size
answer_fits (answer.ClonesAre list) = clones_fit list
answer_fits answer = true

-- the numbers in a message to the server can be
abbrev pub to_server_fits : ToServer → Bool
to_server_fits (to_server.Connect conn claims flushes asked) = list_all claim_fits claims && list_all flush_fits flushes
to_server_fits (to_server.Flush conn flush) = flush_fits flush
to_server_fits (to_server.Purged id) = is_id id
to_server_fits message = true

abbrev pub told_fits : ToClient → Bool
told_fits (to_client.Reply conn tid stamp answer) = answer_fits answer
told_fits (to_client.Grant conn tid stamp ino mode size file) = is_size size && trace_fits file
told_fits (to_client.Notice conn stamp update) = list_all trace_fits update
told_fits (to_client.Welcome conn stamp flushed update) = list_all trace_fits update
told_fits message = true

-- the numbers in a message to a client can be
abbrev pub to_client_fits : ToClient → Bool
to_client_fits message = is_id (stamp_of message).snap && told_fits message

-- the numbers in a message to the store can be
abbrev pub to_store_fits : ToStore → Bool
to_store_fits (to_store.WriteAt ino offset bytes context) = is_size (offset + length bytes) && context_fits context
to_store_fits (to_store.Cut ino size context) = is_size size && context_fits context
to_store_fits (to_store.Delete ino context) = context_fits context
to_store_fits (to_store.ReadHead key ino size) = is_size size
to_store_fits (to_store.ReadSnap key ino size snap) = is_size size && is_id snap
to_store_fits (to_store.ListClones key ino index) = true
to_store_fits (to_store.Purge id) = is_id id

-- the numbers in a message of the store can be
abbrev pub from_store_fits : FromStore → Bool
from_store_fits (from_store.Got key bytes) = is_size (length bytes)
from_store_fits (from_store.CloneListIs key list) = clones_fit list
from_store_fits message = true

-- the context that a file's trace gives it
abbrev pub context_by : FileTrace → Context
context_by file = context_of file.trace file.birth

-- A trace of one realm that gives a file this context. The table writes contexts so: what a trace says beside its context
-- is left to the server.
abbrev pub trace_with : Ino → Context → FileTrace
trace_with ino context = record {
  ino = ino;
  birth = record { 0 = 0 };
  trace = record { ino = GLOBAL; seq = context.seq; since = record { 0 = 0 }; own = []; past = context.ids } ∷ [];
}

-- the same file's trace as the table writes it
abbrev pub plain_trace : FileTrace → FileTrace
plain_trace file = trace_with file.ino (context_by file)

abbrev pub plainly_told : ToClient → ToClient
plainly_told (to_client.Grant conn tid stamp ino mode size file) = to_client.Grant conn tid stamp ino mode size (plain_trace file)
plainly_told (to_client.Notice conn stamp update) = to_client.Notice conn stamp (map plain_trace update)
plainly_told (to_client.Welcome conn stamp flushed update) = to_client.Welcome conn stamp flushed (map plain_trace update)
plainly_told message = message

-- the message as the table writes it: two messages say the same where this is the same
abbrev pub plain_message : Message → Message
plain_message (message.ToClient told) = message.ToClient (plainly_told told)
plain_message other = other

abbrev pub plain_sent : Sent → Sent
plain_sent sent = record { to = sent.to; message = plain_message sent.message }
