-- Which messages a client takes, rather than drops.
use Rattle.std.specs.Prelude.{ℕ, Bool, true, false, not, ◌&&◌, ◌==◌, List, if◌then◌else◌, Option, None, Some}
use Rattle.std.specs.List.{list_any}
use Rattle.snap_ids.specs.declared.id.Ino.{Ino}
use Rattle.snap_ids.specs.declared.values.Mode.{Mode}
use Rattle.plain_types.specs.declared.answer.Answer.{Answer}
use Rattle.plain_types.specs.declared.answer.Answer.TheVariants as answer
use Rattle.plain_types.specs.declared.message.FromStore.{FromStore}
use Rattle.plain_types.specs.declared.message.FromStore.TheVariants.{Stored}
use Rattle.plain_types.specs.declared.message.Stamp.{Stamp}
use Rattle.plain_types.specs.declared.message.ToClient.{ToClient}
use Rattle.plain_types.specs.declared.message.ToClient.TheVariants.{Reply, Grant}
use Rattle.held_files.specs.Files.{HeldFiles, is_ino, is_writer}
use Rattle.step_table.specs.Messages.{to_client_fits, from_store_fits}
use Rattle.step_table.specs.Row.{Row}
use Rattle.step_table.specs.ClientState.{Under, Idle, Open, AtStore, Client, stays}
use Rattle.step_table.specs.ClientTakes.{asks_for, takes_answer, take_answer, may_take, having_heard, is_key, key_of}

-- an answer says that something was done
abbrev pub says_done : Answer → Bool
says_done answer.Done = true
says_done (answer.Snap id) = true
says_done (answer.Opened ino) = true
says_done said = false

-- the open request has this number
abbrev pub is_asked : ℕ → Under → Bool
is_asked tid (Open number open_tid text asked let_go) = open_tid == tid
is_asked tid Idle = false
is_asked tid (AtStore number entry ino head) = false

-- the file that was found live, where it is among those that were let go
abbrev pub found_again : List Ino → Answer → Option Ino
found_again let_go (answer.FoundLive ino perm size write_held) = if list_any (is_ino ino) let_go then Some ino else None
found_again let_go said = None

-- the row of an answer to the open request
abbrev pub answer_row : Client → Stamp → Answer → Under → Row Client
answer_row c stamp said (Open number tid text asked let_go) = take_answer c number text asked let_go stamp said
answer_row c stamp said Idle = stays c
answer_row c stamp said (AtStore number entry ino head) = stays c

-- a reply is of the open request, and can be taken
abbrev pub takes_reply : Client → ℕ → Answer → Bool
takes_reply c tid said = is_asked tid c.under && takes_answer c said

-- a grant is what the open request asked for, and the file isn't held for Write
abbrev pub takes_grant : HeldFiles → ℕ → Ino → Mode → Under → Bool
takes_grant files tid ino mode (Open number open_tid text asked let_go) =
    open_tid == tid && asks_for asked ino mode && not (is_writer ino files)
takes_grant files tid ino mode Idle = false
takes_grant files tid ino mode (AtStore number entry file head) = false

-- a message that may be taken is one that the client waits for
abbrev pub takes_own : Client → ToClient → Bool
takes_own c (Reply conn tid stamp said) = takes_reply c tid said
takes_own c (Grant conn tid stamp ino mode size file) = takes_grant c.files tid ino mode c.under
takes_own c told = true

-- a message of the server is taken
abbrev pub takes_told : Client → ToClient → Bool
takes_told c told = may_take c told && to_client_fits told && takes_own (having_heard c told) told

-- the store's answer is to the line under way
abbrev pub is_answered : FromStore → Under → Bool
is_answered said (AtStore number entry ino head) = is_key number (key_of said)
is_answered said Idle = false
is_answered said (Open number tid text asked let_go) = false

abbrev pub takes_said : Client → FromStore → Bool
takes_said c (Stored ino) = true
takes_said c said = is_answered said c.under

-- a message of the store is taken
abbrev pub takes_stored : Client → FromStore → Bool
takes_stored c said = from_store_fits said && takes_said c said
