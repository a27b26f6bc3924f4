-- What the server sends its clients, and the stamps in it.
use Rattle.std.specs.Prelude.{◌≡◌, ◌≤◌, ◌<◌, ℕ, false, List, [], ◌∷◌, ◌++◌, length, take, filter_map, Option, None, Some}
use Rattle.snap_ids.specs.declared.id.TheConstants.{NOSNAP}
use Rattle.plain_types.specs.declared.entry.Entry.{Entry}
use Rattle.plain_types.specs.declared.history.Event.{Event}
use Rattle.plain_types.specs.declared.history.Sent.{Sent}
use Rattle.plain_types.specs.declared.message.Message.{Message}
use Rattle.plain_types.specs.declared.message.Message.TheVariants as message
use Rattle.plain_types.specs.declared.message.ToClient.{ToClient}
use Rattle.plain_tree.specs.History.{stamp_of}
use Rattle.plain_journal.specs.Entries.{applied}
use Rattle.step_table.specs.Legal.{sent_between}
use Rattle.run_laws.specs.Links.{View, mail_of}

-- a message of the server to a client
abbrev pub told_by : Message → Option ToClient
told_by (message.ToClient told) = Some told
told_by other = None

-- those that a node sent in one step
abbrev pub told_in : List Sent → List ToClient
told_in sent = filter_map (λ (m : Sent). told_by m.message) sent

-- all that the server sent to one client along a history, in order
abbrev pub sent_to : ℕ → List Event → List ToClient
sent_to client history = filter_map told_by (sent_between 0 client history)

-- how many entries the journal had when the message was made
abbrev pub entry_of : ToClient → ℕ
entry_of told = (stamp_of told).entry

-- from a number on, no number is below the one before it
abbrev pub NeverFall : ℕ → List ℕ → Type 0
NeverFall low [] = Unit {0}
NeverFall low (n ∷ numbers) = (low ≤ n) × NeverFall n numbers

-- The stamp is one of this journal: it counts no more entries than there are, and names the last snapshot that the first so
-- many made.
abbrev pub IsStampOf : List Entry → ToClient → Type 0
IsStampOf entries told = (entry_of told ≤ length entries) × ((stamp_of told).snap.0 ≡ applied (take (entry_of told) entries))

abbrev pub AllStampsOf : List Entry → List ToClient → Type 0
AllStampsOf entries [] = Unit {0}
AllStampsOf entries (told ∷ more) = IsStampOf entries told × AllStampsOf entries more

-- messages with stamps of these entries that never fall, from one number of entries to another
abbrev pub StampsRise : List Entry → ℕ → ℕ → List ToClient → Type 0
StampsRise entries low high [] = low ≤ high
StampsRise entries low high (told ∷ more) =
    (low ≤ entry_of told) × (entry_of told ≤ high) × ((stamp_of told).snap.0 ≡ applied (take (entry_of told) entries))
    × StampsRise entries (entry_of told) high more

-- From the last stamp that a client heard on, the stamps on the way to it never fall, and none counts more entries than are
-- durable. The last one of its own connection that it heard isn't above the last one at all.
abbrev pub HearsRising : View
HearsRising n c up down s = (c.heard.own ≤ c.heard.any) × StampsRise s.entries c.heard.any s.durable down

-- With what waits to be sent they don't fall either, and none counts more entries than there are.
abbrev pub WillHearRising : View
WillHearRising n c up down s = StampsRise s.entries c.heard.any (length s.entries) (down ++ mail_of n s.mail)

-- A client that isn't frozen heard the last message by its own connection, where by that message's stamp fewer snapshots were
-- made than there are ids for.
abbrev pub HearsOwn : View
HearsOwn n c up down s =
    c.frozen ≡ false → applied (take c.heard.any s.entries) < NOSNAP.0 → c.heard.own ≡ c.heard.any
