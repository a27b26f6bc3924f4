-- The rows of the store. Its state is the list of the messages that it took, and it answers by that list alone.
use Rattle.std.specs.Prelude.{ℕ, List, [], ◌∷◌, ◌++◌, if◌then◌else◌}
use Rattle.plain_types.specs.declared.history.Sent.{Sent}
use Rattle.plain_types.specs.declared.message.FromStore.{FromStore}
use Rattle.plain_types.specs.declared.message.FromStore.TheVariants.{Stored, Got, NotThere, CloneListIs}
use Rattle.plain_types.specs.declared.message.Message.TheVariants as message
use Rattle.plain_types.specs.declared.message.ToServer.{ToServer}
use Rattle.plain_types.specs.declared.message.ToServer.TheVariants.{Purged, Deleted}
use Rattle.plain_types.specs.declared.message.ToStore.{ToStore}
use Rattle.plain_types.specs.declared.message.ToStore.TheVariants.{WriteAt, Cut, Delete, ReadHead, ReadSnap, ListClones, Purge}
use Rattle.object_log.specs.Bytes.{bytes_head, was_purged}
use Rattle.object_log.specs.Objects.{clones_of}
use Rattle.object_log.specs.Serves.{bytes_served}
use Rattle.step_table.specs.Messages.{to_store_fits}
use Rattle.step_table.specs.Row.{Row, sends}

-- what a client is answered, after the messages that the store took, with objects of this size: at a snapshot each object
-- gives its head or what a clone kept; what only the server sends gets no answer
abbrev pub answers : ℕ → List ToStore → ToStore → List FromStore
answers object taken (WriteAt ino offset bytes context) = Stored ino ∷ []
answers object taken (Cut ino size context) = Stored ino ∷ []
answers object taken (ReadHead key ino size) = Got key (bytes_head taken ino size) ∷ []
answers object taken (ReadSnap key ino size s) =
    (if was_purged s taken then NotThere key else Got key (bytes_served object taken ino size s)) ∷ []
answers object taken (ListClones key ino index) = CloneListIs key (clones_of object taken ino index) ∷ []
answers object taken (Delete ino context) = []
answers object taken (Purge id) = []

-- what the server is answered; what only clients send gets no answer
abbrev pub reports : ToStore → List ToServer
reports (Delete ino context) = Deleted ino ∷ []
reports (Purge id) = Purged id ∷ []
reports order = []

abbrev pub send_answers : ℕ → List FromStore → List Sent
send_answers client [] = []
send_answers client (said ∷ more) = record { to = client; message = message.FromStore said } ∷ send_answers client more

abbrev pub send_reports : List ToServer → List Sent
send_reports [] = []
send_reports (said ∷ more) = record { to = 0; message = message.ToServer said } ∷ send_reports more

-- a message that gets an answer is taken, another one is dropped
abbrev pub takes : List ToStore → ToStore → List Sent → Row (List ToStore)
takes taken order [] = sends taken []
takes taken order (said ∷ more) = sends (taken ++ order ∷ []) (said ∷ more)

-- the store takes from a client, and from the server; a message with a number that can't be is dropped
abbrev pub on_asked : ℕ → List ToStore → ℕ → ToStore → Row (List ToStore)
on_asked object taken client order =
    if to_store_fits order then takes taken order (send_answers client (answers object taken order)) else sends taken []

abbrev pub on_ordered : List ToStore → ToStore → Row (List ToStore)
on_ordered taken order = if to_store_fits order then takes taken order (send_reports (reports order)) else sends taken []
