-- That the server and its clients name no snapshot before it is made.
use Rattle.std.specs.Prelude.{ℕ, List, take}
use Rattle.std.specs.List.{AllByRecursion}
use Rattle.plain_types.specs.declared.entry.Entry.{Entry}
use Rattle.plain_types.specs.declared.message.ToClient.{ToClient}
use Rattle.plain_tree.specs.History.{stamp_of}
use Rattle.plain_journal.specs.Entries.{applied}
use Rattle.step_table.specs.ServerState.{Server}
use Rattle.run_laws.specs.Links.{View}
use Rattle.run_laws.specs.Stamps.{IsStampOf}
use Rattle.id_laws.specs.Upto.{ToldUpto, SaidUpto, KeepsUpto}

-- The message's stamp is one of these entries, and no context in it names an id above the stamp's: the last snapshot that
-- was made when the message was.
abbrev pub IsOfMade : List Entry → ToClient → Type 0
IsOfMade entries told = IsStampOf entries told × ToldUpto (stamp_of told).snap.0 told

-- What is on its way to a client names snapshots that the durable entries made, up to the one of its stamp.
abbrev pub ToldOfMade : View
ToldOfMade n c up down s = AllByRecursion (IsOfMade (take s.durable s.entries)) down

-- the last snapshot that the durable entries made
abbrev pub durably_applied : Server → ℕ
durably_applied s = applied (take s.durable s.entries)

-- What a client keeps names snapshots that the durable entries made.
abbrev pub KeepsMade : View
KeepsMade n c up down s = KeepsUpto (durably_applied s) c

-- What is on its way from a client names snapshots that the durable entries made.
abbrev pub SaysMade : View
SaysMade n c up down s = AllByRecursion (SaidUpto (durably_applied s)) up
