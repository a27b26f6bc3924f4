-- Which states of the protocol's table the parts of a server stand for.
use Rattle.std.specs.Prelude.{◌≡◌, ℕ, ◌+◌, ◌<◌, Bool, true, List, [], ◌∷◌, ◌++◌, length, map, drop, Option, None}
use Rattle.std.specs.List.{list_all}
use Rattle.plain_types.specs.declared.entry.Entry.{Entry}
use Rattle.plain_types.specs.declared.history.Sent.{Sent}
use Rattle.plain_types.specs.declared.message.Message.{Message}
use Rattle.plain_types.specs.declared.message.Message.TheVariants as message
use Rattle.plain_types.specs.declared.message.ToClient.{ToClient}
use Rattle.plain_types.specs.declared.message.ToClient.TheVariants as to_client
use Rattle.plain_journal.specs.Entries.{state_after}
use Rattle.plain_journal.specs.Legal.{is_legal, is_made_file}
use Rattle.plain_journal.specs.Table.{next_snap, outstanding, is_flush, last_flush}
use Rattle.cap_state.specs.Table.{IsTable}
use Rattle.journal_table.specs.Calls.{IsRuled}
use Rattle.journal_table.specs.Stands.{TableStands}
use Rattle.meta_state.specs.Stands as meta
use Rattle.server_holders.specs.Answers.{are_clients}
use Rattle.server_holders.specs.Stands.{HoldersStand}
use Rattle.server_sessions.specs.Calls.{IsOf, AllOf}
use Rattle.server_sessions.specs.Sessions.{SessionsStand}
use Rattle.step_table.specs.Background.{removed}
use Rattle.step_table.specs.Capabilities.{OneWriter}
use Rattle.step_table.specs.Messages.{plain_sent, trace_fits}
use Rattle.step_table.specs.ServerState.{Asked, Holder, Server}
use Rattle.mds_state.specs.Parts.{WrittenParts, TenureParts, Parts, marks_in}

-- an entry may follow: the journal allows it, the server's rules make it, and the number of a flush is above that of the
-- client's last one
pub record MayFollow (clients : ℕ) (entries : List Entry) (entry : Entry) : Type 0 where
  pub legal : is_legal entries entry ≡ true
  pub ruled : IsRuled entries entry.what
  pub whose : IsOf clients entry
  pub rises : is_flush entry.what ≡ true → last_flush entries entry.client < entry.number

-- each of some entries may follow those before it
abbrev pub AllFollow : ℕ → List Entry → List Entry → Type 0
AllFollow clients done [] = Unit {0}
AllFollow clients done (entry ∷ entries) = MayFollow clients done entry × AllFollow clients (done ++ entry ∷ []) entries

-- the tree, the table and what isn't durable stand for the entries of a journal, so many of which are durable; each entry
-- is of one of the clients, or the server's own, and may follow those before it
pub record WrittenStands (w : WrittenParts) (clients : ℕ) (entries : List Entry) (done : ℕ) : Type 0 where
  pub tree : meta.StandsFor w.tree entries
  pub table : TableStands w.table entries
  pub next : w.next ≡ next_snap entries
  pub operation : w.outstanding ≡ outstanding entries
  pub durable : w.durable ≡ done
  pub buffered : w.buffered ≡ drop done entries
  pub count : done + length w.buffered ≡ length entries
  pub removing : w.removing ≡ removed w.buffered
  pub of_clients : AllOf clients entries
  pub all : AllFollow clients [] entries

-- the file of a holder was made
abbrev pub is_of_file : List Entry → Holder → Bool
is_of_file entries h = is_made_file (state_after entries) h.ino

-- holdings and marks stand for holders that are clients, of files that were made, with one writer each
pub record TenuresStand (t : TenureParts) (clients : ℕ) (entries : List Entry) (holders : List Holder) : Type 0 where
  pub table : IsTable t.holdings
  pub stands : HoldersStand t.holdings (marks_in t.marks) holders
  pub alone : OneWriter holders
  pub theirs : are_clients clients holders ≡ true
  pub made : list_all (is_of_file entries) holders ≡ true

-- a state with these clients, entries and connections, and nothing else
abbrev pub bare : ℕ → List Entry → List (ℕ × ℕ) → Server
bare clients entries current = record {
  clients = clients;
  entries = entries;
  durable = 0;
  mail = [];
  hand = None;
  current = current;
  holders = [];
  held = [];
  deferred = [];
  operation = None;
  purging = [];
  deleting = [];
}

-- a message that isn't sent, with each trace as the table writes one that gives the same context
abbrev pub plain_mail : ℕ × Sent → ℕ × Sent
plain_mail letter = (letter.0, plain_sent letter.1)

-- all ids in the traces that a client is told can be
abbrev pub told_traces_fit : ToClient → Bool
told_traces_fit (to_client.Grant conn tid stamp ino mode size file) = trace_fits file
told_traces_fit (to_client.Notice conn stamp update) = list_all trace_fits update
told_traces_fit (to_client.Welcome conn stamp flushed update) = list_all trace_fits update
told_traces_fit told = true

-- in the traces of a message
abbrev pub traces_fit : Message → Bool
traces_fit (message.ToClient told) = told_traces_fit told
traces_fit other = true

-- of a message that is sent
abbrev pub sent_traces_fit : Sent → Bool
sent_traces_fit sent = traces_fit sent.message

-- of one that isn't
abbrev pub letter_traces_fit : ℕ × Sent → Bool
letter_traces_fit letter = sent_traces_fit letter.1

-- the parts of a server stand for a state of the table, with this request in hand: the code passes the request, and the
-- parts don't have it
pub record StandsFor (p : Parts) (taken : Option Asked) (s : Server) : Type 0 where
  pub clients : p.clients ≡ s.clients
  pub written : WrittenStands p.written s.clients s.entries s.durable
  pub sessions : SessionsStand p.sessions (bare s.clients s.entries s.current)
  pub tenures : TenuresStand p.tenures s.clients s.entries s.holders
  pub mail : map plain_mail p.mail ≡ s.mail
  pub traces : list_all letter_traces_fit p.mail ≡ true
  pub hand : s.hand ≡ taken
  pub held : p.held ≡ s.held
  pub deferred : p.deferred ≡ s.deferred
  pub operation : p.operation ≡ s.operation
  pub purging : p.purging ≡ s.purging
  pub deleting : p.deleting ≡ s.deleting

-- they stand for some state
pub record IsState (p : Parts) : Type 0 where
  pub taken : Option Asked
  pub state : Server
  pub stands : StandsFor p taken state

-- what is written down stands for some entries that one more may follow
pub record MayEnter (w : WrittenParts) (entry : Entry) : Type 0 where
  pub clients : ℕ
  pub entries : List Entry
  pub done : ℕ
  pub stands : WrittenStands w clients entries done
  pub may : MayFollow clients entries entry

-- the parts stand for some state that an entry may follow
pub record MayBuffer (p : Parts) (entry : Entry) : Type 0 where
  pub taken : Option Asked
  pub state : Server
  pub stands : StandsFor p taken state
  pub may : MayFollow state.clients state.entries entry

-- a state with one more entry, and nobody told
abbrev pub entered : Server → Entry → Server
entered s entry = record s { entries = s.entries ++ entry ∷ [] }
