-- What becomes of the sessions.
use Rattle.std.specs.Prelude.{◌≡◌, ◌≤◌, ℕ, ◌-◌, false, ◌==◌, List, [], ◌∷◌, ◌++◌, fold, replicate, set, get_or, if◌then◌else◌, Option, None, Some}
use Rattle.plain_types.specs.declared.change.Change.{Change}
use Rattle.plain_types.specs.declared.entry.Entry.{Entry}
use Rattle.plain_tree.specs.Line.{answer_to}
use Rattle.plain_journal.specs.Entries.{change_in}
use Rattle.plain_journal.specs.Table.{is_flush}
use Rattle.session_link.specs.Sessions.{Link, first}
use Rattle.step_table.specs.ServerState.{Server}

-- the session of a client, which are numbered from 1
abbrev pub at_client : List Link → ℕ → Link
at_client sessions client = get_or sessions (client - 1) first

-- the sessions after a change of one client's
abbrev pub with_session : ℕ → (Link → Link) → List Link → List Link
with_session client change sessions = set sessions (client - 1) (change (at_client sessions client))

-- a connection is taken, as `connect` leaves it, and lost, as `lose` does
abbrev pub connected_at : ℕ → Link → Link
connected_at conn link = record link { current = conn }

abbrev pub lost : Link → Link
lost link = record link { current = 0 }

-- a request had its effect, as `had_effect` leaves it
abbrev pub effect_noted : Option Change → ℕ → Link → Link
effect_noted None number link = link
effect_noted (Some change) number link = record link { completed = Some (record { tid = number; answer = answer_to change }) }

-- what an entry says of its client's session: a flush was taken, as `flush_taken` leaves it, or a request had its effect
abbrev pub noted : Entry → Link → Link
noted e link =
    if is_flush e.what then record link { last_flush = e.number } else effect_noted (change_in e.what) e.number link

-- the sessions after an entry; one of the server's own leaves them
abbrev pub called : Entry → List Link → List Link
called e sessions = if e.client == 0 then sessions else with_session e.client (noted e) sessions

-- the entry is of one of the clients, or the server's own, and then neither a flush nor an effect
abbrev pub IsOf : ℕ → Entry → Type 0
IsOf clients e =
    (e.client ≤ clients) × (e.client ≡ 0 → (is_flush e.what ≡ false) × (change_in e.what ≡ None))

abbrev pub AllOf : ℕ → List Entry → Type 0
AllOf clients [] = Unit {0}
AllOf clients (e ∷ entries) = IsOf clients e × AllOf clients entries

-- a state has one entry more than another, and the same connections
pub record Enters (e : Entry) (s new : Server) : Type 0 where
  pub clients : new.clients ≡ s.clients
  pub current : new.current ≡ s.current
  pub entries : new.entries ≡ s.entries ++ e ∷ []

-- the sessions after a restart, from the entries that are left
abbrev pub sessions_from : ℕ → List Entry → List Link
sessions_from clients entries = fold (λ (sessions : List Link) (e : Entry). called e sessions) (replicate clients (lost first)) entries
