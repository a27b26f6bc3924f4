-- What a state of the server's table says of the clients' sessions.
use Rattle.std.specs.Prelude.{◌≡◌, ℕ, List, map, Option, None, Some}
use Rattle.plain_types.specs.declared.answer.Answer.{Answer}
use Rattle.plain_journal.specs.Table.{last_effect, last_flush}
use Rattle.session_link.specs.Sessions.{Completed, Link}
use Rattle.step_table.specs.ServerState.{Server, up_to, number_of, connection}

-- the last request that had an effect, with its answer
abbrev pub completed_of : Option (ℕ × Answer) → Option Completed
completed_of None = None
completed_of (Some kept) = Some (record { tid = kept.0; answer = kept.1 })

-- a client's session: its connection, 0 where it has none, and what the entries say of its requests and flushes
abbrev pub session_of : Server → ℕ → Link
session_of s client = record {
  current = connection s client;
  completed = completed_of (last_effect s.entries client);
  last_flush = last_flush s.entries client;
}

-- Sessions stand for a table state: one for each client, by its number. Connections are numbered from 1.
pub record SessionsStand (sessions : List Link) (s : Server) : Type 0 where
  pub each : sessions ≡ map (session_of s) (up_to s.clients)
  pub numbered : (client : ℕ) → number_of s.current client ≡ Some 0 → ⊥
