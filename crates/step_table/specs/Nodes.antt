-- The row of a step at each kind of node by itself, with what it is handed.
use Rattle.std.specs.Prelude.{◌≡◌, ℕ, ◌+◌, ◌==◌, List, map, if◌then◌else◌, Option, None, Some}
use Rattle.plain_types.specs.declared.history.Done.{Done}
use Rattle.plain_types.specs.declared.history.Step.{Step}
use Rattle.plain_types.specs.declared.history.Step.TheVariants.{Op, Flush, ClientFromServer, ClientFromStore, ServerTakes, Commit, Restart, Tend, StoreTakes}
use Rattle.plain_types.specs.declared.message.Message.{Message}
use Rattle.plain_types.specs.declared.message.Message.TheVariants.{ToServer, ToClient, ToStore, FromStore}
use Rattle.plain_types.specs.declared.message.ToStore.{ToStore as Order}
use Rattle.step_table.specs.Messages.{plain_sent}
use Rattle.step_table.specs.Row.{Row}
use Rattle.step_table.specs.ServerState.{Server}
use Rattle.step_table.specs.ServerRows.{on_take, on_report, on_commit, on_restart, on_tend}
use Rattle.step_table.specs.ClientState.{Client}
use Rattle.step_table.specs.ClientLines.{on_op, on_flush}
use Rattle.step_table.specs.ClientTakes.{on_told, on_stored}
use Rattle.step_table.specs.StoreRows.{on_asked, on_ordered}

-- the row where the number is this node's
abbrev pub if_node : {S : Type 0} → ℕ → ℕ → Option (Row S) → Option (Row S)
if_node node n row = if n == node then row else None

abbrev pub server_row : Server → Step → Option Message → Option (Row Server)
server_row s (ServerTakes n) (Some (ToServer said)) = Some (if n == s.clients + 1 then on_report s said else on_take s n said)
server_row s Commit None = on_commit s
server_row s (Restart k) None = on_restart s k
server_row s Tend None = on_tend s
server_row s step taken = None

abbrev pub client_row : Client → Step → Option Message → Option (Row Client)
client_row c (Op n) None = if_node c.number n (on_op c)
client_row c (Flush n) None = if_node c.number n (on_flush c)
client_row c (ClientFromServer n) (Some (ToClient told)) = if_node c.number n (Some (on_told c told))
client_row c (ClientFromStore n) (Some (FromStore said)) = if_node c.number n (Some (on_stored c said))
client_row c step taken = None

-- a store with objects of this size
abbrev pub store_row : ℕ → List Order → Step → Option Message → Option (Row (List Order))
store_row object taken (StoreTakes n) (Some (ToStore order)) =
    Some (if n == 0 then on_ordered taken order else on_asked object taken n order)
store_row object taken step other = None

-- what a node says that it did is what the row says, all but the traces in what it sent, which give the same contexts
pub record IsDone {S : Type 0} (done : Done) (row : Row S) : Type 0 where
  pub sent : map plain_sent done.sent ≡ map plain_sent row.sent
  pub effects : done.effects ≡ row.effects
  pub replies : done.replies ≡ row.replies

-- a node goes from one state to another by a row, and says so
abbrev pub IsRow : {S : Type 0} → Option (Row S) → Done → S → Type 0
IsRow None done new = ⊥
IsRow (Some row) done new = IsDone done row × (new ≡ row.state)
