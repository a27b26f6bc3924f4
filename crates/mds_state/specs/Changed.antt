-- Files that are held for Write, with their contexts as they were, and which of these have changed.
use Rattle.std.specs.Prelude.{◌≡◌, ℕ, Bool, true, not, ◌&&◌, ◌==◌, List, map, filter, Option}
use Rattle.std.specs.List.{list_all}
use Rattle.snap_ids.specs.declared.id.Ino.{Ino}
use Rattle.snap_ids.specs.Context.{Context}
use Rattle.plain_types.specs.declared.entry.Entry.{Entry}
use Rattle.plain_journal.specs.Coverage.{context}
use Rattle.plain_journal.specs.Entries.{state_after}
use Rattle.plain_journal.specs.Legal.{is_made_file}
use Rattle.cap_state.specs.Table.{Holding, writes}
use Rattle.step_table.specs.Acts.{same_context}
use Rattle.step_table.specs.ServerState.{Asked, Server}
use Rattle.mds_state.specs.Parts.{Parts}
use Rattle.mds_state.specs.Stands.{StandsFor}

-- a client, a file that it holds for Write, and the file's context
abbrev pub Kept : Type 0
Kept = ℕ × Ino × Context

-- what is held for Write, with the contexts after some entries
abbrev pub kept_in : List Entry → List Holding → List Kept
kept_in entries held = map (λ (h : Holding). (h.0, h.1.ino, context entries h.1.ino)) (filter (λ (h : Holding). writes h.1.mode) held)

-- it is the client's, and the file's context is another one now
abbrev pub is_changed : List Entry → ℕ → Kept → Bool
is_changed now client k = k.0 == client && not (same_context k.2 (context now k.1))

-- the file was made
abbrev pub is_made_kept : List Entry → Kept → Bool
is_made_kept entries k = is_made_file (state_after entries) k.1

-- a client's files whose context is another one now
abbrev pub changed_in : List Entry → ℕ → List Kept → List Ino
changed_in now client kept = map (λ (k : Kept). k.1) (filter (is_changed now client) kept)

-- the parts stand for some state in which these files were made
pub record MayTell (p : Parts) (kept : List Kept) : Type 0 where
  pub taken : Option Asked
  pub state : Server
  pub stands : StandsFor p taken state
  pub made : list_all (is_made_kept state.entries) kept ≡ true
