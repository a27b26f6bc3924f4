-- Which clients are told that the realms of files have changed. Ceph developer guide, CephFS Snapshots.
use Rattle.std.specs.Prelude.{ℕ, ◌<◌, Bool, not, ◌&&◌, ◌||◌, ◌==◌, List, [], ◌∷◌, map, filter, flat_map}
use Rattle.std.specs.List.{AllByRecursion, list_any, list_all, range_with_len}
use Rattle.snap_ids.specs.declared.id.Ino.{Ino}
use Rattle.snap_ids.specs.Context.{Context}
use Rattle.snap_ids.specs.Traces.{context_of}
use Rattle.plain_types.specs.declared.message.FileTrace.{FileTrace}
use Rattle.cap_state.specs.Table.{Holding, writes}
use Rattle.realm_story.specs.Family.{Family, context}
use Rattle.snap_realm.specs.Tree.{Tree, is_there, birth_of, trace_of}

-- a file is held for Write, and has changed
abbrev pub is_told : List Ino → Holding → Bool
is_told changed h = writes h.1.mode && list_any (λ (ino : Ino). ino.0 == h.1.ino.0) changed

-- which client is told of which file, in the order of what is held: by rising inode
abbrev pub told : List Ino → List Holding → List (ℕ × Ino)
told changed held = map (λ (h : Holding). (h.0, h.1.ino)) (filter (is_told changed) held)

-- what one client is told, where this is told of a file
abbrev pub of_client : {A : Type 0} → (Ino → A) → ℕ → List (ℕ × Ino) → List A
of_client f client files = map (λ (file : ℕ × Ino). f file.1) (filter (λ (file : ℕ × Ino). file.0 == client) files)

-- a client of which nothing is to be told isn't told anything
abbrev pub notice : {A : Type 0} → ℕ → List A → List (ℕ × List A)
notice client [] = []
notice client (file ∷ files) = (client, file ∷ files) ∷ []

-- the numbers that clients may have
unfoldable pub clients : List ℕ
clients = range_with_len 0 256

-- for each client, by rising number, what it is told
abbrev pub by_client : {A : Type 0} → (Ino → A) → List (ℕ × Ino) → List (ℕ × List A)
by_client f files = flat_map (λ client. notice client (of_client f client files)) clients

-- a file with the realms that contain it
abbrev pub file_trace : Tree → Ino → FileTrace
file_trace tree ino = record { ino = ino; birth = birth_of tree ino; trace = trace_of tree ino }

-- a file with its context, by the story of the realms
abbrev pub file_context : Family → Ino → Ino × Context
file_context family ino = (ino, context family ino)

-- a file with the context that its trace gives it
abbrev pub as_context : FileTrace → Ino × Context
as_context file = (file.ino, context_of file.trace file.birth)

-- the tree has each file that is told of
abbrev pub has_all : Tree → List Ino → List Holding → Bool
has_all tree changed held = list_all (λ (h : Holding). not (is_told changed h) || is_there tree h.1.ino) held

-- these inodes rise
abbrev pub Rise : List Ino → Type 0
Rise [] = Unit {0}
Rise (ino ∷ inos) = AllByRecursion (λ (later : Ino). ino.0 < later.0) inos × Rise inos

-- the files of an update
abbrev pub files_of : ℕ × List FileTrace → List Ino
files_of update = map (λ (file : FileTrace). file.ino) update.1
