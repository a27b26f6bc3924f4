-- What a client knows of the contexts of the files that it holds for writing.
use Rattle.std.specs.Prelude.{ℕ, ◌<◌, ◌==◌, nat_lt, List, [], ◌∷◌, if◌then◌else◌, Option, None, Some}
use Rattle.std.specs.List.{filter_map}
use Rattle.std.specs.Map.{lookup}
use Rattle.std.specs.Ordering.{nat_cmp}
use Rattle.std.specs.BTreeMap.{is_at}
use Rattle.snap_ids.specs.declared.id.Ino.{Ino}
use Rattle.snap_ids.specs.declared.id.SnapId.{SnapId}
use Rattle.snap_ids.specs.declared.id.TheConstants.{NOSNAP}
use Rattle.snap_ids.specs.Context.{Context}
use Rattle.snap_ids.specs.Traces.{context_of}
use Rattle.plain_types.specs.declared.message.FileTrace.{FileTrace}

-- the context of a file among those held, by their inodes
abbrev pub held_in : List (ℕ × Context) → Ino → Option Context
held_in files ino = lookup (is_at (nat_cmp ino.0)) files

-- the context that a file's trace gives it
abbrev pub context_by : FileTrace → Context
context_by file = context_of file.trace file.birth

-- a file's inode and old sequence id, where its context has a greater one
abbrev pub grown_from : FileTrace → Option Context → Option (Ino × SnapId)
grown_from file None = None
grown_from file (Some old) = if nat_lt old.seq.0 (context_by file).seq.0 then Some (file.ino, old.seq) else None

-- the held files whose sequence id grows, each with the old one
abbrev pub grown : List (ℕ × Context) → List FileTrace → List (Ino × SnapId)
grown files update = filter_map (λ file. grown_from file (held_in files file.ino)) update

-- a file's context after an update: the last one that is given for it, else the old one
abbrev pub newest : Ino → List FileTrace → Context → Context
newest ino [] old = old
newest ino (file ∷ update) old = newest ino update (if file.ino.0 == ino.0 then context_by file else old)

-- the trace gives a context: its file was born before the end of all ids
abbrev pub IsBorn : FileTrace → Type 0
IsBorn file = file.birth.0 < NOSNAP.0
