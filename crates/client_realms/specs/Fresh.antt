-- The contexts that an update gives the held files, before they are put in place.
use Rattle.std.specs.Prelude.{ℕ, ◌==◌, List, [], ◌∷◌, if◌then◌else◌, Option, None, Some}
use Rattle.snap_ids.specs.declared.id.Ino.{Ino}
use Rattle.snap_ids.specs.declared.id.SnapId.{SnapId}
use Rattle.snap_ids.specs.Context.{Context}
use Rattle.plain_types.specs.declared.message.FileTrace.{FileTrace}
use Rattle.client_realms.specs.Contexts.{held_in, context_by, grown_from}

-- a file's growth
abbrev pub growth : List (ℕ × Context) → FileTrace → Option (Ino × SnapId)
growth files file = grown_from file (held_in files file.ino)

-- a file's new context, where it is held
abbrev pub fresh_from : FileTrace → Option Context → Option (Ino × Context)
fresh_from file None = None
fresh_from file (Some old) = Some (file.ino, context_by file)

abbrev pub fresh_of : List (ℕ × Context) → FileTrace → Option (Ino × Context)
fresh_of files file = fresh_from file (held_in files file.ino)

-- a file's context after some new ones
abbrev pub after : Ino → List (Ino × Context) → Context → Context
after ino [] old = old
after ino (fresh ∷ more) old = after ino more (if fresh.0.0 == ino.0 then fresh.1 else old)

-- an item, if there is one, as a list
abbrev pub some_of : {A : Type 0} → Option A → List A
some_of None = []
some_of (Some item) = item ∷ []
