-- When a file's bytes at a snapshot are known at the store.
use Rattle.std.specs.Prelude.{Bool, true, not, ◌&&◌, ◌||◌, ◌==◌, List, [], ◌∷◌, if◌then◌else◌, Option, None, Some}
use Rattle.std.specs.List.{list_all, filter_map}
use Rattle.snap_ids.specs.declared.id.Ino.{Ino}
use Rattle.snap_ids.specs.declared.id.SnapId.{SnapId}
use Rattle.snap_ids.specs.Context.{Context, is_listed}
use Rattle.plain_types.specs.declared.message.ToStore.{ToStore}
use Rattle.plain_types.specs.declared.message.ToStore.TheVariants.{WriteAt, Cut, Delete}
use Rattle.object_log.specs.Bytes.{is_before}

-- the context of a message that changes the file
abbrev pub context_for : Ino → ToStore → Option Context
context_for f (WriteAt ino offset bytes context) = if ino.0 == f.0 then Some context else None
context_for f (Cut ino length context) = if ino.0 == f.0 then Some context else None
context_for f (Delete ino context) = if ino.0 == f.0 then Some context else None
context_for f message = None

-- the contexts of the messages that change the file, in their order
abbrev pub contexts_for : Ino → List ToStore → List Context
contexts_for f taken = filter_map (context_for f) taken

-- each context with a sequence id of at least the snapshot's id lists the snapshot
abbrev pub later_ones_list : SnapId → List Context → Bool
later_ones_list s contexts = list_all (λ context. is_before s context || is_listed s context.ids) contexts

-- no context with a sequence id below the snapshot's id comes after one with at least that
abbrev pub earlier_ones_first : SnapId → List Context → Bool
earlier_ones_first s [] = true
earlier_ones_first s (context ∷ contexts) =
    if is_before s context then earlier_ones_first s contexts else list_all (λ later. not (is_before s later)) contexts

-- The messages that change the file fall in two parts: those made before the snapshot, and then those whose contexts
-- list it.
abbrev pub know_snapshot : SnapId → Ino → List ToStore → Bool
know_snapshot s f taken = later_ones_list s (contexts_for f taken) && earlier_ones_first s (contexts_for f taken)
