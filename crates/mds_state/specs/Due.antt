-- What the background turn has to do.
use Rattle.std.specs.Prelude.{Bool, not, ◌&&◌, List, if◌then◌else◌}
use Rattle.std.specs.List.{list_any}
use Rattle.snap_ids.specs.declared.id.Ino.{Ino}
use Rattle.snap_ids.specs.declared.id.SnapId.{SnapId}
use Rattle.snap_ids.specs.Context.{is_listed}
use Rattle.plain_tree.specs.State.{same_ino}
use Rattle.held_files.specs.Files.{is_empty}
use Rattle.cap_state.specs.Table.{Holding, holders_of, is_at}
use Rattle.mds_state.specs.Parts.{TenureParts, marks_in}

-- no entry that isn't durable removes the id, and its purge wasn't sent
abbrev pub is_unsent : List SnapId → List SnapId → SnapId → Bool
is_unsent removing purging id = not (is_listed id removing) && not (is_listed id purging)

-- a holder wasn't asked to give the file back
abbrev pub is_unasked : TenureParts → Ino → Holding → Bool
is_unasked t ino h = not (list_any (is_at h.0 ino) t.holdings && marks_in t.marks h.0 ino)

-- a dead file has a holder that wasn't asked to give it back, or no holder and its deletion wasn't sent
abbrev pub is_due : TenureParts → List Ino → Ino → Bool
is_due t deleting ino =
    if is_empty (holders_of ino t.holdings) then not (list_any (same_ino ino) deleting)
    else list_any (is_unasked t ino) (holders_of ino t.holdings)
