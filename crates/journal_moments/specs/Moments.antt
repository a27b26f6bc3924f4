-- The ids at which a tree with snapshots is asked for, and what one more entry does to the tree there.
use Rattle.std.specs.Prelude.{◌≡◌, ◌<◌, ◌≤◌, Bool, true, ◌||◌, ◌&&◌, ◌==◌, nat_lt, nat_le, List, [], ◌∷◌, ◌++◌}
use Rattle.std.specs.List.{list_any}
use Rattle.snap_ids.specs.declared.id.SnapId.{SnapId}
use Rattle.snap_ids.specs.declared.id.TheConstants.{NOSNAP}
use Rattle.plain_types.specs.declared.entry.Entry.{Entry}
use Rattle.plain_tree.specs.State.{Snapshot}
use Rattle.plain_journal.specs.Entries.{after_entry, state_after, tree_at, applied}

-- a live snapshot has the id
abbrev pub is_live_snap : SnapId → List Snapshot → Bool
is_live_snap s snaps = list_any (λ (snap : Snapshot). snap.live && snap.id.0 == s.0) snaps

-- the id is above the last one that was made, up to that of what is live
abbrev pub is_above : List Entry → SnapId → Bool
is_above entries s = nat_lt (applied entries) s.0 && nat_le s.0 NOSNAP.0

-- A tree is asked for at the ids of live snapshots, and at those above the last one, where it is as it is now. At the id of
-- a removed snapshot nothing asks.
abbrev pub is_asked : List Entry → SnapId → Bool
is_asked entries s = is_live_snap s (state_after entries).snaps || is_above entries s

-- What one more entry does to the tree at an id: it was asked for before; up to the last id it stays, and above that one
-- the entry changes it.
pub record Moves (entries : List Entry) (e : Entry) (s : SnapId) : Type 0 where
  pub asked : is_asked entries s ≡ true
  pub stays : s.0 ≤ applied (entries ++ e ∷ []) → tree_at (entries ++ e ∷ []) s ≡ tree_at entries s
  pub changes : applied (entries ++ e ∷ []) < s.0 → tree_at (entries ++ e ∷ []) s ≡ after_entry (tree_at entries s) e
