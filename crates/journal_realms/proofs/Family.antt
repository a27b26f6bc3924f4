-- The story that the entries of a journal tell, one entry after another.
use Rattle.std.proofs.Common.{◌≡◌, List, [], ◌∷◌, ◌++◌, Bool, true, false, cond, Option, None, Some, refl, ap}
use Rattle.std.specs.Prelude.{fold}
use Rattle.std.proofs.lemmas.List.Sums.{fold-append}
use Rattle.snap_ids.specs.declared.id.Ino.{Ino}
use Rattle.snap_ids.specs.declared.id.SnapId.{SnapId}
use Rattle.plain_types.specs.declared.entry.Entry.{Entry}
use Rattle.plain_types.specs.declared.entry.What.{What}
use Rattle.plain_types.specs.declared.entry.What.TheVariants as what
use Rattle.plain_tree.specs.State.{State, lookup}
use Rattle.plain_tree.specs.State.{start as empty}
use Rattle.plain_journal.specs.Entries.{after_entry, state_after, applied_by, applied}
use Rattle.realm_story.specs.Family.{Made, Family, start, is_in_global, move_to}
use Rattle.journal_realms.specs.Told.{move_found, forget_found, snap_of, drop_found, told, told_from, family_of}

-- one more entry at the end
from_more : (state : State) (family : Family) (entries : List Entry) (e : Entry) → told_from state family (entries ++ e ∷ []) ≡ told (fold after_entry state entries) e.what (told_from state family entries)
from_more state family [] e = refl
from_more state family (f ∷ entries) e = from_more (after_entry state f) (told state f.what family) entries e

pub family_more : (entries : List Entry) (e : Entry) → family_of (entries ++ e ∷ []) ≡ told (state_after entries) e.what (family_of entries)
family_more entries e = from_more empty start entries e

-- the last id after one more entry
pub applied_more : (entries : List Entry) (e : Entry) → applied (entries ++ e ∷ []) ≡ applied_by (applied entries) e.what
applied_more entries e = fold-append (λ before (x : Entry). applied_by before x.what) 1 entries (e ∷ [])

-- a move changes neither the last id nor the snapshots
pub moved_applied : (x parent : Ino) (family : Family) → (move_to x parent family).applied ≡ family.applied
moved_applied x parent family = go (is_in_global family.members x) family _ refl refl
  where
    go : (b : Bool) (f g : Family) → f.applied ≡ family.applied → g.applied ≡ family.applied → (cond b f g).applied ≡ family.applied
    go true f g same too = same
    go false f g same too = too

found_applied : (found : Option Ino) (parent : Ino) (family : Family) → (move_found found parent family).applied ≡ family.applied
found_applied None parent family = refl
found_applied (Some x) parent family = moved_applied x parent family

forget_applied : (found : Option Ino) (family : Family) → (forget_found found family).applied ≡ family.applied
forget_applied None family = refl
forget_applied (Some x) family = refl

drop_applied : (found : Option Made) (family : Family) → (drop_found found family).applied ≡ family.applied
drop_applied None family = refl
drop_applied (Some snap) family = refl

-- what an entry says of the last id
pub told_applied : (state : State) (w : What) (family : Family) → (told state w family).applied.0 ≡ applied_by family.applied.0 w
told_applied state (what.Unlink dir name) family = ap (λ (s : SnapId). s.0) (found_applied (lookup state.entries dir name) _ family)
told_applied state (what.Rmdir dir name) family = ap (λ (s : SnapId). s.0) (forget_applied (lookup state.entries dir name) family)
told_applied state (what.Rename dir name to_dir to_name) family = ap (λ (s : SnapId). s.0) (found_applied (lookup state.entries dir name) to_dir family)
told_applied state (what.Rmsnap id) family = ap (λ (s : SnapId). s.0) (drop_applied (snap_of family.snaps id) family)
told_applied state w family = refl
