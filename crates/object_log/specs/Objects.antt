-- Which clones an object has, over the messages that the store took. A file's bytes are kept in objects of one size,
-- numbered from 0. An object has a sequence id, and a head where the file has bytes there. A message that touches it
-- leaves a clone of its head for the snapshots that are news to it. Ceph developer guide, CephFS Snapshots, has this in
-- outline; the exact rule is this project's own.
use Rattle.std.specs.Prelude.{ℕ, ◌+◌, ◌-◌, ◌*◌, max, min, Bool, not, ◌&&◌, ◌==◌, nat_lt, nat_le, List, [], ◌∷◌, ◌++◌, length, filter, fold, if◌then◌else◌, Option, None, Some, is_some}
use Rattle.std.specs.List.{filter_map}
use Rattle.snap_ids.specs.declared.id.Ino.{Ino}
use Rattle.snap_ids.specs.declared.id.SnapId.{SnapId}
use Rattle.snap_ids.specs.declared.values.CloneList.{CloneList}
use Rattle.snap_ids.specs.Context.{Context, is_listed}
use Rattle.plain_types.specs.declared.message.ToStore.{ToStore}
use Rattle.plain_types.specs.declared.message.ToStore.TheVariants.{WriteAt, Cut, Delete, Purge}

-- What the messages so far say of an object: the ids that they purged, the greatest sequence id of those that touched
-- the object, how long its head is, and for each clone that was made its id and the ids that it was made for.
pub record Object : Type 0 where
  pub purged : List SnapId
  pub seq : ℕ
  pub head : Option ℕ
  pub clones : List (SnapId × List SnapId)

-- where a head that begins at `low` ends
abbrev pub end_of : ℕ → Option ℕ → ℕ
end_of low None = 0
end_of low (Some n) = low + n

-- how long a head is, none being empty
abbrev pub length_of : Option ℕ → ℕ
length_of None = 0
length_of (Some n) = n

-- bytes from one offset up to another are there in both ranges
abbrev pub meets : ℕ → ℕ → ℕ → ℕ → Bool
meets low high from upto = nat_lt (max low from) (min high upto)

-- a message's touch of an object: its context, and how long the head is afterwards
pub record Touch : Type 0 where
  pub context : Context
  pub head : Option ℕ

-- What a message does to the object that has the file's bytes from `low` up to `high`. A write touches it with a byte
-- there, a cut where the head reaches past the new length, a delete where there is a head.
abbrev pub touch : Ino → ℕ → ℕ → Option ℕ → ToStore → Option Touch
touch f low high head (WriteAt ino offset bytes context) =
    if ino.0 == f.0 && meets low high offset (offset + length bytes)
    then Some (record { context = context; head = Some (max (length_of head) (min high (offset + length bytes) - low)) })
    else None
touch f low high head (Cut ino length context) =
    if ino.0 == f.0 && nat_lt length (end_of low head)
    then Some (record { context = context; head = if nat_le length low then None else Some (length - low) })
    else None
touch f low high head (Delete ino context) =
    if ino.0 == f.0 && is_some head then Some (record { context = context; head = None }) else None
touch f low high head message = None

-- the ids of a context that are news to an object, and weren't purged
abbrev pub news : ℕ → List SnapId → Context → List SnapId
news seq purged context = filter (λ s. nat_lt seq s.0 && not (is_listed s purged)) context.ids

-- a head is cloned for the ids that are news, if there are any, and the clone is named by the first, which is the greatest
abbrev pub with_clone : Option ℕ → List SnapId → List (SnapId × List SnapId) → List (SnapId × List SnapId)
with_clone (Some n) (s ∷ ids) clones = clones ++ (s, s ∷ ids) ∷ []
with_clone head ids clones = clones

-- an object after a touch
abbrev pub touched : Object → Option Touch → Object
touched object None = object
touched object (Some t) = record object {
  seq = max object.seq t.context.seq.0;
  head = t.head;
  clones = with_clone object.head (news object.seq object.purged t.context) object.clones;
}

-- the ids that are purged after one more message
abbrev pub purged_after : List SnapId → ToStore → List SnapId
purged_after purged (Purge id) = id ∷ purged
purged_after purged message = purged

-- an object after one more message
abbrev pub object_after : Ino → ℕ → ℕ → Object → ToStore → Object
object_after f low high object message =
    touched (record object { purged = purged_after object.purged message }) (touch f low high object.head message)

-- an object that never was
abbrev pub never : Object
never = record { purged = []; seq = 0; head = None; clones = [] }

-- the file's object of this index, where objects have this size
abbrev pub object_of : ℕ → List ToStore → Ino → ℕ → Object
object_of size taken f index = fold (object_after f (index * size) (index * size + size)) never taken

-- a clone without the ids that were purged since, if it has others
abbrev pub kept_clone : List SnapId → SnapId × List SnapId → Option (SnapId × List SnapId)
kept_clone purged clone = elim (filter (λ s. not (is_listed s purged)) clone.1) [ [] ↦ None | s ∷ ids ↦ Some (clone.0, s ∷ ids) ]

-- what is listed of an object: the clones, by rising id, whose ids aren't all purged, and the head's length
abbrev pub listed : Object → CloneList
listed object = record { clones = filter_map (kept_clone object.purged) object.clones; head = object.head }

-- the clones of the file's object of this index
abbrev pub clones_of : ℕ → List ToStore → Ino → ℕ → CloneList
clones_of size taken f index = listed (object_of size taken f index)
