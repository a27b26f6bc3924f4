-- What the store serves of a file at a snapshot, over the messages that it took. Where an object's sequence id is below the
-- snapshot's id the object serves its head. Else its clone of the least id that isn't below serves what it kept, if it still
-- lists the snapshot, and nothing is served where none does.
use Rattle.std.specs.Prelude.{ℕ, ◌+◌, ◌*◌, ◌/◌, nat_lt, nat_le, List, [], ◌∷◌, ◌++◌, map, fold, if◌then◌else◌, Option, None, Some}
use Rattle.std.specs.List.{filter_map}
use Rattle.std.specs.Option.{option_map}
use Rattle.snap_ids.specs.declared.id.Ino.{Ino}
use Rattle.snap_ids.specs.declared.id.SnapId.{SnapId}
use Rattle.snap_ids.specs.Context.{is_listed}
use Rattle.plain_types.specs.declared.message.ToStore.{ToStore}
use Rattle.object_log.specs.Bytes.{so_many, byte_after, any_context}
use Rattle.object_log.specs.Objects.{Object, Touch, touch, news, with_clone, object_after, never, kept_clone}

-- a clone's id and ids, and the byte that it keeps at one place of the file
pub record CloneByte : Type 0 where
  pub clone : SnapId × List SnapId
  pub byte : ℕ

-- what the messages so far say of one place of an object: the object, its head's byte there, and each clone that was made
pub record Place : Type 0 where
  pub object : Object
  pub byte : ℕ
  pub kept : List CloneByte

-- the clone that a touch makes of an object's head, if it makes one
abbrev pub made_by : Object → Option Touch → List (SnapId × List SnapId)
made_by object None = []
made_by object (Some t) = with_clone object.head (news object.seq object.purged t.context) []

-- clones that keep a byte
abbrev pub keep_byte : ℕ → List (SnapId × List SnapId) → List CloneByte
keep_byte byte clones = map (λ clone. record { clone = clone; byte = byte }) clones

-- a place of an object after one more message: a clone keeps the byte from before it
abbrev pub place_after : Ino → ℕ → ℕ → ℕ → Place → ToStore → Place
place_after f low high at place message = record {
  object = object_after f low high place.object message;
  byte = byte_after f any_context at place.byte message;
  kept = place.kept ++ keep_byte place.byte (made_by place.object (touch f low high place.object.head message));
}

-- a place of an object that never was
abbrev pub nothing_there : Place
nothing_there = record { object = never; byte = 0; kept = [] }

-- a place of the file's object of this index, where objects have this size
abbrev pub place_of : ℕ → List ToStore → Ino → ℕ → ℕ → Place
place_of size taken f index at = fold (place_after f (index * size) (index * size + size) at) nothing_there taken

-- a clone without the ids that were purged since, if it has others
abbrev pub still_kept : List SnapId → CloneByte → Option CloneByte
still_kept purged kept = option_map (λ (clone : SnapId × List SnapId). record { clone = clone; byte = kept.byte }) (kept_clone purged kept.clone)

-- the clones that are listed, by rising id
abbrev pub still_there : Place → List CloneByte
still_there place = filter_map (still_kept place.object.purged) place.kept

-- the byte of the first clone whose id isn't below a snapshot's, if it lists the snapshot
abbrev pub byte_kept : SnapId → List CloneByte → ℕ
byte_kept s [] = 0
byte_kept s (kept ∷ more) =
    if nat_le s.0 kept.clone.0.0 then (if is_listed s kept.clone.1 then kept.byte else 0) else byte_kept s more

-- the byte that is served at a snapshot
abbrev pub byte_served : SnapId → Place → ℕ
byte_served s place = if nat_lt place.object.seq s.0 then place.byte else byte_kept s (still_there place)

-- the first bytes of a file that are served at a snapshot, where objects have this size
abbrev pub bytes_served : ℕ → List ToStore → Ino → ℕ → SnapId → List ℕ
bytes_served object taken f size s = so_many size (λ at. byte_served s (place_of object taken f (at / object) at))
