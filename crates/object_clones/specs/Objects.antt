-- An object as contracts see it, and what the calls do to it.
use Rattle.std.specs.Prelude.{ℕ, ◌+◌, ◌-◌, ◌≡◌, ◌<◌, ◌^◌, max, min, Bool, not, ◌&&◌, nat_lt, nat_le, List, [], ◌∷◌, ◌++◌, length, map, filter, take, slice_range, if◌then◌else◌, Option, None, Some}
use Rattle.std.specs.Option.{option_map, option_to_list}
use Rattle.snap_ids.specs.declared.id.SnapId.{SnapId}
use Rattle.snap_ids.specs.declared.values.CloneList.{CloneList}
use Rattle.snap_ids.specs.Context.{Context, is_listed}
use Rattle.object_clones.specs.declared.object.Saved.{Saved}
use Rattle.object_clones.specs.declared.object.Object.{Object}
use Rattle.object_clones.specs.declared.object.Change.{Change}
use Rattle.object_clones.specs.declared.object.Edit.{Edit}
use Rattle.object_clones.specs.declared.object.Edit.TheVariants.{Write, Cut, Delete}
use Rattle.object_clones.specs.Bytes.{written, or_empty}

-- a clone: its id, the ids that it serves, and its bytes
pub record Kept : Type 0 where
  pub id : SnapId
  pub ids : List SnapId
  pub bytes : List ℕ

-- an object: its sequence id, its head's bytes, where it has a head, and its clones, the oldest first
pub record Plain : Type 0 where
  pub seq : ℕ
  pub head : Option (List ℕ)
  pub clones : List Kept

-- an object that never was
abbrev pub blank : Plain
blank = record { seq = 0; head = None; clones = [] }

abbrev pub kept : Saved → Kept
kept saved = record { id = saved.id; ids = saved.ids.items; bytes = saved.bytes }

-- an object without regard to where its newest clone stands
abbrev pub plain : Object → Plain
plain o = record {
  seq = o.seq.0;
  head = o.head;
  clones = map kept o.older.items ++ option_to_list (option_map kept o.newest);
}

-- the ids of a context that are news to an object, and weren't purged
abbrev pub news : (SnapId → Bool) → ℕ → Context → List SnapId
news gone seq context = filter (λ s. nat_lt seq s.0 && not (gone s)) context.ids

-- the head after a write that has a byte in the object, which has so many of the file's bytes from `low` on
abbrev pub head_written : ℕ → ℕ → ℕ → List ℕ → Option (List ℕ) → Option (Option (List ℕ))
head_written low size offset bytes head =
    let from = max low offset in
    let upto = min (low + size) (offset + length bytes) in
    if nat_lt from upto
    then Some (Some (written (or_empty head) (from - low) (slice_range bytes (from - offset) (upto - offset))))
    else None

-- the head after a cut, where it reaches past the new length
abbrev pub head_cut : ℕ → ℕ → Option (List ℕ) → Option (Option (List ℕ))
head_cut low length None = None
head_cut low size (Some head) =
    if nat_lt size (low + length head) then Some (if nat_le size low then None else Some (take (size - low) head)) else None

-- the head after a delete, where there was one
abbrev pub head_deleted : Option (List ℕ) → Option (Option (List ℕ))
head_deleted None = None
head_deleted (Some head) = Some None

-- a write ends at an offset of 32 bits
abbrev pub IsSmall : Edit → Type 0
IsSmall (Write offset bytes) = offset + length bytes.now < 2 ^ 32
IsSmall (Cut length) = Unit {0}
IsSmall Delete = Unit {0}

-- the head after an edit that touches the object
abbrev pub head_after : ℕ → ℕ → Edit → Option (List ℕ) → Option (Option (List ℕ))
head_after low size (Write offset bytes) head = head_written low size offset bytes.now head
head_after low size (Cut length) head = head_cut low length head
head_after low size Delete head = head_deleted head

-- what an edit does to an object that it touches: the ids that are news to the object, and its head afterwards
pub record Next : Type 0 where
  pub ids : List SnapId
  pub head : Option (List ℕ)

abbrev pub next : Change → Next
next change = record { ids = change.ids.items; head = change.head }

-- what an edit does to an object, where it touches it
abbrev pub change_of : (SnapId → Bool) → ℕ → ℕ → Edit → Context → Plain → Option Next
change_of gone low size edit context o =
    option_map (λ (head : Option (List ℕ)). record { ids = news gone o.seq context; head = head }) (head_after low size edit o.head)

-- a head is kept for the ids that are news, if there are any
abbrev pub with_kept : Option (List ℕ) → List SnapId → List Kept → List Kept
with_kept (Some bytes) (s ∷ ids) clones = clones ++ record { id = s; ids = s ∷ ids; bytes = bytes } ∷ []
with_kept head ids clones = clones

-- an object after a change under a sequence id
abbrev pub changed : ℕ → Option Next → Plain → Plain
changed seq None o = o
changed seq (Some n) o = record { seq = max o.seq seq; head = n.head; clones = with_kept o.head n.ids o.clones }

-- an object after an edit
abbrev pub edited : (SnapId → Bool) → ℕ → ℕ → Edit → Context → Plain → Plain
edited gone low size edit context o = changed context.seq.0 (change_of gone low size edit context o) o

-- a clone without an id
abbrev pub without : SnapId → Kept → Kept
without s c = record c { ids = filter (λ id. not (is_listed id (s ∷ []))) c.ids }

-- a clone serves an id
abbrev pub serves_some : Kept → Bool
serves_some c = nat_lt 0 (length c.ids)

-- the clones after a purge
abbrev pub purged_clones : SnapId → List Kept → List Kept
purged_clones s clones = filter serves_some (map (without s) clones)

-- an object after a purge
abbrev pub purged : SnapId → Plain → Plain
purged s o = record o { clones = purged_clones s o.clones }

-- a purge of an id leaves an object as it is
abbrev pub IsLeft : SnapId → Plain → Type 0
IsLeft s o = purged s o ≡ o

-- the bytes of the first clone whose id isn't below a snapshot's, if it serves the snapshot
abbrev pub clone_at : SnapId → List Kept → Option (List ℕ)
clone_at s [] = None
clone_at s (c ∷ clones) =
    if nat_le s.0 c.id.0 then (if is_listed s c.ids then Some c.bytes else None) else clone_at s clones

-- the bytes at a snapshot
abbrev pub bytes_at_snap : SnapId → Plain → Option (List ℕ)
bytes_at_snap s o = if nat_lt o.seq s.0 then o.head else clone_at s o.clones

-- the head's bytes, or those at a snapshot
abbrev pub bytes_shown : Option SnapId → Plain → Option (List ℕ)
bytes_shown None o = o.head
bytes_shown (Some s) o = bytes_at_snap s o

-- what is listed of an object
abbrev pub list_of : Plain → CloneList
list_of o = record { clones = map (λ (c : Kept). (c.id, c.ids)) o.clones; head = option_map length o.head }

-- there is an object, with room for a clone
abbrev pub HasRoom : Option Object → Type 0
HasRoom None = ⊥
HasRoom (Some o) = o.newest ≡ None
