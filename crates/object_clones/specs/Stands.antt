-- When a store is what the messages that it took make of it.
use Rattle.std.specs.Prelude.{ℕ, ◌≡◌, ◌+◌, ◌*◌, ◌<◌, ◌≤◌, Bool, true, false, ◌&&◌, List, [], ◌∷◌, length, map, slice_index}
use Rattle.std.specs.List.{list_all, filter_map}
use Rattle.std.specs.Option.{option_map}
use Rattle.snap_ids.specs.declared.id.Ino.{Ino}
use Rattle.snap_ids.specs.declared.id.SnapId.{SnapId}
use Rattle.snap_ids.specs.Context.{Context, is_listed}
use Rattle.plain_types.specs.declared.message.ToStore.{ToStore}
use Rattle.object_log.specs.Bytes.{byte_of, any_context, is_before, was_purged}
use Rattle.object_log.specs.Objects.{object_of, kept_clone}
use Rattle.object_log.specs.Objects as log
use Rattle.object_log.specs.Reads.{contexts_for, later_ones_list, earlier_ones_first}
use Rattle.object_log.specs.Serves.{CloneByte, place_of, still_there}
use Rattle.object_clones.specs.Bytes.{or_empty}
use Rattle.object_clones.specs.Objects.{Kept, Plain, bytes_at_snap}
use Rattle.object_clones.specs.Purged.{has_id}
use Rattle.object_clones.specs.Store.{Shown, object_at}

-- each id is above one number and at most another
abbrev pub Between : ℕ → ℕ → List SnapId → Type 0
Between low high [] = Unit {0}
Between low high (s ∷ ids) = (low < s.0) × (s.0 ≤ high) × Between low high ids

-- the clones' ids rise up to a number, and each clone serves ids above that of the one before
abbrev pub Rising : ℕ → List Kept → ℕ → Type 0
Rising low [] seq = low ≤ seq
Rising low (c ∷ clones) seq = (low ≤ c.id.0) × Between low c.id.0 c.ids × Rising c.id.0 clones seq

-- a clone's id and ids
abbrev pub pair : Kept → SnapId × List SnapId
pair c = (c.id, c.ids)

-- a clone's id and ids, and its byte at a place
abbrev pub kept_at : ℕ → Kept → CloneByte
kept_at j c = record { clone = pair c; byte = slice_index c.bytes j }

-- An object is the one that the messages make, of which these are known: what the log says of it, its file's bytes
-- there after those messages whose context passes a test, the contexts of those that change its file, and what they
-- purged.
pub record IsObject (size : ℕ) (l : log.Object) (byte : (Context → Bool) → ℕ → ℕ) (contexts : List Context) (gone : SnapId → Bool) (o : Plain) : Type 0 where
  pub seq : o.seq ≡ l.seq
  pub head : option_map length o.head ≡ l.head
  pub bytes : (j : ℕ) → j < size → slice_index (or_empty o.head) j ≡ byte any_context j
  pub clones : map pair o.clones ≡ filter_map (kept_clone l.purged) l.clones
  pub purged : (s : SnapId) → is_listed s l.purged ≡ gone s
  pub rising : Rising 0 o.clones o.seq
  pub below : (s : SnapId) → list_all (is_before s) contexts ≡ true → 0 < s.0 → o.seq < s.0
  pub all_before : (s : SnapId) → list_all (is_before s) contexts ≡ true → (j : ℕ) → byte (is_before s) j ≡ byte any_context j
  pub reads : (s : SnapId) → gone s ≡ false → (later_ones_list s contexts && earlier_ones_first s contexts) ≡ true
      → (j : ℕ) → j < size → slice_index (or_empty (bytes_at_snap s o)) j ≡ byte (is_before s) j

-- The store stands for the messages: objects have this size, what was purged is known, each object shown is the one that
-- the messages make, and so is each byte that its clones keep.
pub record StandsFor (shown : Shown) (size : ℕ) (taken : List ToStore) : Type 0 where
  pub of_size : shown.size ≡ size
  pub some : 0 < size
  pub purged : (s : SnapId) → has_id shown.purged s ≡ was_purged s taken
  pub objects : (f : Ino) (index : ℕ) → IsObject size (object_of size taken f index) (λ counts j. byte_of taken f counts (index * size + j))
      (contexts_for f taken) (λ s. was_purged s taken) (object_at shown f.0 index)
  pub kept : (f : Ino) (index j : ℕ) → j < size
      → map (kept_at j) (object_at shown f.0 index).clones ≡ still_there (place_of size taken f index (index * size + j))
