-- What the bytes of a file at the object store are, over the messages that the store took, the oldest first.
use Rattle.std.specs.Prelude.{ℕ, ◌-◌, Bool, true, false, ◌&&◌, ◌==◌, nat_lt, List, map, fold, slice_index_or, if◌then◌else◌}
use Rattle.std.specs.List.{range_with_len, list_any}
use Rattle.snap_ids.specs.declared.id.Ino.{Ino}
use Rattle.snap_ids.specs.declared.id.SnapId.{SnapId}
use Rattle.snap_ids.specs.Context.{Context}
use Rattle.plain_types.specs.declared.message.ToStore.{ToStore}
use Rattle.plain_types.specs.declared.message.ToStore.TheVariants.{WriteAt, Cut, Delete, Purge}

-- so many bytes, each given by its place
abbrev pub so_many : ℕ → (ℕ → ℕ) → List ℕ
so_many size byte = map byte (range_with_len 0 size)

-- the byte at a place after bytes were laid over it from an offset on
abbrev pub laid : ℕ → ℕ → List ℕ → ℕ → ℕ
laid place offset bytes byte = if nat_lt place offset then byte else slice_index_or bytes (place - offset) byte

-- the byte at a place after all from a length on was cut off
abbrev pub cut_off : ℕ → ℕ → ℕ → ℕ
cut_off place length byte = if nat_lt place length then byte else 0

-- a message is one for the file, and its context passes the test
abbrev pub reaches : Ino → (Context → Bool) → Ino → Context → Bool
reaches f counts ino context = ino.0 == f.0 && counts context

-- the byte of a file at a place after one more message
abbrev pub byte_after : Ino → (Context → Bool) → ℕ → ℕ → ToStore → ℕ
byte_after f counts place byte (WriteAt ino offset bytes context) =
    if reaches f counts ino context then laid place offset bytes byte else byte
byte_after f counts place byte (Cut ino length context) =
    if reaches f counts ino context then cut_off place length byte else byte
byte_after f counts place byte (Delete ino context) = if reaches f counts ino context then 0 else byte
byte_after f counts place byte message = byte

-- the byte of a file at a place, zero where nothing was written, after those messages whose context passes the test
abbrev pub byte_of : List ToStore → Ino → (Context → Bool) → ℕ → ℕ
byte_of taken f counts place = fold (byte_after f counts place) 0 taken

-- each context passes
abbrev pub any_context : Context → Bool
any_context context = true

-- the sequence id is below a snapshot's id
abbrev pub is_before : SnapId → Context → Bool
is_before s context = nat_lt context.seq.0 s.0

-- the first bytes of a file after all messages
abbrev pub bytes_head : List ToStore → Ino → ℕ → List ℕ
bytes_head taken f size = so_many size (byte_of taken f any_context)

-- the first bytes of a file after the messages whose context's sequence id is below a snapshot's id
abbrev pub bytes_at : List ToStore → Ino → ℕ → SnapId → List ℕ
bytes_at taken f size s = so_many size (byte_of taken f (is_before s))

-- the message purges the snapshot
abbrev pub purges : SnapId → ToStore → Bool
purges s (Purge id) = id.0 == s.0
purges s message = false

-- the snapshot was purged
abbrev pub was_purged : SnapId → List ToStore → Bool
was_purged s taken = list_any (purges s) taken
