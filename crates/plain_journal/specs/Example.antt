-- Small stories of a journal.
use Rattle.std.specs.Prelude.{ℕ, zero, suc, ◌+◌, true, false, List, [], ◌∷◌, ◌++◌, map, codes, Result}
use Rattle.std.specs.Fmt.{digits_onto}
use Rattle.snap_ids.specs.declared.id.Ino.{Ino}
use Rattle.snap_ids.specs.declared.id.SnapId.{SnapId}
use Rattle.snap_ids.specs.declared.values.Kind.{Kind}
use Rattle.snap_ids.specs.declared.values.Kind.TheVariants.{Dir}
use Rattle.plain_types.specs.declared.answer.Answer.{Answer}
use Rattle.plain_types.specs.declared.answer.Refusal.{Refusal}
use Rattle.plain_types.specs.declared.change.Change.{Change}
use Rattle.plain_types.specs.declared.entry.Entry.{Entry}
use Rattle.plain_types.specs.declared.entry.What.{What}
use Rattle.plain_types.specs.declared.entry.What.TheVariants.{Mkdir, Create, Link, Unlink, Rename, Chmod, OpenFile, CloseFile, PrepareCreate, Mksnap, PrepareDestroy, Rmsnap, Settle, Release, Purgedone, Deadfile}
use Rattle.plain_types.specs.declared.request.Query.TheVariants as query
use Rattle.plain_tree.specs.Request.{new_snap}
use Rattle.plain_journal.specs.Entries.{state_after}
use Rattle.plain_journal.specs.Answers.{answer_to}

-- the entry that a client's request makes
abbrev pub entry : What → Entry
entry what = record { client = 1; number = 1; what = what }

-- the n-th inode that is made, from 0
abbrev pub inode : ℕ → Ino
inode n = record { 0 = 1099511627776 + n }

abbrev pub root : Ino
root = record { 0 = 1 }

abbrev pub snap : ℕ → SnapId
snap n = record { 0 = n }

-- a directory of this name
abbrev pub dir : List ℕ → List (List ℕ × Kind)
dir name = (name, Dir) ∷ []

-- what `ls` answers
abbrev pub lists : List Entry → List (List ℕ) → Answer
lists entries path = answer_to entries (query.List path)

-- `mkdir /a`, `mkdir /a/b`, a snapshot `s` of `/a`, and `mkdir /a/c`
abbrev pub snapshot : List Entry
snapshot = map entry
    (Mkdir root (codes "a") (inode 0)
    ∷ Mkdir (inode 0) (codes "b") (inode 1)
    ∷ PrepareCreate (snap 2)
    ∷ Mksnap (snap 2) (inode 0) (codes "s")
    ∷ Mkdir (inode 0) (codes "c") (inode 2)
    ∷ [])

-- that snapshot is removed, and then the store drops it
abbrev pub removed : List Entry
removed = snapshot ++ map entry (PrepareDestroy (snap 2) ∷ Rmsnap (snap 2) ∷ [])

abbrev pub dropped : List Entry
dropped = removed ++ map entry (Purgedone (snap 2) ∷ [])

-- a snapshot `t` of `/b`, one `s` of `/a`, and `/a/d` with a new directory `x` moves to `/b/d`
abbrev pub moved : List Entry
moved = map entry
    (Mkdir root (codes "a") (inode 0)
    ∷ Mkdir root (codes "b") (inode 1)
    ∷ Mkdir (inode 0) (codes "d") (inode 2)
    ∷ Mksnap (snap 2) (inode 1) (codes "t")
    ∷ Mksnap (snap 3) (inode 0) (codes "s")
    ∷ Mkdir (inode 2) (codes "x") (inode 3)
    ∷ Rename (inode 0) (codes "d") (inode 1) (codes "d")
    ∷ [])

-- `/b/d` moves to `/a/d` while a second snapshot of `/a` is prepared and not yet made
abbrev pub moved_between : List Entry
moved_between = map entry
    (Mkdir root (codes "a") (inode 0)
    ∷ Mkdir root (codes "b") (inode 1)
    ∷ Mkdir (inode 1) (codes "d") (inode 2)
    ∷ PrepareCreate (snap 2)
    ∷ Mksnap (snap 2) (inode 0) (codes "r")
    ∷ PrepareCreate (snap 3)
    ∷ Rename (inode 1) (codes "d") (inode 0) (codes "d")
    ∷ Mksnap (snap 3) (inode 0) (codes "s")
    ∷ [])

-- a snapshot of `/c`, a file `/a/f`, another snapshot of `/c`, its second name `/b/g`, and a snapshot of `/c` again
abbrev pub linked : List Entry
linked = map entry
    (Mkdir root (codes "a") (inode 0)
    ∷ Mkdir root (codes "b") (inode 1)
    ∷ Mkdir root (codes "c") (inode 2)
    ∷ Mksnap (snap 2) (inode 2) (codes "r")
    ∷ Create (inode 0) (codes "f") (inode 3) 420
    ∷ Mksnap (snap 3) (inode 2) (codes "s")
    ∷ Link (inode 3) (inode 1) (codes "g")
    ∷ Mksnap (snap 4) (inode 2) (codes "t")
    ∷ [])

-- the second name is gone again
abbrev pub unlinked : List Entry
unlinked = linked ++ map entry (Unlink (inode 1) (codes "g") ∷ [])

-- a file `/a/f` of mode 0644, snapshots `s` and `t` of `/a` with a change to mode 0600 between them, and their flushes:
-- 2 bytes at `s`, 4 at `t`; the last one says 5
abbrev pub flushed : List Entry
flushed = map entry
    (Mkdir root (codes "a") (inode 0)
    ∷ Create (inode 0) (codes "f") (inode 1) 420
    ∷ Mksnap (snap 2) (inode 0) (codes "s")
    ∷ Chmod (inode 1) 384
    ∷ Settle (inode 1) (snap 1) (snap 2) 2
    ∷ Mksnap (snap 3) (inode 0) (codes "t")
    ∷ Settle (inode 1) (snap 2) (snap 3) 4
    ∷ Release (inode 1) (snap 3) 5
    ∷ [])

-- a file `/f` that is open loses its name, and then the handle is closed
abbrev pub open_and_unlinked : List Entry
open_and_unlinked = map entry
    (Create root (codes "f") (inode 0) 420
    ∷ OpenFile 1 (inode 0) true
    ∷ Unlink root (codes "f")
    ∷ [])

abbrev pub closed : List Entry
closed = open_and_unlinked ++ map entry (CloseFile 1 ∷ [])

abbrev pub collected : List Entry
collected = closed ++ map entry (Deadfile (inode 0) ∷ [])

-- snapshots are named by their ids
abbrev pub name : ℕ → List ℕ
name n = codes "s" ++ digits_onto 64 10 false n []

-- so many snapshots of a directory, from this id on
abbrev pub snapshots : Ino → ℕ → ℕ → List What
snapshots dir zero first = []
snapshots dir (suc more) first = Mksnap (snap first) dir (name first) ∷ snapshots dir more (suc first)

-- `/a` and `/b`, and so many snapshots of the first and then of the second
abbrev pub snapshots_of_both : ℕ → ℕ → List Entry
snapshots_of_both of_a of_b = map entry
    (Mkdir root (codes "a") (inode 0)
    ∷ Mkdir root (codes "b") (inode 1)
    ∷ snapshots (inode 0) of_a 2 ++ snapshots (inode 1) of_b (2 + of_a))

-- a further snapshot of the n-th directory, with an id above all of these
abbrev pub further : ℕ → Entry
further n = entry (Mksnap (snap 200) (inode n) (codes "t"))

-- what a request for one comes to
abbrev pub asked : List Entry → ℕ → List ℕ → Result Change Refusal
asked entries n name = new_snap (state_after entries) (snap 200) name (inode n)
