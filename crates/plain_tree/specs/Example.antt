-- Small stories of a plain tree.
use Rattle.std.specs.Prelude.{ℕ, ◌+◌, true, false, List, [], ◌∷◌, ◌++◌, map, replicate, fold, codes, Option, None, Some, Result, Err}
use Rattle.snap_ids.specs.declared.id.Ino.{Ino}
use Rattle.snap_ids.specs.declared.id.SnapId.{SnapId}
use Rattle.plain_types.specs.declared.answer.Answer.TheVariants.{Done}
use Rattle.plain_types.specs.declared.answer.Refusal.{Refusal}
use Rattle.plain_types.specs.declared.answer.Refusal.TheVariants.{BadName, Exists, NoEntry, NotDir, IsDir, HasSnapshots, ReadOnly, NoSnap, BadHandle, IntoItself, TooLarge}
use Rattle.plain_types.specs.declared.change.Change.{Change}
use Rattle.plain_types.specs.declared.change.Change.TheVariants as change
use Rattle.plain_types.specs.declared.change.Effect.{Effect}
use Rattle.plain_types.specs.declared.history.Event.{Event}
use Rattle.plain_types.specs.declared.history.Replied.{Replied}
use Rattle.plain_types.specs.declared.history.Step.{Step}
use Rattle.plain_types.specs.declared.history.Step.TheVariants.{Op, ClientFromServer, Commit}
use Rattle.plain_types.specs.declared.message.Message.{Message}
use Rattle.plain_types.specs.declared.message.Message.TheVariants as message
use Rattle.plain_types.specs.declared.message.ToClient.TheVariants.{Notice}
use Rattle.plain_types.specs.declared.script.Line.{Line}
use Rattle.plain_types.specs.declared.script.Line.TheVariants as line
use Rattle.plain_tree.specs.State.{State, start}
use Rattle.plain_tree.specs.Change.{apply}
use Rattle.plain_tree.specs.Line.{change_by}

-- the n-th inode that is made, from 0
abbrev pub inode : ℕ → Ino
inode n = record { 0 = 1099511627776 + n }

abbrev pub root : Ino
root = record { 0 = 1 }

abbrev pub snap : ℕ → SnapId
snap n = record { 0 = n }

-- the state after changes of client 1
abbrev pub after : State → List Change → State
after state changes = fold (λ s made. apply s 1 made) state changes

-- `/a` with a file `f` that client 1 has open for writing as 1 and for reading as 2, and a snapshot `s` of `/a`
abbrev pub small : State
small = after start
    (change.Mkdir root (codes "a") (inode 0)
    ∷ change.Create (inode 0) (codes "f") (inode 1) 420
    ∷ change.OpenFile 1 (inode 1) true
    ∷ change.OpenFile 2 (inode 1) false
    ∷ change.Mksnap (snap 2) (inode 0) (codes "s")
    ∷ [])

-- three bytes are written, the file is cut to nothing, and made three bytes long again
abbrev pub cut_and_grown : State
cut_and_grown = after small
    (change.WriteFile 1 0 (codes "abc") ∷ change.Truncate 1 0 ∷ change.Truncate 1 3 ∷ [])

-- two bytes are written past the end, and one over the first of them
abbrev pub written_past : State
written_past = after small (change.WriteFile 1 3 (codes "xy") ∷ change.WriteFile 1 3 (codes "z") ∷ [])

-- two directories, the one whose name stands later first
abbrev pub two : State
two = after start (change.Mkdir root (codes "a") (inode 0) ∷ change.Mkdir root (codes "B") (inode 1) ∷ [])

-- a file loses its name, and is still written
abbrev pub unlinked : State
unlinked = after small (change.Unlink (inode 0) (codes "f") ∷ change.WriteFile 1 0 (codes "b") ∷ [])

-- what a line of client 1 comes to in that tree
abbrev pub comes_to : Line → Option (Result Change Refusal)
comes_to asked = change_by small 1 (snap 3) asked

abbrev pub refused : Refusal → Option (Result Change Refusal)
refused refusal = Some (Err refusal)

abbrev pub a : List (List ℕ)
a = codes "a" ∷ []

abbrev pub f : List (List ℕ)
f = codes "a" ∷ codes "f" ∷ []

abbrev pub s : List (List ℕ)
s = codes "a" ∷ codes ".snap" ∷ codes "s" ∷ []

-- lines that are refused in that tree, each for the first reason that applies
abbrev pub refused_lines : List (Line × Refusal)
refused_lines =
    (line.Mkdir a, Exists)
    ∷ (line.Mkdir [], BadName)
    ∷ (line.Mkdir (codes "x" ∷ codes "y" ∷ []), NoEntry)
    ∷ (line.Mkdir (f ++ codes "g" ∷ []), NotDir)
    ∷ (line.Mkdir (codes "x" ∷ replicate 65 97 ∷ []), NoEntry)
    ∷ (line.Mkdir (codes "a" ∷ codes ".snap" ∷ codes "_x" ∷ []), BadName)
    ∷ (line.Mkdir s, Exists)
    ∷ (line.Mkdir (f ++ codes ".snap" ∷ codes "t" ∷ []), NotDir)
    ∷ (line.Mkdir (s ++ codes "x" ∷ []), ReadOnly)
    ∷ (line.Rmdir a, HasSnapshots)
    ∷ (line.Rmdir f, NotDir)
    ∷ (line.Rmdir (codes "a" ∷ codes ".snap" ∷ codes "t" ∷ []), NoSnap)
    ∷ (line.Unlink a, IsDir)
    ∷ (line.Link a f, IsDir)
    ∷ (line.Link f f, Exists)
    ∷ (line.Rename a (a ++ codes "b" ∷ []), IntoItself)
    ∷ (line.Rename a f, IntoItself)
    ∷ (line.Rename a (f ++ codes "b" ∷ []), NotDir)
    ∷ (line.Rename f a, Exists)
    ∷ (line.Rename [] a, BadName)
    ∷ (line.Rename (codes "x" ∷ []) [], BadName)
    ∷ (line.Rename s (codes "b" ∷ []), ReadOnly)
    ∷ (line.Create (s ++ codes "f" ∷ []) 420, ReadOnly)
    ∷ (line.Open 1 (codes "x" ∷ []) true, BadHandle)
    ∷ (line.Open 3 a true, IsDir)
    ∷ (line.Close 9, BadHandle)
    ∷ (line.Write 2 0 (codes "a"), ReadOnly)
    ∷ (line.Write 9 0 (codes "a"), BadHandle)
    ∷ (line.Write 1 65536 (codes "a"), TooLarge)
    ∷ (line.Truncate 1 65537, TooLarge)
    ∷ []

-- the same lines, with what each comes to
abbrev pub outcomes : List (Option (Result Change Refusal))
outcomes = map (λ (asked : Line × Refusal). comes_to asked.0) refused_lines

abbrev pub refusals : List (Option (Result Change Refusal))
refusals = map (λ (asked : Line × Refusal). refused asked.1) refused_lines

-- an event of a node, with the effects of it and the client's changes that it answers
abbrev pub event : ℕ → Step → Option Message → List Effect → List Replied → Event
event node step taken effects replies =
    record { node = node; step = step; taken = taken; sent = []; effects = effects; replies = replies }

abbrev pub effect : ℕ → ℕ → Change → Effect
effect client entry made = record { client = client; entry = entry; change = made }

-- a change of client 1 is answered
abbrev pub told : ℕ → Replied
told number = record { client = 1; line = number; changed = true; entry = 0; answer = Done }

-- client 1 writes these bytes to its open file
abbrev pub writes : ℕ → List ℕ → Event
writes number bytes = event 1 (Op 1) None (effect 1 0 (change.WriteFile 1 0 bytes) ∷ []) (told number ∷ [])

-- client 1 takes the notice of snapshot 2
abbrev pub hears : Event
hears = event 1 (ClientFromServer 1)
    (Some (message.ToClient (Notice 1 (record { snap = snap 2; entry = 4 }) []))) [] []

-- client 1 makes a file, opens it and writes to it; client 2 makes a snapshot of all
abbrev pub begun : List Event
begun =
    event 0 Commit None
    (effect 1 1 (change.Create root (codes "f") (inode 0) 420) ∷ effect 1 2 (change.OpenFile 1 (inode 0) true) ∷ []) []
    ∷ event 1 (ClientFromServer 1) None [] (told 1 ∷ told 2 ∷ [])
    ∷ writes 3 (codes "aa")
    ∷ event 0 Commit None (effect 2 4 (change.Mksnap (snap 2) root (codes "s")) ∷ []) []
    ∷ []

-- client 1 writes again, hears of the snapshot, and writes once more
abbrev pub written_before : List Event
written_before = begun ++ writes 4 (codes "bb") ∷ hears ∷ writes 5 (codes "cc") ∷ []

-- the same, and it hears of the snapshot first
abbrev pub written_after : List Event
written_after = begun ++ hears ∷ writes 4 (codes "bb") ∷ writes 5 (codes "cc") ∷ []
