-- Small stories of a direct history, and what is answered in them.
use Rattle.std.specs.Prelude.{ℕ, ◌+◌, List, [], ◌∷◌, length, map, replicate, codes, is_some, Option, None, Some}
use Rattle.snap_ids.specs.declared.id.Ino.{Ino}
use Rattle.snap_ids.specs.declared.id.SnapId.{SnapId}
use Rattle.snap_ids.specs.declared.values.Kind.TheVariants.{Dir}
use Rattle.plain_types.specs.declared.answer.Answer.{Answer}
use Rattle.plain_types.specs.declared.answer.Answer.TheVariants.{Done, Snap, Refused, Listed, RealmIs}
use Rattle.plain_types.specs.declared.answer.Refusal.{Refusal}
use Rattle.plain_types.specs.declared.answer.Refusal.TheVariants.{BadName, Exists, NoEntry, NotDir, IsDir, ReadOnly, NoSnap, IntoItself}
use Rattle.plain_types.specs.declared.change.Change.{Change}
use Rattle.plain_types.specs.declared.change.Change.TheVariants as change
use Rattle.plain_types.specs.declared.entry.Entry.{Entry}
use Rattle.plain_types.specs.declared.entry.What.TheVariants as what
use Rattle.plain_types.specs.declared.history.Event.{Event}
use Rattle.plain_types.specs.declared.history.Step.TheVariants.{Op}
use Rattle.plain_types.specs.declared.script.Line.{Line}
use Rattle.plain_types.specs.declared.script.Line.TheVariants as line
use Rattle.direct_journal.specs.Direct.{ServesAfter}
use Rattle.direct_journal.specs.Journal.{journal_of}
use Rattle.direct_journal.specs.Legal.{effects_of, numbered, Legal}

-- a line, the change that it makes, and its answer
pub record Told : Type 0 where
  pub line : Line
  pub made : Option Change
  pub answer : Answer

abbrev pub does : Line → Change → Told
does asked made = record { line = asked; made = Some made; answer = Done }

abbrev pub says : Line → Answer → Told
says asked answer = record { line = asked; made = None; answer = answer }

-- the lines of client 1
abbrev pub lines_of : List Told → List (ℕ × Line)
lines_of story = map (λ (told : Told). (1, told.line)) story

-- the events of these lines from this number on, after so many entries
abbrev pub events_of : ℕ → ℕ → List Told → List Event
events_of number entries [] = []
events_of number entries (told ∷ story) =
    let effects = effects_of 1 entries told.made in
    record {
      node = 1;
      step = Op 1;
      taken = None;
      sent = [];
      effects = effects;
      replies = record { client = 1; line = number; changed = is_some told.made; entry = entries; answer = told.answer } ∷ [];
    } ∷ events_of (number + 1) (entries + length effects) story

-- the story's history is legal
abbrev pub IsLegal : List Told → Type 0
IsLegal story = Legal (events_of 1 0 story) (lines_of story)

-- a server that answers from the entries so far serves the story's lines so
abbrev pub IsDirect : List Told → Type 0
IsDirect story = ServesAfter [] (numbered (lines_of story)) (events_of 1 0 story)

-- what the story's history writes down
abbrev pub entries_after : List Told → List Entry
entries_after story = journal_of (events_of 1 0 story)

-- the n-th inode that is made, from 0
abbrev pub inode : ℕ → Ino
inode n = record { 0 = 1099511627776 + n }

abbrev pub root : Ino
root = record { 0 = 1 }

abbrev pub snap : ℕ → SnapId
snap n = record { 0 = n }

-- what `ls` answers where there is one directory, or one snapshot, of this name
abbrev pub one : List ℕ → Answer
one name = Listed ((name, Dir) ∷ [])

-- `mkdir /a`
abbrev pub make_a : Told
make_a = does (line.Mkdir (codes "a" ∷ [])) (change.Mkdir root (codes "a") (inode 0))

-- a snapshot `s` of `/a` with this id
abbrev pub snap_a : ℕ → Told
snap_a n = record {
  line = line.Mkdir (codes "a" ∷ codes ".snap" ∷ codes "s" ∷ []);
  made = Some (change.Mksnap (snap n) (inode 0) (codes "s"));
  answer = Snap (snap n);
}

-- a snapshot of `/a` is made and removed, and this is listed under its name
abbrev pub removed : Answer → List Told
removed listed =
    make_a
    ∷ snap_a 2
    ∷ does (line.Rmdir (codes "a" ∷ codes ".snap" ∷ codes "s" ∷ [])) (change.Rmsnap (snap 2))
    ∷ says (line.List (codes "a" ∷ codes ".snap" ∷ codes "s" ∷ [])) listed
    ∷ []

-- what that story writes down, for lines of these numbers
abbrev pub removed_entries : ℕ → ℕ → ℕ → List Entry
removed_entries first second third =
    record { client = 1; number = first; what = what.Mkdir root (codes "a") (inode 0) }
    ∷ record { client = 1; number = second; what = what.Mksnap (snap 2) (inode 0) (codes "s") }
    ∷ record { client = 1; number = third; what = what.Rmsnap (snap 2) }
    ∷ []

-- after a snapshot of `/a` this is listed in the `.snap` of its directory `b`, and this under a name there
abbrev pub inherited : Answer → List ℕ → Answer → List Told
inherited names name listed =
    make_a
    ∷ does (line.Mkdir (codes "a" ∷ codes "b" ∷ [])) (change.Mkdir (inode 0) (codes "b") (inode 1))
    ∷ snap_a 2
    ∷ does (line.Mkdir (codes "a" ∷ codes "b" ∷ codes "c" ∷ [])) (change.Mkdir (inode 1) (codes "c") (inode 2))
    ∷ says (line.List (codes "a" ∷ codes "b" ∷ codes ".snap" ∷ [])) names
    ∷ says (line.List (codes "a" ∷ codes "b" ∷ codes ".snap" ∷ name ∷ [])) listed
    ∷ []

-- `/a/d` moves to `/b/d` after a snapshot `t` of `/b` and one `s` of `/a`, and this is its realm
abbrev pub moved : Answer → List Told
moved realm =
    make_a
    ∷ does (line.Mkdir (codes "b" ∷ [])) (change.Mkdir root (codes "b") (inode 1))
    ∷ does (line.Mkdir (codes "a" ∷ codes "d" ∷ [])) (change.Mkdir (inode 0) (codes "d") (inode 2))
    ∷ record {
      line = line.Mkdir (codes "b" ∷ codes ".snap" ∷ codes "t" ∷ []);
      made = Some (change.Mksnap (snap 2) (inode 1) (codes "t"));
      answer = Snap (snap 2);
    }
    ∷ snap_a 3
    ∷ does (line.Rename (codes "a" ∷ codes "d" ∷ []) (codes "b" ∷ codes "d" ∷ []))
    (change.Rename (inode 0) (codes "d") (inode 1) (codes "d"))
    ∷ says (line.Realm (codes "b" ∷ codes "d" ∷ [])) realm
    ∷ []

-- the realm and context of a directory or a file with one snapshot
abbrev pub realm_with : Ino → ℕ → Answer
realm_with ino s = RealmIs ino (record { seq = snap s; ids = snap s ∷ [] })

-- a file `/f` gets a second name `g`, a snapshot of `/a` is made, and this is said of `/f` and `/g`
abbrev pub linked : Answer → Answer → List Told
linked realm stat =
    make_a
    ∷ does (line.Create (codes "f" ∷ []) 420) (change.Create root (codes "f") (inode 1) 420)
    ∷ does (line.Link (codes "f" ∷ []) (codes "g" ∷ [])) (change.Link (inode 1) root (codes "g"))
    ∷ snap_a 2
    ∷ says (line.Realm (codes "f" ∷ [])) realm
    ∷ says (line.Stat (codes "g" ∷ [])) stat
    ∷ []

-- `/a` with a snapshot is removed, and this is answered
abbrev pub kept : Answer → List Told
kept answer = make_a ∷ snap_a 2 ∷ says (line.Rmdir (codes "a" ∷ [])) answer ∷ []

-- lines that are refused where there are `/a` with a snapshot `s`, and a file `/f`; the first of them, which makes a name
-- of 65 bytes below the file, for this reason
abbrev pub refused : Refusal → List (Line × Refusal)
refused first =
    (line.Mkdir (codes "f" ∷ replicate 65 97 ∷ []), first)
    ∷ (line.Mkdir (codes "x" ∷ codes "y" ∷ []), NoEntry)
    ∷ (line.Mkdir (codes "a" ∷ codes ".snap" ∷ codes "_x" ∷ []), BadName)
    ∷ (line.Mkdir (codes "a" ∷ codes ".snap" ∷ codes "s" ∷ []), Exists)
    ∷ (line.Unlink (codes "a" ∷ []), IsDir)
    ∷ (line.Link (codes "f" ∷ []) (codes "a" ∷ []), Exists)
    ∷ (line.Rename (codes "a" ∷ []) (codes "a" ∷ codes "f" ∷ []), IntoItself)
    ∷ (line.Chmod (codes "a" ∷ codes ".snap" ∷ []) 448, ReadOnly)
    ∷ (line.Stat (codes "x" ∷ []), NoEntry)
    ∷ (line.List (codes "f" ∷ []), NotDir)
    ∷ (line.Realm (codes "a" ∷ codes ".snap" ∷ codes "s" ∷ []), NoEntry)
    ∷ (line.List (codes "a" ∷ codes ".snap" ∷ codes "t" ∷ []), NoSnap)
    ∷ []

abbrev pub refusals : Refusal → List Told
refusals first =
    make_a
    ∷ snap_a 2
    ∷ does (line.Create (codes "f" ∷ []) 420) (change.Create root (codes "f") (inode 1) 420)
    ∷ map (λ (asked : Line × Refusal). says asked.0 (Refused asked.1)) (refused first)
