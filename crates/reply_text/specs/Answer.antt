-- The words that an answer is printed in.
use Rattle.std.specs.Prelude.{ℕ, ◌+◌, ◌/◌, ◌%◌, List, [], ◌∷◌, ◌++◌, Option, None, Some, codes, decimal, flat_map}
use Rattle.hex.specs.Hex.{encode_lower}
use Rattle.snap_ids.specs.declared.id.SnapId.{SnapId}
use Rattle.snap_ids.specs.declared.values.Kind.{Kind}
use Rattle.snap_ids.specs.declared.values.Kind.TheVariants.{Dir, File}
use Rattle.plain_types.specs.declared.answer.Answer.{Answer}
use Rattle.plain_types.specs.declared.answer.Answer.TheVariants.{Done, Snap, Opened, Refused, Pending, Gone, FileBytes, StatFile, StatDir, Listed, RealmIs, FoundLive, FoundSnap, FoundObject, ClonesAre}
use Rattle.plain_types.specs.declared.answer.Refusal.{Refusal}
use Rattle.plain_types.specs.declared.answer.Refusal.TheVariants.{BadName, Exists, NoEntry, NotDir, IsDir, NotEmpty, HasSnapshots, ReadOnly, NoSnap, BadHandle, IntoItself, TooLarge, TooManySnaps, TooManyLive}

-- the word of a refusal
abbrev pub word : Refusal → List ℕ
word BadName = codes "bad-name"
word Exists = codes "exists"
word NoEntry = codes "no-entry"
word NotDir = codes "not-dir"
word IsDir = codes "is-dir"
word NotEmpty = codes "not-empty"
word HasSnapshots = codes "has-snapshots"
word ReadOnly = codes "read-only"
word NoSnap = codes "no-snap"
word BadHandle = codes "bad-handle"
word IntoItself = codes "into-itself"
word TooLarge = codes "too-large"
word TooManySnaps = codes "too-many-snaps"
word TooManyLive = codes "too-many-live"

-- the last octal digit of a number
abbrev pub octal_digit : ℕ → ℕ
octal_digit n = 48 + n % 8

-- a mode: its last four octal digits
abbrev pub mode_text : ℕ → List ℕ
mode_text mode = octal_digit (mode / 512) ∷ octal_digit (mode / 64) ∷ octal_digit (mode / 8) ∷ octal_digit mode ∷ []

-- a file's bytes in hex, and `-` where it has none
abbrev pub bytes_text : List ℕ → List ℕ
bytes_text [] = codes "-"
bytes_text (byte ∷ bytes) = encode_lower (byte ∷ bytes)

-- directories have a `/` behind their names
abbrev pub mark_of : Kind → List ℕ
mark_of Dir = codes "/"
mark_of File = []

-- a listed name, with a space before it
abbrev pub entry_text : List ℕ × Kind → List ℕ
entry_text entry = codes " " ++ entry.0 ++ mark_of entry.1

-- one more id
abbrev pub more_text : SnapId → List ℕ
more_text id = codes "," ++ decimal id.0

-- ids joined by commas, and `-` where there is none
abbrev pub ids_text : List SnapId → List ℕ
ids_text [] = codes "-"
ids_text (id ∷ ids) = decimal id.0 ++ flat_map more_text ids

-- a clone: its id, and the ids that it serves
abbrev pub clone_text : SnapId × List SnapId → List ℕ
clone_text clone = codes " " ++ decimal clone.0.0 ++ codes ":" ++ ids_text clone.1

-- the length of an object's head
abbrev pub head_text : Option ℕ → List ℕ
head_text None = codes " none"
head_text (Some size) = codes " head " ++ decimal size

-- What is printed for an answer. The last three are the server's on the way to a client's, and reply to no line.
abbrev pub answer_text : Answer → List ℕ
answer_text Done = codes "ok"
answer_text (Snap id) = codes "ok snap " ++ decimal id.0
answer_text (Opened ino) = codes "ok"
answer_text (Refused refusal) = word refusal
answer_text (Pending client) = codes "pending " ++ decimal client
answer_text Gone = codes "gone"
answer_text (FileBytes bytes) = codes "bytes " ++ bytes_text bytes
answer_text (StatFile mode size) = codes "stat file " ++ mode_text mode ++ codes " " ++ decimal size
answer_text (StatDir mode) = codes "stat dir " ++ mode_text mode
answer_text (Listed entries) = codes "list" ++ flat_map entry_text entries
answer_text (RealmIs ino context) = codes "realm " ++ decimal ino.0 ++ codes " seq " ++ decimal context.seq.0 ++ codes " ids " ++ ids_text context.ids
answer_text (ClonesAre list) = codes "clones" ++ flat_map clone_text list.clones ++ head_text list.head
answer_text (FoundLive ino perm size write_held) = codes "found"
answer_text (FoundSnap ino snap size) = codes "found"
answer_text (FoundObject ino index) = codes "found"
