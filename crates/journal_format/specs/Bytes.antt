-- The bytes of the journal's entries. Numbers are big-endian, and each field is as wide as its type.
use Rattle.std.specs.Prelude.{ℕ, ◌<◌, ◌^◌, Bool, true, false, IsTrue, List, [], ◌∷◌, ◌++◌, length}
use Rattle.std.specs.List.{flat_map, AllByRecursion}
use Rattle.std.specs.Int.{w16, w32, w64, to_be_bytes}
use Rattle.snap_ids.specs.Name.{is_name}
use Rattle.plain_types.specs.declared.entry.Entry.{Entry}
use Rattle.plain_types.specs.declared.entry.What.{What}
use Rattle.plain_types.specs.declared.entry.What.TheVariants.{Mkdir, Create, Link, Unlink, Rmdir, Rename, Chmod, OpenFile, CloseFile, PrepareCreate, Mksnap, PrepareDestroy, Rmsnap, Rollback, Settle, Release, Trim, Purgedone, Deadfile, Barrier}

-- an inode, an id or a barrier's number: eight bytes
abbrev pub long : ℕ → List ℕ
long n = to_be_bytes w64 n

-- a size: four bytes
abbrev pub word : ℕ → List ℕ
word n = to_be_bytes w32 n

-- a mode: two bytes
abbrev pub short : ℕ → List ℕ
short n = to_be_bytes w16 n

-- a name: a byte with its length, and its bytes
abbrev pub text : List ℕ → List ℕ
text name = length name ∷ name

-- a flag: 0 or 1
abbrev pub flag : Bool → List ℕ
flag false = 0 ∷ []
flag true = 1 ∷ []

-- the first byte of an entry, by what it says
abbrev pub kind_of : What → ℕ
kind_of (Mkdir dir name ino) = 1
kind_of (Create dir name ino mode) = 2
kind_of (Link ino dir name) = 3
kind_of (Unlink dir name) = 4
kind_of (Rmdir dir name) = 5
kind_of (Rename dir name to_dir to_name) = 6
kind_of (Chmod ino mode) = 7
kind_of (OpenFile handle ino writable) = 8
kind_of (CloseFile handle) = 9
kind_of (PrepareCreate id) = 10
kind_of (Mksnap id dir name) = 11
kind_of (PrepareDestroy id) = 12
kind_of (Rmsnap id) = 13
kind_of (Rollback id) = 14
kind_of (Settle ino follows upto size) = 15
kind_of (Release ino follows size) = 16
kind_of (Trim id) = 17
kind_of (Purgedone id) = 18
kind_of (Deadfile ino) = 19
kind_of (Barrier number) = 20

-- the last bytes of an entry: the fields of what it says, in their order
abbrev pub fields_of : What → List ℕ
fields_of (Mkdir dir name ino) = long dir.0 ++ (text name ++ long ino.0)
fields_of (Create dir name ino mode) = long dir.0 ++ (text name ++ (long ino.0 ++ short mode))
fields_of (Link ino dir name) = long ino.0 ++ (long dir.0 ++ text name)
fields_of (Unlink dir name) = long dir.0 ++ text name
fields_of (Rmdir dir name) = long dir.0 ++ text name
fields_of (Rename dir name to_dir to_name) = long dir.0 ++ (text name ++ (long to_dir.0 ++ text to_name))
fields_of (Chmod ino mode) = long ino.0 ++ short mode
fields_of (OpenFile handle ino writable) = (handle ∷ []) ++ (long ino.0 ++ flag writable)
fields_of (CloseFile handle) = handle ∷ []
fields_of (PrepareCreate id) = long id.0
fields_of (Mksnap id dir name) = long id.0 ++ (long dir.0 ++ text name)
fields_of (PrepareDestroy id) = long id.0
fields_of (Rmsnap id) = long id.0
fields_of (Rollback id) = long id.0
fields_of (Settle ino follows upto size) = long ino.0 ++ (long follows.0 ++ (long upto.0 ++ word size))
fields_of (Release ino follows size) = long ino.0 ++ (long follows.0 ++ word size)
fields_of (Trim id) = long id.0
fields_of (Purgedone id) = long id.0
fields_of (Deadfile ino) = long ino.0
fields_of (Barrier number) = long number

-- an entry: its kind, its client, its number, and its fields
abbrev pub bytes_of : Entry → List ℕ
bytes_of entry = kind_of entry.what ∷ entry.client ∷ long entry.number ++ fields_of entry.what

-- entries, one after the other
abbrev pub bytes_of_all : List Entry → List ℕ
bytes_of_all entries = flat_map bytes_of entries

-- what each value of a type holds: a number within its width, and a name
abbrev pub IsLong : ℕ → Type 0
IsLong n = n < 2 ^ 64

abbrev pub IsWord : ℕ → Type 0
IsWord n = n < 2 ^ 32

abbrev pub IsShort : ℕ → Type 0
IsShort n = n < 2 ^ 16

abbrev pub IsByte : ℕ → Type 0
IsByte n = n < 2 ^ 8

abbrev pub IsName : List ℕ → Type 0
IsName name = IsTrue (is_name name)

-- what an entry says is within its types
abbrev pub IsWhat : What → Type 0
IsWhat (Mkdir dir name ino) = IsLong dir.0 × (IsName name × IsLong ino.0)
IsWhat (Create dir name ino mode) = IsLong dir.0 × (IsName name × (IsLong ino.0 × IsShort mode))
IsWhat (Link ino dir name) = IsLong ino.0 × (IsLong dir.0 × IsName name)
IsWhat (Unlink dir name) = IsLong dir.0 × IsName name
IsWhat (Rmdir dir name) = IsLong dir.0 × IsName name
IsWhat (Rename dir name to_dir to_name) = IsLong dir.0 × (IsName name × (IsLong to_dir.0 × IsName to_name))
IsWhat (Chmod ino mode) = IsLong ino.0 × IsShort mode
IsWhat (OpenFile handle ino writable) = IsByte handle × (IsLong ino.0 × Unit {0})
IsWhat (CloseFile handle) = IsByte handle
IsWhat (PrepareCreate id) = IsLong id.0
IsWhat (Mksnap id dir name) = IsLong id.0 × (IsLong dir.0 × IsName name)
IsWhat (PrepareDestroy id) = IsLong id.0
IsWhat (Rmsnap id) = IsLong id.0
IsWhat (Rollback id) = IsLong id.0
IsWhat (Settle ino follows upto size) = IsLong ino.0 × (IsLong follows.0 × (IsLong upto.0 × IsWord size))
IsWhat (Release ino follows size) = IsLong ino.0 × (IsLong follows.0 × IsWord size)
IsWhat (Trim id) = IsLong id.0
IsWhat (Purgedone id) = IsLong id.0
IsWhat (Deadfile ino) = IsLong ino.0
IsWhat (Barrier number) = IsLong number

-- an entry is within its types
pub record IsEntry (entry : Entry) : Type 0 where
  pub client : IsByte entry.client
  pub number : IsLong entry.number
  pub what : IsWhat entry.what

abbrev pub AreEntries : List Entry → Type 0
AreEntries entries = AllByRecursion IsEntry entries
