-- What a journal's file holds: a header, batches of entries, each behind an open gate, and one closed gate.
use Rattle.std.specs.Prelude.{◌≡◌, ◌≢◌, ℕ, ◌<◌, ◌^◌, List, [], ◌∷◌, ◌++◌, length, codes}
use Rattle.std.specs.List.{flat_map, AllByRecursion}
use Rattle.plain_types.specs.declared.entry.Entry.{Entry}
use Rattle.plain_types.specs.declared.entry.What.TheVariants.{Mkdir}
use Rattle.journal_format.specs.Bytes.{word, bytes_of_all, AreEntries}

-- the first eight bytes
abbrev pub header : List ℕ
header = codes "SNAPJRN1"

-- a batch: the open gate 1, the length of its entries' bytes, and these
abbrev pub batch : List Entry → List ℕ
batch entries = 1 ∷ word (length (bytes_of_all entries)) ++ bytes_of_all entries

-- a batch has an entry, and its length fits four bytes
pub record IsBatch (entries : List Entry) : Type 0 where
  pub within : AreEntries entries
  pub some : 0 < length entries
  pub fits : length (bytes_of_all entries) < 2 ^ 32

-- the header, the batches, and a gate
abbrev pub journal_of : List (List Entry) → ℕ → List ℕ
journal_of batches gate = header ++ (flat_map batch batches ++ gate ∷ [])

-- The file is a journal of these entries up to its first closed gate. What stands behind that gate isn't read.
pub record IsJournal (file : List ℕ) (entries : List Entry) : Type 0 where
  pub batches : List (List Entry)
  pub gate : ℕ
  pub behind : List ℕ
  pub parts : file ≡ journal_of batches gate ++ behind
  pub closed : gate ≢ 1
  pub each : AllByRecursion IsBatch batches
  pub all : entries ≡ flat_map (λ entries. entries) batches

-- the file is the image of these entries: a journal of them, with nothing behind its closed gate
pub record IsImage (file : List ℕ) (entries : List Entry) : Type 0 where
  pub batches : List (List Entry)
  pub gate : ℕ
  pub parts : file ≡ journal_of batches gate
  pub closed : gate ≢ 1
  pub each : AllByRecursion IsBatch batches
  pub all : entries ≡ flat_map (λ entries. entries) batches

-- client 1 made the directory "a" in the root by its first request
abbrev pub first_entry : Entry
first_entry = record { client = 1; number = 1; what = Mkdir (record { 0 = 1 }) (codes "a") (record { 0 = 1099511627776 }) }
