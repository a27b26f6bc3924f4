-- What a stop leaves of a journal.
use Rattle.std.specs.Prelude.{◌≡◌, ◌≢◌, ◌⊎◌, ◌+◌, ◌<◌, List, [], ◌∷◌, ℕ, ◌++◌, length}
use Rattle.std.specs.List.{flat_map}
use Rattle.plain_types.specs.declared.entry.Entry.{Entry}
use Rattle.io_edge.specs.Disk.{IsSince, LeavesOnly}
use Rattle.journal_format.specs.Bytes.{word, bytes_of_all, AreEntries}
use Rattle.journal_format.specs.Image.{header, batch, IsBatch, IsJournal}

-- a journal of these entries, with a batch behind them or without it
abbrev pub IsWithOrWithout : List Entry → List Entry → List ℕ → Type 0
IsWithOrWithout entries batch file = IsJournal file entries ⊎ IsJournal file (entries ++ batch)

-- the same file, or a journal of the same entries
abbrev pub KeepsEntries : List ℕ → List ℕ → Type 0
KeepsEntries old new = (new ≡ old) ⊎ ((entries : List Entry) × IsJournal old entries × IsJournal new entries)

-- at least one entry, and these are its bytes
pub record Encodes (bytes : List ℕ) (batch : List Entry) : Type 0 where
  pub within : AreEntries batch
  pub some : 0 < length batch
  pub bytes_are : bytes ≡ bytes_of_all batch

-- the bytes behind the gate: a batch without its own gate, and a closed gate
pub record Stages (file : List ℕ) (gate : ℕ) (bytes : List ℕ) (batch : List Entry) : Type 0 where
  pub place : gate + 1 ≡ length file
  pub one : IsBatch batch
  pub bytes_are : bytes ≡ word (length (bytes_of_all batch)) ++ (bytes_of_all batch ++ 0 ∷ [])

-- what stands before the gate
abbrev pub before_gate : List (List Entry) → List ℕ
before_gate batches = header ++ flat_map batch batches

-- the file is a journal of these entries, and its closed gate stands at this place
pub record HasGate (file : List ℕ) (entries : List Entry) (gate : ℕ) : Type 0 where
  pub journal : IsJournal file entries
  pub place : length (before_gate journal.batches) ≡ gate

-- a moment that was one of those since an earlier one is followed by one of those
abbrev pub Counts : {D : Type 0} → (D → List ℕ → Type 0) → (D → D → List ℕ → Type 0) → D → D → Type 0
Counts {D} may_leave left_since old new = (earlier : D) → IsSince may_leave left_since earlier old → IsSince may_leave left_since earlier new

-- a batch stands in front
abbrev pub IsOpened : List ℕ → Type 0
IsOpened bytes = (entries : List Entry) × (behind : List ℕ) × IsBatch entries × (bytes ≡ batch entries ++ behind)

-- a closed gate stands in front
abbrev pub IsClosed : List ℕ → Type 0
IsClosed bytes = (gate : ℕ) × (behind : List ℕ) × (gate ≢ 1) × (bytes ≡ gate ∷ behind)

-- Nothing was changed: reads give the same, a crash leaves no more than before, and it left no more at any moment.
pub record Looks {D : Type 0} (file : D → List ℕ) (may_leave : D → List ℕ → Type 0) (left_since : D → D → List ℕ → Type 0) (old new : D) : Type 0 where
  pub same : file new ≡ file old
  pub fewer : (c : List ℕ) → may_leave new c → may_leave old c
  pub left : LeavesOnly left_since old new (may_leave old)
  pub moments : Counts may_leave left_since old new
