-- Why a call of a journal is refused.
use Rattle.std.specs.Prelude.{◌≡◌, ◌<◌, ◌≤◌, ◌++◌, ℕ, List, Option, None, Some, Result, Ok, Err, OnOk, IsErrOf}
use Rattle.plain_types.specs.declared.entry.Entry.{Entry}
use Rattle.io_edge.specs.declared.disk.DiskError.{DiskError}
use Rattle.io_edge.specs.declared.disk.DiskError.TheVariants as disk
use Rattle.journal_format.specs.Image.{batch, IsBatch, IsJournal}
use Rattle.mds_journal.specs.declared.fault.JournalFault.{JournalFault}
use Rattle.mds_journal.specs.declared.fault.JournalFault.TheVariants as why
use Rattle.mds_journal.specs.Stops.{HasGate, IsOpened, IsClosed}

-- what a disk's error is for a journal
abbrev pub fault_of : DiskError → JournalFault
fault_of disk.Failed = why.DiskFault
fault_of disk.NoMemory = why.NoMemory

-- The disk's count rises where the disk is the cause, and stays otherwise.
pub record Blames (before now : ℕ) (cause : JournalFault) : Type 0 where
  pub never_falls : before ≤ now
  pub disk : cause ≡ why.DiskFault → before < now
  pub not_journal : cause ≡ why.NotJournal → now ≡ before
  pub no_memory : cause ≡ why.NoMemory → now ≡ before

-- the same of a call, and it stays where the call is done
pub record Blamed {T : Type 0} (before now : ℕ) (result : Result T JournalFault) : Type 0 where
  pub never_falls : before ≤ now
  pub ok : OnOk result (now ≡ before)
  pub disk : IsErrOf result why.DiskFault → before < now
  pub not_journal : IsErrOf result why.NotJournal → now ≡ before
  pub no_memory : IsErrOf result why.NoMemory → now ≡ before

-- Bytes are read as a journal with its gate, or are no journal. A refusal for want of memory says nothing.
abbrev pub Scans : List ℕ → Result (List Entry × ℕ) JournalFault → Type 0
Scans bytes (Ok found) = HasGate bytes found.0 found.1
Scans bytes (Err why.NotJournal) = (entries : List Entry) → IsJournal bytes entries → ⊥
Scans bytes (Err why.NoMemory) = Unit {0}
Scans bytes (Err why.DiskFault) = ⊥

-- What stands in front of bytes: a batch, which is read, or a closed gate, or neither.
abbrev pub ReadsBatch : {X : Type 0} → (X → List Entry × List ℕ) → List ℕ → Result (Option X) JournalFault → Type 0
ReadsBatch view bytes (Ok (Some x)) = IsBatch (view x).0 × (bytes ≡ batch (view x).0 ++ (view x).1)
ReadsBatch view bytes (Ok None) = IsClosed bytes
ReadsBatch view bytes (Err why.NotJournal) = (IsOpened bytes → ⊥) × (IsClosed bytes → ⊥)
ReadsBatch view bytes (Err why.NoMemory) = Unit {0}
ReadsBatch view bytes (Err why.DiskFault) = ⊥
