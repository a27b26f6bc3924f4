-- A disk in memory: what its file held at first, and the calls since that were done, from which all is told.
use Rattle.std.specs.Prelude.{◌≡◌, ℕ, ◌+◌, ◌-◌, ◌≤◌, List, [], ◌∷◌, length, take, drop, Result, OnOk, OnErr, IsErrOf}
use Rattle.io_edge.specs.declared.disk.DiskError.{DiskError}
use Rattle.io_edge.specs.declared.disk.DiskError.TheVariants.{Failed}
use Rattle.io_edge.specs.declared.disk_call.DiskCall.{DiskCall}
use Rattle.io_edge.specs.declared.disk_call.DiskCall.TheVariants.{Write, Cut, Sync}
use Rattle.io_edge.specs.Disk.{written, Torn, Shortened}

-- the first content, on the disk before the first call, and the calls that were done, the last one first
pub record Past : Type 0 where
  pub base : List ℕ
  pub done : List DiskCall

-- with one more call done
abbrev pub more : DiskCall → Past → Past
more call past = record { base = past.base; done = call ∷ past.done }

-- what a call makes of a file
abbrev pub after : DiskCall → List ℕ → List ℕ
after (Write place bytes) file = written place bytes file
after (Cut most) file = take most file
after Sync file = file

-- the file after these calls
abbrev pub file_after : List ℕ → List DiskCall → List ℕ
file_after base [] = base
file_after base (call ∷ done) = after call (file_after base done)

-- What a crash after these calls may leave: each write and cut since the last sync is done, undone or done in part.
abbrev pub LeavesAfter : List ℕ → List DiskCall → List ℕ → Type 0
LeavesAfter base [] c = c ≡ base
LeavesAfter base (Write place bytes ∷ done) c = (d : List ℕ) × LeavesAfter base done d × Torn place (length bytes) d c
LeavesAfter base (Cut most ∷ done) c = (d : List ℕ) × LeavesAfter base done d × Shortened most d c
LeavesAfter base (Sync ∷ done) c = c ≡ file_after base done

-- the calls since the last sync
abbrev pub since_sync : List DiskCall → List DiskCall
since_sync [] = []
since_sync (Write place bytes ∷ done) = Write place bytes ∷ since_sync done
since_sync (Cut most ∷ done) = Cut most ∷ since_sync done
since_sync (Sync ∷ done) = []

-- what reads give
abbrev pub file_of : Past → List ℕ
file_of past = file_after past.base past.done

-- what a crash now may leave
abbrev pub MayLeave : Past → List ℕ → Type 0
MayLeave past c = LeavesAfter past.base past.done c

-- what a crash may have left since there were so many calls
abbrev pub LeftSince : Past → Past → List ℕ → Type 0
LeftSince earlier past c = (k : ℕ) × (length earlier.done + k ≤ length past.done) × LeavesAfter past.base (drop k past.done) c

-- the file at the last sync, with the first `kept` writes and cuts since
abbrev pub stopped_file : ℕ → Past → List ℕ
stopped_file kept past = file_after past.base (drop (length (since_sync past.done) - kept) past.done)

-- a call that is to leave the disk so: it doesn't fail, and want of memory changes nothing
pub record Steady {T : Type 0} (old meant new : Past) (result : Result T DiskError) : Type 0 where
  pub ok : OnOk result (new ≡ meant)
  pub no_memory : OnErr result (new ≡ old)
  pub never_fails : IsErrOf result Failed → ⊥
