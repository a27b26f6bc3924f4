-- A disk in memory whose failures are planned, and what its calls do.
use Rattle.std.specs.Prelude.{◌≡◌, ◌↔◌, ℕ, ◌+◌, ◌^◌, Bool, ◌&&◌, ◌==◌, nat_lt, List, IsTrue, Result, OnOk, IsErrOf}
use Rattle.std.specs.List.{list_any}
use Rattle.io_edge.specs.declared.disk.DiskError.{DiskError}
use Rattle.io_edge.specs.declared.disk.DiskError.TheVariants.{Failed, NoMemory}
use Rattle.io_edge.specs.declared.disk_call.DiskCall.{DiskCall}
use Rattle.io_edge.specs.Past.{Past, more, MayLeave, LeftSince}

-- the calls that were done, those that are to fail, counted from 1, and how many were made and failed
pub record Drive : Type 0 where
  pub past : Past
  pub failing : List ℕ
  pub calls : ℕ
  pub faults : ℕ

-- The call after these is listed to fail. A call that can't be counted isn't made.
abbrev pub is_to_fail : List ℕ → ℕ → Bool
is_to_fail failing calls = nat_lt (calls + 1) (2 ^ 62) && list_any (λ call. call == calls + 1) failing

-- the next call is listed to fail
abbrev pub is_call_refused : Drive → Bool
is_call_refused drive = is_to_fail drive.failing drive.calls

-- a failed call moves only the counters
abbrev pub drive_after_failure : Drive → Drive
drive_after_failure drive = record drive { calls = drive.calls + 1; faults = drive.faults + 1 }

-- a read is counted
abbrev pub drive_after_read : Drive → Drive
drive_after_read drive = record drive { calls = drive.calls + 1 }

-- any other call is counted and done
abbrev pub drive_after : DiskCall → Drive → Drive
drive_after call drive = record drive { past = more call drive.past; calls = drive.calls + 1 }

-- A call that is to leave the disk so: it fails exactly where it is listed, and want of memory changes nothing.
pub record Planned {T : Type 0} (old meant new : Drive) (result : Result T DiskError) : Type 0 where
  pub refused : IsErrOf result Failed ↔ IsTrue (is_call_refused old)
  pub ok : OnOk result (new ≡ meant)
  pub failed : IsErrOf result Failed → new ≡ drive_after_failure old
  pub no_memory : IsErrOf result NoMemory → new ≡ old

-- what a crash now may leave
abbrev pub DriveMayLeave : Drive → List ℕ → Type 0
DriveMayLeave drive = MayLeave drive.past

-- what a crash since an earlier moment may have left
abbrev pub DriveLeftSince : Drive → Drive → List ℕ → Type 0
DriveLeftSince earlier drive = LeftSince earlier.past drive.past
