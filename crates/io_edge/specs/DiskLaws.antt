-- What holds of every disk in memory, and how a run of calls of any disk goes on.
use Rattle.std.specs.Prelude.{◌≡◌, ℕ, ◌+◌, ◌-◌, ◌≤◌, min, List, [], ◌∷◌, ◌++◌, length, take, drop, replicate, refl}
use Rattle.std.proofs.Common.{zero, suc, ap, ◌∙◌, arith, append_assoc, length-append, length-drop}
use Rattle.std.proofs.lemmas.List.{take_at, drop_at, take_min, take_all, length-take, length-replicate}
use Rattle.io_edge.specs.declared.disk_call.DiskCall.{DiskCall}
use Rattle.io_edge.specs.declared.disk_call.DiskCall.TheVariants.{Write, Cut, Sync}
use Rattle.io_edge.specs.Disk.{written, Torn, Shortened}
use Rattle.io_edge.specs.Past.{Past, file_after, LeavesAfter, file_of, MayLeave, LeftSince}

-- a write that isn't done leaves a torn file
pub torn_undone : (place count : ℕ) (file : List ℕ) → Torn place count file file
torn_undone place count file = record { before = take_min place file; after = refl; no_shorter = omega arith }

-- so does one that is done
pub torn_done : (place : ℕ) (bytes file : List ℕ) → Torn place (length bytes) file (written place bytes file)
torn_done place [] file = torn_undone place 0 file
torn_done place (byte ∷ bytes) file =
    let front = take place file in
    let gap = replicate (place - length file) 0 in
    let end = drop (place + length (byte ∷ bytes)) file in
    let long : length (front ++ gap ++ byte ∷ bytes) ≡ place + length (byte ∷ bytes) =
    omega (arith, length-append (front ++ gap) (byte ∷ bytes), length-append front gap, length-take place file, length-replicate {A = ℕ} (place - length file) 0) in
    let split : front ++ gap ++ byte ∷ bytes ++ end ≡ front ++ (gap ++ (byte ∷ bytes ++ end)) =
    append_assoc (front ++ gap) (byte ∷ bytes) end ∙ append_assoc front gap (byte ∷ bytes ++ end) in
    record {
      before = ap (take (min place (length file))) split ∙ take_at front (gap ++ (byte ∷ bytes ++ end)) (min place (length file)) (length-take place file);
      after = drop_at (front ++ gap ++ byte ∷ bytes) end (place + length (byte ∷ bytes)) long;
      no_shorter = omega (arith, long, length-append (front ++ gap ++ byte ∷ bytes) end, length-drop (place + length (byte ∷ bytes)) file);
    }

-- a cut that isn't done leaves a shortened file
pub shortened_undone : (most : ℕ) (file : List ℕ) → Shortened most file file
shortened_undone most file = record { front = take_all (length file) file (omega arith); no_shorter = omega arith }

-- so does one that is done
pub shortened_done : (most : ℕ) (file : List ℕ) → Shortened most file (take most file)
shortened_done most file = record {
  front = ap (λ (n : ℕ). take n file) (length-take most file) ∙ take_min most file;
  no_shorter = omega (arith, length-take most file);
}

-- a crash may leave what reads give
pub leaves_file : (base : List ℕ) (done : List DiskCall) → LeavesAfter base done (file_after base done)
leaves_file base [] = refl
leaves_file base (Write place bytes ∷ done) = (file_after base done, leaves_file base done, torn_done place bytes (file_after base done))
leaves_file base (Cut most ∷ done) = (file_after base done, leaves_file base done, shortened_done most (file_after base done))
leaves_file base (Sync ∷ done) = refl

pub may_leave_file : (past : Past) → MayLeave past (file_of past)
may_leave_file past = leaves_file past.base past.done

none_further : (base : List ℕ) (done : List DiskCall) (k : ℕ) (c : List ℕ) → length done + k ≤ length done → LeavesAfter base (drop k done) c → LeavesAfter base done c
none_further base done zero c within left = left
none_further base done (suc k) c within left = absurd (omega arith)

-- since this moment there is no other
pub only_now : (past : Past) (c : List ℕ) → LeftSince past past c → MayLeave past c
only_now past c left = none_further past.base past.done left.0 c left.1 left.2

-- this moment is one of those since itself
pub counts_now : (past : Past) (c : List ℕ) → MayLeave past c → LeftSince past past c
counts_now past c left = (0, omega arith, left)
