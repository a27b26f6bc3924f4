-- What calls of a disk in memory do to what a crash may leave.
use Rattle.std.proofs.Common.{◌≡◌, ◌⊎◌, inl, inr, ℕ, zero, suc, ◌+◌, ◌-◌, ◌≤◌, List, [], ◌∷◌, length, drop, sym, ap, ◌∙◌, subst, arith}
use Rattle.io_edge.specs.declared.disk_call.DiskCall.{DiskCall}
use Rattle.io_edge.specs.declared.disk_call.DiskCall.TheVariants.{Write, Cut, Sync}
use Rattle.io_edge.specs.Disk.{Follows, Passes}
use Rattle.io_edge.specs.DiskLaws.{torn_undone, shortened_undone, leaves_file, may_leave_file}
use Rattle.io_edge.specs.Past.{Past, more, file_after, LeavesAfter, since_sync, file_of, MayLeave, LeftSince, stopped_file}

-- a step that wasn't made
pub unchanged : (step : List ℕ → List ℕ → Type 0) → ((d : List ℕ) → step d d) → (old new : Past) → new ≡ old → Follows step (MayLeave old) (MayLeave new)
unchanged step undone old new is = λ c left. (c, subst (λ past. MayLeave past c) is left, undone c)

-- a sync leaves nothing else than before it
pub synced : (old new : Past) → new ≡ more Sync old → (c : List ℕ) → MayLeave new c → MayLeave old c
synced old new is c left =
    let here : c ≡ file_of old = subst (λ past. MayLeave past c) is left in
    subst (MayLeave old) (sym here) (may_leave_file old)

-- each of the calls since the last sync may be undone, the last one first
leaves_front : (base : List ℕ) (done : List DiskCall) (undone : ℕ) → undone ≤ length (since_sync done) → LeavesAfter base done (file_after base (drop undone done))
leaves_front base done zero within = leaves_file base done
leaves_front base [] (suc undone) within = absurd (omega arith)
leaves_front base (Write place bytes ∷ done) (suc undone) within =
    (file_after base (drop undone done), leaves_front base done undone (omega arith), torn_undone place (length bytes) (file_after base (drop undone done)))
leaves_front base (Cut most ∷ done) (suc undone) within =
    (file_after base (drop undone done), leaves_front base done undone (omega arith), shortened_undone most (file_after base (drop undone done)))
leaves_front base (Sync ∷ done) (suc undone) within = absurd (omega arith)

-- what a stopped disk holds is one of the things that a crash may leave
pub leaves_stopped : (seen past image : Past) (kept : ℕ) → image ≡ record { base = stopped_file kept seen; done = [] } → seen ≡ past → MayLeave past (file_of image)
leaves_stopped seen past image kept is same =
    let held = leaves_front seen.base seen.done (length (since_sync seen.done) - kept) (omega arith) in
    subst (λ (all : Past). MayLeave all (file_of image)) same (subst (λ (one : Past). MayLeave seen (file_of one)) (sym is) held)

later_or_now : (n : ℕ) (base : List ℕ) (call : DiskCall) (done : List DiskCall) (k : ℕ) (c : List ℕ) → n + k ≤ length (call ∷ done) → LeavesAfter base (drop k (call ∷ done)) c
    → ((j : ℕ) × (n + j ≤ length done) × LeavesAfter base (drop j done) c) ⊎ LeavesAfter base (call ∷ done) c
later_or_now n base call done zero c within left = inr left
later_or_now n base call done (suc k) c within left = inl (k, omega arith, left)

module _ {D : Type 0} (past : D → Past) where
  abbrev may_leave : D → List ℕ → Type 0
  may_leave disk = MayLeave (past disk)

  abbrev left_since : D → D → List ℕ → Type 0
  left_since earlier disk = LeftSince (past earlier) (past disk)

  -- a call that changes nothing
  pub passes_same : (old new : D) → past new ≡ past old → Passes may_leave left_since old new
  passes_same old new is = record {
    nothing_else = λ earlier c left. inl (subst (λ later. LeftSince (past earlier) later c) is left);
    keeps = λ earlier c left. subst (λ later. LeftSince (past earlier) later c) (sym is) left;
    counts = λ earlier since c left.
        subst (λ later. LeftSince (past earlier) later c) (sym is) (since c (subst (λ later. MayLeave later c) is left));
  }

  -- a call that is done
  pub passes_more : (call : DiskCall) (seen : Past) (old new : D) → past new ≡ more call seen → seen ≡ past old → Passes may_leave left_since old new
  passes_more call seen old new done same =
      let is : past new ≡ more call (past old) = done ∙ ap (more call) same in
      record {
        nothing_else = λ earlier c left.
            let there = subst (λ later. LeftSince (past earlier) later c) is left in
            split earlier c is (later_or_now (length (past earlier).done) (past old).base call (past old).done there.0 c there.1 there.2);
        keeps = λ earlier c left.
            subst (λ later. LeftSince (past earlier) later c) (sym is) (suc left.0, omega (arith, left.1), left.2);
        counts = λ earlier since c left.
            let then = since (file_of (past old)) (may_leave_file (past old)) in
            subst (λ later. LeftSince (past earlier) later c) (sym is) (0, omega (arith, then.1), subst (λ later. MayLeave later c) is left);
      }
    where
      split : (earlier : D) (c : List ℕ) → past new ≡ more call (past old) → LeftSince (past earlier) (past old) c ⊎ LeavesAfter (past old).base (call ∷ (past old).done) c → LeftSince (past earlier) (past old) c ⊎ MayLeave (past new) c
      split earlier c is (inl before) = inl before
      split earlier c is (inr now) = inr (subst (λ later. MayLeave later c) (sym is) now)
