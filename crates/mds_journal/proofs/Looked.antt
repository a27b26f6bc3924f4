-- Calls that change nothing, one after the other.
use Rattle.std.proofs.Common.{◌≡◌, ◌≤◌, ◌-◌, ◌+◌, ◌<◌, List, ℕ, [], ◌++◌, refl, sym, ap, ◌∙◌, length, take, drop, min, arith, nat_lt, false}
use Rattle.std.proofs.Math.Seq.{take-add}
use Rattle.std.proofs.lemmas.Bool.{ltb-false}
use Rattle.std.proofs.lemmas.List.{append-nil, take_all, length-take}
use Rattle.std.specs.Prelude.{◌↔◌}
use Rattle.io_edge.specs.Disk.{Passes, LeavesOnly}
use Rattle.io_edge.proofs.Moments.{started, goes_on, runs_on, leaves_weaker}
use Rattle.mds_journal.specs.Stops.{Looks}

module _ {D : Type 0} (file : D → List ℕ) (may_leave : D → List ℕ → Type 0) (left_since : D → D → List ℕ → Type 0) (since_now : (disk : D) (c : List ℕ) → left_since disk disk c ↔ may_leave disk c) where
  -- no call
  pub looks_now : (old : D) → Looks file may_leave left_since old old
  looks_now old = record {
    same = refl;
    fewer = λ c left. left;
    left = started may_leave left_since old (may_leave old) (λ c left. (since_now old c).0 left);
    moments = λ earlier since. since;
  }

  -- one call
  pub looks_once : (old new : D) → file new ≡ file old → ((c : List ℕ) → may_leave new c → may_leave old c) → Passes may_leave left_since old new → Looks file may_leave left_since old new
  looks_once old new same fewer time = record {
    same = same;
    fewer = fewer;
    left = goes_on may_leave left_since old old new (may_leave old) (looks_now old).left time fewer;
    moments = time.counts;
  }

  -- some calls, and some more
  pub looks_on : (old mid new : D) → Looks file may_leave left_since old mid → Looks file may_leave left_since mid new → Looks file may_leave left_since old new
  looks_on old mid new first next = record {
    same = next.same ∙ first.same;
    fewer = λ c left. first.fewer c (next.fewer c left);
    left = runs_on may_leave left_since old mid new (may_leave old) first.left (leaves_weaker left_since mid new (may_leave mid) (may_leave old) first.fewer next.left);
    moments = λ earlier since. next.moments earlier (first.moments earlier since);
  }

-- what was read so far: the front of the file
pub record ReadSoFar {D : Type 0} (file : D → List ℕ) (may_leave : D → List ℕ → Type 0) (left_since : D → D → List ℕ → Type 0) (faults : D → ℕ) (old now : D) (bytes : List ℕ) : Type 0 where
  pub looks : Looks file may_leave left_since old now
  pub front : bytes ≡ take (length bytes) (file old)
  pub inside : length bytes ≤ length (file old)
  pub count : faults now ≡ faults old

module _ {D : Type 0} (file : D → List ℕ) (may_leave : D → List ℕ → Type 0) (left_since : D → D → List ℕ → Type 0) (faults : D → ℕ) (since_now : (disk : D) (c : List ℕ) → left_since disk disk c ↔ may_leave disk c) where
  -- with some bytes more
  pub more_read : (old mid new : D) (bytes more : List ℕ) → ReadSoFar file may_leave left_since faults old mid bytes → Looks file may_leave left_since mid new
      → more ≡ bytes ++ take (min 512 (length (file mid) - length bytes)) (drop (length bytes) (file mid)) → faults new ≡ faults mid → ReadSoFar file may_leave left_since faults old new more
  more_read old mid new bytes more so_far looks is count =
      let n = min 512 (length (file mid) - length bytes) in
      let whole : more ≡ take (length bytes + n) (file old) =
      is ∙ ap (λ (l : List ℕ). bytes ++ take n (drop (length bytes) l)) so_far.looks.same ∙ ap (λ (l : List ℕ). l ++ take n (drop (length bytes) (file old))) so_far.front ∙ sym (take-add (length bytes) n (file old)) in
      let room : length bytes + n ≤ length (file old) = omega (arith, ap length so_far.looks.same, so_far.inside) in
      let size : length more ≡ length bytes + n = ap length whole ∙ length-take (length bytes + n) (file old) ∙ omega (arith, room) in
      record {
        looks = looks_on file may_leave left_since since_now old mid new so_far.looks looks;
        front = whole ∙ ap (λ (m : ℕ). take m (file old)) (sym size);
        inside = omega (arith, size, room);
        count = count ∙ so_far.count;
      }

-- with no bytes more that is the file
pub all_read : {D : Type 0} (file : D → List ℕ) (may_leave : D → List ℕ → Type 0) (left_since : D → D → List ℕ → Type 0) (faults : D → ℕ) (old mid : D) (bytes more : List ℕ) → ReadSoFar file may_leave left_since faults old mid bytes
    → more ≡ bytes ++ take (min 512 (length (file mid) - length bytes)) (drop (length bytes) (file mid)) → false ≡ nat_lt 0 (min 512 (length (file mid) - length bytes)) → more ≡ file old
all_read file may_leave left_since faults old mid bytes more so_far is none =
    let zero : min 512 (length (file mid) - length bytes) ≡ 0 = omega (arith, ltb-false 0 (min 512 (length (file mid) - length bytes)) (sym none)) in
    is ∙ ap (λ (n : ℕ). bytes ++ take n (drop (length bytes) (file mid))) zero ∙ append-nil bytes ∙ so_far.front
    ∙ take_all (length bytes) (file old) (omega (arith, zero, ap length so_far.looks.same, so_far.inside))
