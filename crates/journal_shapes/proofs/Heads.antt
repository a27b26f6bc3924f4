-- The heads of a table's inodes.
use Rattle.std.proofs.Common.{◌≡◌, ℕ, ◌+◌, ◌<◌, ◌≤◌, List, [], Bool, true, false, cond, ◌⊎◌, inl, inr, Option, None, Some, refl, arith, le-leb}
use Rattle.std.proofs.lemmas.Bool.{ltb-true, leb-true}
use Rattle.std.specs.Prelude.{◌||◌, ◌==◌, nat_lt, nat_le, max}
use Rattle.std.specs.Option.{option_map}
use Rattle.snap_ids.specs.declared.id.Ino.{Ino}
use Rattle.snap_ids.specs.declared.id.SnapId.{SnapId}
use Rattle.snap_ids.specs.declared.id.TheConstants.{NOSNAP}
use Rattle.inode_versions.specs.declared.attr.Attr.{Attr}
use Rattle.inode_versions.specs.Histories.{History, since_changed}
use Rattle.inode_versions.specs.Table.{history_of, answer, attr_at, head_of, since, begins_by, is_heads, first_settled, kept_by, is_kept}

-- a first id that is at most one is at most a later one
pub begins_later : (s t : SnapId) (first : Option SnapId) → s.0 ≤ t.0 → begins_by s first ≡ true → begins_by t first ≡ true
begins_later s t None later is = cc
begins_later s t (Some first) later is = let l = leb-true first.0 s.0 is in le-leb first.0 t.0 (omega (arith, l, later))

-- at the ids of the head the answer is the head
pub head_at : (table : List (ℕ × History)) (ino : Ino) (s : SnapId) → s.0 ≤ NOSNAP.0 → is_heads table ino s ≡ true → attr_at table ino s ≡ head_of table ino
unfolding attr_at since
head_at table ino s upto is = go (history_of table ino) is
  where
    go : (h : Option History) → begins_by s (option_map (λ (history : History). history.since) h) ≡ true → answer h s ≡ answer h NOSNAP
    go None is = cc
    go (Some h) is =
        let at_s : nat_le h.since.0 s.0 ≡ true = is in
        let l = leb-true h.since.0 s.0 at_s in
        let live : nat_le h.since.0 NOSNAP.0 ≡ true = le-leb h.since.0 NOSNAP.0 (omega (arith, l, upto)) in
        rw (at_s, le-leb s.0 NOSNAP.0 upto, live) refl

-- a head is kept
pub head_kept : (list : List SnapId) (table : List (ℕ × History)) (ino : Ino) (s : SnapId) → is_heads table ino s ≡ true → is_kept list table ino s ≡ true
unfolding is_kept since
head_kept list table ino s is = go (history_of table ino) is
  where
    go : (h : Option History) → begins_by s (option_map (λ (history : History). history.since) h) ≡ true → kept_by list s h ≡ true
    go None is = cc
    go (Some h) is = let at_s : nat_le h.since.0 s.0 ≡ true = is in rw at_s refl

-- an empty table
pub none_there : (ino : Ino) (s : SnapId) → attr_at [] ino s ≡ None
unfolding attr_at
none_there ino s = refl

-- a head after a change, and after a size is settled
pub changed_begins : (follows t : SnapId) (first : Option SnapId) → follows.0 < t.0 → begins_by t first ≡ true → begins_by t (option_map (since_changed follows) first) ≡ true
changed_begins follows t None below is = cc
changed_begins follows t (Some first) below is =
    let l = leb-true first.0 t.0 is in
    le-leb (max first.0 (follows.0 + 1)) t.0 (omega (arith, l, below))

pub settled_begins : (follows upto : SnapId) (size : ℕ) (head : Option Attr) (t : SnapId) (first : Option SnapId) → follows.0 < t.0 → (upto.0 < t.0) ⊎ (NOSNAP.0 ≤ upto.0) → begins_by t first ≡ true → begins_by t (first_settled follows upto size head first) ≡ true
settled_begins follows upto size None t first below past is = is
settled_begins follows upto size (Some head) t None below past is = cc
settled_begins follows upto size (Some head) t (Some first) below past is = go ((head.size == size) || (nat_le upto.0 follows.0 || nat_lt upto.0 first.0)) (nat_lt upto.0 NOSNAP.0) refl past
  where
    go : (a b : Bool) → nat_lt upto.0 NOSNAP.0 ≡ b → (upto.0 < t.0) ⊎ (NOSNAP.0 ≤ upto.0) → nat_le (cond a first (cond b (record { 0 = upto.0 + 1 }) (record { 0 = max first.0 (follows.0 + 1) }))).0 t.0 ≡ true
    go true b less past = is
    go false true less (inl low) = le-leb (upto.0 + 1) t.0 (omega (arith, low))
    go false true less (inr high) = let l = ltb-true upto.0 NOSNAP.0 less in absurd (omega (arith, l, high))
    go false false less past =
        let l = leb-true first.0 t.0 is in
        le-leb (max first.0 (follows.0 + 1)) t.0 (omega (arith, l, below))
