-- Live snapshots after one more entry.
use Rattle.std.proofs.Common.{◌≡◌, ℕ, ◌<◌, ◌≤◌, List, [], ◌∷◌, ◌++◌, Bool, true, false, Option, None, Some, refl, sym, ap, ◌∙◌, subst, arith, eqb-true, ltb-true}
use Rattle.std.specs.Prelude.{not, ◌||◌, ◌&&◌, ◌==◌, nat_lt, if◌then◌else◌}
use Rattle.std.proofs.lemmas.List.Folds.{list_any-append}
use Rattle.std.proofs.lemmas.List.Sums.{fold-append}
use Rattle.snap_ids.specs.declared.id.Ino.{Ino}
use Rattle.snap_ids.specs.declared.id.SnapId.{SnapId}
use Rattle.plain_types.specs.declared.change.Change.{Change}
use Rattle.plain_types.specs.declared.change.Change.TheVariants as change
use Rattle.plain_types.specs.declared.entry.Entry.{Entry}
use Rattle.plain_types.specs.declared.entry.What.{What}
use Rattle.plain_types.specs.declared.entry.What.TheVariants as what
use Rattle.plain_tree.specs.State.{State, Snapshot}
use Rattle.plain_tree.specs.Change.{is_refused, removed, make}
use Rattle.plain_journal.specs.Entries.{change_in, with_change, state_after, makes_snap, applied_by, applied}
use Rattle.plain_journal.specs.Legal.{is_made_by, is_given, fits, is_legal, is_journal}
use Rattle.journal_laws.specs.Entries.{was_made}
use Rattle.journal_laws.proofs.Steps.{both_true, of_journals, state_more}
use Rattle.journal_laws.proofs.Rising.{made_upto_applied}
use Rattle.journal_moments.specs.Moments.{is_live_snap}

pub or_left : (a b : Bool) → a ≡ true → (a || b) ≡ true
or_left true b is = refl
or_left false b is = cc

pub or_right : (a b : Bool) → b ≡ true → (a || b) ≡ true
or_right true b is = refl
or_right false b is = is

or_none : (a b : Bool) → (a || (b || false)) ≡ true → (a || b) ≡ true
or_none true b is = refl
or_none false true is = refl
or_none false false is = cc

-- the change leaves the snapshots
abbrev leaves_snaps : Option Change → Bool
leaves_snaps (Some (change.Mksnap id dir name)) = false
leaves_snaps (Some (change.Rmsnap id)) = false
leaves_snaps c = true

same_snaps : (b : Bool) (state new : State) → new.snaps ≡ state.snaps → (if b then state else new).snaps ≡ state.snaps
same_snaps true state new same = refl
same_snaps false state new same = same

module _ (state : State) (client : ℕ) where
  steady_snaps : (c : Option Change) → leaves_snaps c ≡ true → (with_change state client c).snaps ≡ state.snaps
  steady_snaps None is = refl
  steady_snaps (Some (change.Mksnap id dir name)) is = cc
  steady_snaps (Some (change.Rmsnap id)) is = cc
  steady_snaps (Some c) is = same_snaps (is_refused state client c) state (make state client c) refl

  -- a new snapshot is live
  with_new : (id : SnapId) (dir : Ino) (name : List ℕ) (s : SnapId) (b : Bool) → is_live_snap s (if b then state else make state client (change.Mksnap id dir name)).snaps ≡ true → (is_live_snap s state.snaps || id.0 == s.0) ≡ true
  with_new id dir name s true live = or_left (is_live_snap s state.snaps) (id.0 == s.0) live
  with_new id dir name s false live =
      or_none (is_live_snap s state.snaps) (id.0 == s.0)
      (sym (list_any-append (λ (snap : Snapshot). snap.live && snap.id.0 == s.0) state.snaps (record { id = id; root = dir; name = name; live = true } ∷ [])) ∙ live)

  -- what is live after a removal was live before
  still_live : (id s : SnapId) (snaps : List Snapshot) → is_live_snap s (removed id snaps) ≡ true → is_live_snap s snaps ≡ true
  still_live id s [] live = cc
  still_live id s (snap ∷ snaps) live = go snap.live (snap.id.0 == id.0) (snap.id.0 == s.0) live (still_live id s snaps)
    where
      go : (a b c : Bool) → (((a && not b) && c) || is_live_snap s (removed id snaps)) ≡ true → (is_live_snap s (removed id snaps) ≡ true → is_live_snap s snaps ≡ true) → ((a && c) || is_live_snap s snaps) ≡ true
      go true b true live rest = refl
      go true true false live rest = rest live
      go true false false live rest = rest live
      go false b c live rest = rest live

  without_old : (id s : SnapId) (b : Bool) → is_live_snap s (if b then state else make state client (change.Rmsnap id)).snaps ≡ true → is_live_snap s state.snaps ≡ true
  without_old id s true live = live
  without_old id s false live = still_live id s state.snaps live

  -- what is live then was live before, or is made now
  pub live_step : (w : What) (s : SnapId) → is_live_snap s (with_change state client (change_in w)).snaps ≡ true → (is_live_snap s state.snaps || makes_snap s w) ≡ true
  live_step (what.Mksnap id dir name) s live = with_new id dir name s (is_refused state client (change.Mksnap id dir name)) live
  live_step (what.Rmsnap id) s live = or_left (is_live_snap s state.snaps) false (without_old id s (is_refused state client (change.Rmsnap id)) live)
  live_step w s live = or_left (is_live_snap s state.snaps) false (ap (is_live_snap s) (sym (steady_snaps (change_in w) refl)) ∙ live)

pub live_more : (entries : List Entry) (e : Entry) (s : SnapId) → is_live_snap s (state_after (entries ++ e ∷ [])).snaps ≡ true → (is_live_snap s (state_after entries).snaps || makes_snap s e.what) ≡ true
live_more entries e s live =
    live_step (state_after entries) e.client e.what s (ap (λ (state : State). is_live_snap s state.snaps) (sym (state_more entries e)) ∙ live)

-- a live snapshot was made
pub live_made : (entries : List Entry) → is_journal entries ≡ true → (s : SnapId) → is_live_snap s (state_after entries).snaps ≡ true → was_made s entries ≡ true
live_made entries legal = of_journals (λ (done : List Entry). (s : SnapId) → is_live_snap s (state_after done).snaps ≡ true → was_made s done ≡ true) (λ s live. cc) more entries legal
  where
    more : (done : List Entry) (e : Entry) → ((s : SnapId) → is_live_snap s (state_after done).snaps ≡ true → was_made s done ≡ true) → is_legal done e ≡ true → (s : SnapId) → is_live_snap s (state_after (done ++ e ∷ [])).snaps ≡ true → was_made s (done ++ e ∷ []) ≡ true
    more done e old fine s live =
        list_any-append (λ (x : Entry). makes_snap s x.what) done (e ∷ [])
        ∙ go (is_live_snap s (state_after done).snaps) (makes_snap s e.what) (old s) (live_more done e s live)
      where
        go : (a b : Bool) → (a ≡ true → was_made s done ≡ true) → (a || b) ≡ true → (was_made s done || (b || false)) ≡ true
        go true b old any = or_left (was_made s done) (b || false) (old refl)
        go false true old any = or_right (was_made s done) true refl
        go false false old any = cc

pub live_upto : (entries : List Entry) → is_journal entries ≡ true → (s : SnapId) → is_live_snap s (state_after entries).snaps ≡ true → s.0 ≤ applied entries
live_upto entries legal s live = made_upto_applied entries legal s (live_made entries legal s live)

-- the last id after one more entry
pub applied_more : (entries : List Entry) (e : Entry) → applied (entries ++ e ∷ []) ≡ applied_by (applied entries) e.what
applied_more entries e = fold-append (λ before (x : Entry). applied_by before x.what) 1 entries (e ∷ [])

-- what fits of a new id
pub new_fits : (entries : List Entry) (id : SnapId) (dir : Ino) (name : List ℕ) → fits entries (what.Mksnap id dir name) ≡ true → (applied entries < id.0) × (id.0 < 4611686018427387904)
new_fits entries id dir name fine =
    let l = both_true (nat_lt (applied entries) id.0) (is_given id) fine in
    (ltb-true (applied entries) id.0 l.0, ltb-true id.0 4611686018427387904 l.1)

-- the id of a new snapshot is above the last one, and is the last one then
pub new_id : (entries : List Entry) (w : What) (s : SnapId) → fits entries w ≡ true → makes_snap s w ≡ true → (applied entries < s.0) × (s.0 < 4611686018427387904) × (applied_by (applied entries) w ≡ s.0)
new_id entries (what.Mksnap id dir name) s fine makes =
    let l = new_fits entries id dir name fine in
    let same : id.0 ≡ s.0 = eqb-true id.0 s.0 makes in
    (omega (arith, l.0, same), omega (arith, l.1, same), same)
new_id entries w s fine makes = cc

-- the last id rises
rises_by : (entries : List Entry) (w : What) → fits entries w ≡ true → applied entries ≤ applied_by (applied entries) w
rises_by entries (what.Mksnap id dir name) fine = let l = new_fits entries id dir name fine in omega (arith, l.0)
rises_by entries w fine = omega arith

pub applied_rises : (entries : List Entry) (e : Entry) → is_legal entries e ≡ true → applied entries ≤ applied (entries ++ e ∷ [])
applied_rises entries e fine =
    subst (λ (n : ℕ). applied entries ≤ n) (sym (applied_more entries e))
    (rises_by entries e.what (both_true (is_made_by (state_after entries) e.client (change_in e.what)) (fits entries e.what) fine).1)

-- ids stay below 2^62
below_by : (entries : List Entry) (w : What) → applied entries < 4611686018427387904 → fits entries w ≡ true → applied_by (applied entries) w < 4611686018427387904
below_by entries (what.Mksnap id dir name) below fine = (new_fits entries id dir name fine).1
below_by entries w below fine = below

pub applied_below : (entries : List Entry) → is_journal entries ≡ true → applied entries < 4611686018427387904
applied_below entries legal = of_journals (λ (done : List Entry). applied done < 4611686018427387904) (omega arith) more entries legal
  where
    more : (done : List Entry) (e : Entry) → applied done < 4611686018427387904 → is_legal done e ≡ true → applied (done ++ e ∷ []) < 4611686018427387904
    more done e below fine =
        subst (λ (n : ℕ). n < 4611686018427387904) (sym (applied_more done e))
        (below_by done e.what below (both_true (is_made_by (state_after done) e.client (change_in e.what)) (fits done e.what) fine).1)
