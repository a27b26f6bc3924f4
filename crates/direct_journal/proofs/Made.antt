-- The snapshots of a state were made by its entries.
use Rattle.std.proofs.Common.{◌≡◌, ℕ, List, [], ◌∷◌, ◌++◌, Bool, true, false, cond, Option, None, Some, refl, ◌∙◌, subst, append_assoc}
use Rattle.std.proofs.lemmas.List.{append-nil}
use Rattle.std.proofs.lemmas.List.Folds.{list_any-append}
use Rattle.std.specs.Prelude.{◌&&◌, ◌==◌, fold, filter, map, bytes_eq}
use Rattle.std.specs.List.{list_any}
use Rattle.snap_ids.specs.declared.id.Ino.{Ino}
use Rattle.snap_ids.specs.declared.id.SnapId.{SnapId}
use Rattle.plain_types.specs.declared.change.Change.{Change}
use Rattle.plain_types.specs.declared.change.Change.TheVariants as change
use Rattle.plain_types.specs.declared.entry.Entry.{Entry}
use Rattle.plain_tree.specs.State.{State, Snapshot, start}
use Rattle.plain_tree.specs.Change.{is_refused, make, removed}
use Rattle.plain_tree.specs.Query.{id_named}
use Rattle.plain_tree.proofs.Asked.{same_number, or_true}
use Rattle.plain_journal.specs.Entries.{change_in, with_change, after_entry, state_after, makes_snap}
use Rattle.plain_journal.specs.Realms.{name_shown, shown}
use Rattle.plain_journal.specs.Coverage.{covering}
use Rattle.journal_laws.specs.Entries.{was_made}
use Rattle.direct_journal.proofs.Entries.{makes_by}

-- each of these snapshots was made
abbrev AllMade : List Entry → List Snapshot → Type 0
AllMade done [] = Unit {0}
AllMade done (snap ∷ snaps) = (was_made snap.id done ≡ true) × AllMade done snaps

made_more : (s : SnapId) (done : List Entry) (e : Entry) → was_made s done ≡ true → was_made s (done ++ e ∷ []) ≡ true
made_more s done e is = list_any-append (λ (x : Entry). makes_snap s x.what) done (e ∷ []) ∙ rw is refl

all_more : (done : List Entry) (e : Entry) (snaps : List Snapshot) → AllMade done snaps → AllMade (done ++ e ∷ []) snaps
all_more done e [] all = tt
all_more done e (snap ∷ snaps) all = (made_more snap.id done e all.0, all_more done e snaps all.1)

all_push : (done : List Entry) (snaps : List Snapshot) (snap : Snapshot) → AllMade done snaps → was_made snap.id done ≡ true → AllMade done (snaps ++ snap ∷ [])
all_push done [] snap all is = (is, tt)
all_push done (first ∷ snaps) snap all is = (all.0, all_push done snaps snap all.1 is)

all_removed : (done : List Entry) (id : SnapId) (snaps : List Snapshot) → AllMade done snaps → AllMade done (removed id snaps)
all_removed done id [] all = tt
all_removed done id (snap ∷ snaps) all = (all.0, all_removed done id snaps all.1)

-- a change keeps that, as its entry makes the snapshots that it adds
made_by : (state : State) (client : ℕ) (done : List Entry) (e : Entry) (made : Change) → change_in e.what ≡ Some made → AllMade done state.snaps → AllMade (done ++ e ∷ []) (make state client made).snaps
made_by state client done e (change.Mksnap id dir name) is all = all_push (done ++ e ∷ []) state.snaps _ (all_more done e state.snaps all) here
  where
    makes_it : makes_snap id e.what ≡ true
    makes_it = makes_by id e.what (change.Mksnap id dir name) is ∙ same_number id.0

    here : was_made id (done ++ e ∷ []) ≡ true
    here = list_any-append (λ (x : Entry). makes_snap id x.what) done (e ∷ []) ∙ rw makes_it (or_true (was_made id done))
made_by state client done e (change.Rmsnap id) is all = all_removed (done ++ e ∷ []) id state.snaps (all_more done e state.snaps all)
made_by state client done e made is all = all_more done e state.snaps all

made_apply : (state : State) (done : List Entry) (e : Entry) (o : Option Change) → change_in e.what ≡ o → AllMade done state.snaps → AllMade (done ++ e ∷ []) (with_change state e.client o).snaps
made_apply state done e None is all = all_more done e state.snaps all
made_apply state done e (Some made) is all = elim (is_refused state e.client made) as (λ b. AllMade (done ++ e ∷ []) (cond b state (make state e.client made)).snaps) [
  | true ↦ all_more done e state.snaps all
  | false ↦ made_by state e.client done e made is all
]

made_fold : (state : State) (done later : List Entry) → AllMade done state.snaps → AllMade (done ++ later) (fold after_entry state later).snaps
made_fold state done [] all = rw append-nil all
made_fold state done (e ∷ later) all =
    rw (← append_assoc done (e ∷ []) later) (made_fold (after_entry state e) (done ++ e ∷ []) later (made_apply state done e (change_in e.what) refl all))

all_made : (done : List Entry) → AllMade done (state_after done).snaps
all_made done = made_fold start [] done tt

named_by : (done : List Entry) (snap : Snapshot) (s : SnapId) (rest : Option SnapId) → was_made snap.id done ≡ true → (rest ≡ Some s → was_made s done ≡ true) → (b : Bool) → cond b (Some snap.id) rest ≡ Some s → was_made s done ≡ true
named_by done snap s rest made later true here = let same : snap.id ≡ s = cc in subst (λ (x : SnapId). was_made x done ≡ true) same made
named_by done snap s rest made later false there = later there

filtered : (done : List Entry) (name_of : Snapshot → List ℕ) (name : List ℕ) (s : SnapId) (snap : Snapshot) (kept : List Snapshot) → was_made snap.id done ≡ true → (id_named (map (λ (x : Snapshot). (name_of x, x.id)) kept) name ≡ Some s → was_made s done ≡ true) → (b : Bool) → id_named (map (λ (x : Snapshot). (name_of x, x.id)) (cond b (snap ∷ kept) kept)) name ≡ Some s → was_made s done ≡ true
filtered done name_of name s snap kept made later true found = named_by done snap s (id_named (map (λ (x : Snapshot). (name_of x, x.id)) kept) name) made later (bytes_eq (name_of snap) name) found
filtered done name_of name s snap kept made later false found = later found

named_made : (done : List Entry) (test : Snapshot → Bool) (name_of : Snapshot → List ℕ) (name : List ℕ) (s : SnapId) (snaps : List Snapshot) → AllMade done snaps → id_named (map (λ (snap : Snapshot). (name_of snap, snap.id)) (filter test snaps)) name ≡ Some s → was_made s done ≡ true
named_made done test name_of name s [] all found = cc
named_made done test name_of name s (snap ∷ snaps) all found =
    filtered done name_of name s snap (filter test snaps) all.0 (λ later. named_made done test name_of name s snaps all.1 later) (test snap) found

-- a snapshot that is shown was made
pub shown_made : (done : List Entry) (dir : Ino) (name : List ℕ) (s : SnapId) → id_named (shown done dir) name ≡ Some s → was_made s done ≡ true
shown_made done dir name s found =
    named_made done (λ (snap : Snapshot). snap.live && list_any (λ (x : SnapId). x.0 == snap.id.0) (covering done dir)) (name_shown dir) name s (state_after done).snaps (all_made done) found
