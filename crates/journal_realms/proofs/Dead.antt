-- A snapshot that was removed is live no more.
use Rattle.std.proofs.Common.{◌≡◌, ℕ, ◌+◌, ◌<◌, List, [], ◌∷◌, ◌++◌, Bool, true, false, not, ◌||◌, ◌&&◌, ◌==◌, Option, None, Some, refl, sym, ap, ◌∙◌, subst, arith, map, eqb}
use Rattle.std.proofs.lemmas.Bool.Decides.{nat_tests}
use Rattle.std.specs.List.{list_any}
use Rattle.std.proofs.lemmas.Bool.{eqb-true}
use Rattle.std.proofs.lemmas.List.Elements.{filter_map-append}
use Rattle.std.proofs.lemmas.List.Folds.{list_any-append}
use Rattle.snap_ids.specs.declared.id.Ino.{Ino}
use Rattle.snap_ids.specs.declared.id.SnapId.{SnapId}
use Rattle.plain_types.specs.declared.change.Change.TheVariants as change
use Rattle.plain_types.specs.declared.entry.Entry.{Entry}
use Rattle.plain_types.specs.declared.entry.What.{What}
use Rattle.plain_types.specs.declared.entry.What.TheVariants as what
use Rattle.plain_tree.specs.State.{Snapshot}
use Rattle.plain_tree.specs.Change.{is_refused}
use Rattle.plain_journal.specs.Entries.{change_in, state_after}
use Rattle.plain_journal.specs.Coverage.{is_purged}
use Rattle.plain_journal.specs.Table.{removed_by}
use Rattle.plain_journal.specs.Legal.{is_made_by, fits, is_legal, is_journal}
use Rattle.realm_story.specs.Family.{Made, Family}
use Rattle.realm_story.specs.Stands.{Each}
use Rattle.realm_story.proofs.Facts.{both_of}
use Rattle.journal_realms.specs.Told.{drop_found, told, family_of}
use Rattle.journal_realms.specs.Calls.{is_live_id}
use Rattle.journal_realms.proofs.Family.{family_more}
use Rattle.journal_realms.proofs.Kept.{not_true, not_false}
use Rattle.journal_realms.proofs.Snaps.{Remarks, has_name, named_is, dropped_one, found_of, above_last, basic_after}
use Rattle.journal_realms.proofs.Covered.{is_snap, told_marks}
use Rattle.journal_realms.proofs.Shown.{removed_ids, removed_is, removed_low, any_filter}
use Rattle.journal_realms.proofs.Induct.{of_each}

-- other marks make no snapshot live
dead_map : (f : Made → Made) → Remarks f → (id : SnapId) (snaps : List Made) → is_live_id id snaps ≡ false → is_live_id id (map f snaps) ≡ false
dead_map f keeps id [] dead = refl
dead_map f keeps id (s ∷ snaps) dead = go (f s).live s.live (s.id.0 == id.0) refl refl refl dead (dead_map f keeps id snaps)
  where
    test : (f s).id.0 == id.0 ≡ (s.id.0 == id.0)
    test = ap (λ (i : SnapId). i.0 == id.0) (keeps s).0

    go : (a b c : Bool) → (f s).live ≡ a → s.live ≡ b → (s.id.0 == id.0) ≡ c → ((b && c) || is_live_id id snaps) ≡ false → (is_live_id id snaps ≡ false → is_live_id id (map f snaps) ≡ false) → ((a && (f s).id.0 == id.0) || is_live_id id (map f snaps)) ≡ false
    go false true true now was is dead rest = cc
    go false true false now was is dead rest = rest dead
    go false false c now was is dead rest = rest dead
    go true false c now was is dead rest =
        let never : true ≡ false = sym ((keeps s).1.1.1.1 now) ∙ was in
        cc
    go true true true now was is dead rest = cc
    go true true false now was is dead rest = rw (test ∙ is) (rest dead)

-- the snapshot that loses its name is live no more
dead_dropped : (dir : Ino) (name : List ℕ) (id : SnapId) (snaps : List Made) → Each (λ t. t.live ≡ true → has_name dir name t ≡ (t.id.0 == id.0)) snaps → is_live_id id (map (dropped_one dir name) snaps) ≡ false
dead_dropped dir name id [] all = refl
dead_dropped dir name id (t ∷ snaps) all = go t.live (has_name dir name t) (t.id.0 == id.0) all.0 (dead_dropped dir name id snaps all.1)
  where
    go : (a b c : Bool) → (a ≡ true → b ≡ c) → is_live_id id (map (dropped_one dir name) snaps) ≡ false → (((a && not (a && b)) && c) || is_live_id id (map (dropped_one dir name) snaps)) ≡ false
    go true true c same rest = rest
    go true false true same rest = let never = same refl in cc
    go true false false same rest = rest
    go false b c same rest = rest

-- the id that the last entry removes
removed_last : (e : Entry) (id : SnapId) → list_any (λ (s : SnapId). s.0 == id.0) (removed_ids (e ∷ [])) ≡ true → e.what ≡ what.Rmsnap id
removed_last e id any = go (removed_by e.what) refl
  where
    or_false : (b : Bool) → (b || false) ≡ true → b ≡ true
    or_false true is = refl
    or_false false is = cc

    go : (o : Option SnapId) → removed_by e.what ≡ o → e.what ≡ what.Rmsnap id
    go None is =
        let none : list_any (λ (s : SnapId). s.0 == id.0) (removed_ids (e ∷ [])) ≡ false = rw is refl in
        let never : true ≡ false = sym any ∙ none in
        cc
    go (Some i) is =
        let one : list_any (λ (s : SnapId). s.0 == id.0) (removed_ids (e ∷ [])) ≡ ((i.0 == id.0) || false) = rw is refl in
        let same : i.0 ≡ id.0 = eqb-true i.0 id.0 (or_false (i.0 == id.0) (sym one ∙ any)) in
        removed_is e.what i is ∙ ap (λ n. what.Rmsnap (record { 0 = n })) same

pub removed_dead : (entries : List Entry) → is_journal entries ≡ true → (id : SnapId) → list_any (λ (s : SnapId). s.0 == id.0) (removed_ids entries) ≡ true → is_live_id id (family_of entries).snaps ≡ false
removed_dead entries legal = of_each (λ (done : List Entry). (id : SnapId) → list_any (λ (s : SnapId). s.0 == id.0) (removed_ids done) ≡ true → is_live_id id (family_of done).snaps ≡ false) (λ id any. cc) more entries legal
  where
    more : (done : List Entry) (e : Entry) → is_journal done ≡ true → ((id : SnapId) → list_any (λ (s : SnapId). s.0 == id.0) (removed_ids done) ≡ true → is_live_id id (family_of done).snaps ≡ false) → is_legal done e ≡ true → (id : SnapId) → list_any (λ (s : SnapId). s.0 == id.0) (removed_ids (done ++ e ∷ [])) ≡ true → is_live_id id (family_of (done ++ e ∷ [])).snaps ≡ false
    more done e legal old fine id any =
        ap (λ (f : Family). is_live_id id f.snaps) (family_more done e)
        ∙ by_test (list_any (λ (s : SnapId). s.0 == id.0) (removed_ids done)) (is_snap e.what) refl refl
        (sym (ap (list_any (λ (s : SnapId). s.0 == id.0)) (filter_map-append (λ (entry : Entry). removed_by entry.what) done (e ∷ [])) ∙ list_any-append (λ (s : SnapId). s.0 == id.0) (removed_ids done) (removed_ids (e ∷ []))) ∙ any)
      where
        apart : (m n : ℕ) → m < n → eqb n m ≡ false
        apart m n h = grind (arith, nat_tests)

        by_snap : (w : What) → e.what ≡ w → is_snap w ≡ true → list_any (λ (s : SnapId). s.0 == id.0) (removed_ids done) ≡ true → is_live_id id (told (state_after done) w (family_of done)).snaps ≡ false
        by_snap (what.Mksnap new dir name) is snap was =
            let other : new.0 == id.0 ≡ false = apart id.0 new.0 (omega (arith, removed_low done legal id was, above_last done e legal fine new dir name is)) in
            rw other (old id was)
        by_snap w is snap was = cc

        now : e.what ≡ what.Rmsnap id → is_live_id id (told (state_after done) e.what (family_of done)).snaps ≡ false
        now is =
            let made : is_made_by (state_after done) e.client (change_in (what.Rmsnap id)) ≡ true = subst (λ (w : What). is_made_by (state_after done) e.client (change_in w) ≡ true) is (both_of (is_made_by (state_after done) e.client (change_in e.what)) (fits done e.what) fine).0 in
            let basic = basic_after done legal in
            let there : list_any (λ (snap : Snapshot). snap.live && snap.id.0 == id.0) (state_after done).snaps ≡ true = not_false _ (not_true (is_refused (state_after done) e.client (change.Rmsnap id)) made) in
            let found = found_of id (family_of done).snaps (ap (list_any (λ (snap : Snapshot). snap.live && snap.id.0 == id.0)) (sym basic.same) ∙ there) in
            ap (λ (w : What). is_live_id id (told (state_after done) w (family_of done)).snaps) is
            ∙ ap (λ (m : Option Made). is_live_id id (drop_found m (family_of done)).snaps) found.1
            ∙ dead_dropped found.0.root found.0.name id (family_of done).snaps (named_is id ((family_of done).applied.0 + 1) (family_of done).snaps found.0 basic.fall basic.own found.1)

        by_test : (b c : Bool) → list_any (λ (s : SnapId). s.0 == id.0) (removed_ids done) ≡ b → is_snap e.what ≡ c → (b || list_any (λ (s : SnapId). s.0 == id.0) (removed_ids (e ∷ []))) ≡ true → is_live_id id (told (state_after done) e.what (family_of done)).snaps ≡ false
        by_test true true was snap both = by_snap e.what refl snap was
        by_test true false was snap both =
            let m = told_marks (state_after done) e.what (family_of done) snap in
            ap (is_live_id id) m.are ∙ dead_map m.mark m.keeps id (family_of done).snaps (old id was)
        by_test false c was snap both = now (removed_last e id both)

-- what the store drops is live no more
pub purged_dead : (done : List Entry) → is_journal done ≡ true → (id : SnapId) → fits done (what.Purgedone id) ≡ true → is_live_id id (family_of done).snaps ≡ false
purged_dead done legal id fine = removed_dead done legal id (any_filter (λ (t : SnapId). t.0 == id.0) (λ t. not (is_purged done t)) (removed_ids done) fine)
