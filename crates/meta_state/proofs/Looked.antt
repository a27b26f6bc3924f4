-- The live snapshot that has an id.
use Rattle.std.proofs.Common.{◌≡◌, ℕ, List, [], ◌∷◌, Bool, true, false, cond, Option, None, Some, refl, ap, sym, ◌∙◌, subst}
use Rattle.std.specs.Prelude.{◌&&◌, ◌||◌, ◌==◌, filter, if◌then◌else◌, is_some}
use Rattle.std.proofs.lemmas.Slice.Eq.{bytes_eq-Decides}
use Rattle.snap_ids.specs.declared.id.Ino.{Ino}
use Rattle.snap_ids.specs.declared.id.SnapId.{SnapId}
use Rattle.snap_ids.specs.Context.{is_listed}
use Rattle.realm_story.specs.Family.{Family, Made, ids_of, is_named, drop_snap}
use Rattle.realm_story.proofs.Facts.{itself}
use Rattle.journal_realms.specs.Told.{snap_of, drop_found}
use Rattle.snap_realm.specs.Refusals.{name_with, id_named}

abbrev pub live : Made → Bool
live snap = snap.live

-- it is among the live ids
pub listed_found : (id : SnapId) (snaps : List Made) (s : Made) → snap_of snaps id ≡ Some s → is_listed id (ids_of (filter live snaps)) ≡ true
listed_found id [] s found = cc
listed_found id (snap ∷ snaps) s found = go snap.live (snap.id.0 == id.0) refl found (λ h. listed_found id snaps s h)
  where
    or_right : (a b : Bool) → b ≡ true → (a || b) ≡ true
    or_right true b is = refl
    or_right false b is = is

    go : (is_live same : Bool) → (snap.id.0 == id.0) ≡ same → (if is_live && same then Some snap else snap_of snaps id) ≡ Some s → (snap_of snaps id ≡ Some s → is_listed id (ids_of (filter live snaps)) ≡ true) → is_listed id (ids_of (cond is_live (snap ∷ filter live snaps) (filter live snaps))) ≡ true
    go true true eq found rest = rw eq refl
    go true false eq found rest = or_right (snap.id.0 == id.0) (is_listed id (ids_of (filter live snaps))) (rest found)
    go false same eq found rest = rest found

abbrev pub name_of_found : Option Made → Option (Ino × List ℕ)
name_of_found None = None
name_of_found (Some snap) = Some (snap.root, snap.name)

-- its directory and its name
pub name_found : (id : SnapId) (snaps : List Made) → name_with id snaps ≡ name_of_found (snap_of snaps id)
name_found id [] = refl
name_found id (snap ∷ snaps) = go (snap.live && snap.id.0 == id.0) (name_found id snaps)
  where
    go : (b : Bool) → name_with id snaps ≡ name_of_found (snap_of snaps id) → (if b then Some (snap.root, snap.name) else name_with id snaps) ≡ name_of_found (if b then Some snap else snap_of snaps id)
    go true rest = refl
    go false rest = rest

-- by which it is found
pub found_named : (id : SnapId) (snaps : List Made) (s : Made) → snap_of snaps id ≡ Some s → id_named s.root s.name snaps ≡ None → ⊥
found_named id [] s found none = cc
found_named id (snap ∷ snaps) s found none = go snap.live (snap.id.0 == id.0) refl found none (λ h n. found_named id snaps s h n)
  where
    self_named : (snap : Made) → snap.live ≡ true → is_named snap.root snap.name snap ≡ true
    self_named snap is = rw (is, itself snap.root, (bytes_eq-Decides snap.name snap.name).1 refl) refl

    by_test : (b : Bool) → (if b then Some snap.id else id_named s.root s.name snaps) ≡ None → id_named s.root s.name snaps ≡ None
    by_test true none = cc
    by_test false none = none

    go : (is_live same : Bool) → snap.live ≡ is_live → (if is_live && same then Some snap else snap_of snaps id) ≡ Some s → id_named s.root s.name (snap ∷ snaps) ≡ None → (snap_of snaps id ≡ Some s → id_named s.root s.name snaps ≡ None → ⊥) → ⊥
    go true true is found none rest = let same : snap ≡ s = cc in first s (subst (λ (m : Made). m.live ≡ true) same is) (subst (λ (m : Made). id_named s.root s.name (m ∷ snaps) ≡ None) same none)
      where
        first : (s : Made) → s.live ≡ true → id_named s.root s.name (s ∷ snaps) ≡ None → ⊥
        first s is none =
            let t = self_named s is in
            let h : Some s.id ≡ None = subst (λ (b : Bool). (if b then Some s.id else id_named s.root s.name snaps) ≡ None) t none in
            cc
    go true false is found none rest = rest found (by_test (is_named s.root s.name snap) none)
    go false same is found none rest = rest found (by_test (is_named s.root s.name snap) none)

-- what loses its name is what has the id
pub dropped_found : (id : SnapId) (family : Family) (dir : Ino) (name : List ℕ) → name_with id family.snaps ≡ Some (dir, name) → drop_found (snap_of family.snaps id) family ≡ drop_snap dir name family
dropped_found id family dir name is = go (snap_of family.snaps id) (sym (name_found id family.snaps) ∙ is)
  where
    go : (o : Option Made) → name_of_found o ≡ Some (dir, name) → drop_found o family ≡ drop_snap dir name family
    go None is = cc
    go (Some s) is =
        let same : (s.root, s.name) ≡ (dir, name) = cc in
        let root : s.root ≡ dir = ap (λ (p : Ino × List ℕ). p.0) same in
        let named : s.name ≡ name = ap (λ (p : Ino × List ℕ). p.1) same in
        ap (λ (d : Ino). drop_snap d s.name family) root ∙ ap (λ (n : List ℕ). drop_snap dir n family) named

-- and it has one
pub named_found : (id : SnapId) (snaps : List Made) (dir : Ino) (name : List ℕ) → name_with id snaps ≡ Some (dir, name) → id_named dir name snaps ≡ None → ⊥
named_found id snaps dir name is none = go (snap_of snaps id) refl (sym (name_found id snaps) ∙ is)
  where
    go : (o : Option Made) → snap_of snaps id ≡ o → name_of_found o ≡ Some (dir, name) → ⊥
    go None found is = cc
    go (Some s) found is =
        let same : (s.root, s.name) ≡ (dir, name) = cc in
        let root : s.root ≡ dir = ap (λ (p : Ino × List ℕ). p.0) same in
        let named : s.name ≡ name = ap (λ (p : Ino × List ℕ). p.1) same in
        found_named id snaps s found (ap (λ (d : Ino). id_named d s.name snaps) root ∙ ap (λ (n : List ℕ). id_named dir n snaps) named ∙ none)

pub unnamed : (id : SnapId) (snaps : List Made) → is_some (snap_of snaps id) ≡ true → name_with id snaps ≡ None → ⊥
unnamed id snaps there none = go (snap_of snaps id) there (sym (name_found id snaps) ∙ none)
  where
    go : (o : Option Made) → is_some o ≡ true → name_of_found o ≡ None → ⊥
    go None there is = cc
    go (Some s) there is = cc
