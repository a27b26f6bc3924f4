-- Lists of the ids of live snapshots.
use Rattle.std.proofs.Common.{◌≡◌, List, [], ◌∷◌, Bool, true, false, refl, sym, ap, ◌∙◌, map, filter, reverse}
use Rattle.std.specs.Prelude.{◌||◌, ◌&&◌, ◌==◌, if◌then◌else◌}
use Rattle.std.proofs.lemmas.List.{reverse-append}
use Rattle.std.proofs.lemmas.List.Folds.{list_any-append}
use Rattle.snap_ids.specs.declared.id.SnapId.{SnapId}
use Rattle.snap_ids.specs.Context.{is_listed}
use Rattle.plain_tree.specs.State.{Snapshot}
use Rattle.plain_tree.specs.Change.{is_live}
use Rattle.journal_moments.specs.Moments.{is_live_snap}

-- a list turned round has the same ids
listed_turned : (s : SnapId) (ids : List SnapId) → is_listed s (reverse ids) ≡ is_listed s ids
listed_turned s [] = refl
listed_turned s (id ∷ ids) =
    ap (is_listed s) (reverse-append (id ∷ []) ids)
    ∙ list_any-append (λ (t : SnapId). t.0 == s.0) (reverse ids) (id ∷ [])
    ∙ ap (λ (b : Bool). b || (id.0 == s.0 || false)) (listed_turned s ids)
    ∙ turned (is_listed s ids) (id.0 == s.0)
  where
    turned : (a b : Bool) → (a || (b || false)) ≡ (b || a)
    turned true true = refl
    turned true false = refl
    turned false true = refl
    turned false false = refl

listed_live : (s : SnapId) (snaps : List Snapshot) → is_listed s (map (λ (snap : Snapshot). snap.id) (filter is_live snaps)) ≡ is_live_snap s snaps
listed_live s [] = refl
listed_live s (snap ∷ snaps) = go snap.live (listed_live s snaps)
  where
    go : (b : Bool) → is_listed s (map (λ (snap : Snapshot). snap.id) (filter is_live snaps)) ≡ is_live_snap s snaps → is_listed s (map (λ (snap : Snapshot). snap.id) (if b then snap ∷ filter is_live snaps else filter is_live snaps)) ≡ ((b && snap.id.0 == s.0) || is_live_snap s snaps)
    go true rest = ap (λ (c : Bool). snap.id.0 == s.0 || c) rest
    go false rest = rest

pub listed_each : (snaps : List Snapshot) (ids : List SnapId) → reverse ids ≡ map (λ (snap : Snapshot). snap.id) (filter is_live snaps) → (s : SnapId) → is_listed s ids ≡ is_live_snap s snaps
listed_each snaps ids is s = sym (listed_turned s ids) ∙ ap (is_listed s) is ∙ listed_live s snaps
