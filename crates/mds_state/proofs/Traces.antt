-- Each id in a trace that the server makes can be: it is the last one's next at most.
use Rattle.std.proofs.Common.{◌≡◌, ℕ, ◌+◌, ◌<◌, ◌≤◌, List, [], ◌∷◌, filter, Bool, true, false, cond, Option, None, Some, refl, ap, ◌∙◌, arith}
use Rattle.std.proofs.lemmas.Bool.Decides.{nat_tests}
use Rattle.std.proofs.lemmas.List.Folds.{list_all-map}
use Rattle.std.specs.Prelude.{◌&&◌, nat_le, nat_lt}
use Rattle.std.specs.List.{list_all}
use Rattle.snap_ids.specs.Context.{is_listed}
use Rattle.snap_ids.specs.declared.id.Ino.{Ino}
use Rattle.snap_ids.specs.declared.id.SnapId.{SnapId}
use Rattle.snap_ids.specs.declared.id.TheConstants.{NOSNAP}
use Rattle.snap_ids.specs.declared.values.RealmInfo.{RealmInfo}
use Rattle.plain_types.specs.declared.entry.Entry.{Entry}
use Rattle.plain_journal.specs.Legal.{is_journal}
use Rattle.journal_moments.proofs.Lives.{applied_below}
use Rattle.journal_realms.specs.Told.{family_of}
use Rattle.journal_realms.proofs.Last.{same_applied}
use Rattle.realm_story.specs.declared.records.Node.{Node}
use Rattle.realm_story.specs.declared.records.Realm.{Realm}
use Rattle.realm_story.specs.declared.records.Snap.{Snap}
use Rattle.realm_story.specs.Family.{Made, same_ino}
use Rattle.realm_story.specs.Records.{realm_by, info_by, infos, ids_of}
use Rattle.realm_story.specs.Stands.{FallBelow, IsEarly, plain, plain_kept}
use Rattle.snap_realm.specs.Tree.{Tree, StandsFor, birth_of, global_info, is_in_global, node_at, trace_of, way}
use Rattle.server_holders.proofs.Any.{both_true}
use Rattle.step_table.specs.Messages.{is_id, realm_fits, trace_fits}

both : (a b : Bool) → a ≡ true → b ≡ true → (a && b) ≡ true
both a b first second = λ i. first i && second i

lt_test : (m n : ℕ) → m < n → nat_lt m n ≡ true
lt_test m n low = grind (arith, nat_tests)

le_of : (m n : ℕ) → nat_le m n ≡ true → m ≤ n
le_of m n low = grind (arith, nat_tests)

filter_all : (A : Type 0) → (test keep : A → Bool) (xs : List A) → list_all test xs ≡ true → list_all test (filter keep xs) ≡ true
filter_all A test keep [] all = refl
filter_all A test keep (x ∷ xs) all =
    let split = both_true (test x) (list_all test xs) all in
    go (keep x) split.0 (filter_all A test keep xs split.1)
  where
    go : (b : Bool) → test x ≡ true → list_all test (filter keep xs) ≡ true → list_all test (cond b (x ∷ filter keep xs) (filter keep xs)) ≡ true
    go true first rest = both (test x) (list_all test (filter keep xs)) first rest
    go false first rest = rest

abbrev is_low_snap : Snap → Bool
is_low_snap snap = is_id snap.id

ids_fit : (snaps : List Snap) → list_all is_low_snap snaps ≡ true → list_all is_id (ids_of snaps) ≡ true
ids_fit snaps low = list_all-map is_id (λ (snap : Snap). snap.id) snaps ∙ low

module _ (last : ℕ) (room : last + 1 < NOSNAP.0) where
  low_id : (s : SnapId) → s.0 ≤ last + 1 → is_id s ≡ true
  low_id s low = lt_test s.0 NOSNAP.0 (omega (arith, low, room))

  snaps_low : (bound : ℕ) (snaps : List Made) → bound ≤ last + 1 → FallBelow bound snaps → list_all is_low_snap (plain_kept snaps) ≡ true
  snaps_low bound [] upto fall = refl
  snaps_low bound (made ∷ snaps) upto fall =
      let first = fall.0 in
      let low : made.id.0 ≤ last + 1 = omega (arith, first, upto) in
      go made.purged (low_id made.id low) (snaps_low made.id.0 snaps low fall.2)
    where
      go : (b : Bool) → is_id made.id ≡ true → list_all is_low_snap (plain_kept snaps) ≡ true → list_all is_low_snap (elim b [ true ↦ plain_kept snaps | false ↦ plain made ∷ plain_kept snaps ]) ≡ true
      go true first rest = rest
      go false first rest = both (is_id made.id) (list_all is_low_snap (plain_kept snaps)) first rest

  past_low : (ids : List SnapId) → list_all (λ (id : SnapId). nat_le id.0 last) ids ≡ true → list_all is_id ids ≡ true
  past_low [] all = refl
  past_low (id ∷ ids) all =
      let split = both_true (nat_le id.0 last) (list_all (λ (s : SnapId). nat_le s.0 last) ids) all in
      let low = le_of id.0 last split.0 in
      both (is_id id) (list_all is_id ids) (low_id id (omega (arith, low))) (past_low ids split.1)

  info_fits : (r : Option Realm) (ino : Ino) (snaps : List Snap) (above : List RealmInfo) → IsEarly last r → list_all is_low_snap snaps ≡ true → list_all realm_fits above ≡ true → list_all realm_fits (info_by r ino snaps above) ≡ true
  info_fits None ino snaps above early low rest = rest
  info_fits (Some realm) ino snaps above early low rest =
      let upto = early.0 in
      let seq = low_id realm.seq (omega (arith, upto)) in
      let since = low_id realm.since early.1 in
      let own = ids_fit (filter (λ (snap : Snap). same_ino snap.root ino) snaps) (filter_all Snap is_low_snap (λ (snap : Snap). same_ino snap.root ino) snaps low) in
      let past = filter_all SnapId is_id (λ (id : SnapId). is_listed id (ids_of snaps)) realm.past (past_low realm.past early.2) in
      λ i. (seq i && since i && own i && past i) && rest i

  infos_fit : (at : ℕ → Option Node) (snaps : List Snap) (up : List Ino) → ((ino : Ino) → IsEarly last (realm_by (at ino.0))) → list_all is_low_snap snaps ≡ true → list_all realm_fits (infos at snaps up) ≡ true
  infos_fit at snaps [] early low = refl
  infos_fit at snaps (ino ∷ up) early low = info_fits (realm_by (at ino.0)) ino snaps (infos at snaps up) (early ino) low (infos_fit at snaps up early low)

-- the ids of a file's realms, and its first id
pub can_be : (tree : Tree) (entries : List Entry) → is_journal entries ≡ true → StandsFor tree (family_of entries) → (x : Ino) (birth : SnapId) (trace : List RealmInfo) → birth ≡ birth_of tree x → trace ≡ trace_of tree x
    → trace_fits (record { ino = x; birth = birth; trace = trace }) ≡ true
can_be tree entries legal stands x birth trace born told =
    both (is_id birth) (list_all realm_fits trace)
    (ap is_id (born ∙ stands.births x) ∙ low_id tree.applied.0 room _ (stands.born x))
    (ap (list_all realm_fits) told ∙ go (is_in_global tree x))
  where
    room : tree.applied.0 + 1 < NOSNAP.0
    room =
        let same = ap (λ (id : SnapId). id.0) stands.applied_is ∙ same_applied entries legal in
        let below = applied_below entries legal in
        omega (arith, same, below)

    low : list_all is_low_snap tree.snaps ≡ true
    low = ap (list_all is_low_snap) stands.snaps_are ∙ snaps_low tree.applied.0 room (tree.applied.0 + 1) (family_of entries).snaps (omega arith) stands.fall

    go : (b : Bool) → list_all realm_fits (cond b (global_info tree ∷ []) (infos (node_at tree.nodes) tree.snaps (way tree x))) ≡ true
    go true =
        let seq = low_id tree.applied.0 room tree.applied (omega arith) in
        let ids = ids_fit tree.snaps low in
        λ i. (seq i && true && true && ids i) && true
    go false = infos_fit tree.applied.0 room (node_at tree.nodes) tree.snaps (way tree x) stands.early low
