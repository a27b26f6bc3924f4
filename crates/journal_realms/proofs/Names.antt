-- The names that a directory shows, and the ids with a name, of both vocabularies.
use Rattle.std.proofs.Common.{◌≡◌, ℕ, ◌+◌, ◌<◌, ◌≤◌, List, [], ◌∷◌, ◌++◌, Bool, true, false, cond, ◌||◌, ◌&&◌, ◌==◌, refl, sym, ap, ◌∙◌, arith, map, filter, eqb, reverse}
use Rattle.std.proofs.lemmas.Bool.Decides.{nat_tests}
use Rattle.std.specs.List.{list_any}
use Rattle.std.proofs.lemmas.List.{append-nil, map-append, reverse-append}
use Rattle.std.proofs.lemmas.List.Folds.{list_any-append}
use Rattle.snap_ids.specs.declared.id.Ino.{Ino}
use Rattle.snap_ids.specs.declared.id.SnapId.{SnapId}
use Rattle.snap_ids.specs.declared.id.TheConstants.{GLOBAL}
use Rattle.plain_types.specs.declared.entry.Entry.{Entry}
use Rattle.plain_tree.specs.State.{Snapshot}
use Rattle.plain_tree.specs.Change.{is_live}
use Rattle.plain_journal.specs.Entries.{state_after}
use Rattle.plain_journal.specs.Coverage.{covering}
use Rattle.plain_journal.specs.Realms.{name_shown, shown}
use Rattle.plain_journal.specs.Legal.{is_journal}
use Rattle.realm_story.specs.Family.{Made, same_ino, covers, ids_of, live_ids}
use Rattle.realm_story.specs.Family.{covering as covering_told, name_shown as name_told, shown as shown_told}
use Rattle.realm_story.specs.Stands.{FallBelow, Each}
use Rattle.realm_story.proofs.Facts.{id_itself}
use Rattle.realm_story.proofs.Same.{each_weaker, each_both, each_below}
use Rattle.journal_realms.specs.Told.{family_of}
use Rattle.journal_realms.proofs.Snaps.{plain_of, rev_plain, basic_after}
use Rattle.journal_realms.proofs.Contexts.{rev_ids}
use Rattle.journal_realms.proofs.Shown.{each_all, filter_push, same_covering}

-- what is said of some snapshots, in both orders
map_rev : {A : Type 0} (h : Snapshot → A) (k : Made → A) (r : Snapshot → Bool) (p : Made → Bool) (snaps : List Made) → ((s : Made) → h (plain_of s) ≡ k s) → Each (λ s. r (plain_of s) ≡ p s) snaps → map h (filter r (rev_plain snaps)) ≡ reverse (map k (filter p snaps))
map_rev h k r p [] same all = refl
map_rev h k r p (s ∷ snaps) same all =
    ap (map h) (filter_push r (rev_plain snaps) (plain_of s))
    ∙ map-append h (filter r (rev_plain snaps)) (cond (r (plain_of s)) (plain_of s ∷ []) [])
    ∙ go (p s) all.0 (map_rev h k r p snaps same all.1)
  where
    go : (b : Bool) → r (plain_of s) ≡ b → map h (filter r (rev_plain snaps)) ≡ reverse (map k (filter p snaps)) → map h (filter r (rev_plain snaps)) ++ map h (cond (r (plain_of s)) (plain_of s ∷ []) []) ≡ reverse (map k (cond b (s ∷ filter p snaps) (filter p snaps)))
    go true is rest =
        rw is
        ((λ i. rest i ++ same s i ∷ [])
        ∙ sym (reverse-append (k s ∷ []) (map k (filter p snaps))))
    go false is rest = rw is (append-nil (map h (filter r (rev_plain snaps))) ∙ rest)

-- the id of a snapshot stands among those of a test where the test is passed
abbrev has_id : (Made → Bool) → SnapId → List Made → Bool
has_id p id snaps = list_any (λ (i : SnapId). i.0 == id.0) (rev_ids (filter p snaps))

has_more : (p : Made → Bool) (id : SnapId) (s : Made) (snaps : List Made) → has_id p id (s ∷ snaps) ≡ cond (p s) (has_id p id snaps || s.id.0 == id.0) (has_id p id snaps)
has_more p id s snaps = go (p s)
  where
    or_false : (b : Bool) → (b || false) ≡ b
    or_false true = refl
    or_false false = refl

    go : (b : Bool) → list_any (λ (i : SnapId). i.0 == id.0) (rev_ids (cond b (s ∷ filter p snaps) (filter p snaps))) ≡ cond b (has_id p id snaps || s.id.0 == id.0) (has_id p id snaps)
    go true = list_any-append (λ (i : SnapId). i.0 == id.0) (rev_ids (filter p snaps)) (s.id ∷ []) ∙ ap (λ (b : Bool). has_id p id snaps || b) (or_false (s.id.0 == id.0))
    go false = refl

none_above : (p : Made → Bool) (id : SnapId) (n : ℕ) (snaps : List Made) → FallBelow n snaps → n ≤ id.0 → has_id p id snaps ≡ false
none_above p id n [] fall above = refl
none_above p id n (s ∷ snaps) fall above = has_more p id s snaps ∙ go (p s) (none_above p id s.id.0 snaps fall.2 (omega (arith, fall.0, above)))
  where
    apart : (m k : ℕ) → m < k → eqb m k ≡ false
    apart m k h = grind (arith, nat_tests)

    go : (b : Bool) → has_id p id snaps ≡ false → cond b (has_id p id snaps || s.id.0 == id.0) (has_id p id snaps) ≡ false
    go true rest = rw (rest, apart s.id.0 id.0 (omega (arith, fall.0, above))) refl
    go false rest = rest

listed_each : (p : Made → Bool) (n : ℕ) (snaps : List Made) → FallBelow n snaps → Each (λ s. has_id p s.id snaps ≡ p s) snaps
listed_each p n [] fall = tt
listed_each p n (s ∷ snaps) fall = (
  has_more p s.id s snaps ∙ self (p s) (none_above p s.id s.id.0 snaps fall.2 (omega arith)),
  each_both (λ t. has_id p t.id snaps ≡ p t) (λ t. t.id.0 < s.id.0) (λ t. has_id p t.id (s ∷ snaps) ≡ p t) snaps (λ t was low. has_more p t.id s snaps ∙ other (p s) (has_id p t.id snaps) (apart t.id.0 s.id.0 low) ∙ was) (listed_each p s.id.0 snaps fall.2) (each_below s.id.0 snaps fall.2),
)
  where
    apart : (m k : ℕ) → m < k → eqb k m ≡ false
    apart m k h = grind (arith, nat_tests)

    or_false : (b : Bool) → (b || false) ≡ b
    or_false true = refl
    or_false false = refl

    self : (b : Bool) → has_id p s.id snaps ≡ false → cond b (has_id p s.id snaps || s.id.0 == s.id.0) (has_id p s.id snaps) ≡ b
    self true none = rw (none, id_itself s.id) refl
    self false none = none

    other : (b c : Bool) {d : Bool} → d ≡ false → cond b (c || d) c ≡ c
    other true c is = rw is (or_false c)
    other false c is = refl

filter_both : (p q : Made → Bool) (snaps : List Made) → filter q (filter p snaps) ≡ filter (λ s. q s && p s) snaps
filter_both p q [] = refl
filter_both p q (s ∷ snaps) = go (p s) (q s) refl (filter_both p q snaps)
  where
    go : (b c : Bool) → q s ≡ c → filter q (filter p snaps) ≡ filter (λ s. q s && p s) snaps → filter q (cond b (s ∷ filter p snaps) (filter p snaps)) ≡ cond (c && b) (s ∷ filter (λ s. q s && p s) snaps) (filter (λ s. q s && p s) snaps)
    go true true is rest = rw is (ap (λ (l : List Made). s ∷ l) rest)
    go true false is rest = rw is rest
    go false true is rest = rest
    go false false is rest = rest

-- the names that a directory shows
pub same_names : (entries : List Entry) → is_journal entries ≡ true → (x : Ino) → same_ino GLOBAL x ≡ false → reverse (shown_told (family_of entries) x) ≡ shown entries x
same_names entries legal x apart =
    sym ((λ i. map (λ (snap : Snapshot). (name_shown x snap, snap.id)) (filter (λ (snap : Snapshot). snap.live && list_any (λ (s : SnapId). s.0 == snap.id.0) (ids i)) ((basic_after entries legal).same i)))
    ∙ map_rev (λ (snap : Snapshot). (name_shown x snap, snap.id)) (λ (snap : Made). (name_told x snap, snap.id)) (λ (snap : Snapshot). snap.live && list_any (λ (s : SnapId). s.0 == snap.id.0) (rev_ids (covering_told (family_of entries) x))) (λ (s : Made). s.live && covers (family_of entries) x s) (family_of entries).snaps (λ s. refl)
    (each_weaker (λ s. has_id (covers (family_of entries) x) s.id (family_of entries).snaps ≡ covers (family_of entries) x s) (λ s. (s.live && list_any (λ (i : SnapId). i.0 == s.id.0) (rev_ids (covering_told (family_of entries) x))) ≡ (s.live && covers (family_of entries) x s)) (family_of entries).snaps (λ s is. ap (λ (b : Bool). s.live && b) is)
    (listed_each (covers (family_of entries) x) ((family_of entries).applied.0 + 1) (family_of entries).snaps (basic_after entries legal).fall))
    ∙ ap (λ (l : List Made). reverse (map (λ (snap : Made). (name_told x snap, snap.id)) l)) (sym (filter_both (covers (family_of entries) x) (λ (s : Made). s.live) (family_of entries).snaps)))
  where
    ids : covering entries x ≡ rev_ids (covering_told (family_of entries) x)
    ids = same_covering entries legal x apart

ids_map : (snaps : List Made) → ids_of snaps ≡ map (λ (s : Made). s.id) snaps
ids_map [] = refl
ids_map (s ∷ snaps) = ap (λ (l : List SnapId). s.id ∷ l) (ids_map snaps)

-- the ids with a name
pub same_live : (entries : List Entry) → is_journal entries ≡ true → reverse (live_ids (family_of entries)) ≡ map (λ (snap : Snapshot). snap.id) (filter is_live (state_after entries).snaps)
same_live entries legal =
    ap reverse (ids_map (filter (λ (s : Made). s.live) (family_of entries).snaps))
    ∙ sym (ap (λ (l : List Snapshot). map (λ (snap : Snapshot). snap.id) (filter is_live l)) (basic_after entries legal).same
    ∙ map_rev (λ (snap : Snapshot). snap.id) (λ (s : Made). s.id) is_live (λ (s : Made). s.live) (family_of entries).snaps (λ s. refl) (each_all (λ s. is_live (plain_of s) ≡ s.live) (family_of entries).snaps (λ s. refl)))
