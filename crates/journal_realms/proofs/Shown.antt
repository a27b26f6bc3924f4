-- The contexts, the names shown and the live ids of both vocabularies.
use Rattle.std.proofs.Common.{◌≡◌, ℕ, ◌+◌, ◌<◌, ◌≤◌, List, [], ◌∷◌, ◌++◌, Bool, true, false, cond, not, ◌||◌, ◌&&◌, ◌==◌, max, Option, None, Some, refl, sym, ap, ◌∙◌, subst, arith, filter, eqb, leb, reverse}
use Rattle.std.proofs.lemmas.Bool.Decides.{nat_tests}
use Rattle.std.specs.Prelude.{nat_le, filter_map, if◌then◌else◌}
use Rattle.std.specs.List.{list_any}
use Rattle.std.proofs.lemmas.List.{reverse-append}
use Rattle.std.proofs.lemmas.List.Elements.{filter_map-append}
use Rattle.std.proofs.lemmas.List.Folds.{list_any-append}
use Rattle.std.proofs.lemmas.List.Sums.{fold-append}
use Rattle.std.proofs.lemmas.Bool.{eqb-true}
use Rattle.snap_ids.specs.declared.id.Ino.{Ino}
use Rattle.snap_ids.specs.declared.id.SnapId.{SnapId}
use Rattle.snap_ids.specs.declared.id.TheConstants.{GLOBAL}
use Rattle.plain_types.specs.declared.change.Change.TheVariants as change
use Rattle.plain_types.specs.declared.entry.Entry.{Entry}
use Rattle.plain_types.specs.declared.entry.What.{What}
use Rattle.plain_types.specs.declared.entry.What.TheVariants as what
use Rattle.plain_tree.specs.State.{Snapshot}
use Rattle.plain_tree.specs.State.{start as empty}
use Rattle.plain_tree.specs.Change.{is_refused}
use Rattle.plain_journal.specs.Entries.{change_in, state_after}
use Rattle.plain_journal.specs.Coverage.{is_global, made_since, made_over, covering, purges, is_purged, kept, greatest, context}
use Rattle.plain_journal.specs.Table.{removed_by}
use Rattle.plain_journal.specs.Legal.{is_made_by, fits, is_legal, is_journal}
use Rattle.realm_story.specs.Family.{Made, Family, same_ino, member, is_member, is_on, is_in_global, birth_of, covers, ids_of, is_kept}
use Rattle.realm_story.specs.Family.{covering as covering_told, greatest as greatest_told, context as context_told}
use Rattle.realm_story.specs.Stands.{Each}
use Rattle.realm_story.proofs.Facts.{both_of}
use Rattle.realm_story.proofs.Same.{each_weaker, each_below}
use Rattle.journal_realms.specs.Told.{snap_of, drop_found, told, family_of}
use Rattle.journal_realms.proofs.Family.{family_more}
use Rattle.journal_realms.proofs.Tree.{above_none}
use Rattle.journal_realms.proofs.Kept.{not_true, not_false}
use Rattle.journal_realms.proofs.Trees.{tied_after}
use Rattle.journal_realms.proofs.Globals.{same_global}
use Rattle.journal_realms.proofs.Snaps.{leaves_snaps, told_snaps, each_map, dropped_one, purged_one, found_of, found_is, each_found, above_last, basic_after}
use Rattle.journal_realms.proofs.Covered.{applied_grows, covers_after}
use Rattle.journal_realms.proofs.Contexts.{rev_ids, over_same, since_same}
use Rattle.journal_realms.proofs.Induct.{of_each}

-- tests that agree on all snapshots
filter_each : (p q : Made → Bool) (snaps : List Made) → Each (λ s. p s ≡ q s) snaps → filter p snaps ≡ filter q snaps
filter_each p q [] all = refl
filter_each p q (s ∷ snaps) all = λ i. cond (all.0 i) (s ∷ filter_each p q snaps all.1 i) (filter_each p q snaps all.1 i)

each_filter : (P : Made → Type 0) (p : Made → Bool) (snaps : List Made) → Each P snaps → Each P (filter p snaps)
each_filter P p [] all = tt
each_filter P p (s ∷ snaps) all = go (p s) (each_filter P p snaps all.1)
  where
    go : (b : Bool) → Each P (filter p snaps) → Each P (cond b (s ∷ filter p snaps) (filter p snaps))
    go true rest = (all.0, rest)
    go false rest = rest

pub each_all : (P : Made → Type 0) (snaps : List Made) → ((s : Made) → P s) → Each P snaps
each_all P [] all = tt
each_all P (s ∷ snaps) all = (all s, each_all P snaps all)

-- the snapshots that cover an inode
pub same_covering : (entries : List Entry) → is_journal entries ≡ true → (x : Ino) → same_ino GLOBAL x ≡ false → covering entries x ≡ rev_ids (covering_told (family_of entries) x)
same_covering entries legal x apart = go (is_in_global (family_of entries).members x) refl
  where
    upto : (m n : ℕ) → m ≤ n → leb m n ≡ true
    upto m n h = grind (arith, nat_tests)

    outside_same : (le c : Bool) → (c ≡ true → le ≡ true) → (le && (false || c)) ≡ c
    outside_same true c is = refl
    outside_same false true is = is refl
    outside_same false false is = refl

    inside_same : (le : Bool) → (le && true) ≡ le
    inside_same true = refl
    inside_same false = refl

    is_there : (b : Bool) → is_member (member (family_of entries).members x) ≡ b → is_in_global (family_of entries).members x ≡ true → b ≡ true
    is_there true there inside = refl
    is_there false none inside =
        let tree = tied_after entries legal in
        let outside : is_in_global (family_of entries).members x ≡ false = ap (λ (w : List Ino). is_on GLOBAL (x ∷ w)) (above_none (state_after entries).entries (state_after entries).inodes (family_of entries).members tree x none) ∙ ap (λ (b : Bool). b || false) apart in
        let never : true ≡ false = sym inside ∙ outside in
        cc

    go : (g : Bool) → is_in_global (family_of entries).members x ≡ g → covering entries x ≡ rev_ids (covering_told (family_of entries) x)
    go true inside =
        let is : is_global entries x ≡ true = same_global entries legal x apart ∙ inside in
        let there = is_there (is_member (member (family_of entries).members x)) refl inside in
        ap (λ (b : Bool). if b then made_since empty entries x else made_over empty entries x) is
        ∙ since_same entries legal x there
        ∙ ap rev_ids (filter_each (λ (s : Made). nat_le (birth_of (family_of entries) x).0 s.id.0) (covers (family_of entries) x) (family_of entries).snaps
        (each_all (λ s. nat_le (birth_of (family_of entries) x).0 s.id.0 ≡ covers (family_of entries) x s) (family_of entries).snaps
        (λ s. sym (ap (λ (b : Bool). nat_le (birth_of (family_of entries) x).0 s.id.0 && (b || is_on x s.covered)) inside ∙ inside_same (nat_le (birth_of (family_of entries) x).0 s.id.0)))))
    go false outside =
        let is : is_global entries x ≡ false = same_global entries legal x apart ∙ outside in
        ap (λ (b : Bool). if b then made_since empty entries x else made_over empty entries x) is
        ∙ over_same entries legal x outside
        ∙ ap rev_ids (filter_each (λ (s : Made). is_on x s.covered) (covers (family_of entries) x) (family_of entries).snaps
        (each_weaker (λ s. is_on x s.covered ≡ true → (birth_of (family_of entries) x).0 ≤ s.id.0) (λ s. is_on x s.covered ≡ covers (family_of entries) x s) (family_of entries).snaps
        (λ s early. sym (ap (λ (b : Bool). nat_le (birth_of (family_of entries) x).0 s.id.0 && (b || is_on x s.covered)) outside
        ∙ outside_same (nat_le (birth_of (family_of entries) x).0 s.id.0) (is_on x s.covered) (λ on. upto (birth_of (family_of entries) x).0 s.id.0 (early on))))
        ((covers_after entries legal).early x)))

-- removed ids were made
pub any_filter : (q p : SnapId → Bool) (ids : List SnapId) → list_any q (filter p ids) ≡ true → list_any q ids ≡ true
any_filter q p [] any = any
any_filter q p (id ∷ ids) any = go (p id) any (any_filter q p ids)
  where
    or_true : (b : Bool) → (b || true) ≡ true
    or_true true = refl
    or_true false = refl

    go : (b : Bool) → list_any q (cond b (id ∷ filter p ids) (filter p ids)) ≡ true → (list_any q (filter p ids) ≡ true → list_any q ids ≡ true) → (q id || list_any q ids) ≡ true
    go true any rest = first (q id) any
      where
        first : (c : Bool) → (c || list_any q (filter p ids)) ≡ true → (c || list_any q ids) ≡ true
        first true any = refl
        first false any = rest any
    go false any rest = rw (rest any) (or_true (q id))

abbrev pub removed_ids : List Entry → List SnapId
removed_ids entries = filter_map (λ (entry : Entry). removed_by entry.what) entries

pub removed_is : (w : What) (i : SnapId) → removed_by w ≡ Some i → w ≡ what.Rmsnap i
removed_is (what.Rmsnap id) i is = let same : id ≡ i = cc in ap what.Rmsnap same
removed_is w i is = cc

pub removed_low : (entries : List Entry) → is_journal entries ≡ true → (id : SnapId) → list_any (λ (s : SnapId). s.0 == id.0) (removed_ids entries) ≡ true → id.0 ≤ (family_of entries).applied.0
removed_low entries legal = of_each (λ (done : List Entry). (id : SnapId) → list_any (λ (s : SnapId). s.0 == id.0) (removed_ids done) ≡ true → id.0 ≤ (family_of done).applied.0) (λ id any. cc) more entries legal
  where
    more : (done : List Entry) (e : Entry) → is_journal done ≡ true → ((id : SnapId) → list_any (λ (s : SnapId). s.0 == id.0) (removed_ids done) ≡ true → id.0 ≤ (family_of done).applied.0) → is_legal done e ≡ true → (id : SnapId) → list_any (λ (s : SnapId). s.0 == id.0) (removed_ids (done ++ e ∷ [])) ≡ true → id.0 ≤ (family_of (done ++ e ∷ [])).applied.0
    more done e legal old fine id any =
        by_test (list_any (λ (s : SnapId). s.0 == id.0) (removed_ids done)) (removed_by e.what) refl refl
        (sym (ap (list_any (λ (s : SnapId). s.0 == id.0)) (filter_map-append (λ (entry : Entry). removed_by entry.what) done (e ∷ [])) ∙ list_any-append (λ (s : SnapId). s.0 == id.0) (removed_ids done) (removed_ids (e ∷ []))) ∙ any)
      where
        grown : (family_of done).applied.0 ≤ (family_of (done ++ e ∷ [])).applied.0
        grown = subst (λ (f : Family). (family_of done).applied.0 ≤ f.applied.0) (sym (family_more done e)) (applied_grows done e legal fine)

        of_one : (i : SnapId) → e.what ≡ what.Rmsnap i → i.0 ≤ (family_of done).applied.0
        of_one i is =
            let made : is_made_by (state_after done) e.client (change_in (what.Rmsnap i)) ≡ true = subst (λ (w : What). is_made_by (state_after done) e.client (change_in w) ≡ true) is (both_of (is_made_by (state_after done) e.client (change_in e.what)) (fits done e.what) fine).0 in
            let basic = basic_after done legal in
            let there : list_any (λ (snap : Snapshot). snap.live && snap.id.0 == i.0) (state_after done).snaps ≡ true = not_false _ (not_true (is_refused (state_after done) e.client (change.Rmsnap i)) made) in
            let found = found_of i (family_of done).snaps (ap (list_any (λ (snap : Snapshot). snap.live && snap.id.0 == i.0)) (sym basic.same) ∙ there) in
            let low = each_found (λ s. s.id.0 < (family_of done).applied.0 + 1) i (family_of done).snaps found.0 found.1 (each_below ((family_of done).applied.0 + 1) (family_of done).snaps basic.fall) in
            let same : found.0.id.0 ≡ i.0 = ap (λ (s : SnapId). s.0) (found_is i (family_of done).snaps found.0 found.1).1 in
            omega (arith, low, same)

        one_id : (o : Option SnapId) → removed_by e.what ≡ o → list_any (λ (s : SnapId). s.0 == id.0) (removed_ids (e ∷ [])) ≡ true → id.0 ≤ (family_of done).applied.0
        one_id None is any =
            let none : list_any (λ (s : SnapId). s.0 == id.0) (removed_ids (e ∷ [])) ≡ false = rw is refl in
            let never : true ≡ false = sym any ∙ none in
            cc
        one_id (Some i) is any =
            let one : list_any (λ (s : SnapId). s.0 == id.0) (removed_ids (e ∷ [])) ≡ ((i.0 == id.0) || false) = rw is refl in
            let same : i.0 ≡ id.0 = eqb-true i.0 id.0 (or_false (i.0 == id.0) (sym one ∙ any)) in
            omega (arith, of_one i (removed_is e.what i is), same)
          where
            or_false : (b : Bool) → (b || false) ≡ true → b ≡ true
            or_false true is = refl
            or_false false is = cc

        by_test : (b : Bool) (o : Option SnapId) → list_any (λ (s : SnapId). s.0 == id.0) (removed_ids done) ≡ b → removed_by e.what ≡ o → (list_any (λ (s : SnapId). s.0 == id.0) (removed_ids done) || list_any (λ (s : SnapId). s.0 == id.0) (removed_ids (e ∷ []))) ≡ true → id.0 ≤ (family_of (done ++ e ∷ [])).applied.0
        by_test true o was is both = omega (arith, old id was, grown)
        by_test false o was is both = omega (arith, one_id o is (sym (ap (λ (b : Bool). b || list_any (λ (s : SnapId). s.0 == id.0) (removed_ids (e ∷ []))) was) ∙ both), grown)

-- the ids that are purged after an entry more
purged_more : (done : List Entry) (e : Entry) (s : SnapId) → is_purged (done ++ e ∷ []) s ≡ (is_purged done s || purges s e.what)
purged_more done e s = list_any-append (λ (f : Entry). purges s f.what) done (e ∷ []) ∙ ap (λ (b : Bool). is_purged done s || b) (or_false (purges s e.what))
  where
    or_false : (b : Bool) → (b || false) ≡ b
    or_false true = refl
    or_false false = refl

-- the id of a Purgedone entry was made
purged_now : (done : List Entry) (e : Entry) → is_journal done ≡ true → is_legal done e ≡ true → (w : What) → e.what ≡ w → (s : SnapId) → purges s w ≡ true → s.0 ≤ (family_of done).applied.0
purged_now done e legal fine (what.Purgedone id) is s same =
    let fits_it : fits done (what.Purgedone id) ≡ true = subst (λ (x : What). fits done x ≡ true) is (both_of (is_made_by (state_after done) e.client (change_in e.what)) (fits done e.what) fine).1 in
    let low = removed_low done legal id (any_filter (λ (t : SnapId). t.0 == id.0) (λ t. not (is_purged done t)) (removed_ids done) fits_it) in
    let equal : id.0 ≡ s.0 = eqb-true id.0 s.0 same in
    omega (arith, low, equal)
purged_now done e legal fine w is s same = cc

purged_low : (entries : List Entry) → is_journal entries ≡ true → (s : SnapId) → is_purged entries s ≡ true → s.0 ≤ (family_of entries).applied.0
purged_low entries legal = of_each (λ (done : List Entry). (s : SnapId) → is_purged done s ≡ true → s.0 ≤ (family_of done).applied.0) (λ s any. cc) more entries legal
  where
    more : (done : List Entry) (e : Entry) → is_journal done ≡ true → ((s : SnapId) → is_purged done s ≡ true → s.0 ≤ (family_of done).applied.0) → is_legal done e ≡ true → (s : SnapId) → is_purged (done ++ e ∷ []) s ≡ true → s.0 ≤ (family_of (done ++ e ∷ [])).applied.0
    more done e legal old fine s any = by_test (is_purged done s) (purges s e.what) refl refl (sym (purged_more done e s) ∙ any)
      where
        grown : (family_of done).applied.0 ≤ (family_of (done ++ e ∷ [])).applied.0
        grown = subst (λ (f : Family). (family_of done).applied.0 ≤ f.applied.0) (sym (family_more done e)) (applied_grows done e legal fine)

        by_test : (b c : Bool) → is_purged done s ≡ b → purges s e.what ≡ c → (b || c) ≡ true → s.0 ≤ (family_of (done ++ e ∷ [])).applied.0
        by_test true c was is both = omega (arith, old s was, grown)
        by_test false true was is both = omega (arith, purged_now done e legal fine e.what refl s is, grown)
        by_test false false was is both = cc

-- the store has dropped the same snapshots
purged_same : (entries : List Entry) → is_journal entries ≡ true → Each (λ s. is_purged entries s.id ≡ s.purged) (family_of entries).snaps
purged_same entries legal = of_each (λ (done : List Entry). Each (λ s. is_purged done s.id ≡ s.purged) (family_of done).snaps) tt more entries legal
  where
    more : (done : List Entry) (e : Entry) → is_journal done ≡ true → Each (λ s. is_purged done s.id ≡ s.purged) (family_of done).snaps → is_legal done e ≡ true → Each (λ s. is_purged (done ++ e ∷ []) s.id ≡ s.purged) (family_of (done ++ e ∷ [])).snaps
    more done e legal old fine = subst (λ (f : Family). Each (λ s. is_purged (done ++ e ∷ []) s.id ≡ s.purged) f.snaps) (sym (family_more done e)) (by_what e.what refl)
      where
        or_false : (b : Bool) → (b || false) ≡ b
        or_false true = refl
        or_false false = refl

        still : (w : What) → e.what ≡ w → ((s : SnapId) → purges s w ≡ false) → (s : SnapId) → is_purged (done ++ e ∷ []) s ≡ is_purged done s
        still w is none s = purged_more done e s ∙ ap (λ (b : Bool). is_purged done s || b) (ap (purges s) is ∙ none s) ∙ or_false (is_purged done s)

        steady : (w : What) → e.what ≡ w → leaves_snaps w ≡ true → ((s : SnapId) → purges s w ≡ false) → Each (λ s. is_purged (done ++ e ∷ []) s.id ≡ s.purged) (told (state_after done) w (family_of done)).snaps
        steady w is leaves none =
            subst (Each (λ s. is_purged (done ++ e ∷ []) s.id ≡ s.purged)) (sym (told_snaps (state_after done) w (family_of done) leaves))
            (each_weaker (λ s. is_purged done s.id ≡ s.purged) (λ s. is_purged (done ++ e ∷ []) s.id ≡ s.purged) (family_of done).snaps (λ s was. still w is none s.id ∙ was) old)

        new_kept : (id : SnapId) → (family_of done).applied.0 < id.0 → (b : Bool) → is_purged done id ≡ b → b ≡ false
        new_kept id above true is = absurd (omega (arith, purged_low done legal id is, above))
        new_kept id above false is = refl

        dropped : (id : SnapId) → e.what ≡ what.Rmsnap id → (found : Option Made) → Each (λ s. is_purged (done ++ e ∷ []) s.id ≡ s.purged) (drop_found found (family_of done)).snaps
        dropped id is None = each_weaker (λ s. is_purged done s.id ≡ s.purged) (λ s. is_purged (done ++ e ∷ []) s.id ≡ s.purged) (family_of done).snaps (λ s was. still (what.Rmsnap id) is (λ t. refl) s.id ∙ was) old
        dropped id is (Some t) = each_map (λ s. is_purged done s.id ≡ s.purged) (λ s. is_purged (done ++ e ∷ []) s.id ≡ s.purged) (dropped_one t.root t.name) (family_of done).snaps (λ s was. still (what.Rmsnap id) is (λ t. refl) s.id ∙ was) old

        turned : (m n : ℕ) → eqb m n ≡ eqb n m
        turned m n = grind (arith, nat_tests)

        by_what : (w : What) → e.what ≡ w → Each (λ s. is_purged (done ++ e ∷ []) s.id ≡ s.purged) (told (state_after done) w (family_of done)).snaps
        by_what (what.Mksnap id dir name) is = (
          still (what.Mksnap id dir name) is (λ s. refl) id ∙ new_kept id (above_last done e legal fine id dir name is) (is_purged done id) refl,
          each_weaker (λ s. is_purged done s.id ≡ s.purged) (λ s. is_purged (done ++ e ∷ []) s.id ≡ s.purged) (family_of done).snaps (λ s was. still (what.Mksnap id dir name) is (λ t. refl) s.id ∙ was) old,
        )
        by_what (what.Rmsnap id) is = dropped id is (snap_of (family_of done).snaps id)
        by_what (what.Purgedone id) is =
            each_map (λ s. is_purged done s.id ≡ s.purged) (λ s. is_purged (done ++ e ∷ []) s.id ≡ s.purged) (purged_one id) (family_of done).snaps
            (λ s was. purged_more done e s.id ∙ (λ i. was i || (ap (purges s.id) is ∙ turned id.0 s.id.0) i)) old
        by_what w is = steady w is refl (λ s. refl)

-- the greatest of the ids, in both orders
greatest_same : (snaps : List Made) → greatest (rev_ids snaps) ≡ greatest_told (ids_of snaps)
greatest_same [] = refl
greatest_same (s ∷ snaps) =
    let more : greatest (rev_ids (s ∷ snaps)) ≡ max (greatest (rev_ids snaps)) s.id.0 = fold-append (λ n (id : SnapId). max n id.0) 1 (rev_ids snaps) (s.id ∷ []) in
    omega (arith, more, greatest_same snaps)

pub filter_push : {A : Type 0} (q : A → Bool) (xs : List A) (y : A) → filter q (xs ++ y ∷ []) ≡ filter q xs ++ cond (q y) (y ∷ []) []
filter_push q [] y = refl
filter_push q (x ∷ xs) y = go (q x) (filter_push q xs y)
  where
    go : (b : Bool) → filter q (xs ++ y ∷ []) ≡ filter q xs ++ cond (q y) (y ∷ []) [] → cond b (x ∷ filter q (xs ++ y ∷ [])) (filter q (xs ++ y ∷ [])) ≡ cond b (x ∷ filter q xs) (filter q xs) ++ cond (q y) (y ∷ []) []
    go true rest = ap (λ l. x ∷ l) rest
    go false rest = rest

kept_same : (entries : List Entry) (snaps : List Made) → Each (λ s. is_purged entries s.id ≡ s.purged) snaps → reverse (kept entries (rev_ids snaps)) ≡ ids_of (filter is_kept snaps)
kept_same entries [] all = refl
kept_same entries (s ∷ snaps) all =
    ap reverse (filter_push (λ t. not (is_purged entries t)) (rev_ids snaps) s.id)
    ∙ reverse-append (kept entries (rev_ids snaps)) (cond (not (is_purged entries s.id)) (s.id ∷ []) [])
    ∙ go s.purged all.0 (kept_same entries snaps all.1)
  where
    go : (b : Bool) → is_purged entries s.id ≡ b → reverse (kept entries (rev_ids snaps)) ≡ ids_of (filter is_kept snaps) → reverse (cond (not (is_purged entries s.id)) (s.id ∷ []) []) ++ reverse (kept entries (rev_ids snaps)) ≡ ids_of (cond (not b) (s ∷ filter is_kept snaps) (filter is_kept snaps))
    go true is rest = rw is rest
    go false is rest = rw is (ap (λ l. s.id ∷ l) rest)

-- the context of every inode
pub same_contexts : (entries : List Entry) → is_journal entries ≡ true → (x : Ino) → same_ino GLOBAL x ≡ false → context_told (family_of entries) x ≡ context entries x
same_contexts entries legal x apart = sym (λ i. record {
  seq = record { 0 = (ap greatest same ∙ greatest_same (covering_told (family_of entries) x)) i };
  ids = (ap (λ (ids : List SnapId). reverse (kept entries ids)) same ∙ kept_same entries (covering_told (family_of entries) x) (each_filter (λ s. is_purged entries s.id ≡ s.purged) (covers (family_of entries) x) (family_of entries).snaps (purged_same entries legal))) i;
})
  where
    same : covering entries x ≡ rev_ids (covering_told (family_of entries) x)
    same = same_covering entries legal x apart
