-- The names that a directory shows are distinct, so that it doesn't matter in which order they stand.
use Rattle.std.proofs.Common.{◌≡◌, ℕ, ◌<◌, ◌≤◌, ◌^◌, List, [], ◌∷◌, ◌++◌, Bool, true, false, cond, not, ◌&&◌, Option, None, Some, refl, sym, ap, subst, ◌∙◌, map, filter, reverse, arith, length, codes, decimal}
use Rattle.std.specs.Prelude.{bytes_eq, nat_lt, if◌then◌else◌}
use borrow.Author.Tests.{ltb-true, ltb-false}
use Rattle.std.specs.Cmp.Lexicographic.{bytes_decides, slice_cmp}
use Rattle.std.specs.declared.cmp.Ordering.{Ordering}
use Rattle.std.specs.declared.cmp.Ordering.TheVariants.{Less, Equal, Greater}
use Rattle.std.specs.Ordering.{is_lt, is_eq, nat_cmp, ordering_reverse}
use Rattle.std.specs.Fmt.{digits, digits_onto}
use Rattle.std.specs.List.{fold}
use Rattle.std.specs.Str.Parse.{AllDigits}
use Rattle.std.proofs.lemmas.Cmp.{nat_list_cmp_total}
use Rattle.std.proofs.lemmas.Fmt.{decimal_injective, decimal_is_IsNumeral}
use Rattle.std.proofs.lemmas.List.{append_assoc, reverse-append}
use Rattle.std.proofs.lemmas.Map.Text.{is_eq-slice_cmp}
use Rattle.std.proofs.lemmas.Str.Parse.{digit_from_value}
use Rattle.snap_ids.specs.declared.id.Ino.{Ino}
use Rattle.snap_ids.specs.declared.id.SnapId.{SnapId}
use Rattle.snap_ids.specs.declared.id.TheConstants.{GLOBAL}
use Rattle.snap_ids.specs.declared.values.Kind.{Kind}
use Rattle.snap_ids.specs.declared.values.Kind.TheVariants.{Dir}
use Rattle.snap_ids.specs.Name.{begins_with_underscore, is_new, is_new_snap}
use Rattle.plain_types.specs.declared.change.Change.TheVariants as change
use Rattle.plain_types.specs.declared.entry.Entry.{Entry}
use Rattle.plain_types.specs.declared.entry.What.{What}
use Rattle.plain_types.specs.declared.entry.What.TheVariants as what
use Rattle.plain_tree.specs.State.{State}
use Rattle.plain_tree.specs.Change.{is_directory, is_free_snap, is_refused}
use Rattle.plain_tree.specs.Query.{id_named, listed_snaps}
use Rattle.plain_tree.specs.Query.{add_name as add_plain}
use Rattle.plain_journal.specs.Entries.{change_in, state_after}
use Rattle.plain_journal.specs.Legal.{fits, is_journal, is_legal, is_made_by}
use Rattle.plain_journal.specs.Realms.{shown}
use Rattle.realm_story.specs.Family.{Family, Made, covers, is_on, name_shown, same_ino}
use Rattle.realm_story.specs.Family.{shown as shown_told}
use Rattle.realm_story.specs.Stands.{Each}
use Rattle.realm_story.proofs.Facts.{both_of, itself, same_of}
use Rattle.realm_story.proofs.Same.{each_both, each_weaker}
use Rattle.journal_realms.specs.Told.{drop_found, family_of, snap_of, told}
use Rattle.journal_realms.proofs.Births.{bound}
use Rattle.journal_realms.proofs.Covered.{covers_after}
use Rattle.journal_realms.proofs.Family.{family_more}
use Rattle.journal_realms.proofs.Induct.{of_each}
use Rattle.journal_realms.proofs.Kept.{not_false, not_true}
use Rattle.journal_realms.proofs.Names.{same_names}
use Rattle.journal_realms.proofs.Snaps.{IsOwn, basic_after, dropped_one, each_map, has_name, purged_one, told_snaps}
use Rattle.snap_realm.specs.Names.{add_name, id_in, listed}

-- a text in which no `_` stands
abbrev IsPlain : List ℕ → Type 0
IsPlain [] = Unit {0}
IsPlain (c ∷ cs) = (c ≡ 95 → ⊥) × IsPlain cs

digits_plain : (ds : List ℕ) → AllDigits 10 ds → IsPlain ds
digits_plain [] all = tt
digits_plain (d ∷ ds) all = ((λ is. omega (arith, digit_from_value d all.0, is)), digits_plain ds all.1)

-- the two parts around the last `_` are those of one text alone
no_more : (name ds es : List ℕ) → IsPlain ds → ds ≡ name ++ 95 ∷ es → ⊥
no_more [] [] es plain same = cc
no_more [] (d ∷ ds) es plain same = let first : d ≡ 95 = cc in plain.0 first
no_more (c ∷ name) [] es plain same = cc
no_more (c ∷ name) (d ∷ ds) es plain same = let rest : ds ≡ name ++ 95 ∷ es = cc in no_more name ds es plain.1 rest

last_part : (m n ds es : List ℕ) → IsPlain ds → IsPlain es → m ++ 95 ∷ ds ≡ n ++ 95 ∷ es → (m ≡ n) × (ds ≡ es)
last_part [] [] ds es plain too same = let rest : ds ≡ es = cc in (refl, rest)
last_part [] (c ∷ n) ds es plain too same = let rest : ds ≡ n ++ 95 ∷ es = cc in absurd (no_more n ds es plain rest)
last_part (c ∷ m) [] ds es plain too same = let rest : es ≡ m ++ 95 ∷ ds = cc in absurd (no_more m es ds too rest)
last_part (c ∷ m) (d ∷ n) ds es plain too same =
    let first : c ≡ d = cc in
    let rest : m ++ 95 ∷ ds ≡ n ++ 95 ∷ es = cc in
    let l = last_part m n ds es plain too rest in
    ((λ i. first i ∷ l.0 i), l.1)

decimal_is : (n : ℕ) → decimal n ≡ digits_onto 64 10 false n []
unfolding digits
decimal_is n = refl

-- an inherited name in one piece
abbrev inherited : List ℕ → ℕ → List ℕ
inherited name root = codes "_" ++ name ++ codes "_" ++ digits_onto 64 10 false root []

inherited_is : (name : List ℕ) (root : ℕ) → inherited name root ≡ 95 ∷ (name ++ 95 ∷ decimal root)
inherited_is name root =
    append_assoc (codes "_" ++ name) (codes "_") (digits_onto 64 10 false root [])
    ∙ ap (λ (d : List ℕ). 95 ∷ (name ++ 95 ∷ d)) (sym (decimal_is root))

same_inherited : (m n : List ℕ) (x y : ℕ) → x < 2 ^ 64 → y < 2 ^ 64 → inherited m x ≡ inherited n y → (m ≡ n) × (x ≡ y)
same_inherited m n x y small too same =
    let whole : 95 ∷ (m ++ 95 ∷ decimal x) ≡ 95 ∷ (n ++ 95 ∷ decimal y) = sym (inherited_is m x) ∙ same ∙ inherited_is n y in
    let behind : m ++ 95 ∷ decimal x ≡ n ++ 95 ∷ decimal y = cc in
    let l = last_part m n (decimal x) (decimal y) (digits_plain (decimal x) (decimal_is_IsNumeral x small).0.1) (digits_plain (decimal y) (decimal_is_IsNumeral y too).0.1) behind in
    (l.0, decimal_injective x y small too l.1)

-- a snapshot's name is no inherited one, and its directory's number is a number of 64 bits
record IsFit (snap : Made) : Type 0 where
  pub new : is_new_snap snap.name ≡ true
  pub small : snap.root.0 < 2 ^ 64

own_apart : (own name : List ℕ) (root : ℕ) → is_new_snap own ≡ true → own ≡ inherited name root → ⊥
own_apart own name root new same =
    let begins : begins_with_underscore own ≡ true = ap begins_with_underscore (same ∙ inherited_is name root) in
    let never : false ≡ true = sym (not_true (begins_with_underscore own) (both_of (is_new own) (not (begins_with_underscore own)) new).1) ∙ begins in
    cc

-- two snapshots of one name in a directory's `.snap` are of one directory and have one name
one_name : (dir : Ino) (s t : Made) → IsFit s → IsFit t → name_shown dir s ≡ name_shown dir t → has_name s.root s.name t ≡ true
one_name dir s t fit too same = go (same_ino s.root dir) (same_ino t.root dir) refl refl same
  where
    both : t.root ≡ s.root → t.name ≡ s.name → has_name s.root s.name t ≡ true
    both roots names = rw (ap (λ (x : Ino). same_ino x s.root) roots ∙ itself s.root) ((bytes_decides t.name s.name).1 names)

    go : (b c : Bool) → same_ino s.root dir ≡ b → same_ino t.root dir ≡ c → cond b s.name (inherited s.name s.root.0) ≡ cond c t.name (inherited t.name t.root.0) → has_name s.root s.name t ≡ true
    go true true is has same = both (same_of t.root dir has ∙ sym (same_of s.root dir is)) (sym same)
    go true false is has same = absurd (own_apart s.name t.name t.root.0 fit.new same)
    go false true is has same = absurd (own_apart t.name s.name s.root.0 too.new (sym same))
    go false false is has same =
        let l = same_inherited s.name t.name s.root.0 t.root.0 fit.small too.small same in
        both (λ i. record { 0 = sym l.1 i }) (sym l.0)

-- the names of a list differ
abbrev AllOther : List ℕ → List (List ℕ × SnapId) → Type 0
AllOther name [] = Unit {0}
AllOther name (snap ∷ snaps) = (bytes_eq name snap.0 ≡ false) × AllOther name snaps

abbrev AreDistinct : List (List ℕ × SnapId) → Type 0
AreDistinct [] = Unit {0}
AreDistinct (snap ∷ snaps) = AllOther snap.0 snaps × AreDistinct snaps

abbrev names_in : Ino → (Made → Bool) → List Made → List (List ℕ × SnapId)
names_in dir q snaps = map {B = List ℕ × SnapId} (λ (snap : Made). (name_shown dir snap, snap.id)) (filter (λ (snap : Made). snap.live) (filter q snaps))

others_named : (dir : Ino) (q : Made → Bool) (s : Made) (snaps : List Made) → IsFit s → Each IsFit snaps → Each (λ other. other.live ≡ true → has_name s.root s.name other ≡ false) snaps → AllOther (name_shown dir s) (names_in dir q snaps)
others_named dir q s [] fit all off = tt
others_named dir q s (t ∷ snaps) fit all off = go (q t) (others_named dir q s snaps fit all.1 off.1)
  where
    differ : (b : Bool) → bytes_eq (name_shown dir s) (name_shown dir t) ≡ b → t.live ≡ true → b ≡ false
    differ true is live =
        let never : true ≡ false = sym (one_name dir s t fit all.0 ((bytes_decides (name_shown dir s) (name_shown dir t)).0 is)) ∙ off.0 live in
        cc
    differ false is live = refl

    by_live : (b : Bool) → t.live ≡ b → AllOther (name_shown dir s) (names_in dir q snaps) → AllOther (name_shown dir s) (map {B = List ℕ × SnapId} (λ (snap : Made). (name_shown dir snap, snap.id)) (cond b (t ∷ filter (λ (snap : Made). snap.live) (filter q snaps)) (filter (λ (snap : Made). snap.live) (filter q snaps))))
    by_live false is rest = rest
    by_live true is rest = (differ (bytes_eq (name_shown dir s) (name_shown dir t)) refl is, rest)

    go : (a : Bool) → AllOther (name_shown dir s) (names_in dir q snaps) → AllOther (name_shown dir s) (map {B = List ℕ × SnapId} (λ (snap : Made). (name_shown dir snap, snap.id)) (filter (λ (snap : Made). snap.live) (cond a (t ∷ filter q snaps) (filter q snaps))))
    go false rest = rest
    go true rest = by_live t.live refl rest

names_distinct : (dir : Ino) (q : Made → Bool) (snaps : List Made) → Each IsFit snaps → IsOwn snaps → AreDistinct (names_in dir q snaps)
names_distinct dir q [] all own = tt
names_distinct dir q (s ∷ snaps) all own = go (q s) (names_distinct dir q snaps all.1 own.1)
  where
    by_live : (b : Bool) → s.live ≡ b → AreDistinct (names_in dir q snaps) → AreDistinct (map {B = List ℕ × SnapId} (λ (snap : Made). (name_shown dir snap, snap.id)) (cond b (s ∷ filter (λ (snap : Made). snap.live) (filter q snaps)) (filter (λ (snap : Made). snap.live) (filter q snaps))))
    by_live false is rest = rest
    by_live true is rest = (others_named dir q s snaps all.0 all.1 (own.0 is), rest)

    go : (a : Bool) → AreDistinct (names_in dir q snaps) → AreDistinct (map {B = List ℕ × SnapId} (λ (snap : Made). (name_shown dir snap, snap.id)) (filter (λ (snap : Made). snap.live) (cond a (s ∷ filter q snaps) (filter q snaps))))
    go false rest = rest
    go true rest = by_live s.live refl rest

-- each snapshot of a journal has a name that a new one may have
new_names : (entries : List Entry) → is_journal entries ≡ true → Each (λ s. is_new_snap s.name ≡ true) (family_of entries).snaps
new_names entries legal = of_each (λ done. Each (λ s. is_new_snap s.name ≡ true) (family_of done).snaps) tt more entries legal
  where
    second : (a b c d e : Bool) → ((((a && b) && c) && d) && e) ≡ true → b ≡ true
    second true true c d e is = refl
    second true false c d e is = cc
    second false b c d e is = cc

    dropped : (found : Option Made) (family : Family) → Each (λ s. is_new_snap s.name ≡ true) family.snaps → Each (λ s. is_new_snap s.name ≡ true) (drop_found found family).snaps
    dropped None family all = all
    dropped (Some snap) family all = each_map (λ s. is_new_snap s.name ≡ true) (λ s. is_new_snap s.name ≡ true) (dropped_one snap.root snap.name) family.snaps (λ s is. is) all

    by_what : (state : State) (w : What) (family : Family) → ((id : SnapId) (dir : Ino) (name : List ℕ) → w ≡ what.Mksnap id dir name → is_new_snap name ≡ true) → Each (λ s. is_new_snap s.name ≡ true) family.snaps → Each (λ s. is_new_snap s.name ≡ true) (told state w family).snaps
    by_what state (what.Mksnap id dir name) family new all = (new id dir name refl, all)
    by_what state (what.Rmsnap id) family new all = dropped (snap_of family.snaps id) family all
    by_what state (what.Purgedone id) family new all = each_map (λ s. is_new_snap s.name ≡ true) (λ s. is_new_snap s.name ≡ true) (purged_one id) family.snaps (λ s is. is) all
    by_what state w family new all = subst (Each (λ s. is_new_snap s.name ≡ true)) (sym (told_snaps state w family refl)) all

    more : (done : List Entry) (e : Entry) → is_journal done ≡ true → Each (λ s. is_new_snap s.name ≡ true) (family_of done).snaps → is_legal done e ≡ true → Each (λ s. is_new_snap s.name ≡ true) (family_of (done ++ e ∷ [])).snaps
    more done e legal all fine =
        subst (λ (f : Family). Each (λ s. is_new_snap s.name ≡ true) f.snaps) (sym (family_more done e))
        (by_what (state_after done) e.what (family_of done) new all)
      where
        new : (id : SnapId) (dir : Ino) (name : List ℕ) → e.what ≡ what.Mksnap id dir name → is_new_snap name ≡ true
        new id dir name is =
            let made : is_made_by (state_after done) e.client (change_in (what.Mksnap id dir name)) ≡ true = subst (λ (w : What). is_made_by (state_after done) e.client (change_in w) ≡ true) is (both_of (is_made_by (state_after done) e.client (change_in e.what)) (fits done e.what) fine).0 in
            second (is_directory (state_after done) dir) (is_new_snap name) _ _ _ (not_false (is_free_snap (state_after done) dir name) (not_true (is_refused (state_after done) e.client (change.Mksnap id dir name)) made))

-- and is one of an inode that was made
low_roots : (n : ℕ) (snaps : List Made) → ((x : Ino) → n ≤ x.0 → Each (λ s. same_ino x s.root ≡ false) snaps) → Each (λ s. s.root.0 < n) snaps
low_roots n [] off = tt
low_roots n (s ∷ snaps) off = (by_test (nat_lt s.root.0 n) refl, low_roots n snaps (λ x above. (off x above).1))
  where
    by_test : (b : Bool) → nat_lt s.root.0 n ≡ b → s.root.0 < n
    by_test true is = ltb-true s.root.0 n is
    by_test false is =
        let never : true ≡ false = sym (itself s.root) ∙ (off s.root (ltb-false s.root.0 n is)).0 in
        cc

module _ (entries : List Entry) (legal : is_journal entries ≡ true) (few : length (state_after entries).inodes < 2 ^ 62) where
  fit_snaps : Each IsFit (family_of entries).snaps
  fit_snaps = each_both (λ s. is_new_snap s.name ≡ true) (λ s. s.root.0 < bound entries) IsFit (family_of entries).snaps
      (λ s new low. record { new = new; small = omega (arith, low, few) }) (new_names entries legal)
      (low_roots (bound entries) (family_of entries).snaps (λ x above. each_weaker (λ s. (is_on x s.covered ≡ false) × (same_ino x s.root ≡ false)) (λ s. same_ino x s.root ≡ false) (family_of entries).snaps (λ s is. is.1) ((covers_after entries legal).off x above)))

  shown_distinct : (dir : Ino) → AreDistinct (shown_told (family_of entries) dir)
  shown_distinct dir = names_distinct dir (covers (family_of entries) dir) (family_of entries).snaps fit_snaps (basic_after entries legal).own

-- an id, or another one where there is none
abbrev or_id : Option SnapId → Option SnapId → Option SnapId
or_id None other = other
or_id (Some id) other = Some id

id_push : (snaps more : List (List ℕ × SnapId)) (name : List ℕ) → id_named (snaps ++ more) name ≡ or_id (id_named snaps name) (id_named more name)
id_push [] more name = refl
id_push (snap ∷ snaps) more name = go (bytes_eq snap.0 name) (id_push snaps more name)
  where
    go : (b : Bool) → id_named (snaps ++ more) name ≡ or_id (id_named snaps name) (id_named more name) → (if b then Some snap.1 else id_named (snaps ++ more) name) ≡ or_id (if b then Some snap.1 else id_named snaps name) (id_named more name)
    go true rest = refl
    go false rest = rest

not_named : (snaps : List (List ℕ × SnapId)) (name : List ℕ) → AllOther name snaps → id_in snaps name ≡ None
not_named [] name other = refl
not_named (snap ∷ snaps) name other = rw (turned (bytes_eq snap.0 name) refl) (not_named snaps name other.1)
  where
    turned : (b : Bool) → bytes_eq snap.0 name ≡ b → bytes_eq snap.0 name ≡ false
    turned true is =
        let never : true ≡ false = sym ((bytes_decides name snap.0).1 (sym ((bytes_decides snap.0 name).0 is))) ∙ other.0 in
        cc
    turned false is = is

-- a name has one id, whatever the order
id_turned : (snaps : List (List ℕ × SnapId)) (name : List ℕ) → AreDistinct snaps → id_named (reverse snaps) name ≡ id_in snaps name
id_turned [] name distinct = refl
id_turned (snap ∷ snaps) name distinct =
    ap (λ (l : List (List ℕ × SnapId)). id_named l name) (reverse-append (snap ∷ []) snaps)
    ∙ id_push (reverse snaps) (snap ∷ []) name
    ∙ ap (λ (o : Option SnapId). or_id o (if bytes_eq snap.0 name then Some snap.1 else None)) (id_turned snaps name distinct.1)
    ∙ go (bytes_eq snap.0 name) refl
  where
    or_none : (o : Option SnapId) → or_id o None ≡ o
    or_none None = refl
    or_none (Some id) = refl

    go : (b : Bool) → bytes_eq snap.0 name ≡ b → or_id (id_in snaps name) (if b then Some snap.1 else None) ≡ (if b then Some snap.1 else id_in snaps name)
    go true is =
        let same : snap.0 ≡ name = (bytes_decides snap.0 name).0 is in
        ap (λ (o : Option SnapId). or_id o (Some snap.1)) (not_named snaps name (subst (λ (n : List ℕ). AllOther n snaps) same distinct.0))
    go false is = or_none (id_in snaps name)

-- the id of a name in a directory's `.snap`
pub same_named : (entries : List Entry) → is_journal entries ≡ true → length (state_after entries).inodes < 2 ^ 62 → (dir : Ino) → same_ino GLOBAL dir ≡ false → (name : List ℕ) → id_named (shown entries dir) name ≡ id_in (shown_told (family_of entries) dir) name
same_named entries legal few dir apart name =
    ap (λ (l : List (List ℕ × SnapId)). id_named l name) (sym (same_names entries legal dir apart))
    ∙ id_turned (shown_told (family_of entries) dir) name (shown_distinct entries legal few dir)

-- one name stands before another
abbrev before : List ℕ → List ℕ → Bool
before x y = is_lt (slice_cmp nat_cmp x y)

before_not : (x y : List ℕ) → before x y ≡ true → before y x ≡ false
before_not x y is = ap is_lt (nat_list_cmp_total.antisymm y x) ∙ go (slice_cmp nat_cmp x y) is
  where
    go : (o : Ordering) → is_lt o ≡ true → is_lt (ordering_reverse o) ≡ false
    go Less is = refl
    go Equal is = cc
    go Greater is = cc

is_less : (o : Ordering) → is_lt o ≡ true → o ≡ Less
is_less Less is = refl
is_less Equal is = cc
is_less Greater is = cc

before_trans : (x y z : List ℕ) → before x y ≡ true → before y z ≡ true → before x z ≡ true
before_trans x y z is too = ap is_lt (nat_list_cmp_total.trans x y z (is_less (slice_cmp nat_cmp x y) is) (is_less (slice_cmp nat_cmp y z) too))

neither_same : (x y : List ℕ) → before x y ≡ false → before y x ≡ false → x ≡ y
neither_same x y off too = (bytes_decides x y).0 (sym (is_eq-slice_cmp x y) ∙ go (slice_cmp nat_cmp x y) off (sym (ap is_lt (nat_list_cmp_total.antisymm y x)) ∙ too))
  where
    go : (o : Ordering) → is_lt o ≡ false → is_lt (ordering_reverse o) ≡ false → is_eq o ≡ true
    go Less off too = cc
    go Equal off too = refl
    go Greater off too = cc

abbrev put : List ℕ → List (List ℕ × Kind) → List (List ℕ × Kind)
put name names = add_name (name, Dir) names

-- two names in a row, in either order
first_two : (x y : List ℕ) (names : List (List ℕ × Kind)) → cond (before x y) ((x, Dir) ∷ (y, Dir) ∷ names) ((y, Dir) ∷ (x, Dir) ∷ names) ≡ cond (before y x) ((y, Dir) ∷ (x, Dir) ∷ names) ((x, Dir) ∷ (y, Dir) ∷ names)
first_two x y names = go (before x y) (before y x) refl refl
  where
    go : (a b : Bool) → before x y ≡ a → before y x ≡ b → cond a ((x, Dir) ∷ (y, Dir) ∷ names) ((y, Dir) ∷ (x, Dir) ∷ names) ≡ cond b ((y, Dir) ∷ (x, Dir) ∷ names) ((x, Dir) ∷ (y, Dir) ∷ names)
    go true true is too = let never : true ≡ false = sym too ∙ before_not x y is in cc
    go true false is too = refl
    go false true is too = refl
    go false false is too = let same : x ≡ y = neither_same x y is too in (λ i. (sym same i, Dir) ∷ (same i, Dir) ∷ names)

put_turned : (x y : List ℕ) (names : List (List ℕ × Kind)) → put x (put y names) ≡ put y (put x names)
put_turned x y [] = first_two x y []
put_turned x y (n ∷ names) = go (before x n.0) (before y n.0) refl refl (put_turned x y names)
  where
    go : (a b : Bool) → before x n.0 ≡ a → before y n.0 ≡ b → put x (put y names) ≡ put y (put x names) → put x (cond b ((y, Dir) ∷ n ∷ names) (n ∷ put y names)) ≡ put y (cond a ((x, Dir) ∷ n ∷ names) (n ∷ put x names))
    go true true is too rest = rw (is, too) (first_two x y (n ∷ names))
    go true false is too rest = rw (is, too, later (before y x) refl) refl
      where
        later : (b : Bool) → before y x ≡ b → before y x ≡ false
        later true first = let never : true ≡ false = sym (before_trans y x n.0 first is) ∙ too in cc
        later false first = first
    go false true is too rest = rw (is, too, later (before x y) refl) refl
      where
        later : (b : Bool) → before x y ≡ b → before x y ≡ false
        later true first = let never : true ≡ false = sym (before_trans x y n.0 first too) ∙ is in cc
        later false first = first
    go false false is too rest = rw (is, too) (ap (λ (l : List (List ℕ × Kind)). n ∷ l) rest)

-- the names of snapshots, put among others one by one
abbrev put_all : List (List ℕ × Kind) → List (List ℕ × SnapId) → List (List ℕ × Kind)
put_all names snaps = fold (λ names (snap : List ℕ × SnapId). put snap.0 names) names snaps

put_first : (snap : List ℕ × SnapId) (names : List (List ℕ × Kind)) (snaps : List (List ℕ × SnapId)) → put_all (put snap.0 names) snaps ≡ put snap.0 (put_all names snaps)
put_first snap names [] = refl
put_first snap names (s ∷ snaps) = ap (λ l. put_all l snaps) (put_turned s.0 snap.0 names) ∙ put_first snap (put s.0 names) snaps

put_append : (names : List (List ℕ × Kind)) (snaps more : List (List ℕ × SnapId)) → put_all names (snaps ++ more) ≡ put_all (put_all names snaps) more
put_append names [] more = refl
put_append names (s ∷ snaps) more = put_append (put s.0 names) snaps more

listed_turned : (names : List (List ℕ × Kind)) (snaps : List (List ℕ × SnapId)) → put_all names (reverse snaps) ≡ put_all names snaps
listed_turned names [] = refl
listed_turned names (s ∷ snaps) =
    ap (put_all names) (reverse-append (s ∷ []) snaps)
    ∙ put_append names (reverse snaps) (s ∷ [])
    ∙ ap (put s.0) (listed_turned names snaps)
    ∙ sym (put_first s names snaps)

-- both words for a name that is put among others
same_put : (new : List ℕ × Kind) (names : List (List ℕ × Kind)) → add_plain new names ≡ add_name new names
same_put new [] = refl
same_put new (n ∷ names) = ap (λ (l : List (List ℕ × Kind)). cond (before new.0 n.0) (new ∷ n ∷ names) (n ∷ l)) (same_put new names)

same_listed : (names : List (List ℕ × Kind)) (snaps : List (List ℕ × SnapId)) → fold (λ names (snap : List ℕ × SnapId). add_plain (snap.0, Dir) names) names snaps ≡ put_all names snaps
same_listed names [] = refl
same_listed names (s ∷ snaps) = ap (λ l. fold (λ names (snap : List ℕ × SnapId). add_plain (snap.0, Dir) names) l snaps) (same_put (s.0, Dir) names) ∙ same_listed (put s.0 names) snaps

-- what `ls` of a `.snap` lists
pub same_names_listed : (entries : List Entry) → is_journal entries ≡ true → (dir : Ino) → same_ino GLOBAL dir ≡ false → listed_snaps (shown entries dir) ≡ listed (shown_told (family_of entries) dir)
same_names_listed entries legal dir apart =
    same_listed [] (shown entries dir)
    ∙ ap (put_all []) (sym (same_names entries legal dir apart))
    ∙ listed_turned [] (shown_told (family_of entries) dir)
