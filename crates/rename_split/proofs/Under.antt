-- What stands below what: by the names of entries, and by the parents in a tree of realms.
use Rattle.std.proofs.Common.{◌≡◌, ℕ, zero, suc, ◌<◌, ◌≤◌, Bool, true, false, ◌||◌, ◌&&◌, cond, eqb, List, [], ◌∷◌, length, map, Option, None, Some, Result, Ok, Err, refl, ap, sym, ◌∙◌, subst, arith}
use Rattle.std.proofs.lemmas.Cmp.{eq_by_cmp_equiv, nat_cmp_total}
use Rattle.std.proofs.lemmas.Map.Steps.{length-le_from_keys}
use Rattle.std.specs.List.{AllByRecursion, IsDistinct, list_any}
use Rattle.std.specs.Map.{lookup as key_lookup}
use Rattle.std.specs.Option.{IsSome}
use Rattle.std.specs.Ordering.{nat_cmp, eq_by_cmp}
use Rattle.std.specs.Prelude.{bytes_eq}
use Rattle.snap_ids.specs.declared.id.Ino.{Ino}
use Rattle.snap_ids.specs.declared.id.TheConstants.{ROOT, GLOBAL, STRAY}
use Rattle.snap_ids.specs.declared.values.Kind.{Kind}
use Rattle.snap_ids.specs.declared.values.Kind.TheVariants.{Dir, File}
use Rattle.plain_types.specs.declared.answer.Refusal.{Refusal}
use Rattle.plain_types.specs.declared.answer.Refusal.TheVariants.{NotDir, NoEntry}
use Rattle.plain_tree.specs.State.{Entry, lookup, is_at}
use Rattle.plain_tree.specs.Walk.{walk, leads_up, is_under}
use Rattle.plain_tree.specs.Request.{Tree, walk_live}
use Rattle.realm_story.specs.Family.{Family, same_ino, is_on, is_root, above_by, member, way_up}
use Rattle.realm_story.specs.Family.{is_in_global as family_global}
use Rattle.realm_story.specs.Records.{parent_by}
use Rattle.realm_story.specs.Stands.{Climbs, IsApart}
use Rattle.realm_story.proofs.Facts.{same_of, same_sym, itself}
use Rattle.realm_story.proofs.Ways.{one_way, apart}
use Rattle.snap_realm.specs.Tree as realms
use Rattle.snap_realm.proofs.Values.{way_is, global_is, distinct, found_on, length_numbers, numbers, at_is}
use Rattle.rename_split.specs.Plans.{IsPlaced, first}

-- names lead from the root to an inode: this is the way up from it
abbrev pub Leads : Tree → Ino → List Ino → Type 0
Leads tree x [] = x ≡ ROOT
Leads tree x (dir ∷ way) = (name : List ℕ) × ((lookup tree.entries dir name ≡ Some x) × ((tree.kind dir ≡ Dir) × Leads tree dir way))

-- the entry that a look-up finds
pub found_is : (P : Entry → Type 0) (entries : List Entry) (dir : Ino) (name : List ℕ) (x : Ino) → lookup entries dir name ≡ Some x → AllByRecursion P entries → (e : Entry) × (P e × ((e.ino ≡ x) × (e.dir ≡ dir)))
found_is P [] dir name x found all = cc
found_is P (e ∷ entries) dir name x found all = go (same_ino e.dir dir) (bytes_eq e.name name) refl found (λ h. found_is P entries dir name x h all.1)
  where
    go : (a b : Bool) → same_ino e.dir dir ≡ a → cond (a && b) (Some e.ino) (lookup entries dir name) ≡ Some x → (lookup entries dir name ≡ Some x → (f : Entry) × (P f × ((f.ino ≡ x) × (f.dir ≡ dir)))) → (f : Entry) × (P f × ((f.ino ≡ x) × (f.dir ≡ dir)))
    go true true is h later = let named : e.ino ≡ x = cc in (e, (all.0, (named, same_of e.dir dir is)))
    go true false is h later = later h
    go false b is h later = later h

-- the way up from where a walk ends
pub walk_leads : (tree : Tree) (names : List (List ℕ)) (start : Ino) (way : List Ino) (dir : Ino) → Leads tree start way → walk tree.kind tree.entries start names ≡ Ok dir → (rest : List Ino) × Leads tree dir rest
walk_leads tree [] start way dir leads walked =
    let same : start ≡ dir = cc in
    (way, subst (λ x. Leads tree x way) same leads)
walk_leads tree (name ∷ names) start way dir leads walked = go (tree.kind start) (lookup tree.entries start name) refl refl (λ x above h. walk_leads tree names x (start ∷ way) dir above h) walked
  where
    go : (kind : Kind) (next : Option Ino) → tree.kind start ≡ kind → lookup tree.entries start name ≡ next → ((x : Ino) → Leads tree x (start ∷ way) → walk tree.kind tree.entries x names ≡ Ok dir → (rest : List Ino) × Leads tree dir rest) → elim kind as (λ _. Result Ino Refusal) [ File ↦ Err NotDir | Dir ↦ elim next [ None ↦ Err NoEntry | Some x ↦ walk tree.kind tree.entries x names ] ] ≡ Ok dir → (rest : List Ino) × Leads tree dir rest
    go File next is found later h = cc
    go Dir None is found later h = cc
    go Dir (Some x) is found later h = later x (name, (found, (is, leads))) h

module _ (tree : Tree) (place : realms.Tree) (family : Family) (stands : realms.StandsFor place family) (placed : AllByRecursion (IsPlaced tree.kind family) tree.entries) where
  -- a root is the whole way up from itself
  root_way : (x : Ino) → realms.is_there place x ≡ true → parent_by (realms.node_at place.nodes x.0) ≡ None → realms.way place x ≡ x ∷ []
  root_way x there top =
      way_is place family stands x there
      ∙ ap (λ way. x ∷ way) (one_way (realms.node_at place.nodes) x (above_by (member family.members x)) [] (stands.climbs x) top)

  root_there : realms.is_there place ROOT ≡ true
  root_there = stands.there ROOT

  root_outside : realms.is_in_global place ROOT ≡ false
  root_outside = ap (is_on GLOBAL) (root_way ROOT root_there (stands.tops ROOT refl))

  -- a directory that an entry names isn't in the global realm
  outside : (e : Entry) → IsPlaced tree.kind family e → tree.kind e.ino ≡ Dir → family_global family.members e.ino ≡ false
  outside e is dir = go (family_global family.members e.ino) refl
    where
      go : (b : Bool) → family_global family.members e.ino ≡ b → b ≡ false
      go true inside = let never : Dir ≡ File = sym dir ∙ is.file inside in cc
      go false inside = refl

  -- the first inode above another is its parent
  parent_is : (x dir : Ino) → first (above_by (member family.members x)) ≡ Some dir → parent_by (realms.node_at place.nodes x.0) ≡ Some dir
  parent_is x dir above = go (above_by (member family.members x)) (stands.climbs x) above
    where
      go : (way : List Ino) → Climbs (realms.node_at place.nodes) x way → first way ≡ Some dir → parent_by (realms.node_at place.nodes x.0) ≡ Some dir
      go [] climbs is = cc
      go (next ∷ way) climbs is = climbs.0 ∙ is

  -- what isn't in the global realm has the entry's directory as its parent
  placed_below : (e : Entry) → IsPlaced tree.kind family e → family_global family.members e.ino ≡ false → parent_by (realms.node_at place.nodes e.ino.0) ≡ Some e.dir
  placed_below e is out = parent_is e.ino e.dir (is.below out)

  -- no entry names the root
  names_no_root : (e : Entry) → IsPlaced tree.kind family e → same_ino e.ino ROOT ≡ false
  names_no_root e is = go (same_ino e.ino ROOT) refl
    where
      go : (b : Bool) → same_ino e.ino ROOT ≡ b → b ≡ false
      go true same =
          let named : e.ino ≡ ROOT = same_of e.ino ROOT same in
          let out : family_global family.members e.ino ≡ false = ap (family_global family.members) named ∙ sym (global_is place family stands ROOT root_there) ∙ root_outside in
          let above : parent_by (realms.node_at place.nodes e.ino.0) ≡ Some e.dir = placed_below e is out in
          let top : parent_by (realms.node_at place.nodes e.ino.0) ≡ None = ap (λ (x : Ino). parent_by (realms.node_at place.nodes x.0)) named ∙ stands.tops ROOT refl in
          let never : Some e.dir ≡ None = sym above ∙ top in
          cc
      go false same = refl

  -- the parents of a directory lead up where its names do
  climbs : (x : Ino) (way : List Ino) → Leads tree x way → tree.kind x ≡ Dir → Climbs (realms.node_at place.nodes) x way
  climbs x [] leads is = subst (λ (y : Ino). parent_by (realms.node_at place.nodes y.0) ≡ None) (sym leads) (stands.tops ROOT refl)
  climbs x (dir ∷ way) (name, (found, (above, leads))) is =
      let entry = found_is (IsPlaced tree.kind family) tree.entries dir name x found placed in
      let here : IsPlaced tree.kind family entry.0 = entry.1.0 in
      let ino : entry.0.ino ≡ x = entry.1.1.0 in
      let below : parent_by (realms.node_at place.nodes entry.0.ino.0) ≡ Some entry.0.dir = placed_below entry.0 here (outside entry.0 here (ap tree.kind ino ∙ is)) in (
        sym (ap (λ (y : Ino). parent_by (realms.node_at place.nodes y.0)) ino) ∙ below ∙ ap Some entry.1.1.1,
        climbs dir way leads above,
      )

  -- and it is there
  is_there : (x : Ino) (way : List Ino) → Leads tree x way → realms.is_there place x ≡ true
  is_there x [] leads = subst (λ y. realms.is_there place y ≡ true) (sym leads) root_there
  is_there x (dir ∷ way) (name, (found, rest)) =
      let entry = found_is (IsPlaced tree.kind family) tree.entries dir name x found placed in
      subst (λ y. realms.is_there place y ≡ true) entry.1.1.0 (stands.there entry.0.ino ∙ entry.1.0.there)

  -- nor is it in the global realm
  is_outside : (x : Ino) (way : List Ino) → Leads tree x way → tree.kind x ≡ Dir → realms.is_in_global place x ≡ false
  is_outside x [] leads is = subst (λ y. realms.is_in_global place y ≡ false) (sym leads) root_outside
  is_outside x (dir ∷ way) (name, (found, rest)) is =
      let entry = found_is (IsPlaced tree.kind family) tree.entries dir name x found placed in
      subst (λ y. realms.is_in_global place y ≡ false) entry.1.1.0 (global_is place family stands entry.0.ino (stands.there entry.0.ino ∙ entry.1.0.there) ∙ outside entry.0 entry.1.0 (ap tree.kind entry.1.1.0 ∙ is))

  -- the way up by the parents is the one by the names
  way_law : (x : Ino) (way : List Ino) → Leads tree x way → tree.kind x ≡ Dir → realms.way place x ≡ x ∷ way
  way_law x way leads is =
      way_is place family stands x (is_there x way leads)
      ∙ ap (λ way. x ∷ way) (one_way (realms.node_at place.nodes) x (above_by (member family.members x)) way (stands.climbs x) (climbs x way leads is))

  -- the inodes of a way without the root
  abbrev below_root : Ino → List Ino → List Ino
  below_root x [] = []
  below_root x (dir ∷ way) = x ∷ below_root dir way

  length_below : (x : Ino) (way : List Ino) → length (below_root x way) ≡ length way
  length_below x [] = refl
  length_below x (dir ∷ way) = ap suc (length_below dir way)

  on_below : (y x : Ino) (way : List Ino) → is_on y (x ∷ way) ≡ false → is_on y (below_root x way) ≡ false
  on_below y x [] off = refl
  on_below y x (dir ∷ way) off = go (same_ino y x) refl off (on_below y dir way)
    where
      go : (b : Bool) → same_ino y x ≡ b → (b || is_on y (dir ∷ way)) ≡ false → (is_on y (dir ∷ way) ≡ false → is_on y (below_root dir way) ≡ false) → (b || is_on y (below_root dir way)) ≡ false
      go true is h rest = cc
      go false is h rest = rest h

  apart_below : (x : Ino) (way : List Ino) → IsApart (x ∷ way) → IsApart (below_root x way)
  apart_below x [] apart = tt
  apart_below x (dir ∷ way) apart = (on_below x dir way apart.0, apart_below dir way apart.1)

  abbrev by_ino : List Entry → List (ℕ × Entry)
  by_ino entries = map (λ (e : Entry). (e.ino.0, e)) entries

  length_by : (entries : List Entry) → length (by_ino entries) ≡ length entries
  length_by [] = refl
  length_by (e ∷ entries) = ap suc (length_by entries)

  -- an inode that a name has is among those that entries name
  key_found : (entries : List Entry) (dir : Ino) (name : List ℕ) (x : Ino) → lookup entries dir name ≡ Some x → IsSome (key_lookup (eq_by_cmp nat_cmp x.0) (by_ino entries))
  key_found [] dir name x found = cc
  key_found (e ∷ entries) dir name x found = go (same_ino e.dir dir && bytes_eq e.name name) refl (eq_by_cmp nat_cmp x.0 e.ino.0) refl found (key_found entries dir name x)
    where
      here : (b : Bool) → e.ino ≡ x → eq_by_cmp nat_cmp x.0 e.ino.0 ≡ b → IsSome (cond b (Some e) (key_lookup (eq_by_cmp nat_cmp x.0) (by_ino entries)))
      here true is eq = refl
      here false is eq =
          let same : eq_by_cmp nat_cmp x.0 e.ino.0 ≡ true = at_is x.0 e.ino.0 ∙ ap (λ (y : Ino). eqb x.0 y.0) is ∙ itself x in
          let never : false ≡ true = sym eq ∙ same in
          cc

      go : (a : Bool) → (same_ino e.dir dir && bytes_eq e.name name) ≡ a → (b : Bool) → eq_by_cmp nat_cmp x.0 e.ino.0 ≡ b → cond a (Some e.ino) (lookup entries dir name) ≡ Some x → (lookup entries dir name ≡ Some x → IsSome (key_lookup (eq_by_cmp nat_cmp x.0) (by_ino entries))) → IsSome (cond b (Some e) (key_lookup (eq_by_cmp nat_cmp x.0) (by_ino entries)))
      go true at b eq h rest = let named : e.ino ≡ x = cc in here b named eq
      go false at true eq h rest = refl
      go false at false eq h rest = rest h

  each_named : (x : Ino) (way : List Ino) → Leads tree x way → (q : ℕ) → is_on (record { 0 = q }) (below_root x way) ≡ true → IsSome (key_lookup (eq_by_cmp nat_cmp q) (by_ino tree.entries))
  each_named x [] leads q on = cc
  each_named x (dir ∷ way) (name, (found, (above, leads))) q on = go (eqb q x.0) refl on (each_named dir way leads q)
    where
      go : (b : Bool) → eqb q x.0 ≡ b → (b || is_on (record { 0 = q }) (below_root dir way)) ≡ true → (is_on (record { 0 = q }) (below_root dir way) ≡ true → IsSome (key_lookup (eq_by_cmp nat_cmp q) (by_ino tree.entries))) → IsSome (key_lookup (eq_by_cmp nat_cmp q) (by_ino tree.entries))
      go true is h rest =
          let same : record { 0 = q } ≡ x = same_of (record { 0 = q }) x is in
          subst (λ (y : Ino). IsSome (key_lookup (eq_by_cmp nat_cmp y.0) (by_ino tree.entries))) (sym same) (key_found tree.entries dir name x found)
      go false is h rest = rest h

  -- a way is no longer than there are entries
  way_short : (x : Ino) (way : List Ino) → Leads tree x way → tree.kind x ≡ Dir → length way ≤ length tree.entries
  way_short x way leads is =
      let chain : List Ino = below_root x way in
      let apart_chain : IsApart chain = apart_below x way (apart (realms.node_at place.nodes) x way (climbs x way leads is)) in
      let short : length (numbers chain) ≤ length (by_ino tree.entries) = length-le_from_keys {eq = eq_by_cmp nat_cmp} (eq_by_cmp_equiv nat_cmp_total) (numbers chain) (by_ino tree.entries) (distinct chain apart_chain) (λ q h. each_named x way leads q (found_on q chain h)) in
      omega (arith, length_numbers chain, length_below x way, length_by tree.entries, short)

  -- where a test of an inode's directories says the same of all of them
  module _ (x dir top : Ino) (n : ℕ) where
    abbrev leads_by : Entry → Bool
    leads_by entry = elim (same_ino entry.ino x) [ true ↦ leads_up n tree.entries entry.dir top | false ↦ false ]

    none_leads : (entries : List Entry) → AllByRecursion (λ e. same_ino e.ino x ≡ true → leads_up n tree.entries e.dir top ≡ false) entries → list_any leads_by entries ≡ false
    none_leads [] none = refl
    none_leads (e ∷ entries) none = go (same_ino e.ino x) refl (leads_up n tree.entries e.dir top) refl (none_leads entries none.1)
      where
        go : (b : Bool) → same_ino e.ino x ≡ b → (c : Bool) → leads_up n tree.entries e.dir top ≡ c → list_any leads_by entries ≡ false → (elim b [ true ↦ leads_up n tree.entries e.dir top | false ↦ false ] || list_any leads_by entries) ≡ false
        go true is c cis rest = rw (none.0 is, rest) refl
        go false is c cis rest = rest

    some_leads : (entries : List Entry) (name : List ℕ) → lookup entries dir name ≡ Some x → leads_up n tree.entries dir top ≡ true → list_any leads_by entries ≡ true
    some_leads [] name found up = cc
    some_leads (e ∷ entries) name found up = go (same_ino e.dir dir) (bytes_eq e.name name) refl found (λ h. some_leads entries name h up)
      where
        or_true : (b : Bool) → (b || true) ≡ true
        or_true true = refl
        or_true false = refl

        here : e.ino ≡ x → e.dir ≡ dir → leads_by e ≡ true
        here ino is =
            ap (λ y. elim (same_ino y x) as (λ _. Bool) [ true ↦ leads_up n tree.entries e.dir top | false ↦ false ]) ino
            ∙ ap (λ b. elim b as (λ _. Bool) [ true ↦ leads_up n tree.entries e.dir top | false ↦ false ]) (itself x)
            ∙ ap (λ y. leads_up n tree.entries y top) is ∙ up

        go : (a b : Bool) → same_ino e.dir dir ≡ a → cond (a && b) (Some e.ino) (lookup entries dir name) ≡ Some x → (lookup entries dir name ≡ Some x → list_any leads_by entries ≡ true) → (leads_by e || list_any leads_by entries) ≡ true
        go true true is h later = let named : e.ino ≡ x = cc in ap (λ b. b || list_any leads_by entries) (here named (same_of e.dir dir is))
        go true false is h later = ap (λ b. leads_by e || b) (later h) ∙ or_true (leads_by e)
        go false b is h later = ap (λ b. leads_by e || b) (later h) ∙ or_true (leads_by e)

  -- no entry leads up from the root
  all_no_root : (n : ℕ) (top : Ino) (entries : List Entry) → AllByRecursion (IsPlaced tree.kind family) entries → AllByRecursion (λ e. same_ino e.ino ROOT ≡ true → leads_up n tree.entries e.dir top ≡ false) entries
  all_no_root n top [] all = tt
  all_no_root n top (e ∷ entries) all = (
    (λ same. let never : true ≡ false = sym same ∙ names_no_root e all.0 in cc),
    all_no_root n top entries all.1,
  )

  -- all entries of a directory are below the same one
  all_below : (x dir : Ino) → tree.kind x ≡ Dir → parent_by (realms.node_at place.nodes x.0) ≡ Some dir → (n : ℕ) (top : Ino) → leads_up n tree.entries dir top ≡ false → (entries : List Entry) → AllByRecursion (IsPlaced tree.kind family) entries → AllByRecursion (λ e. same_ino e.ino x ≡ true → leads_up n tree.entries e.dir top ≡ false) entries
  all_below x dir is parent n top up [] all = tt
  all_below x dir is parent n top up (e ∷ entries) all = (
    (λ same.
        let ino : e.ino ≡ x = same_of e.ino x same in
        let below : parent_by (realms.node_at place.nodes e.ino.0) ≡ Some e.dir = placed_below e all.0 (outside e all.0 (ap tree.kind ino ∙ is)) in
        let both : Some e.dir ≡ Some dir = sym below ∙ ap (λ (y : Ino). parent_by (realms.node_at place.nodes y.0)) ino ∙ parent in
        let equal : e.dir ≡ dir = cc in
        ap (λ y. leads_up n tree.entries y top) equal ∙ up),
    all_below x dir is parent n top up entries all.1,
  )

  or_false : (b : Bool) → (b || false) ≡ b
  or_false true = refl
  or_false false = refl

  -- over enough entries, the names of a directory lead where its way does
  leads_is : (n : ℕ) (x : Ino) (way : List Ino) (top : Ino) → Leads tree x way → tree.kind x ≡ Dir → length way ≤ n → leads_up n tree.entries x top ≡ is_on top (x ∷ way)
  leads_is zero x [] top leads is short = same_sym x top ∙ sym (or_false (same_ino top x))
  leads_is zero x (dir ∷ way) top leads is short = absurd (omega arith)
  leads_is (suc n) x [] top leads is short = go (same_ino x top) refl ∙ same_sym x top ∙ sym (or_false (same_ino top x))
    where
      none : list_any (leads_by x x top n) tree.entries ≡ false
      none = none_leads x x top n tree.entries (subst (λ (y : Ino). AllByRecursion (λ e. same_ino e.ino y ≡ true → leads_up n tree.entries e.dir top ≡ false) tree.entries) (sym leads) (all_no_root n top tree.entries placed))

      go : (b : Bool) → same_ino x top ≡ b → elim b as (λ _. Bool) [ true ↦ true | false ↦ list_any (leads_by x x top n) tree.entries ] ≡ b
      go true same = refl
      go false same = none
  leads_is (suc n) x (dir ∷ way) top (name, (found, (above, leads))) is short = go (same_ino x top) refl (leads_is n dir way top leads above (omega (arith, short)))
    where
      parent : parent_by (realms.node_at place.nodes x.0) ≡ Some dir
      parent = (climbs x (dir ∷ way) (name, (found, (above, leads))) is).0

      any : (b : Bool) → leads_up n tree.entries dir top ≡ b → list_any (leads_by x dir top n) tree.entries ≡ b
      any true e = some_leads x dir top n tree.entries name found e
      any false e = none_leads x dir top n tree.entries (all_below x dir is parent n top e tree.entries placed)

      go : (b : Bool) → same_ino x top ≡ b → leads_up n tree.entries dir top ≡ is_on top (dir ∷ way) → elim b as (λ _. Bool) [ true ↦ true | false ↦ list_any (leads_by x dir top n) tree.entries ] ≡ (same_ino top x || is_on top (dir ∷ way))
      go true same up = sym (ap (λ b. b || is_on top (dir ∷ way)) (same_sym top x ∙ same))
      go false same up = any (leads_up n tree.entries dir top) refl ∙ up ∙ sym (ap (λ b. b || is_on top (dir ∷ way)) (same_sym top x ∙ same))

  -- what is below what by the names is so by the parents
  pub under_law : (names : List (List ℕ)) (dir top : Ino) → walk_live tree names ≡ Ok dir → tree.kind dir ≡ Dir → is_under tree.entries dir top ≡ realms.is_under place dir top
  under_law names dir top walked is =
      let found = walk_leads tree names ROOT [] dir refl walked in
      leads_is (length tree.entries) dir found.0 top found.1 is (way_short dir found.0 found.1 is)
      ∙ sym (ap (is_on top) (way_law dir found.0 found.1 is))

  -- a directory at the end of a path is there, outside the global realm
  pub directory_law : (names : List (List ℕ)) (dir : Ino) → walk_live tree names ≡ Ok dir → tree.kind dir ≡ Dir → (realms.is_there place dir ≡ true) × (realms.is_in_global place dir ≡ false)
  directory_law names dir walked is =
      let found = walk_leads tree names ROOT [] dir refl walked in
      (is_there dir found.0 found.1, is_outside dir found.0 found.1 is)

  -- what has a name is there
  pub found_there : (dir : Ino) (name : List ℕ) (x : Ino) → lookup tree.entries dir name ≡ Some x → realms.is_there place x ≡ true
  found_there dir name x found =
      let entry = found_is (IsPlaced tree.kind family) tree.entries dir name x found placed in
      subst (λ y. realms.is_there place y ≡ true) entry.1.1.0 (stands.there entry.0.ino ∙ entry.1.0.there)

  -- and is no root, where it isn't in the global realm
  pub found_no_root : (dir : Ino) (name : List ℕ) (x : Ino) → lookup tree.entries dir name ≡ Some x → realms.is_in_global place x ≡ false → is_root x ≡ false
  found_no_root dir name x found out = go (is_root x) refl
    where
      above : parent_by (realms.node_at place.nodes x.0) ≡ Some dir
      above =
          let entry = found_is (IsPlaced tree.kind family) tree.entries dir name x found placed in
          let inside : family_global family.members entry.0.ino ≡ false = ap (family_global family.members) entry.1.1.0 ∙ sym (global_is place family stands x (found_there dir name x found)) ∙ out in
          sym (ap (λ (y : Ino). parent_by (realms.node_at place.nodes y.0)) entry.1.1.0) ∙ placed_below entry.0 entry.1.0 inside ∙ ap Some entry.1.1.1

      go : (b : Bool) → is_root x ≡ b → b ≡ false
      go true root = let never : Some dir ≡ None = sym above ∙ stands.tops x root in cc
      go false root = refl

  pub stray_there : realms.is_there place STRAY ≡ true
  stray_there = stands.there STRAY

  stray_way : realms.way place STRAY ≡ STRAY ∷ []
  stray_way = root_way STRAY stray_there (stands.tops STRAY refl)

  pub stray_outside : realms.is_in_global place STRAY ≡ false
  stray_outside = ap (is_on GLOBAL) stray_way

  -- nothing but a root is above the stray root
  pub stray_apart : (x : Ino) → is_root x ≡ false → realms.is_under place STRAY x ≡ false
  stray_apart x no_root = ap (is_on x) stray_way ∙ or_false (same_ino x STRAY) ∙ go (same_ino x STRAY) refl
    where
      go : (b : Bool) → same_ino x STRAY ≡ b → b ≡ false
      go true same = let never : true ≡ false = sym (ap is_root (same_of x STRAY same)) ∙ no_root in cc
      go false same = refl
