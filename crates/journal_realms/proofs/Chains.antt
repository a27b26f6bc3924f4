-- The chain of parents in a plain tree is the way up of the story.
use Rattle.std.proofs.Common.{◌≡◌, ℕ, zero, suc, ◌≤◌, List, [], ◌∷◌, length, Bool, true, false, cond, not, ◌||◌, Option, None, Some, ◌⊎◌, inl, inr, refl, sym, ap, ◌∙◌, subst, arith, map}
use Rattle.std.specs.List.{list_any}
use Rattle.std.proofs.lemmas.List.{length-map}
use Rattle.snap_ids.specs.declared.id.Ino.{Ino}
use Rattle.snap_ids.specs.declared.id.TheConstants.{ROOT, FIRST_SNAP}
use Rattle.plain_tree.specs.State.{Entry, Inode}
use Rattle.plain_tree.specs.Walk.{leads_up}
use Rattle.realm_story.specs.declared.records.Node.{Node}
use Rattle.realm_story.specs.Family.{Member, same_ino, member, is_member, above_by, way_up, is_on}
use Rattle.realm_story.specs.Family.{without as others}
use Rattle.realm_story.specs.Stands.{Climbs, IsApart}
use Rattle.realm_story.proofs.Facts.{same_of, same_sym, itself}
use Rattle.realm_story.proofs.Ways.{apart}
use Rattle.journal_realms.specs.Above.{parents, LeadsUp}
use Rattle.journal_realms.proofs.Parents.{any_parent, parents_more}
use Rattle.journal_realms.proofs.Tree.{IsTree, IsFolder, is_folder, HeadIs, head_dirs, above_of, above_none, not_low, of_folder, folder_outside}

-- the names lead from an inode up to a root as they stand on its way
pub leads_on : (n : ℕ) (entries : List Entry) (x root : Ino) (way : List Ino) → parents entries ROOT ≡ [] → LeadsUp entries x way → length way ≤ n → leads_up n entries x root ≡ is_on root (x ∷ way)
leads_on zero entries x root [] top leads long = same_sym x root ∙ or_false (same_ino root x)
  where
    or_false : (b : Bool) → b ≡ (b || false)
    or_false true = refl
    or_false false = refl
leads_on zero entries x root (d ∷ way) top leads long = absurd (omega (arith, long))
leads_on (suc n) entries x root [] top leads long = go (same_ino x root) (same_sym x root)
  where
    none : list_any (λ (e : Entry). elim (same_ino e.ino x) [ true ↦ leads_up n entries e.dir root | false ↦ false ]) entries ≡ false
    none = any_parent (λ d. leads_up n entries d root) entries x ∙ ap (list_any (λ d. leads_up n entries d root)) (ap (parents entries) leads ∙ top)

    go : (b : Bool) → b ≡ same_ino root x → (elim b [ true ↦ true | false ↦ list_any (λ (e : Entry). elim (same_ino e.ino x) [ true ↦ leads_up n entries e.dir root | false ↦ false ]) entries ]) ≡ (same_ino root x || false)
    go true is = rw (← is) refl
    go false is = none ∙ rw (← is) refl
leads_on (suc n) entries x root (d ∷ way) top leads long = go (leads_on n entries d root way top leads.1 (omega (arith, long))) (same_ino x root) (same_sym x root)
  where
    or_false : (b : Bool) → (b || false) ≡ b
    or_false true = refl
    or_false false = refl

    further : leads_up n entries d root ≡ is_on root (d ∷ way) → list_any (λ (e : Entry). elim (same_ino e.ino x) [ true ↦ leads_up n entries e.dir root | false ↦ false ]) entries ≡ is_on root (d ∷ way)
    further rest =
        any_parent (λ z. leads_up n entries z root) entries x
        ∙ ap (list_any (λ z. leads_up n entries z root)) leads.0
        ∙ or_false (leads_up n entries d root)
        ∙ rest

    go : leads_up n entries d root ≡ is_on root (d ∷ way) → (b : Bool) → b ≡ same_ino root x → (elim b [ true ↦ true | false ↦ list_any (λ (e : Entry). elim (same_ino e.ino x) [ true ↦ leads_up n entries e.dir root | false ↦ false ]) entries ]) ≡ (same_ino root x || is_on root (d ∷ way))
    go rest true is = rw (← is) refl
    go rest false is = rw (← is) (further rest)

-- an inode without names is below itself alone
pub leads_nowhere : (n : ℕ) (entries : List Entry) (x root : Ino) → parents entries x ≡ [] → leads_up n entries x root ≡ same_ino x root
leads_nowhere zero entries x root none = refl
leads_nowhere (suc n) entries x root none = go (same_ino x root)
  where
    go : (b : Bool) → (elim b [ true ↦ true | false ↦ list_any (λ (e : Entry). elim (same_ino e.ino x) [ true ↦ leads_up n entries e.dir root | false ↦ false ]) entries ]) ≡ b
    go true = refl
    go false = any_parent (λ d. leads_up n entries d root) entries x ∙ ap (list_any (λ d. leads_up n entries d root)) none

-- the tree as records with parents
abbrev first_of : List Ino → Option Ino
first_of [] = None
first_of (d ∷ more) = Some d

abbrev records : List Entry → ℕ → Option Node
records entries n = Some (record { parent = first_of (parents entries (record { 0 = n })); birth = FIRST_SNAP; realm = None })

climbs_of : (entries : List Entry) (x : Ino) (way : List Ino) → parents entries ROOT ≡ [] → LeadsUp entries x way → Climbs (records entries) x way
climbs_of entries x [] top leads = ap first_of (ap (parents entries) leads ∙ top)
climbs_of entries x (d ∷ way) top leads = (ap first_of leads.0, climbs_of entries d way top leads.1)

-- no inode stands twice on a chain
pub apart_on : (entries : List Entry) (x : Ino) (way : List Ino) → parents entries ROOT ≡ [] → LeadsUp entries x way → IsApart (x ∷ way)
apart_on entries x way top leads = apart (records entries) x way (climbs_of entries x way top leads)

others_less : (x : Ino) (ns : List Ino) → length (others x ns) ≤ length ns
others_less x [] = omega arith
others_less x (n ∷ ns) = go (same_ino n x) (others_less x ns)
  where
    go : (b : Bool) → length (others x ns) ≤ length ns → length (cond (not b) (n ∷ others x ns) (others x ns)) ≤ suc (length ns)
    go true less = omega (arith, less)
    go false less = omega (arith, less)

others_one : (x : Ino) (ns : List Ino) → is_on x ns ≡ true → suc (length (others x ns)) ≤ length ns
others_one x [] on = cc
others_one x (n ∷ ns) on = go (same_ino n x) (same_sym n x) on (others_one x ns)
  where
    go : (b : Bool) → b ≡ same_ino x n → (same_ino x n || is_on x ns) ≡ true → (is_on x ns ≡ true → suc (length (others x ns)) ≤ length ns) → suc (length (cond (not b) (n ∷ others x ns) (others x ns))) ≤ suc (length ns)
    go true is on rest = omega (arith, others_less x ns)
    go false is on rest = let later : is_on x ns ≡ true = rw (← is) at on in omega (arith, rest later)

others_on : (x y : Ino) (ns : List Ino) → same_ino x y ≡ false → is_on y ns ≡ true → is_on y (others x ns) ≡ true
others_on x y [] apart on = cc
others_on x y (n ∷ ns) apart on = go (same_ino n x) (same_ino y n) refl refl on (others_on x y ns apart)
  where
    go : (b c : Bool) → same_ino n x ≡ b → same_ino y n ≡ c → (c || is_on y ns) ≡ true → (is_on y ns ≡ true → is_on y (others x ns) ≡ true) → is_on y (cond (not b) (n ∷ others x ns) (others x ns)) ≡ true
    go true true e f on rest =
        let same : same_ino x y ≡ true = ap (λ z. same_ino z y) (sym (same_of n x e)) ∙ same_sym n y ∙ f in
        cc
    go true false e f on rest = rest on
    go false true e f on rest = rw f refl
    go false false e f on rest = rw f (rest on)

-- different inodes of a list are no more than the list has
pub no_more : (way ns : List Ino) → IsApart way → ((y : Ino) → is_on y way ≡ true → is_on y ns ≡ true) → length way ≤ length ns
no_more [] ns apart each = omega arith
no_more (w ∷ way) ns apart each =
    omega (arith, others_one w ns (each w (rw (itself w) refl)), no_more way (others w ns) apart.1 later)
  where
    later : (y : Ino) → is_on y way ≡ true → is_on y (others w ns) ≡ true
    later y on = others_on w y ns (other (same_ino w y) refl) (each y (rw on (or_true (same_ino y w))))
      where
        or_true : (b : Bool) → (b || true) ≡ true
        or_true true = refl
        or_true false = refl

        other : (b : Bool) → same_ino w y ≡ b → b ≡ false
        other true is =
            let never : true ≡ false = sym on ∙ ap (λ z. is_on z way) (sym (same_of w y is)) ∙ apart.0 in
            cc
        other false is = refl

-- an inode with a name is named by an entry
named_on : (entries : List Entry) (x d : Ino) (more : List Ino) → parents entries x ≡ d ∷ more → is_on x (map (λ (e : Entry). e.ino) entries) ≡ true
named_on [] x d more is = cc
named_on (e ∷ entries) x d more is = go (same_ino e.ino x) refl (sym (parents_more e entries x) ∙ is) (named_on entries x d more)
  where
    go : (b : Bool) → same_ino e.ino x ≡ b → cond b (e.dir ∷ parents entries x) (parents entries x) ≡ d ∷ more → (parents entries x ≡ d ∷ more → is_on x (map (λ (y : Entry). y.ino) entries) ≡ true) → (same_ino x e.ino || is_on x (map (λ (y : Entry). y.ino) entries)) ≡ true
    go true same is rest = rw (same_sym x e.ino, same) refl
    go false same is rest = rw (rest is) (or_true (same_ino x e.ino))
      where
        or_true : (b : Bool) → (b || true) ≡ true
        or_true true = refl
        or_true false = refl

-- each inode on a chain is the root or has a name
on_chain : (P : Ino → Type 0) (entries : List Entry) (x : Ino) (way : List Ino) → LeadsUp entries x way → P ROOT → ((y d : Ino) → parents entries y ≡ d ∷ [] → P y) → (y : Ino) → is_on y (x ∷ way) ≡ true → P y
on_chain P entries x [] leads root each y on = go (same_ino y x) refl on
  where
    go : (b : Bool) → same_ino y x ≡ b → (b || false) ≡ true → P y
    go true is on = subst P (sym (same_of y x is ∙ leads)) root
    go false is on = cc
on_chain P entries x (d ∷ way) leads root each y on = go (same_ino y x) refl on (λ h. on_chain P entries d way leads.1 root each y h)
  where
    go : (b : Bool) → same_ino y x ≡ b → (b || is_on y (d ∷ way)) ≡ true → (is_on y (d ∷ way) ≡ true → P y) → P y
    go true is on rest = subst P (sym (same_of y x is)) (each x d leads.0)
    go false is on rest = rest on

-- a chain is no longer than the list of entries
pub chain_short : (entries : List Entry) (x : Ino) (way : List Ino) → parents entries ROOT ≡ [] → LeadsUp entries x way → length way ≤ length entries
chain_short entries x way top leads =
    omega (arith, no_more (x ∷ way) (ROOT ∷ map (λ (e : Entry). e.ino) entries) (apart_on entries x way top leads) each, length-map entries (λ (e : Entry). e.ino))
  where
    or_true : (b : Bool) → (b || true) ≡ true
    or_true true = refl
    or_true false = refl

    each : (y : Ino) → is_on y (x ∷ way) ≡ true → is_on y (ROOT ∷ map (λ (e : Entry). e.ino) entries) ≡ true
    each y on = on_chain (λ z. is_on z (ROOT ∷ map (λ (e : Entry). e.ino) entries) ≡ true) entries x way leads refl (λ z d is. rw (named_on entries z d [] is) (or_true (same_ino z ROOT))) y on

listed_made : (inodes : List Inode) (y : Ino) → list_any (λ (inode : Inode). same_ino inode.ino y) inodes ≡ is_on y (map (λ (inode : Inode). inode.ino) inodes)
listed_made [] y = refl
listed_made (inode ∷ inodes) y = λ i. same_sym inode.ino y i || listed_made inodes y i

module _ (entries : List Entry) (inodes : List Inode) (members : List Member) (tree : IsTree entries inodes members) where
  pub top_unnamed : parents entries ROOT ≡ []
  top_unnamed = tree.named ROOT (not_low entries inodes members tree ROOT (omega arith))

  -- the directory of a directory that isn't the root, and the way above it
  one_up : (x : Ino) → IsFolder inodes members x → is_member (member members x) ≡ true → (ds : List Ino) → parents entries x ≡ ds → HeadIs (IsFolder inodes members) ds → length ds ≤ 1 → 1 ≤ length ds → (d : Ino) × ((parents entries x ≡ d ∷ []) × (IsFolder inodes members d × (above_by (member members x) ≡ way_up members d)))
  one_up x folder there [] named head few some = absurd (omega (arith, some))
  one_up x folder there (d ∷ e ∷ ds) named head few some = absurd (omega (arith, few))
  one_up x folder there (d ∷ []) named head few some =
      (d, (named, (head, tree.ways x there (folder_outside entries inodes members tree x folder) ∙ ap (above_of members) named)))

  up_of : (x : Ino) → IsFolder inodes members x → is_member (member members x) ≡ true → (d : Ino) × ((parents entries x ≡ d ∷ []) × (IsFolder inodes members d × (above_by (member members x) ≡ way_up members d)))
  up_of x folder there =
      one_up x folder there (parents entries x) refl (head_dirs (IsFolder inodes members) entries x tree.dirs) (tree.few x (folder_outside entries inodes members tree x folder)) (tree.placed x there folder.kind)

  none_of_root : (x : Ino) → x ≡ ROOT → above_by (member members x) ≡ []
  none_of_root x root = above_none entries inodes members tree x (ap (λ (z : Ino). is_member (member members z)) root ∙ not_low entries inodes members tree ROOT (omega arith))

  -- the way above a directory that is there is the chain of its parents
  pub chain_of : (way : List Ino) (x : Ino) → IsFolder inodes members x → above_by (member members x) ≡ way → LeadsUp entries x way
  chain_of [] x folder is = by_folder (of_folder entries inodes members tree x folder)
    where
      by_folder : (x ≡ ROOT) ⊎ (is_member (member members x) ≡ true) → x ≡ ROOT
      by_folder (inl root) = root
      by_folder (inr there) =
          let up = up_of x folder there in
          let never : [] ≡ way_up members up.0 = sym is ∙ up.1.1.1 in
          cc
  chain_of (first ∷ way) x folder is = by_folder (of_folder entries inodes members tree x folder) (λ f e. chain_of way first f e)
    where
      by_folder : (x ≡ ROOT) ⊎ (is_member (member members x) ≡ true) → (IsFolder inodes members first → above_by (member members first) ≡ way → LeadsUp entries first way) → LeadsUp entries x (first ∷ way)
      by_folder (inl root) rest = let never : [] ≡ first ∷ way = sym (none_of_root x root) ∙ is in cc
      by_folder (inr there) rest =
          let up = up_of x folder there in
          let whole : first ∷ way ≡ up.0 ∷ above_by (member members up.0) = sym is ∙ up.1.1.1 in
          let dir : up.0 ≡ first = cc in
          let higher : above_by (member members up.0) ≡ way = cc in
          (up.1.0 ∙ ap (λ (d : Ino). d ∷ []) dir, rest (subst (IsFolder inodes members) dir up.1.1.0) (ap (λ (d : Ino). above_by (member members d)) (sym dir) ∙ higher))

  pub folder_chain : (x : Ino) → IsFolder inodes members x → LeadsUp entries x (above_by (member members x))
  folder_chain x folder = chain_of (above_by (member members x)) x folder refl

  -- and is no longer than the list of inodes
  pub chain_made : (x : Ino) → IsFolder inodes members x → length (way_up members x) ≤ length inodes
  chain_made x folder =
      omega (arith, no_more (way_up members x) (map (λ (inode : Inode). inode.ino) inodes) (apart_on entries x (above_by (member members x)) top_unnamed (folder_chain x folder)) each, length-map inodes (λ (inode : Inode). inode.ino))
    where
      is_member_of : (y d : Ino) → parents entries y ≡ d ∷ [] → is_member (member members y) ≡ true
      is_member_of y d is = go (is_member (member members y)) refl
        where
          go : (b : Bool) → is_member (member members y) ≡ b → b ≡ true
          go true there = refl
          go false none = let never : [] ≡ d ∷ [] = sym (tree.named y none) ∙ is in cc

      or_true : (b : Bool) → (b || true) ≡ true
      or_true true = refl
      or_true false = refl

      each : (y : Ino) → is_on y (way_up members x) ≡ true → is_on y (map (λ (inode : Inode). inode.ino) inodes) ≡ true
      each y on = sym (listed_made inodes y) ∙ tree.made y (on_chain (λ z. is_folder members z ≡ true) entries x (above_by (member members x)) (folder_chain x folder) refl (λ z d is. rw (is_member_of z d is) (or_true (same_ino z ROOT))) y on)

  -- a directory that is there is below another inode by its names where that stands on its way
  pub folder_under : (x root : Ino) → IsFolder inodes members x → leads_up (length entries) entries x root ≡ is_on root (way_up members x)
  folder_under x root folder =
      let chain = folder_chain x folder in
      leads_on (length entries) entries x root (above_by (member members x)) top_unnamed chain (chain_short entries x (above_by (member members x)) top_unnamed chain)
