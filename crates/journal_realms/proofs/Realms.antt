-- The realm of an inode in both vocabularies.
use Rattle.std.proofs.Common.{◌≡◌, ℕ, zero, suc, ◌<◌, ◌≤◌, List, [], ◌∷◌, length, Bool, true, false, cond, Some, ◌⊎◌, inl, inr, refl, sym, ap, ◌∙◌, subst, arith, map}
use Rattle.std.specs.Prelude.{if◌then◌else◌}
use Rattle.snap_ids.specs.declared.id.Ino.{Ino}
use Rattle.snap_ids.specs.declared.id.TheConstants.{ROOT, STRAY, GLOBAL}
use Rattle.plain_tree.specs.State.{State, lookup, is_at}
use Rattle.plain_tree.specs.State.{Entry as Dentry}
use Rattle.plain_tree.specs.Walk.{names_of}
use Rattle.plain_journal.specs.Realms.{directory_of, parent_in, begins_realm, nearest, realm_in}
use Rattle.realm_story.specs.Family.{Family, same_ino, member, is_member, above_by, way_up, is_on, is_in_global, is_marked, realm_of}
use Rattle.realm_story.specs.Family.{nearest as nearest_told}
use Rattle.realm_story.proofs.Facts.{both_of, same_of, itself}
use Rattle.journal_realms.specs.Above.{parents, LeadsUp}
use Rattle.journal_realms.proofs.Parents.{parents_more}
use Rattle.journal_realms.proofs.Tree.{IsTree, IsFolder, HeadIs, head_dirs, above_of, above_none, not_low, of_folder, folder_outside}
use Rattle.journal_realms.proofs.Chains.{folder_chain, chain_made}

-- the first directory; what has none is a stray
abbrev directory_by : List Ino → Ino
directory_by [] = STRAY
directory_by (d ∷ ds) = d

-- the one directory that has a name for an inode
parent_is : (entries : List Dentry) (x : Ino) (ds : List Ino) → parents entries x ≡ ds → directory_of (names_of entries x) ≡ directory_by ds
parent_is entries x ds is = go (names_of entries x) ∙ ap directory_by is
  where
    go : (es : List Dentry) → directory_of es ≡ directory_by (map (λ (e : Dentry). e.dir) es)
    go [] = refl
    go (e ∷ es) = refl

-- what has a name in a directory, and no other name
pub parent_found : (dir : Ino) (name : List ℕ) (entries : List Dentry) (x : Ino) → lookup entries dir name ≡ Some x → length (parents entries x) ≤ 1 → parents entries x ≡ dir ∷ []
parent_found dir name [] x found few = cc
parent_found dir name (e ∷ entries) x found few =
    parents_more e entries x ∙ go (is_at dir name e) (same_ino e.ino x) refl refl found (subst (λ (ds : List Ino). length ds ≤ 1) (parents_more e entries x) few) (parent_found dir name entries x)
  where
    none : (ds : List Ino) → suc (length ds) ≤ 1 → ds ≡ []
    none [] few = refl
    none (d ∷ ds) few = absurd (omega (arith, few))

    go : (b c : Bool) → is_at dir name e ≡ b → same_ino e.ino x ≡ c → (if b then Some e.ino else lookup entries dir name) ≡ Some x → length (cond c (e.dir ∷ parents entries x) (parents entries x)) ≤ 1 → (lookup entries dir name ≡ Some x → length (parents entries x) ≤ 1 → parents entries x ≡ dir ∷ []) → cond c (e.dir ∷ parents entries x) (parents entries x) ≡ dir ∷ []
    go true true at same found few rest =
        let here : e.dir ≡ dir = same_of e.dir dir (both_of (same_ino e.dir dir) _ at).0 in
        ap (λ (ds : List Ino). e.dir ∷ ds) (none (parents entries x) few) ∙ ap (λ (d : Ino). d ∷ []) here
    go true false at same found few rest =
        let equal : e.ino ≡ x = cc in
        let never : true ≡ false = sym (itself x) ∙ ap (λ (y : Ino). same_ino y x) (sym equal) ∙ same in
        cc
    go false true at same found few rest =
        let nothing = none (parents entries x) few in
        let one = rest found (subst (λ (ds : List Ino). length ds ≤ 1) (sym nothing) (omega arith)) in
        let never : [] ≡ dir ∷ [] = sym nothing ∙ one in
        cc
    go false false at same found few rest = rest found few

-- the plain tree and the story agree on where realms begin
abbrev pub Agree : List Ino → List Ino → Ino → Type 0
Agree marked told x = begins_realm marked x ≡ is_marked told x

-- they agree on all of a way
abbrev pub Agreeing : List Ino → List Ino → List Ino → Type 0
Agreeing marked told [] = Unit {0}
Agreeing marked told (y ∷ way) = Agree marked told y × Agreeing marked told way

root_begins : (marked told : List Ino) → Agree marked told ROOT
root_begins marked told = refl

-- up a chain on which they agree, they find the same realm
nearest_same : (n : ℕ) (marked told : List Ino) (state : State) (x : Ino) (way : List Ino) → LeadsUp state.entries x way → length way ≤ n → Agree marked told x → Agreeing marked told way → nearest (suc n) marked state x ≡ nearest_told (is_marked told) x way
nearest_same n marked told state x [] leads long agree all =
    ap (nearest (suc n) marked state) leads ∙ sym leads
nearest_same zero marked told state x (d ∷ way) leads long agree all = absurd (omega (arith, long))
nearest_same (suc n) marked told state x (d ∷ way) leads long agree all =
    go (begins_realm marked x) agree (nearest_same n marked told state d way leads.1 (omega (arith, long)) all.0 all.1)
  where
    go : (b : Bool) → b ≡ is_marked told x → nearest (suc n) marked state d ≡ nearest_told (is_marked told) d way → (elim b [ true ↦ x | false ↦ nearest (suc n) marked state (parent_in state x) ]) ≡ cond (is_marked told x) x (nearest_told (is_marked told) d way)
    go true is rest = rw (← is) refl
    go false is rest = rw (← is) (ap (nearest (suc n) marked state) (parent_is state.entries x (d ∷ []) leads.0) ∙ rest)

module _ (state : State) (family : Family) (tree : IsTree state.entries state.inodes family.members) (marked : List Ino) (agree : (x : Ino) → is_member (member family.members x) ≡ true → is_in_global family.members x ≡ false → Agree marked family.marked x) where
  folder_agrees : (d : Ino) → IsFolder state.inodes family.members d → Agree marked family.marked d
  folder_agrees d folder = go (of_folder state.entries state.inodes family.members tree d folder)
    where
      go : (d ≡ ROOT) ⊎ (is_member (member family.members d) ≡ true) → Agree marked family.marked d
      go (inl root) = subst (Agree marked family.marked) (sym root) refl
      go (inr there) = agree d there (folder_outside state.entries state.inodes family.members tree d folder)

  chain_agrees : (x : Ino) (way : List Ino) → LeadsUp state.entries x way → Agreeing marked family.marked way
  chain_agrees x [] leads = tt
  chain_agrees x (d ∷ way) leads =
      (folder_agrees d (subst (HeadIs (IsFolder state.inodes family.members)) leads.0 (head_dirs (IsFolder state.inodes family.members) state.entries x tree.dirs)), chain_agrees d way leads.1)

  outside_realm : (x : Ino) → is_in_global family.members x ≡ false → realm_of family x ≡ nearest_told (is_marked family.marked) x (above_by (member family.members x))
  outside_realm x outside = ap (λ (b : Bool). cond b GLOBAL (nearest_told (is_marked family.marked) x (above_by (member family.members x)))) outside

  -- the realm of a directory that is there
  pub folder_realm : (d : Ino) → IsFolder state.inodes family.members d → realm_in marked state d ≡ realm_of family d
  folder_realm d folder =
      let leads = folder_chain state.entries state.inodes family.members tree d folder in
      nearest_same (length state.inodes) marked family.marked state d (above_by (member family.members d)) leads
      (omega (arith, chain_made state.entries state.inodes family.members tree d folder)) (folder_agrees d folder) (chain_agrees d (above_by (member family.members d)) leads)
      ∙ sym (outside_realm d (folder_outside state.entries state.inodes family.members tree d folder))

  -- the realm of what has no name
  pub stray_realm : realm_in marked state STRAY ≡ realm_of family STRAY
  stray_realm =
      let none : above_by (member family.members STRAY) ≡ [] = above_none state.entries state.inodes family.members tree STRAY (not_low state.entries state.inodes family.members tree STRAY (omega arith)) in
      sym (ap (λ (w : List Ino). cond (is_on GLOBAL (STRAY ∷ w)) GLOBAL (nearest_told (is_marked family.marked) STRAY w)) none)

  by_parents : (x : Ino) (ds : List Ino) → parents state.entries x ≡ ds → length ds ≤ 1 → HeadIs (IsFolder state.inodes family.members) ds → Agree marked family.marked x → nearest (suc (length state.inodes)) marked state x ≡ nearest_told (is_marked family.marked) x (above_of family.members ds)
  by_parents x [] is few head agrees = lone (length state.inodes) tree.some
    where
      lone : (n : ℕ) → 0 < n → nearest (suc n) marked state x ≡ nearest_told (is_marked family.marked) x (STRAY ∷ [])
      lone zero some = absurd (omega (arith, some))
      lone (suc n) some = go (begins_realm marked x) agrees
        where
          go : (b : Bool) → b ≡ is_marked family.marked x → (elim b [ true ↦ x | false ↦ nearest (suc n) marked state (parent_in state x) ]) ≡ cond (is_marked family.marked x) x STRAY
          go true same = rw (← same) refl
          go false same = rw (← same) (ap (nearest (suc n) marked state) (parent_is state.entries x [] is))
  by_parents x (d ∷ e ∷ ds) is few head agrees = absurd (omega (arith, few))
  by_parents x (d ∷ []) is few head agrees =
      let leads = folder_chain state.entries state.inodes family.members tree d head in
      nearest_same (length state.inodes) marked family.marked state x (way_up family.members d) (is, leads)
      (chain_made state.entries state.inodes family.members tree d head) agrees
      (folder_agrees d head, chain_agrees d (above_by (member family.members d)) leads)

  -- the realm of a member outside the global realm
  pub member_realm : (x : Ino) → is_member (member family.members x) ≡ true → is_in_global family.members x ≡ false → realm_in marked state x ≡ realm_of family x
  member_realm x there outside =
      by_parents x (parents state.entries x) refl (tree.few x outside) (head_dirs (IsFolder state.inodes family.members) state.entries x tree.dirs) (agree x there outside)
      ∙ ap (nearest_told (is_marked family.marked) x) (sym (tree.ways x there outside))
      ∙ sym (outside_realm x outside)
