-- The directories that have a name for an inode, after one name more or less.
use Rattle.std.proofs.Common.{◌≡◌, ℕ, ◌≤◌, List, [], ◌∷◌, length, Bool, true, false, cond, not, ◌||◌, None, Some, refl, sym, ap, ◌∙◌, arith, map}
use Rattle.std.specs.Prelude.{if◌then◌else◌, bytes_eq}
use Rattle.std.specs.List.{list_any}
use Rattle.std.specs.Cmp.Lexicographic.{bytes_decides}
use Rattle.std.proofs.lemmas.List.{length-map, nil_from_length}
use Rattle.snap_ids.specs.declared.id.Ino.{Ino}
use Rattle.plain_tree.specs.State.{Entry, same_ino, lookup, is_at, add, precedes}
use Rattle.plain_tree.specs.Walk.{names_of}
use Rattle.plain_tree.specs.Change.{without}
use Rattle.journal_laws.proofs.Named.{count, count_taken}
use Rattle.realm_story.proofs.Facts.{both_of, same_of, itself}
use Rattle.journal_realms.specs.Above.{parents}

-- one entry more in front

pub parents_more : (e : Entry) (entries : List Entry) (x : Ino) → parents (e ∷ entries) x ≡ cond (same_ino e.ino x) (e.dir ∷ parents entries x) (parents entries x)
parents_more e entries x = go (same_ino e.ino x)
  where
    go : (b : Bool) → map (λ (y : Entry). y.dir) (cond b (e ∷ names_of entries x) (names_of entries x)) ≡ cond b (e.dir ∷ parents entries x) (parents entries x)
    go true = refl
    go false = refl

-- a name more of another inode
pub parents_add_other : (new : Entry) (entries : List Entry) (x : Ino) → same_ino new.ino x ≡ false → parents (add new entries) x ≡ parents entries x
parents_add_other new [] x other = parents_more new [] x ∙ rw other refl
parents_add_other new (e ∷ entries) x other = go (precedes new e) (parents_add_other new entries x other)
  where
    go : (b : Bool) → parents (add new entries) x ≡ parents entries x → parents (if b then new ∷ e ∷ entries else e ∷ add new entries) x ≡ parents (e ∷ entries) x
    go true rest = parents_more new (e ∷ entries) x ∙ rw other refl
    go false rest = parents_more e (add new entries) x ∙ ap (λ (l : List Ino). cond (same_ino e.ino x) (e.dir ∷ l) l) rest ∙ sym (parents_more e entries x)

-- a name more of an inode that had none
pub parents_add_first : (new : Entry) (entries : List Entry) (x : Ino) → same_ino new.ino x ≡ true → parents entries x ≡ [] → parents (add new entries) x ≡ new.dir ∷ []
parents_add_first new [] x same none = parents_more new [] x ∙ rw same refl
parents_add_first new (e ∷ entries) x same none = go (precedes new e) (same_ino e.ino x) refl (sym (parents_more e entries x) ∙ none) (parents_add_first new entries x same)
  where
    go : (b c : Bool) → same_ino e.ino x ≡ c → cond c (e.dir ∷ parents entries x) (parents entries x) ≡ [] → (parents entries x ≡ [] → parents (add new entries) x ≡ new.dir ∷ []) → parents (if b then new ∷ e ∷ entries else e ∷ add new entries) x ≡ new.dir ∷ []
    go b true is nil rest = cc
    go true false is nil rest = parents_more new (e ∷ entries) x ∙ rw (same, none) refl
    go false false is nil rest = parents_more e (add new entries) x ∙ rw is (rest nil)

-- each entry that stands under a name names this inode
abbrev pub AllAt : Ino → List ℕ → Ino → List Entry → Type 0
AllAt dir name ino [] = Unit {0}
AllAt dir name ino (e ∷ entries) = (is_at dir name e ≡ true → e.ino ≡ ino) × AllAt dir name ino entries

-- without it, the names of the others stay
pub parents_without : (dir : Ino) (name : List ℕ) (ino : Ino) (entries : List Entry) (x : Ino) → AllAt dir name ino entries → same_ino ino x ≡ false → parents (without dir name entries) x ≡ parents entries x
parents_without dir name ino [] x all other = refl
parents_without dir name ino (e ∷ entries) x all other = go (is_at dir name e) refl (parents_without dir name ino entries x all.1 other)
  where
    go : (b : Bool) → is_at dir name e ≡ b → parents (without dir name entries) x ≡ parents entries x → parents (cond (not b) (e ∷ without dir name entries) (without dir name entries)) x ≡ parents (e ∷ entries) x
    go true at rest =
        let apart : same_ino e.ino x ≡ false = ap (λ (y : Ino). same_ino y x) (all.0 at) ∙ other in
        rest ∙ sym (parents_more e entries x ∙ rw apart refl)
    go false at rest = parents_more e (without dir name entries) x ∙ ap (λ (l : List Ino). cond (same_ino e.ino x) (e.dir ∷ l) l) rest ∙ sym (parents_more e entries x)

pub length_parents : (entries : List Entry) (x : Ino) → length (parents entries x) ≡ count entries x
length_parents entries x = length-map (names_of entries x) (λ (e : Entry). e.dir)

-- an inode that had one name at most has none without it
pub parents_gone : (dir : Ino) (name : List ℕ) (entries : List Entry) (x : Ino) → lookup entries dir name ≡ Some x → length (parents entries x) ≤ 1 → parents (without dir name entries) x ≡ []
parents_gone dir name entries x found few =
    nil_from_length (parents (without dir name entries) x)
    (omega (arith, count_taken dir name entries x found, length_parents entries x, length_parents (without dir name entries) x, few))

-- no name stands twice
abbrev pub IsOnce : List Entry → Type 0
IsOnce [] = Unit {0}
IsOnce (e ∷ entries) = (lookup entries e.dir e.name ≡ None) × IsOnce entries

at_same : (dir : Ino) (name : List ℕ) (e : Entry) → is_at dir name e ≡ true → (e.dir ≡ dir) × (e.name ≡ name)
at_same dir name e at =
    let both = both_of (same_ino e.dir dir) (bytes_eq e.name name) at in
    (same_of e.dir dir both.0, (bytes_decides e.name name).0 both.1)

at_itself : (e : Entry) → is_at e.dir e.name e ≡ true
at_itself e = rw (itself e.dir, (bytes_decides e.name e.name).1 refl) refl

none_at : (dir : Ino) (name : List ℕ) (ino : Ino) (entries : List Entry) → lookup entries dir name ≡ None → AllAt dir name ino entries
none_at dir name ino [] none = tt
none_at dir name ino (e ∷ entries) none = go (is_at dir name e) refl none (none_at dir name ino entries)
  where
    go : (b : Bool) → is_at dir name e ≡ b → (if b then Some e.ino else lookup entries dir name) ≡ None → (lookup entries dir name ≡ None → AllAt dir name ino entries) → (is_at dir name e ≡ true → e.ino ≡ ino) × AllAt dir name ino entries
    go true at none rest = cc
    go false at none rest = ((λ h. let never : false ≡ true = sym at ∙ h in cc), rest none)

pub all_at : (dir : Ino) (name : List ℕ) (ino : Ino) (entries : List Entry) → IsOnce entries → lookup entries dir name ≡ Some ino → AllAt dir name ino entries
all_at dir name ino [] once found = tt
all_at dir name ino (e ∷ entries) once found = go (is_at dir name e) refl found (all_at dir name ino entries once.1)
  where
    go : (b : Bool) → is_at dir name e ≡ b → (if b then Some e.ino else lookup entries dir name) ≡ Some ino → (lookup entries dir name ≡ Some ino → AllAt dir name ino entries) → (is_at dir name e ≡ true → e.ino ≡ ino) × AllAt dir name ino entries
    go true at found rest =
        let same : e.ino ≡ ino = cc in
        let is = at_same dir name e at in
        ((λ h. same), none_at dir name ino entries (sym (ap (λ (d : Ino). lookup entries d name) is.0) ∙ sym (ap (lookup entries e.dir) is.1) ∙ once.0))
    go false at found rest = ((λ h. let never : false ≡ true = sym at ∙ h in cc), rest found)

lookup_add : (new : Entry) (dir : Ino) (name : List ℕ) (entries : List Entry) → is_at dir name new ≡ false → lookup entries dir name ≡ None → lookup (add new entries) dir name ≡ None
lookup_add new dir name [] other none = rw other refl
lookup_add new dir name (e ∷ entries) other none = go (precedes new e) (is_at dir name e) refl none (lookup_add new dir name entries other)
  where
    go : (b c : Bool) → is_at dir name e ≡ c → (if c then Some e.ino else lookup entries dir name) ≡ None → (lookup entries dir name ≡ None → lookup (add new entries) dir name ≡ None) → lookup (if b then new ∷ e ∷ entries else e ∷ add new entries) dir name ≡ None
    go b true at none rest = cc
    go true false at none rest = rw (other, at) none
    go false false at none rest = rw at (rest none)

-- a free name is still there once
pub once_add : (new : Entry) (entries : List Entry) → IsOnce entries → lookup entries new.dir new.name ≡ None → IsOnce (add new entries)
once_add new [] once free = (refl, tt)
once_add new (e ∷ entries) once free = go (precedes new e) (is_at new.dir new.name e) refl free (once_add new entries once.1)
  where
    apart : is_at new.dir new.name e ≡ false → is_at e.dir e.name new ≡ false
    apart other = way (is_at e.dir e.name new) refl
      where
        way : (b : Bool) → is_at e.dir e.name new ≡ b → b ≡ false
        way true at =
            let is = at_same e.dir e.name new at in
            let same : is_at new.dir new.name e ≡ true = ap (λ (d : Ino). is_at d new.name e) is.0 ∙ ap (λ (n : List ℕ). is_at e.dir n e) is.1 ∙ at_itself e in
            cc
        way false at = refl

    go : (b c : Bool) → is_at new.dir new.name e ≡ c → (if c then Some e.ino else lookup entries new.dir new.name) ≡ None → (lookup entries new.dir new.name ≡ None → IsOnce (add new entries)) → IsOnce (if b then new ∷ e ∷ entries else e ∷ add new entries)
    go b true at free rest = cc
    go true false at free rest = (free_too at free, once)
      where
        free_too : is_at new.dir new.name e ≡ false → lookup entries new.dir new.name ≡ None → lookup (e ∷ entries) new.dir new.name ≡ None
        free_too at free = rw at free
    go false false at free rest = (lookup_add new e.dir e.name entries (apart at) once.0, rest free)

pub lookup_without : (at : Ino) (of : List ℕ) (dir : Ino) (name : List ℕ) (entries : List Entry) → lookup entries dir name ≡ None → lookup (without at of entries) dir name ≡ None
lookup_without at of dir name [] none = refl
lookup_without at of dir name (e ∷ entries) none = go (is_at at of e) (is_at dir name e) refl none (lookup_without at of dir name entries)
  where
    go : (b c : Bool) → is_at dir name e ≡ c → (if c then Some e.ino else lookup entries dir name) ≡ None → (lookup entries dir name ≡ None → lookup (without at of entries) dir name ≡ None) → lookup (cond (not b) (e ∷ without at of entries) (without at of entries)) dir name ≡ None
    go b true is none rest = cc
    go true false is none rest = rest none
    go false false is none rest = rw is (rest none)

pub once_without : (dir : Ino) (name : List ℕ) (entries : List Entry) → IsOnce entries → IsOnce (without dir name entries)
once_without dir name [] once = tt
once_without dir name (e ∷ entries) once = go (is_at dir name e) (once_without dir name entries once.1)
  where
    go : (b : Bool) → IsOnce (without dir name entries) → IsOnce (cond (not b) (e ∷ without dir name entries) (without dir name entries))
    go true rest = rest
    go false rest = (lookup_without dir name e.dir e.name entries once.0, rest)

-- what some entry of an inode passes, its directory passes
pub any_parent : (g : Ino → Bool) (entries : List Entry) (x : Ino) → list_any (λ (e : Entry). elim (same_ino e.ino x) [ true ↦ g e.dir | false ↦ false ]) entries ≡ list_any g (parents entries x)
any_parent g [] x = refl
any_parent g (e ∷ entries) x = go (same_ino e.ino x) (any_parent g entries x) ∙ ap (list_any g) (sym (parents_more e entries x))
  where
    go : (b : Bool) → list_any (λ (y : Entry). elim (same_ino y.ino x) [ true ↦ g y.dir | false ↦ false ]) entries ≡ list_any g (parents entries x) → ((elim b [ true ↦ g e.dir | false ↦ false ]) || list_any (λ (y : Entry). elim (same_ino y.ino x) [ true ↦ g y.dir | false ↦ false ]) entries) ≡ list_any g (cond b (e.dir ∷ parents entries x) (parents entries x))
    go true rest = rw rest refl
    go false rest = rest
