-- The inodes of a plain tree after one more entry.
use Rattle.std.proofs.Common.{◌≡◌, ℕ, List, [], ◌∷◌, ◌++◌, Bool, true, false, cond, refl, sym, ap, ◌∙◌, arith}
use Rattle.std.proofs.lemmas.Bool.Decides.{nat_tests}
use Rattle.std.proofs.lemmas.List.Folds.{list_any-append}
use Rattle.std.specs.Prelude.{not, ◌||◌, ◌==◌, fold}
use Rattle.std.specs.List.{list_any}
use Rattle.snap_ids.specs.declared.id.Ino.{Ino}
use Rattle.snap_ids.specs.declared.id.SnapId.{SnapId}
use Rattle.plain_types.specs.declared.change.Change.{Change}
use Rattle.plain_types.specs.declared.change.Change.TheVariants as change
use Rattle.plain_types.specs.declared.entry.Entry.{Entry}
use Rattle.plain_types.specs.declared.entry.What.{What}
use Rattle.plain_types.specs.declared.entry.What.TheVariants as what
use Rattle.plain_tree.specs.State.{State, Inode, start, new_directory, same_ino}
use Rattle.plain_tree.specs.Change.{is_refused, new_file, with_mode, make, apply}
use Rattle.plain_journal.specs.Entries.{change_in, with_change, after_entry, state_after, makes_snap, before_snap, tree_at}
use Rattle.plain_journal.specs.Coverage.{is_made}
use Rattle.plain_journal.specs.Legal.{is_made_by}

-- an entry makes this inode
abbrev pub makes : Ino → What → Bool
makes x (what.Mkdir dir name ino) = x.0 == ino.0
makes x (what.Create dir name ino mode) = x.0 == ino.0
makes x w = false

-- the inodes after an entry whose change is made
abbrev pub inodes_by : What → List Inode → List Inode
inodes_by (what.Mkdir dir name ino) inodes = inodes ++ new_directory ino ∷ []
inodes_by (what.Create dir name ino mode) inodes = inodes ++ new_file ino mode ∷ []
inodes_by (what.Chmod ino mode) inodes = with_mode ino mode inodes
inodes_by w inodes = inodes

-- an inode of this number is among them
abbrev pub has : List Inode → Ino → Bool
has inodes x = list_any (λ (inode : Inode). same_ino inode.ino x) inodes

pub turned : (x y : Ino) → same_ino x y ≡ (y.0 == x.0)
turned x y = turn x.0 y.0
  where
    turn : (m n : ℕ) → (m == n) ≡ (n == m)
    turn m n = grind (arith, nat_tests)

module _ (state : State) (client : ℕ) where
  apply_by : (c : Change) → (apply state client c).inodes ≡ cond (not (is_refused state client c)) (make state client c).inodes state.inodes
  apply_by c = go (is_refused state client c)
    where
      go : (b : Bool) → (cond b state (make state client c)).inodes ≡ cond (not b) (make state client c).inodes state.inodes
      go true = refl
      go false = refl

  inodes_from : (w : What) → (with_change state client (change_in w)).inodes ≡ cond (is_made_by state client (change_in w)) (inodes_by w state.inodes) state.inodes
  inodes_from (what.Mkdir d n i) = apply_by (change.Mkdir d n i)
  inodes_from (what.Create d n i m) = apply_by (change.Create d n i m)
  inodes_from (what.Link i d n) = apply_by (change.Link i d n)
  inodes_from (what.Unlink d n) = apply_by (change.Unlink d n)
  inodes_from (what.Rmdir d n) = apply_by (change.Rmdir d n)
  inodes_from (what.Rename d n td tn) = apply_by (change.Rename d n td tn)
  inodes_from (what.Chmod i m) = apply_by (change.Chmod i m)
  inodes_from (what.OpenFile h i w) = apply_by (change.OpenFile h i w)
  inodes_from (what.CloseFile h) = apply_by (change.CloseFile h)
  inodes_from (what.Mksnap id d n) = apply_by (change.Mksnap id d n)
  inodes_from (what.Rmsnap id) = apply_by (change.Rmsnap id)
  inodes_from (what.PrepareCreate id) = refl
  inodes_from (what.PrepareDestroy id) = refl
  inodes_from (what.Rollback id) = refl
  inodes_from (what.Settle i f u z) = refl
  inodes_from (what.Release i f z) = refl
  inodes_from (what.Trim id) = refl
  inodes_from (what.Purgedone id) = refl
  inodes_from (what.Deadfile i) = refl
  inodes_from (what.Barrier n) = refl

  pub made_inodes : (w : What) → is_made_by state client (change_in w) ≡ true → (with_change state client (change_in w)).inodes ≡ inodes_by w state.inodes
  made_inodes w made = inodes_from w ∙ ap (λ (b : Bool). cond b (inodes_by w state.inodes) state.inodes) made

pub has_push : (inodes : List Inode) (new : Inode) (x : Ino) → has (inodes ++ new ∷ []) x ≡ (has inodes x || (same_ino new.ino x || false))
has_push inodes new x = list_any-append (λ (inode : Inode). same_ino inode.ino x) inodes (new ∷ [])

pub has_mode : (ino : Ino) (mode : ℕ) (inodes : List Inode) (x : Ino) → has (with_mode ino mode inodes) x ≡ has inodes x
has_mode ino mode [] x = refl
has_mode ino mode (inode ∷ inodes) x = ap (λ (b : Bool). same_ino inode.ino x || b) (has_mode ino mode inodes x)

-- what was made stays so
has_more : (w : What) (inodes : List Inode) (x : Ino) → has inodes x ≡ true → has (inodes_by w inodes) x ≡ true
has_more (what.Mkdir d n i) inodes x is = has_push inodes (new_directory i) x ∙ ap (λ (b : Bool). b || (same_ino i x || false)) is
has_more (what.Create d n i m) inodes x is = has_push inodes (new_file i m) x ∙ ap (λ (b : Bool). b || (same_ino i x || false)) is
has_more (what.Chmod i m) inodes x is = has_mode i m inodes x ∙ is
has_more w inodes x is = is

pub grows : (state : State) (e : Entry) (x : Ino) → is_made state x ≡ true → is_made (after_entry state e) x ≡ true
grows state e x is = ap (λ (inodes : List Inode). has inodes x) (inodes_from state e.client e.what) ∙ go (is_made_by state e.client (change_in e.what))
  where
    go : (b : Bool) → has (cond b (inodes_by e.what state.inodes) state.inodes) x ≡ true
    go true = has_more e.what state.inodes x is
    go false = is

stays_made : (entries : List Entry) (state : State) (x : Ino) → is_made state x ≡ true → is_made (fold after_entry state entries) x ≡ true
stays_made [] state x is = is
stays_made (e ∷ entries) state x is = stays_made entries (after_entry state e) x (grows state e x is)

made_later : (s : SnapId) (entries : List Entry) (state : State) (x : Ino) → is_made (fold after_entry state (before_snap s entries)) x ≡ true → is_made (fold after_entry state entries) x ≡ true
made_later s [] state x is = is
made_later s (e ∷ entries) state x is = go (makes_snap s e.what) (made_later s entries (after_entry state e) x) is
  where
    go : (b : Bool) → (is_made (fold after_entry (after_entry state e) (before_snap s entries)) x ≡ true → is_made (fold after_entry (after_entry state e) entries) x ≡ true) → is_made (fold after_entry state (cond b [] (e ∷ before_snap s entries))) x ≡ true → is_made (fold after_entry state (e ∷ entries)) x ≡ true
    go true rest is = stays_made (e ∷ entries) state x is
    go false rest is = rest is

-- what isn't made now wasn't in any snapshot
pub unmade_at : (entries : List Entry) (s : SnapId) (x : Ino) → is_made (state_after entries) x ≡ false → is_made (tree_at entries s) x ≡ false
unmade_at entries s x none = go (is_made (tree_at entries s) x) refl
  where
    go : (b : Bool) → is_made (tree_at entries s) x ≡ b → b ≡ false
    go true is = let never : true ≡ false = sym (made_later s entries start x is) ∙ none in cc
    go false is = refl

or_none : (a b : Bool) → b ≡ false → (a || (b || false)) ≡ a
or_none true b is = refl
or_none false true is = cc
or_none false false is = refl

-- the others are made as they were
pub has_other : (w : What) (inodes : List Inode) (x : Ino) → makes x w ≡ false → has (inodes_by w inodes) x ≡ has inodes x
has_other (what.Mkdir d n i) inodes x other = has_push inodes (new_directory i) x ∙ or_none (has inodes x) (same_ino i x) (turned i x ∙ other)
has_other (what.Create d n i m) inodes x other = has_push inodes (new_file i m) x ∙ or_none (has inodes x) (same_ino i x) (turned i x ∙ other)
has_other (what.Chmod i m) inodes x other = has_mode i m inodes x
has_other w inodes x other = refl
