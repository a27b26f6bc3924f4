-- What inodes are after one more entry.
use Rattle.std.proofs.Common.{◌≡◌, ℕ, ◌+◌, ◌-◌, ◌<◌, ◌≤◌, List, [], ◌∷◌, ◌++◌, length, Bool, true, false, Option, None, Some, refl, sym, ap, ◌∙◌, subst, arith, length-append, eqb-true}
use Rattle.std.specs.Prelude.{◌==◌, if◌then◌else◌}
use Rattle.std.proofs.lemmas.Bool.Decides.{nat_tests}
use Rattle.std.proofs.lemmas.List.{length-map}
use Rattle.snap_ids.specs.declared.id.Ino.{Ino}
use Rattle.snap_ids.specs.declared.id.TheConstants.{FIRST_INO}
use Rattle.snap_ids.specs.declared.values.Kind.{Kind}
use Rattle.snap_ids.specs.declared.values.Kind.TheVariants.{Dir}
use Rattle.plain_types.specs.declared.change.Change.{Change}
use Rattle.plain_types.specs.declared.change.Change.TheVariants as change
use Rattle.plain_types.specs.declared.entry.Entry.{Entry}
use Rattle.plain_types.specs.declared.entry.What.{What}
use Rattle.plain_types.specs.declared.entry.What.TheVariants as what
use Rattle.plain_tree.specs.State.{State, Inode, new_directory, next_ino, same_ino, kind_in}
use Rattle.plain_tree.specs.Change.{is_refused, new_file, with_mode, make}
use Rattle.plain_journal.specs.Entries.{change_in, with_change, state_after}
use Rattle.plain_journal.specs.Legal.{is_made_by, fits, is_legal, is_journal}
use Rattle.journal_laws.proofs.Steps.{both_true, of_journals, state_more}

-- each inode has a number below this one
abbrev pub AllLow : ℕ → List Inode → Type 0
AllLow n [] = Unit {0}
AllLow n (inode ∷ inodes) = (inode.ino.0 < n) × AllLow n inodes

low_more : (n m : ℕ) (inodes : List Inode) → n ≤ m → AllLow n inodes → AllLow m inodes
low_more n m [] upto all = tt
low_more n m (inode ∷ inodes) upto all = (omega (arith, all.0, upto), low_more n m inodes upto all.1)

low_push : (n : ℕ) (inodes : List Inode) (new : Inode) → new.ino.0 < n → AllLow n inodes → AllLow n (inodes ++ new ∷ [])
low_push n [] new is all = (is, tt)
low_push n (inode ∷ inodes) new is all = (all.0, low_push n inodes new is all.1)

low_mode : (n : ℕ) (ino : Ino) (mode : ℕ) (inodes : List Inode) → AllLow n inodes → AllLow n (with_mode ino mode inodes)
low_mode n ino mode [] all = tt
low_mode n ino mode (inode ∷ inodes) all = (all.0, low_mode n ino mode inodes all.1)

-- a new inode is what it was made as, and the others stay what they were
pub kind_push : (inodes : List Inode) (new : Inode) (x : Ino) → AllLow new.ino.0 inodes → kind_in (inodes ++ new ∷ []) x ≡ (if same_ino x new.ino then new.kind else kind_in inodes x)
kind_push [] new x all = ap (λ (b : Bool). if b then new.kind else Dir) (turned new.ino.0 x.0)
  where
    turned : (a b : ℕ) → (a == b) ≡ (b == a)
    turned a b = grind (arith, nat_tests)
kind_push (inode ∷ inodes) new x all = go (same_ino inode.ino x) refl (same_ino x new.ino) refl (kind_push inodes new x all.1)
  where
    differ : (a b c : ℕ) → a < b → (a == c) ≡ true → (c == b) ≡ false
    differ a b c less same = grind (arith, nat_tests)

    go : (a : Bool) → same_ino inode.ino x ≡ a → (b : Bool) → same_ino x new.ino ≡ b → kind_in (inodes ++ new ∷ []) x ≡ (if b then new.kind else kind_in inodes x) → (if a then inode.kind else kind_in (inodes ++ new ∷ []) x) ≡ (if b then new.kind else (if a then inode.kind else kind_in inodes x))
    go true is true same rest = let never : true ≡ false = sym same ∙ differ inode.ino.0 new.ino.0 x.0 all.0 is in cc
    go true is false same rest = refl
    go false is true same rest = rest
    go false is false same rest = rest

pub kind_mode : (ino : Ino) (mode : ℕ) (inodes : List Inode) (x : Ino) → kind_in (with_mode ino mode inodes) x ≡ kind_in inodes x
kind_mode ino mode [] x = refl
kind_mode ino mode (inode ∷ inodes) x = ap (λ (k : Kind). if same_ino inode.ino x then inode.kind else k) (kind_mode ino mode inodes x)

-- the change leaves the inodes
abbrev pub leaves_inodes : Option Change → Bool
leaves_inodes (Some (change.Mkdir dir name ino)) = false
leaves_inodes (Some (change.Create dir name ino mode)) = false
leaves_inodes (Some (change.Chmod ino mode)) = false
leaves_inodes (Some (change.WriteFile handle offset bytes)) = false
leaves_inodes (Some (change.Truncate handle size)) = false
leaves_inodes c = true

same_inodes : (b : Bool) (state new : State) → new.inodes ≡ state.inodes → (if b then state else new).inodes ≡ state.inodes
same_inodes true state new same = refl
same_inodes false state new same = same

pub steady_inodes : (state : State) (client : ℕ) (c : Option Change) → leaves_inodes c ≡ true → (with_change state client c).inodes ≡ state.inodes
steady_inodes state client None is = refl
steady_inodes state client (Some (change.Mkdir dir name ino)) is = cc
steady_inodes state client (Some (change.Create dir name ino mode)) is = cc
steady_inodes state client (Some (change.Chmod ino mode)) is = cc
steady_inodes state client (Some (change.WriteFile handle offset bytes)) is = cc
steady_inodes state client (Some (change.Truncate handle size)) is = cc
steady_inodes state client (Some c) is = same_inodes (is_refused state client c) state (make state client c) refl

-- a state has an inode, and each has a number below the next one
pub record IsLow (state : State) : Type 0 where
  pub some : 0 < length state.inodes
  pub low : AllLow (next_ino state).0 state.inodes

abbrev next_of : List Inode → ℕ
next_of inodes = FIRST_INO.0 + (length inodes - 1)

module _ (state : State) (client : ℕ) (is : IsLow state) where
  pushed : (new : Inode) → new.ino.0 ≡ (next_ino state).0 → (0 < length (state.inodes ++ new ∷ [])) × AllLow (next_of (state.inodes ++ new ∷ [])) (state.inodes ++ new ∷ [])
  pushed new next =
      let long : length (state.inodes ++ new ∷ []) ≡ length state.inodes + 1 = length-append state.inodes (new ∷ []) in (
        omega (arith, long),
        low_push (next_of (state.inodes ++ new ∷ [])) state.inodes new (omega (arith, long, next, is.some))
            (low_more (next_ino state).0 (next_of (state.inodes ++ new ∷ [])) state.inodes (omega (arith, long)) is.low),
      )

  low_mkdir : (dir : Ino) (name : List ℕ) (ino : Ino) → ino.0 ≡ (next_ino state).0 → (b : Bool) → IsLow (if b then state else make state client (change.Mkdir dir name ino))
  low_mkdir dir name ino next true = is
  low_mkdir dir name ino next false = let l = pushed (new_directory ino) next in record { some = l.0; low = l.1 }

  low_create : (dir : Ino) (name : List ℕ) (ino : Ino) (mode : ℕ) → ino.0 ≡ (next_ino state).0 → (b : Bool) → IsLow (if b then state else make state client (change.Create dir name ino mode))
  low_create dir name ino mode next true = is
  low_create dir name ino mode next false = let l = pushed (new_file ino mode) next in record { some = l.0; low = l.1 }

  low_chmod : (ino : Ino) (mode : ℕ) (b : Bool) → IsLow (if b then state else make state client (change.Chmod ino mode))
  low_chmod ino mode true = is
  low_chmod ino mode false =
      let long : length (with_mode ino mode state.inodes) ≡ length state.inodes = length-map state.inodes _ in
      record {
        some = omega (arith, long, is.some);
        low = low_more (next_ino state).0 (next_of (with_mode ino mode state.inodes)) (with_mode ino mode state.inodes) (omega (arith, long)) (low_mode (next_ino state).0 ino mode state.inodes is.low);
      }

  low_steady : (new : State) → new.inodes ≡ state.inodes → IsLow new
  low_steady new same = record {
    some = subst (λ (l : List Inode). 0 < length l) (sym same) is.some;
    low = subst (λ (l : List Inode). AllLow (next_of l) l) (sym same) is.low;
  }

-- so it stays after an entry whose numbers fit
pub low_step : (entries : List Entry) (client : ℕ) (w : What) → IsLow (state_after entries) → fits entries w ≡ true → IsLow (with_change (state_after entries) client (change_in w))
low_step entries client (what.Mkdir dir name ino) is fine =
    low_mkdir (state_after entries) client is dir name ino (eqb-true ino.0 (next_ino (state_after entries)).0 fine) (is_refused (state_after entries) client (change.Mkdir dir name ino))
low_step entries client (what.Create dir name ino mode) is fine =
    low_create (state_after entries) client is dir name ino mode (eqb-true ino.0 (next_ino (state_after entries)).0 fine) (is_refused (state_after entries) client (change.Create dir name ino mode))
low_step entries client (what.Chmod ino mode) is fine = low_chmod (state_after entries) client is ino mode (is_refused (state_after entries) client (change.Chmod ino mode))
low_step entries client w is fine = low_steady (state_after entries) client is (with_change (state_after entries) client (change_in w)) (steady_inodes (state_after entries) client (change_in w) refl)

pub low_after : (entries : List Entry) → is_journal entries ≡ true → IsLow (state_after entries)
low_after entries legal = of_journals (λ (done : List Entry). IsLow (state_after done)) (record { some = omega arith; low = (omega arith, tt) }) more entries legal
  where
    more : (done : List Entry) (e : Entry) → IsLow (state_after done) → is_legal done e ≡ true → IsLow (state_after (done ++ e ∷ []))
    more done e is fine =
        subst IsLow (sym (state_more done e))
        (low_step done e.client e.what is (both_true (is_made_by (state_after done) e.client (change_in e.what)) (fits done e.what) fine).1)
