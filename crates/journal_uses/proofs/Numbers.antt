-- Inodes are numbered as they are made, and only what was made is dropped.
use Rattle.std.proofs.Common.{◌≡◌, ℕ, ◌+◌, ◌-◌, ◌<◌, ◌≤◌, Bool, true, false, not, ◌||◌, List, [], ◌∷◌, ◌++◌, length, map, filter, Option, None, Some, refl, sym, ap, subst, ◌∙◌, arith, length-append}
use Rattle.std.specs.List.{AllByRecursion, list_any}
use Rattle.std.proofs.lemmas.Bool.{eqb-true}
use Rattle.std.proofs.lemmas.List.{length-map}
use Rattle.snap_ids.specs.declared.id.Ino.{Ino}
use Rattle.snap_ids.specs.declared.id.TheConstants.{FIRST_INO}
use Rattle.plain_types.specs.declared.change.Change.{Change}
use Rattle.plain_types.specs.declared.change.Change.TheVariants as change
use Rattle.plain_types.specs.declared.entry.Entry.{Entry}
use Rattle.plain_types.specs.declared.entry.What.{What}
use Rattle.plain_types.specs.declared.entry.What.TheVariants as what
use Rattle.plain_tree.specs.State.{State, Inode, Handle, same_ino, next_ino, new_directory}
use Rattle.plain_tree.specs.Change.{make, open_of, with_bytes, new_file}
use Rattle.plain_journal.specs.Entries.{change_in, with_change, state_after}
use Rattle.plain_journal.specs.Legal.{is_legal, is_journal, is_made_by, fits}
use Rattle.plain_journal.specs.Table.{collects, is_collected, dead, is_dead}
use Rattle.journal_laws.proofs.Below.{IsNumbered, HasNext, numbered_made}
use Rattle.journal_uses.proofs.Moves.{any_more}
use Rattle.journal_laws.proofs.Steps.{both_true, of_journals, state_more, apply_made, made_by_legal, has_next}

-- each inode's number is below one
abbrev pub AllUnder : ℕ → List Inode → Type 0
AllUnder n inodes = AllByRecursion (λ (inode : Inode). inode.ino.0 < n) inodes

under_push : (n m : ℕ) (inodes : List Inode) (new : Inode) → n ≤ m → new.ino.0 < m → AllUnder n inodes → AllUnder m (inodes ++ new ∷ [])
under_push n m [] new upto is all = (is, tt)
under_push n m (inode ∷ inodes) new upto is all = (omega (arith, all.0), under_push n m inodes new upto is all.1)

under_map : (n : ℕ) (f : Inode → Inode) → ((inode : Inode) → (f inode).ino ≡ inode.ino) → (inodes : List Inode) → AllUnder n inodes → AllUnder n (map f inodes)
under_map n f same [] all = tt
under_map n f same (inode ∷ inodes) all = (subst (λ (x : Ino). x.0 < n) (sym (same inode)) all.0, under_map n f same inodes all.1)

-- the inodes after a change: numbered below the next one, which is no lower than before
pub record IsUnder (before after : State) : Type 0 where
  pub under : AllUnder (next_ino after).0 after.inodes
  pub grown : (next_ino before).0 ≤ (next_ino after).0

module _ (state : State) (client : ℕ) (some : 0 < length state.inodes) (all : AllUnder (next_ino state).0 state.inodes) where
  pushed : (after : State) (new : Inode) → after.inodes ≡ state.inodes ++ new ∷ [] → new.ino ≡ next_ino state → IsUnder state after
  pushed after new is number =
      let long : length after.inodes ≡ length state.inodes + 1 = ap length is ∙ length-append state.inodes (new ∷ []) in
      let at : new.ino.0 ≡ (next_ino state).0 = ap (λ (x : Ino). x.0) number in
      record {
        under = subst (AllUnder (next_ino after).0) (sym is) (under_push (next_ino state).0 (next_ino after).0 state.inodes new (omega arith) (omega arith) all);
        grown = omega arith;
      }

  mapped : (after : State) (f : Inode → Inode) → after.inodes ≡ map f state.inodes → ((inode : Inode) → (f inode).ino ≡ inode.ino) → IsUnder state after
  mapped after f is same =
      let long : length after.inodes ≡ length state.inodes = ap length is ∙ length-map state.inodes f in
      let next : (next_ino state).0 ≡ (next_ino after).0 = omega arith in
      record {
        under = subst (λ n. AllUnder n after.inodes) next (subst (AllUnder (next_ino state).0) (sym is) (under_map (next_ino state).0 f same state.inodes all));
        grown = omega arith;
      }

  kept : (after : State) → after.inodes ≡ state.inodes → IsUnder state after
  kept after is =
      let next : (next_ino state).0 ≡ (next_ino after).0 = ap (λ (inodes : List Inode). FIRST_INO.0 + (length inodes - 1)) (sym is) in
      record {
        under = subst (λ n. AllUnder n after.inodes) next (subst (AllUnder (next_ino state).0) (sym is) all);
        grown = omega arith;
      }

  written : (opened : Option Handle) (bytes : List ℕ → List ℕ) → IsUnder state (record state { inodes = with_bytes opened bytes state.inodes })
  written None bytes = kept (record state { inodes = with_bytes None bytes state.inodes }) refl
  written (Some opened) bytes = mapped (record state { inodes = with_bytes (Some opened) bytes state.inodes }) _ refl (λ inode. refl)

  pub under_made : (made : Change) → HasNext state made → IsUnder state (make state client made)
  under_made (change.Mkdir dir name ino) next = pushed (make state client (change.Mkdir dir name ino)) (new_directory ino) refl next
  under_made (change.Create dir name ino mode) next = pushed (make state client (change.Create dir name ino mode)) (new_file ino mode) refl next
  under_made (change.Link ino dir name) next = kept (make state client (change.Link ino dir name)) refl
  under_made (change.Unlink dir name) next = kept (make state client (change.Unlink dir name)) refl
  under_made (change.Rmdir dir name) next = kept (make state client (change.Rmdir dir name)) refl
  under_made (change.Rename dir name to_dir to_name) next = kept (make state client (change.Rename dir name to_dir to_name)) refl
  under_made (change.Chmod ino mode) next = mapped (make state client (change.Chmod ino mode)) _ refl (λ inode. refl)
  under_made (change.OpenFile handle ino writable) next = kept (make state client (change.OpenFile handle ino writable)) refl
  under_made (change.CloseFile handle) next = kept (make state client (change.CloseFile handle)) refl
  under_made (change.Mksnap id dir name) next = kept (make state client (change.Mksnap id dir name)) refl
  under_made (change.Rmsnap id) next = kept (make state client (change.Rmsnap id)) refl
  under_made (change.WriteFile handle offset bytes) next = written (open_of state.handles client handle) _
  under_made (change.Truncate handle size) next = written (open_of state.handles client handle) _

-- what is true after each journal
pub record IsOrderly (entries : List Entry) : Type 0 where
  pub numbered : IsNumbered (state_after entries)
  pub under : AllUnder (next_ino (state_after entries)).0 (state_after entries).inodes
  pub collected : (x : Ino) → is_collected entries x ≡ true → x.0 < (next_ino (state_after entries)).0

under_one : (n : ℕ) (q : Inode → Bool) (b : Bool) (inode : Inode) (inodes : List Inode) → q inode ≡ b → inode.ino.0 < n → AllUnder n (filter q inodes) → AllUnder n (filter q (inode ∷ inodes))
under_one n q true inode inodes is here later = rw is (here, later)
under_one n q false inode inodes is here later = rw is later

under_filter : (n : ℕ) (q : Inode → Bool) (inodes : List Inode) → AllUnder n inodes → AllUnder n (filter q inodes)
under_filter n q [] all = tt
under_filter n q (inode ∷ inodes) all = under_one n q (q inode) inode inodes refl all.0 (under_filter n q inodes all.1)

or_of : (a b c : Bool) → (a || b) ≡ true → (b ≡ true → c ≡ true) → (a || c) ≡ true
or_of true b c any more = refl
or_of false b c any more = more any

or_right : (a c : Bool) → c ≡ true → (a || c) ≡ true
or_right true c is = refl
or_right false c is = is

kept_one : (p : Ino → Bool) (x : Ino) (b : Bool) (y : Ino) (ys : List Ino) → p y ≡ b → list_any (same_ino x) (filter p (y ∷ ys)) ≡ true → (list_any (same_ino x) (filter p ys) ≡ true → list_any (same_ino x) ys ≡ true) → list_any (same_ino x) (y ∷ ys) ≡ true
kept_one p x true y ys is any more =
    let some : (same_ino x y || list_any (same_ino x) (filter p ys)) ≡ true = sym (rw is refl) ∙ any in
    or_of (same_ino x y) (list_any (same_ino x) (filter p ys)) (list_any (same_ino x) ys) some more
kept_one p x false y ys is any more =
    let some : list_any (same_ino x) (filter p ys) ≡ true = sym (rw is refl) ∙ any in
    or_right (same_ino x y) (list_any (same_ino x) ys) (more some)

-- what is in a part of a list is in the list
in_part : (p : Ino → Bool) (x : Ino) (ys : List Ino) → list_any (same_ino x) (filter p ys) ≡ true → list_any (same_ino x) ys ≡ true
in_part p x [] any = any
in_part p x (y ∷ ys) any = kept_one p x (p y) y ys refl any (λ some. in_part p x ys some)

below_one : (n : ℕ) (x : Ino) (b rest : Bool) (y : Ino) → same_ino x y ≡ b → y.0 < n → (b || rest) ≡ true → (rest ≡ true → x.0 < n) → x.0 < n
below_one n x true rest y same less any more = let at : x.0 ≡ y.0 = eqb-true x.0 y.0 same in omega arith
below_one n x false rest y same less any more = more any

below_listed : (n : ℕ) (x : Ino) (inodes : List Inode) → AllUnder n inodes → list_any (same_ino x) (map (λ (inode : Inode). inode.ino) inodes) ≡ true → x.0 < n
below_listed n x [] all any = cc
below_listed n x (inode ∷ inodes) all any = below_one n x (same_ino x inode.ino) (list_any (same_ino x) (map (λ (i : Inode). i.ino) inodes)) inode.ino refl all.0 any (λ some. below_listed n x inodes all.1 some)

-- a dead file was made
dead_made : (entries : List Entry) (x : Ino) → AllUnder (next_ino (state_after entries)).0 (state_after entries).inodes → list_any (same_ino x) (dead entries) ≡ true → x.0 < (next_ino (state_after entries)).0
dead_made entries x all is =
    let state = state_after entries in
    below_listed (next_ino state).0 x (filter (is_dead state) state.inodes) (under_filter (next_ino state).0 (is_dead state) state.inodes all)
    (in_part (λ ino. not (is_collected entries ino)) x (map (λ (inode : Inode). inode.ino) (filter (is_dead state) state.inodes)) is)

-- so what is dropped was made
drops_made : (entries : List Entry) (x : Ino) (w : What) → AllUnder (next_ino (state_after entries)).0 (state_after entries).inodes → collects x w ≡ true → fits entries w ≡ true → x.0 < (next_ino (state_after entries)).0
drops_made entries x (what.Deadfile ino) all drops fine =
    let at : ino.0 ≡ x.0 = eqb-true ino.0 x.0 drops in
    subst (λ n. n < (next_ino (state_after entries)).0) at (dead_made entries ino all fine)
drops_made entries x (what.Mkdir dir name ino) all drops fine = cc
drops_made entries x (what.Create dir name ino mode) all drops fine = cc
drops_made entries x (what.Link ino dir name) all drops fine = cc
drops_made entries x (what.Unlink dir name) all drops fine = cc
drops_made entries x (what.Rmdir dir name) all drops fine = cc
drops_made entries x (what.Rename dir name to_dir to_name) all drops fine = cc
drops_made entries x (what.Chmod ino mode) all drops fine = cc
drops_made entries x (what.OpenFile handle ino writable) all drops fine = cc
drops_made entries x (what.CloseFile handle) all drops fine = cc
drops_made entries x (what.PrepareCreate id) all drops fine = cc
drops_made entries x (what.Mksnap id dir name) all drops fine = cc
drops_made entries x (what.PrepareDestroy id) all drops fine = cc
drops_made entries x (what.Rmsnap id) all drops fine = cc
drops_made entries x (what.Rollback id) all drops fine = cc
drops_made entries x (what.Settle ino follows upto size) all drops fine = cc
drops_made entries x (what.Release ino follows size) all drops fine = cc
drops_made entries x (what.Trim id) all drops fine = cc
drops_made entries x (what.Purgedone id) all drops fine = cc
drops_made entries x (what.Barrier number) all drops fine = cc

-- one more entry
numbered_more : (entries : List Entry) (e : Entry) (c : Option Change) → change_in e.what ≡ c → IsOrderly entries → is_legal entries e ≡ true → IsNumbered (with_change (state_after entries) e.client c) × IsUnder (state_after entries) (with_change (state_after entries) e.client c)
numbered_more entries e None is all legal = (all.numbered, record { under = all.under; grown = omega arith })
numbered_more entries e (Some made) is all legal =
    let state = state_after entries in
    let fine = made_by_legal entries e made legal is in
    let l = both_true (is_made_by state e.client (change_in e.what)) (fits entries e.what) legal in
    let next = has_next entries e.what made is l.1 in
    let same = sym (apply_made state e.client made fine) in
    (subst IsNumbered same (numbered_made state e.client all.numbered made next fine), subst (IsUnder state) same (under_made state e.client all.numbered.some all.under made next))

either : (a b : Bool) (m n : ℕ) (x : ℕ) → m ≤ n → (a || b) ≡ true → (a ≡ true → x < m) → (b ≡ true → x < m) → x < n
either true b m n x upto any left right = let less : x < m = left refl in omega arith
either false b m n x upto any left right = let less : x < m = right any in omega arith

pub orderly_more : (entries : List Entry) (e : Entry) → IsOrderly entries → is_legal entries e ≡ true → IsOrderly (entries ++ e ∷ [])
orderly_more entries e all legal =
    let state = state_after entries in
    let both = numbered_more entries e (change_in e.what) refl all legal in
    let same = sym (state_more entries e) in
    let under : IsUnder state (state_after (entries ++ e ∷ [])) = subst (IsUnder state) same both.1 in
    let l = both_true (is_made_by state e.client (change_in e.what)) (fits entries e.what) legal in
    record {
      numbered = subst IsNumbered same both.0;
      under = under.under;
      collected = λ x is. either (is_collected entries x) (collects x e.what) (next_ino state).0 (next_ino (state_after (entries ++ e ∷ []))).0 x.0 under.grown (sym (any_more (λ (f : Entry). collects x f.what) entries e) ∙ is) (all.collected x) (λ drops. drops_made entries x e.what all.under drops l.1);
    }

pub first_orderly : IsOrderly []
first_orderly = record { numbered = record { some = omega arith; below = tt }; under = (omega arith, tt); collected = λ x is. cc }

-- after each journal
pub orderly : (entries : List Entry) → is_journal entries ≡ true → IsOrderly entries
orderly entries legal = of_journals IsOrderly first_orderly (λ done e all fine. orderly_more done e all fine) entries legal
