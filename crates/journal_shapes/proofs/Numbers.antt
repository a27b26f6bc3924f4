-- Which inodes were made: a new one wasn't, and what has a name was.
use Rattle.std.proofs.Common.{◌≡◌, ℕ, ◌+◌, ◌-◌, ◌<◌, List, [], ◌∷◌, ◌++◌, length, Bool, true, false, cond, refl, sym, ap, ◌∙◌, subst, arith, ◌⊎◌, inl, inr, eqb-true, length-append}
use Rattle.std.proofs.lemmas.List.{length-map}
use Rattle.std.proofs.lemmas.Bool.{not-true, and_parts, or_cases, or_parts}
use Rattle.std.specs.Prelude.{not, ◌||◌, ◌&&◌}
use Rattle.std.specs.List.{list_any}
use Rattle.snap_ids.specs.declared.id.Ino.{Ino}
use Rattle.snap_ids.specs.declared.id.TheConstants.{ROOT, FIRST_INO}
use Rattle.snap_ids.specs.declared.values.Kind.{Kind}
use Rattle.snap_ids.specs.declared.values.Kind.TheVariants.{Dir, File}
use Rattle.plain_types.specs.declared.change.Change.{Change}
use Rattle.plain_types.specs.declared.change.Change.TheVariants as change
use Rattle.plain_types.specs.declared.entry.Entry.{Entry}
use Rattle.plain_types.specs.declared.entry.What.{What}
use Rattle.plain_types.specs.declared.entry.What.TheVariants as what
use Rattle.plain_tree.specs.State.{State, Inode, new_directory, next_ino, same_ino, kind_in, is_there, lookup, add}
use Rattle.plain_tree.specs.State.{Entry as Dentry}
use Rattle.plain_tree.specs.Walk.{names_of}
use Rattle.plain_tree.specs.Change.{is_refused, is_free, new_file, with_mode, entry, make, apply}
use Rattle.plain_journal.specs.Entries.{change_in, with_change, after_entry, state_after}
use Rattle.plain_journal.specs.Coverage.{is_made}
use Rattle.plain_journal.specs.Legal.{is_made_by, fits, is_legal, is_journal}
use Rattle.journal_laws.proofs.Named.{count, one_if, count_add, count_without, count_renamed}
use Rattle.journal_laws.proofs.Steps.{of_journals, state_more, apply_made}
use Rattle.journal_shapes.proofs.Inodes.{makes, inodes_by, has, made_inodes, has_push, has_mode, grows}

-- the number of the next inode
abbrev pub bound : List Inode → ℕ
bound inodes = FIRST_INO.0 + (length inodes - 1)

-- what was made has a number below it
pub record IsLow (inodes : List Inode) : Type 0 where
  pub some : 0 < length inodes
  pub low : (x : Ino) → has inodes x ≡ true → x.0 < bound inodes

module _ (inodes : List Inode) (is : IsLow inodes) where
  low_push : (new : Inode) → new.ino.0 ≡ bound inodes → IsLow (inodes ++ new ∷ [])
  low_push new next = record { some = omega (arith, longer); low = λ x was. go x (or_cases (has inodes x) (same_ino new.ino x || false) (sym (has_push inodes new x) ∙ was)) }
    where
      longer : length (inodes ++ new ∷ []) ≡ length inodes + 1
      longer = length-append inodes (new ∷ [])

      one : (b : Bool) → (b || false) ≡ true → b ≡ true
      one true is = refl
      one false is = cc

      go : (x : Ino) → ((has inodes x ≡ true) ⊎ ((same_ino new.ino x || false) ≡ true)) → x.0 < bound (inodes ++ new ∷ [])
      go x (inl old) = let below = is.low x old in omega (arith, below, longer, is.some)
      go x (inr now) =
          let same : new.ino.0 ≡ x.0 = eqb-true new.ino.0 x.0 (one (same_ino new.ino x) now) in
          omega (arith, same, next, longer, is.some)

  low_mode : (ino : Ino) (mode : ℕ) → IsLow (with_mode ino mode inodes)
  low_mode ino mode = record { some = omega (arith, as_many, is.some); low = λ x was. go x (sym (has_mode ino mode inodes x) ∙ was) }
    where
      as_many : length (with_mode ino mode inodes) ≡ length inodes
      as_many = length-map inodes (λ (inode : Inode). record inode { mode = cond (same_ino inode.ino ino) mode inode.mode })

      go : (x : Ino) → has inodes x ≡ true → x.0 < bound (with_mode ino mode inodes)
      go x was = let below = is.low x was in omega (arith, below, as_many)

low_more : (entries : List Entry) (w : What) → fits entries w ≡ true → IsLow (state_after entries).inodes → IsLow (inodes_by w (state_after entries).inodes)
low_more entries (what.Mkdir d n ino) fine is = low_push (state_after entries).inodes is (new_directory ino) (eqb-true ino.0 (next_ino (state_after entries)).0 fine)
low_more entries (what.Create d n ino mode) fine is = low_push (state_after entries).inodes is (new_file ino mode) (eqb-true ino.0 (next_ino (state_after entries)).0 fine)
low_more entries (what.Chmod ino mode) fine is = low_mode (state_after entries).inodes is ino mode
low_more entries w fine is = is

low_after : (entries : List Entry) → is_journal entries ≡ true → IsLow (state_after entries).inodes
low_after entries legal = of_journals (λ (done : List Entry). IsLow (state_after done).inodes) (record { some = omega arith; low = root }) more entries legal
  where
    root : (x : Ino) → (same_ino ROOT x || false) ≡ true → x.0 < bound (new_directory ROOT ∷ [])
    root x is = go (same_ino ROOT x) refl is
      where
        go : (b : Bool) → same_ino ROOT x ≡ b → (b || false) ≡ true → x.0 < bound (new_directory ROOT ∷ [])
        go true same is = let eq : ROOT.0 ≡ x.0 = eqb-true ROOT.0 x.0 same in omega (arith, eq)
        go false other is = cc

    more : (done : List Entry) (e : Entry) → IsLow (state_after done).inodes → is_legal done e ≡ true → IsLow (state_after (done ++ e ∷ [])).inodes
    more done e is fine =
        let l = and_parts (is_made_by (state_after done) e.client (change_in e.what)) (fits done e.what) fine in
        subst IsLow (sym (ap (λ (s : State). s.inodes) (state_more done e) ∙ made_inodes (state_after done) e.client e.what l.0))
        (low_more done e.what l.1 is)

-- what is made now wasn't made before
pub new_unmade : (entries : List Entry) → is_journal entries ≡ true → (w : What) → fits entries w ≡ true → (x : Ino) → makes x w ≡ true → is_made (state_after entries) x ≡ false
new_unmade entries legal w fine x is = go (is_made (state_after entries) x) refl
  where
    next : (w : What) → fits entries w ≡ true → makes x w ≡ true → x.0 ≡ bound (state_after entries).inodes
    next (what.Mkdir d n ino) fine is = eqb-true x.0 ino.0 is ∙ eqb-true ino.0 (next_ino (state_after entries)).0 fine
    next (what.Create d n ino mode) fine is = eqb-true x.0 ino.0 is ∙ eqb-true ino.0 (next_ino (state_after entries)).0 fine
    next w fine is = cc

    go : (b : Bool) → is_made (state_after entries) x ≡ b → b ≡ false
    go true was =
        let at : x.0 ≡ bound (state_after entries).inodes = next w fine is in
        let below = (low_after entries legal).low x was in
        absurd (omega (arith, at, below))
    go false was = refl

-- an inode of these entries has no name where it isn't among the inodes, and the root is among them
pub record AreMade (state : State) : Type 0 where
  pub root : has state.inodes ROOT ≡ true
  pub named : (x : Ino) → has state.inodes x ≡ false → count state.entries x ≡ 0

-- what an entry of a list names has a name
named_count : (entries : List Dentry) (x : Ino) → list_any (λ (e : Dentry). same_ino e.ino x) entries ≡ true → count entries x ≡ 0 → ⊥
named_count [] x named none = cc
named_count (e ∷ entries) x named none = go (same_ino e.ino x) named none (named_count entries x)
  where
    go : (b : Bool) → (b || list_any (λ (f : Dentry). same_ino f.ino x) entries) ≡ true → length (cond b (e ∷ names_of entries x) (names_of entries x)) ≡ 0 → (list_any (λ (f : Dentry). same_ino f.ino x) entries ≡ true → count entries x ≡ 0 → ⊥) → ⊥
    go true named none rest = omega arith
    go false named none rest = rest named none

module _ (state : State) (is : AreMade state) where
  -- what is there was made
  pub there_made : (x : Ino) → is_there state.entries x ≡ true → has state.inodes x ≡ true
  there_made x there = go (same_ino x ROOT) refl there
    where
      by_name : list_any (λ (e : Dentry). same_ino e.ino x) state.entries ≡ true → (b : Bool) → has state.inodes x ≡ b → b ≡ true
      by_name named true was = refl
      by_name named false was = absurd (named_count state.entries x named (is.named x was))

      go : (b : Bool) → same_ino x ROOT ≡ b → (b || list_any (λ (e : Dentry). same_ino e.ino x) state.entries) ≡ true → has state.inodes x ≡ true
      go true same there = subst (λ (y : Ino). has state.inodes y ≡ true) (ap (λ (n : ℕ). record { 0 = n }) (sym (eqb-true x.0 ROOT.0 same))) is.root
      go false other there = by_name there (has state.inodes x) refl

-- one name more, of another inode
other_named : (new : Dentry) (entries : List Dentry) (x : Ino) → same_ino new.ino x ≡ false → count entries x ≡ 0 → count (add new entries) x ≡ 0
other_named new entries x other none =
    let zero : one_if (same_ino new.ino x) ≡ 0 = ap one_if other in
    omega (arith, count_add new entries x, zero, none)

-- a file that gets a name is there
file_there : (k : Kind) (there free : Bool) → not (not ((elim k [ Dir ↦ false | File ↦ there ]) && free)) ≡ true → there ≡ true
file_there Dir there free fine = cc
file_there File true free fine = refl
file_there File false free fine = cc

module _ (state : State) (client : ℕ) (is : AreMade state) (x : Ino) (before : has state.inodes x ≡ false) where
  none : count state.entries x ≡ 0
  none = is.named x before

  applied_none : (c : Change) → not (is_refused state client c) ≡ true → count (make state client c).entries x ≡ 0 → count (apply state client c).entries x ≡ 0
  applied_none c made zero = subst (λ (s : State). count s.entries x ≡ 0) (sym (apply_made state client c (not-true (is_refused state client c) made))) zero

  -- an inode that isn't among those with this one is another
  pushed_other : (new : Inode) → has (state.inodes ++ new ∷ []) x ≡ false → same_ino new.ino x ≡ false
  pushed_other new after = (or_parts (same_ino new.ino x) false (or_parts (has state.inodes x) (same_ino new.ino x || false) (sym (has_push state.inodes new x) ∙ after)).1).0

  linked_other : (ino : Ino) → is_there state.entries ino ≡ true → same_ino ino x ≡ false
  linked_other ino there = go (same_ino ino x) refl
    where
      go : (b : Bool) → same_ino ino x ≡ b → b ≡ false
      go true same =
          let was : has state.inodes x ≡ true = ap (λ (n : ℕ). has state.inodes (record { 0 = n })) (sym (eqb-true ino.0 x.0 same)) ∙ there_made state is ino there in
          let never : true ≡ false = sym was ∙ before in
          cc
      go false other = refl

  unnamed_by : (w : What) → is_made_by state client (change_in w) ≡ true → has (inodes_by w state.inodes) x ≡ false → count (with_change state client (change_in w)).entries x ≡ 0
  unnamed_by (what.Mkdir d n i) made after = applied_none (change.Mkdir d n i) made (other_named (entry d n i) state.entries x (pushed_other (new_directory i) after) none)
  unnamed_by (what.Create d n i m) made after = applied_none (change.Create d n i m) made (other_named (entry d n i) state.entries x (pushed_other (new_file i m) after) none)
  unnamed_by (what.Link i d n) made after =
      applied_none (change.Link i d n) made (other_named (entry d n i) state.entries x (linked_other i (file_there (kind_in state.inodes i) (is_there state.entries i) (is_free state d n) made)) none)
  unnamed_by (what.Unlink d n) made after = applied_none (change.Unlink d n) made (omega (arith, count_without d n state.entries x, none))
  unnamed_by (what.Rmdir d n) made after = applied_none (change.Rmdir d n) made (omega (arith, count_without d n state.entries x, none))
  unnamed_by (what.Rename d n td tn) made after = applied_none (change.Rename d n td tn) made (omega (arith, count_renamed (lookup state.entries d n) d n td tn state.entries x refl, none))
  unnamed_by (what.Chmod i m) made after = applied_none (change.Chmod i m) made none
  unnamed_by (what.OpenFile h i w) made after = applied_none (change.OpenFile h i w) made none
  unnamed_by (what.CloseFile h) made after = applied_none (change.CloseFile h) made none
  unnamed_by (what.Mksnap id d n) made after = applied_none (change.Mksnap id d n) made none
  unnamed_by (what.Rmsnap id) made after = applied_none (change.Rmsnap id) made none
  unnamed_by (what.PrepareCreate id) made after = none
  unnamed_by (what.PrepareDestroy id) made after = none
  unnamed_by (what.Rollback id) made after = none
  unnamed_by (what.Settle i f u z) made after = none
  unnamed_by (what.Release i f z) made after = none
  unnamed_by (what.Trim id) made after = none
  unnamed_by (what.Purgedone id) made after = none
  unnamed_by (what.Deadfile i) made after = none
  unnamed_by (what.Barrier n) made after = none

pub unmade_before : (state : State) (e : Entry) (x : Ino) → is_made (after_entry state e) x ≡ false → is_made state x ≡ false
unmade_before state e x after = go (is_made state x) refl
  where
    go : (b : Bool) → is_made state x ≡ b → b ≡ false
    go true was = let never : true ≡ false = sym (grows state e x was) ∙ after in cc
    go false was = refl

pub made_after : (entries : List Entry) → is_journal entries ≡ true → AreMade (state_after entries)
made_after entries legal = of_journals (λ (done : List Entry). AreMade (state_after done)) (record { root = refl; named = λ x was. refl }) more entries legal
  where
    more : (done : List Entry) (e : Entry) → AreMade (state_after done) → is_legal done e ≡ true → AreMade (state_after (done ++ e ∷ []))
    more done e is fine = subst AreMade (sym (state_more done e)) (record {
      root = grows (state_after done) e ROOT is.root;
      named = λ x after. unnamed_by (state_after done) e.client is x (unmade_before (state_after done) e x after) e.what made (sym (ap (λ (l : List Inode). has l x) (made_inodes (state_after done) e.client e.what made)) ∙ after);
    })
      where
        made : is_made_by (state_after done) e.client (change_in e.what) ≡ true
        made = (and_parts (is_made_by (state_after done) e.client (change_in e.what)) (fits done e.what) fine).0
