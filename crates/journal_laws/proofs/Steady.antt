-- Which entries leave the contexts of inodes.
use Rattle.std.proofs.Common.{◌≡◌, ℕ, ◌+◌, ◌≤◌, List, [], ◌∷◌, ◌++◌, Bool, true, false, Option, None, Some, ◌⊎◌, inl, inr, refl, sym, ap, ◌∙◌, subst, append_assoc, arith}
use Rattle.std.proofs.lemmas.List.{append-nil}
use Rattle.std.proofs.lemmas.List.Folds.{list_any-append}
use Rattle.std.proofs.lemmas.Bool.{eqb-true}
use Rattle.std.proofs.lemmas.Bool.Decides.{nat_tests}
use Rattle.std.specs.Prelude.{not, ◌||◌, nat_lt, if◌then◌else◌, fold, filter, reverse}
use Rattle.snap_ids.specs.declared.id.Ino.{Ino}
use Rattle.snap_ids.specs.declared.id.SnapId.{SnapId}
use Rattle.plain_types.specs.declared.change.Change.{Change}
use Rattle.plain_types.specs.declared.change.Change.TheVariants as change
use Rattle.plain_types.specs.declared.entry.Entry.{Entry}
use Rattle.plain_types.specs.declared.entry.What.{What}
use Rattle.plain_types.specs.declared.entry.What.TheVariants as what
use Rattle.plain_tree.specs.State.{State, start, same_ino, lookup, next_ino}
use Rattle.plain_tree.specs.Walk.{is_under}
use Rattle.plain_tree.specs.Change.{entry, make, apply}
use Rattle.plain_journal.specs.Entries.{change_in, with_change, after_entry, state_after}
use Rattle.plain_journal.specs.Coverage.{has_two_names, gets_two_names, is_global, is_made, made_by, made_since, made_over, covering, purges, is_purged, kept, greatest, context}
use Rattle.plain_journal.specs.Legal.{is_legal, is_journal}
use Rattle.journal_laws.specs.Entries.{changes_contexts}
use Rattle.journal_laws.proofs.Named.{count, one_if, count_add, count_without, count_renamed}
use Rattle.journal_laws.proofs.Below.{IsNumbered, HasNext, unnamed}
use Rattle.journal_laws.proofs.Steps.{both_true, last_legal, made_by_legal, apply_made, has_next, numbered_after}

-- the change gives a second name to an inode
abbrev links : Change → Bool
links (change.Link ino dir name) = true
links made = false

module _ (state : State) (client : ℕ) (x : Ino) (all : IsNumbered state) where
  -- a new name of a new inode
  new_name : (dir : Ino) (name : List ℕ) (ino : Ino) → ino ≡ next_ino state → (count (make state client (change.Mkdir dir name ino)).entries x ≤ 1) ⊎ (count (make state client (change.Mkdir dir name ino)).entries x ≤ count state.entries x)
  new_name dir name ino is = by_test (same_ino ino x) refl
    where
      more : count (make state client (change.Mkdir dir name ino)).entries x ≡ one_if (same_ino ino x) + count state.entries x
      more = count_add (entry dir name ino) state.entries x

      by_test : (b : Bool) → same_ino ino x ≡ b → (count (make state client (change.Mkdir dir name ino)).entries x ≤ 1) ⊎ (count (make state client (change.Mkdir dir name ino)).entries x ≤ count state.entries x)
      by_test true same =
          let number : ino.0 ≡ (next_ino state).0 = ap (λ (y : Ino). y.0) is in
          let number_too : ino.0 ≡ x.0 = eqb-true ino.0 x.0 same in
          let none = unnamed (next_ino state).0 state.entries x (omega (arith, number, number_too)) all.below in
          let one : one_if (same_ino ino x) ≡ 1 = ap one_if same in
          inl (omega (arith, more, none, one))
      by_test false other = let zero : one_if (same_ino ino x) ≡ 0 = ap one_if other in inr (omega (arith, more, zero))

  -- but for a second name, no inode gets more names than one, or than it had
  few : (made : Change) → HasNext state made → links made ≡ false → (count (make state client made).entries x ≤ 1) ⊎ (count (make state client made).entries x ≤ count state.entries x)
  few (change.Mkdir dir name ino) next single = new_name dir name ino next
  few (change.Create dir name ino mode) next single = new_name dir name ino next
  few (change.Link ino dir name) next single = cc
  few (change.Unlink dir name) next single = inr (count_without dir name state.entries x)
  few (change.Rmdir dir name) next single = inr (count_without dir name state.entries x)
  few (change.Rename dir name to_dir to_name) next single = inr (count_renamed (lookup state.entries dir name) dir name to_dir to_name state.entries x refl)
  few (change.Chmod ino mode) next single = inr (omega arith)
  few (change.OpenFile handle ino writable) next single = inr (omega arith)
  few (change.CloseFile handle) next single = inr (omega arith)
  few (change.Mksnap id dir name) next single = inr (omega arith)
  few (change.Rmsnap id) next single = inr (omega arith)
  few (change.WriteFile handle offset bytes) next single = inr (omega arith)
  few (change.Truncate handle size) next single = inr (omega arith)

-- two names now were two names before
two_before : (after before : ℕ) → (after ≤ 1) ⊎ (after ≤ before) → nat_lt 1 after ≡ true → nat_lt 1 before ≡ true
two_before after before (inl one) two = grind (arith, nat_tests)
two_before after before (inr less) two = grind (arith, nat_tests)

module _ (entries : List Entry) (e : Entry) (x : Ino) (legal : is_journal entries ≡ true) (fine : is_legal entries e ≡ true) (steady : changes_contexts e.what ≡ false) where
  single_link : (w : What) (made : Change) → change_in w ≡ Some made → changes_contexts w ≡ false → links made ≡ false
  single_link w (change.Link ino dir name) is quiet = of_link w is quiet
    where
      of_link : (w : What) → change_in w ≡ Some (change.Link ino dir name) → changes_contexts w ≡ false → links (change.Link ino dir name) ≡ false
      of_link (what.Link i d n) is quiet = cc
      of_link (what.Mkdir d n i) is quiet = cc
      of_link (what.Create d n i m) is quiet = cc
      of_link (what.Unlink d n) is quiet = cc
      of_link (what.Rmdir d n) is quiet = cc
      of_link (what.Rename d n td tn) is quiet = cc
      of_link (what.Chmod i m) is quiet = cc
      of_link (what.OpenFile h i w) is quiet = cc
      of_link (what.CloseFile h) is quiet = cc
      of_link (what.Mksnap id d n) is quiet = cc
      of_link (what.Rmsnap id) is quiet = cc
      of_link (what.PrepareCreate id) is quiet = cc
      of_link (what.PrepareDestroy id) is quiet = cc
      of_link (what.Rollback id) is quiet = cc
      of_link (what.Settle i f u s) is quiet = cc
      of_link (what.Release i f s) is quiet = cc
      of_link (what.Trim id) is quiet = cc
      of_link (what.Purgedone id) is quiet = cc
      of_link (what.Deadfile i) is quiet = cc
      of_link (what.Barrier n) is quiet = cc
  single_link w (change.Mkdir dir name ino) is quiet = refl
  single_link w (change.Create dir name ino mode) is quiet = refl
  single_link w (change.Unlink dir name) is quiet = refl
  single_link w (change.Rmdir dir name) is quiet = refl
  single_link w (change.Rename dir name to_dir to_name) is quiet = refl
  single_link w (change.Chmod ino mode) is quiet = refl
  single_link w (change.OpenFile handle ino writable) is quiet = refl
  single_link w (change.CloseFile handle) is quiet = refl
  single_link w (change.Mksnap id dir name) is quiet = refl
  single_link w (change.Rmsnap id) is quiet = refl
  single_link w (change.WriteFile handle offset bytes) is quiet = refl
  single_link w (change.Truncate handle size) is quiet = refl

  -- what made two names of one then, had made them before
  names_before : (c : Option Change) → change_in e.what ≡ c → has_two_names (with_change (state_after entries) e.client c) x ≡ true → has_two_names (state_after entries) x ≡ true
  names_before None is two = two
  names_before (Some made) is two =
      let ok = made_by_legal entries e made fine is in
      let state : apply (state_after entries) e.client made ≡ make (state_after entries) e.client made = apply_made (state_after entries) e.client made ok in
      let fit = (both_true _ _ fine).1 in
      two_before (count (make (state_after entries) e.client made).entries x) (count (state_after entries).entries x)
      (few (state_after entries) e.client x (numbered_after entries legal) made (has_next entries e.what made is fit) (single_link e.what made is steady))
      (subst (λ (s : State). has_two_names s x ≡ true) state two)

-- two names after the last entry are two names at some time
gets_last : (state : State) (entries : List Entry) (x : Ino) → has_two_names (fold after_entry state entries) x ≡ true → gets_two_names state entries x ≡ true
gets_last state [] x two = two
gets_last state (e ∷ entries) x two = by_test (has_two_names state x) (gets_last (after_entry state e) entries x two)
  where
    by_test : (b : Bool) → gets_two_names (after_entry state e) entries x ≡ true → (elim b [ true ↦ true | false ↦ gets_two_names (after_entry state e) entries x ]) ≡ true
    by_test true rest = refl
    by_test false rest = rest

gets_more : (state : State) (entries : List Entry) (e : Entry) (x : Ino) → gets_two_names state (entries ++ e ∷ []) x ≡ (gets_two_names state entries x || has_two_names (after_entry (fold after_entry state entries) e) x)
gets_more state [] e x = by_test (has_two_names state x)
  where
    by_test : (b : Bool) → (elim b [ true ↦ true | false ↦ has_two_names (after_entry state e) x ]) ≡ (b || has_two_names (after_entry state e) x)
    by_test true = refl
    by_test false = refl
gets_more state (f ∷ entries) e x = by_test (has_two_names state x) (gets_more (after_entry state f) entries e x)
  where
    last : Bool
    last = has_two_names (after_entry (fold after_entry (after_entry state f) entries) e) x

    by_test : (b : Bool) → gets_two_names (after_entry state f) (entries ++ e ∷ []) x ≡ (gets_two_names (after_entry state f) entries x || has_two_names (after_entry (fold after_entry (after_entry state f) entries) e) x) → (elim b [ true ↦ true | false ↦ gets_two_names (after_entry state f) (entries ++ e ∷ []) x ]) ≡ ((elim b [ true ↦ true | false ↦ gets_two_names (after_entry state f) entries x ]) || has_two_names (after_entry (fold after_entry (after_entry state f) entries) e) x)
    by_test true rest = refl
    by_test false rest = rest

-- the ids of one more entry stand behind the others
pub over_more : (state : State) (entries : List Entry) (e : Entry) (x : Ino) → made_over state (entries ++ e ∷ []) x ≡ made_over state entries x ++ made_by e.what (is_under (fold after_entry state entries).entries x)
over_more state [] e x = append-nil _
over_more state (f ∷ entries) e x =
    ap (λ (rest : List SnapId). made_by f.what (is_under state.entries x) ++ rest) (over_more (after_entry state f) entries e x)
    ∙ sym (append_assoc (made_by f.what (is_under state.entries x)) (made_over (after_entry state f) entries x) _)

pub since_more : (state : State) (entries : List Entry) (e : Entry) (x : Ino) → made_since state (entries ++ e ∷ []) x ≡ made_since state entries x ++ made_by e.what (λ dir. is_made (fold after_entry state entries) x)
since_more state [] e x = append-nil _
since_more state (f ∷ entries) e x =
    ap (λ (rest : List SnapId). made_by f.what (λ dir. is_made state x) ++ rest) (since_more (after_entry state f) entries e x)
    ∙ sym (append_assoc (made_by f.what (λ dir. is_made state x)) (made_since (after_entry state f) entries x) _)

-- an entry that leaves contexts makes no snapshot and purges none
makes_none : (w : What) (test : Ino → Bool) → changes_contexts w ≡ false → made_by w test ≡ []
makes_none (what.Mksnap id dir name) test steady = cc
makes_none w test steady = refl

purges_none : (w : What) (s : SnapId) → changes_contexts w ≡ false → purges s w ≡ false
purges_none (what.Purgedone id) s steady = cc
purges_none w s steady = refl

module _ (entries : List Entry) (e : Entry) (x : Ino) (legal : is_journal entries ≡ true) (fine : is_legal entries e ≡ true) (steady : changes_contexts e.what ≡ false) where
  global_stays : is_global (entries ++ e ∷ []) x ≡ is_global entries x
  global_stays = gets_more start entries e x ∙ by_test (has_two_names (after_entry (state_after entries) e) x) refl
    where
      or_true : (b : Bool) → (b || true) ≡ true
      or_true true = refl
      or_true false = refl

      or_false : (b : Bool) → (b || false) ≡ b
      or_false true = refl
      or_false false = refl

      by_test : (b : Bool) → has_two_names (after_entry (state_after entries) e) x ≡ b → (is_global entries x || b) ≡ is_global entries x
      by_test true two = or_true _ ∙ sym (gets_last start entries x (names_before entries e x legal fine steady (change_in e.what) refl two))
      by_test false one = or_false _

  over_stays : made_over start (entries ++ e ∷ []) x ≡ made_over start entries x
  over_stays = over_more start entries e x ∙ ap (λ (ids : List SnapId). made_over start entries x ++ ids) (makes_none e.what _ steady) ∙ append-nil _

  since_stays : made_since start (entries ++ e ∷ []) x ≡ made_since start entries x
  since_stays = since_more start entries e x ∙ ap (λ (ids : List SnapId). made_since start entries x ++ ids) (makes_none e.what _ steady) ∙ append-nil _

  covering_stays : covering (entries ++ e ∷ []) x ≡ covering entries x
  covering_stays = λ i. if global_stays i then since_stays i else over_stays i

  purged_stays : (s : SnapId) → is_purged (entries ++ e ∷ []) s ≡ is_purged entries s
  purged_stays s =
      list_any-append (λ (f : Entry). purges s f.what) entries (e ∷ [])
      ∙ ap (λ (b : Bool). is_purged entries s || (b || false)) (purges_none e.what s steady)
      ∙ or_none (is_purged entries s)
    where
      or_none : (b : Bool) → (b || (false || false)) ≡ b
      or_none true = refl
      or_none false = refl

  kept_stays : (ids : List SnapId) → kept (entries ++ e ∷ []) ids ≡ kept entries ids
  kept_stays ids = λ i. filter (λ s. not (purged_stays s i)) ids

  -- the context stays
  pub context_stays : context (entries ++ e ∷ []) x ≡ context entries x
  context_stays = λ i. record {
    seq = record { 0 = greatest (covering_stays i) };
    ids = reverse (both i);
  }
    where
      both : kept (entries ++ e ∷ []) (covering (entries ++ e ∷ []) x) ≡ kept entries (covering entries x)
      both = ap (kept (entries ++ e ∷ [])) covering_stays ∙ kept_stays (covering entries x)

-- in a journal
pub steady_in : (entries : List Entry) (e : Entry) (x : Ino) → is_journal (entries ++ e ∷ []) ≡ true → changes_contexts e.what ≡ false → context (entries ++ e ∷ []) x ≡ context entries x
steady_in entries e x legal steady = let l = last_legal [] entries e legal in context_stays entries e x l.0 l.1 steady
