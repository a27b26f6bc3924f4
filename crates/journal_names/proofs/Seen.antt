-- What is seen in the trees of snapshots: an inode that is named there is what it is now.
use Rattle.std.proofs.Common.{◌≡◌, ℕ, ◌+◌, ◌-◌, ◌<◌, ◌≤◌, List, [], ◌∷◌, ◌++◌, length, map, filter, Bool, true, false, Option, None, Some, Result, Ok, Err, refl, sym, ap, ◌∙◌, subst, arith, ltb-true, ltb-false, eqb-true, append_assoc, length-append}
use Rattle.std.specs.Prelude.{◌==◌, nat_lt, if◌then◌else◌}
use Rattle.std.proofs.lemmas.Bool.Decides.{nat_tests}
use Rattle.std.proofs.lemmas.List.{append-nil, length-map}
use Rattle.snap_ids.specs.declared.id.Ino.{Ino}
use Rattle.snap_ids.specs.declared.id.SnapId.{SnapId}
use Rattle.snap_ids.specs.declared.id.TheConstants.{FIRST_INO}
use Rattle.snap_ids.specs.declared.values.Kind.{Kind}
use Rattle.snap_ids.specs.declared.values.Kind.TheVariants.{Dir, File}
use Rattle.plain_types.specs.declared.answer.Refusal.{Refusal}
use Rattle.plain_types.specs.declared.answer.Refusal.TheVariants.{NoEntry, NotDir}
use Rattle.plain_types.specs.declared.change.Change.TheVariants as change
use Rattle.plain_types.specs.declared.entry.Entry.{Entry}
use Rattle.plain_types.specs.declared.entry.What.{What}
use Rattle.plain_types.specs.declared.entry.What.TheVariants as what
use Rattle.plain_tree.specs.State.{State, Inode, new_directory, next_ino, same_ino, is_at, kind_in, lookup, listing}
use Rattle.plain_tree.specs.State.{Entry as Dentry}
use Rattle.plain_tree.specs.Walk.{walk}
use Rattle.plain_tree.specs.Change.{new_file, is_refused, make}
use Rattle.plain_journal.specs.Entries.{change_in, with_change, state_after, tree_at, makes_snap, before_snap}
use Rattle.plain_journal.specs.Legal.{is_made_by, fits, is_legal, legal_after, is_journal}
use Rattle.journal_laws.proofs.Below.{AllBelow}
use Rattle.journal_laws.proofs.Steps.{both_true, by_entries, state_more, numbered_after}
use Rattle.journal_moments.specs.Moments.{is_asked}
use Rattle.dentry_tree.specs.Dentries.{Tree, entries_at, kind_of}
use Rattle.journal_names.specs.Names.{NamesStand}
use Rattle.journal_names.proofs.Inodes.{AllLow, kind_push, kind_mode, steady_inodes, IsLow, low_after, low_step}

-- the entries from the one on that makes a snapshot
from_snap : (s : SnapId) (entries : List Entry) → (rest : List Entry) × (entries ≡ before_snap s entries ++ rest)
from_snap s [] = ([], refl)
from_snap s (e ∷ entries) = go (makes_snap s e.what) (from_snap s entries)
  where
    go : (b : Bool) → (rest : List Entry) × (entries ≡ before_snap s entries ++ rest) → (rest : List Entry) × (e ∷ entries ≡ (if b then [] else e ∷ before_snap s entries) ++ rest)
    go true is = (e ∷ entries, refl)
    go false is = (is.0, ap (λ (l : List Entry). e ∷ l) is.1)

-- a front of a journal is one, and what follows it is legal after it
front_legal : (done entries more : List Entry) → legal_after done (entries ++ more) ≡ true → (legal_after done entries ≡ true) × (legal_after (done ++ entries) more ≡ true)
front_legal done [] more legal = (refl, subst (λ (d : List Entry). legal_after d more ≡ true) (sym (append-nil done)) legal)
front_legal done (e ∷ entries) more legal =
    let l = both_true (is_legal done e) (legal_after (done ++ e ∷ []) (entries ++ more)) legal in
    let rest = front_legal (done ++ e ∷ []) entries more l.1 in
    (rw (l.0, rest.0) refl, subst (λ (d : List Entry). legal_after d more ≡ true) (append_assoc done (e ∷ []) entries) rest.1)

-- an inode that was made is what it was, and stays below the next one
record IsKept (x : Ino) (kind : Kind) (state : State) : Type 0 where
  pub made : x.0 < (next_ino state).0
  pub same : kind_in state.inodes x ≡ kind

apart : (a b : ℕ) → a < b → (a == b) ≡ false
apart a b less = grind (arith, nat_tests)

module _ (x : Ino) (kind : Kind) (state : State) (low : IsLow state) (is : IsKept x kind state) where
  kept_push : (new : Inode) → new.ino.0 ≡ (next_ino state).0 → (x.0 < FIRST_INO.0 + (length (state.inodes ++ new ∷ []) - 1)) × (kind_in (state.inodes ++ new ∷ []) x ≡ kind)
  kept_push new next = (
    omega (arith, length-append state.inodes (new ∷ []), is.made),
    kind_push state.inodes new x (subst (λ (n : ℕ). AllLow n state.inodes) (sym next) low.low)
        ∙ ap (λ (b : Bool). if b then new.kind else kind_in state.inodes x) (apart x.0 new.ino.0 (omega (arith, next, is.made)))
        ∙ is.same,
  )

  kept_mkdir : (client : ℕ) (dir : Ino) (name : List ℕ) (ino : Ino) → ino.0 ≡ (next_ino state).0 → (b : Bool) → IsKept x kind (if b then state else make state client (change.Mkdir dir name ino))
  kept_mkdir client dir name ino next true = is
  kept_mkdir client dir name ino next false = let l = kept_push (new_directory ino) next in record { made = l.0; same = l.1 }

  kept_create : (client : ℕ) (dir : Ino) (name : List ℕ) (ino : Ino) (mode : ℕ) → ino.0 ≡ (next_ino state).0 → (b : Bool) → IsKept x kind (if b then state else make state client (change.Create dir name ino mode))
  kept_create client dir name ino mode next true = is
  kept_create client dir name ino mode next false = let l = kept_push (new_file ino mode) next in record { made = l.0; same = l.1 }

  kept_chmod : (client : ℕ) (ino : Ino) (mode : ℕ) (b : Bool) → IsKept x kind (if b then state else make state client (change.Chmod ino mode))
  kept_chmod client ino mode true = is
  kept_chmod client ino mode false = record { made = omega (arith, length-map state.inodes (λ (inode : Inode). record inode { mode = if same_ino inode.ino ino then mode else inode.mode }), is.made); same = kind_mode ino mode state.inodes x ∙ is.same }

  kept_steady : (new : State) → new.inodes ≡ state.inodes → IsKept x kind new
  kept_steady new same = record {
    made = subst (λ (l : List Inode). x.0 < FIRST_INO.0 + (length l - 1)) (sym same) is.made;
    same = ap (λ (l : List Inode). kind_in l x) same ∙ is.same;
  }

kept_step : (x : Ino) (kind : Kind) (entries : List Entry) (client : ℕ) (w : What) → IsLow (state_after entries) → IsKept x kind (state_after entries) → fits entries w ≡ true → IsKept x kind (with_change (state_after entries) client (change_in w))
kept_step x kind entries client (what.Mkdir dir name ino) low is fine =
    kept_mkdir x kind (state_after entries) low is client dir name ino (eqb-true ino.0 (next_ino (state_after entries)).0 fine) (is_refused (state_after entries) client (change.Mkdir dir name ino))
kept_step x kind entries client (what.Create dir name ino mode) low is fine =
    kept_create x kind (state_after entries) low is client dir name ino mode (eqb-true ino.0 (next_ino (state_after entries)).0 fine) (is_refused (state_after entries) client (change.Create dir name ino mode))
kept_step x kind entries client (what.Chmod ino mode) low is fine =
    kept_chmod x kind (state_after entries) low is client ino mode (is_refused (state_after entries) client (change.Chmod ino mode))
kept_step x kind entries client w low is fine =
    kept_steady x kind (state_after entries) low is (with_change (state_after entries) client (change_in w)) (steady_inodes (state_after entries) client (change_in w) refl)

-- so it is after all that follows
kept_after : (x : Ino) (kind : Kind) (done more : List Entry) → legal_after done more ≡ true → IsLow (state_after done) → IsKept x kind (state_after done) → IsKept x kind (state_after (done ++ more))
kept_after x kind done more legal low is =
    (by_entries (λ (l : List Entry). IsLow (state_after l) × IsKept x kind (state_after l)) step done more (low, is) legal).1
  where
    step : (done : List Entry) (e : Entry) → IsLow (state_after done) × IsKept x kind (state_after done) → is_legal done e ≡ true → IsLow (state_after (done ++ e ∷ [])) × IsKept x kind (state_after (done ++ e ∷ []))
    step done e both fine =
        let fit = (both_true (is_made_by (state_after done) e.client (change_in e.what)) (fits done e.what) fine).1 in (
          subst IsLow (sym (state_more done e)) (low_step done e.client e.what both.0 fit),
          subst (IsKept x kind) (sym (state_more done e)) (kept_step x kind done e.client e.what both.0 both.1 fit),
        )

-- an inode is now what it was at an id, where it was made by then
pub same_kind : (entries : List Entry) → is_journal entries ≡ true → (s : SnapId) (x : Ino) → x.0 < (next_ino (tree_at entries s)).0 → kind_in (state_after entries).inodes x ≡ kind_in (tree_at entries s).inodes x
same_kind entries legal s x made =
    let split = from_snap s entries in
    let l = front_legal [] (before_snap s entries) split.0 (subst (λ (l : List Entry). is_journal l ≡ true) split.1 legal) in
    ap (λ (l : List Entry). kind_in (state_after l).inodes x) split.1
    ∙ (kept_after x (kind_in (tree_at entries s).inodes x) (before_snap s entries) split.0 l.1 (low_after (before_snap s entries) l.0) (record { made = made; same = refl })).same

-- each entry there names one
pub named_below : (entries : List Entry) → is_journal entries ≡ true → (s : SnapId) → AllBelow (next_ino (tree_at entries s)).0 (tree_at entries s).entries
named_below entries legal s =
    let split = from_snap s entries in
    let l = front_legal [] (before_snap s entries) split.0 (subst (λ (l : List Entry). is_journal l ≡ true) split.1 legal) in
    (numbered_after (before_snap s entries) l.0).below

-- what a directory lists by two readings of kinds that agree on what is named
same_listing : (n : ℕ) (now was : Ino → Kind) (entries : List Dentry) (dir : Ino) → ((x : Ino) → x.0 < n → now x ≡ was x) → AllBelow n entries → listing now entries dir ≡ listing was entries dir
same_listing n now was [] dir same all = refl
same_listing n now was (e ∷ entries) dir same all = go (same_ino e.dir dir) (same_listing n now was entries dir same all.1)
  where
    go : (b : Bool) → listing now entries dir ≡ listing was entries dir → map {B = List ℕ × Kind} (λ (entry : Dentry). (entry.name, now entry.ino)) (if b then e ∷ filter (λ (entry : Dentry). same_ino entry.dir dir) entries else filter (λ (entry : Dentry). same_ino entry.dir dir) entries) ≡ map {B = List ℕ × Kind} (λ (entry : Dentry). (entry.name, was entry.ino)) (if b then e ∷ filter (λ (entry : Dentry). same_ino entry.dir dir) entries else filter (λ (entry : Dentry). same_ino entry.dir dir) entries)
    go true rest = λ i. (e.name, same e.ino all.0 i) ∷ rest i
    go false rest = rest

-- what a name has is below the number
found_below : (n : ℕ) (entries : List Dentry) (dir : Ino) (name : List ℕ) (ino : Ino) → AllBelow n entries → lookup entries dir name ≡ Some ino → ino.0 < n
found_below n [] dir name ino all found = cc
found_below n (e ∷ entries) dir name ino all found = go (is_at dir name e) found (found_below n entries dir name ino all.1)
  where
    go : (b : Bool) → (if b then Some e.ino else lookup entries dir name) ≡ Some ino → (lookup entries dir name ≡ Some ino → ino.0 < n) → ino.0 < n
    go true is rest = let same : e.ino ≡ ino = cc in subst (λ (x : Ino). x.0 < n) same all.0
    go false is rest = rest is

-- one step of a walk, with what is done at the inode that the name has
abbrev next_step : Option Ino → (Ino → Result Ino Refusal) → Result Ino Refusal
next_step found go_on = elim found [ None ↦ Err NoEntry | Some next ↦ go_on next ]

abbrev in_kind : Kind → Result Ino Refusal → Result Ino Refusal
in_kind kind rest = elim kind [ File ↦ Err NotDir | Dir ↦ rest ]

module _ (n : ℕ) (now was : Ino → Kind) (entries : List Dentry) (same : (x : Ino) → x.0 < n → now x ≡ was x) (all : AllBelow n entries) where
  same_next : (dir : Ino) (name : List ℕ) (found : Option Ino) → lookup entries dir name ≡ found → (go_on too : Ino → Result Ino Refusal) → ((next : Ino) → now next ≡ was next → go_on next ≡ too next) → next_step found go_on ≡ next_step found too
  same_next dir name None is go_on too rest = refl
  same_next dir name (Some next) is go_on too rest = rest next (same next (found_below n entries dir name next all is))

  -- where a walk ends
  same_walk : (ino : Ino) (names : List (List ℕ)) → now ino ≡ was ino → walk now entries ino names ≡ walk was entries ino names
  same_walk ino [] is = refl
  same_walk ino (name ∷ names) is =
      ap (λ (kind : Kind). in_kind kind (next_step (lookup entries ino name) (λ next. walk now entries next names))) is
      ∙ ap (in_kind (was ino)) (same_next ino name (lookup entries ino name) refl (λ next. walk now entries next names) (λ next. walk was entries next names) (λ next at. same_walk next names at))

  -- and what it ends at is the same in both
  step_end : (ino : Ino) (kind : Kind) (found : Option Ino) (dir : Ino) (name : List ℕ) → lookup entries dir name ≡ found → (go_on : Ino → Result Ino Refusal) → ((next : Ino) → now next ≡ was next → go_on next ≡ Ok ino → now ino ≡ was ino) → in_kind kind (next_step found go_on) ≡ Ok ino → now ino ≡ was ino
  step_end ino File found dir name is go_on rest ends = cc
  step_end ino Dir None dir name is go_on rest ends = cc
  step_end ino Dir (Some next) dir name is go_on rest ends = rest next (same next (found_below n entries dir name next all is)) ends

  same_end : (start ino : Ino) (names : List (List ℕ)) → now start ≡ was start → walk was entries start names ≡ Ok ino → now ino ≡ was ino
  same_end start ino [] is ends = let at : start ≡ ino = cc in subst (λ (x : Ino). now x ≡ was x) at is
  same_end start ino (name ∷ names) is ends =
      step_end ino (was start) (lookup entries start name) start name refl (λ next. walk was entries next names) (λ next at rest. same_end next ino names at rest) ends

-- what isn't in a list of inodes, or is a directory, is a directory where it is one now
start_kind : (entries : List Entry) → is_journal entries ≡ true → (s : SnapId) (x : Ino) → kind_in (state_after entries).inodes x ≡ Dir → kind_in (state_after entries).inodes x ≡ kind_in (tree_at entries s).inodes x
start_kind entries legal s x dir = go (nat_lt x.0 (next_ino (tree_at entries s)).0) refl
  where
    split : (rest : List Entry) × (entries ≡ before_snap s entries ++ rest)
    split = from_snap s entries

    low : IsLow (tree_at entries s)
    low = low_after (before_snap s entries) (front_legal [] (before_snap s entries) split.0 (subst (λ (l : List Entry). is_journal l ≡ true) split.1 legal)).0

    unmade : (n : ℕ) (inodes : List Inode) → AllLow n inodes → n ≤ x.0 → kind_in inodes x ≡ Dir
    unmade n [] all above = refl
    unmade n (inode ∷ inodes) all above = by_test (unmade n inodes all.1 above)
      where
        by_test : kind_in inodes x ≡ Dir → (if same_ino inode.ino x then inode.kind else kind_in inodes x) ≡ Dir
        by_test rest = rw (apart inode.ino.0 x.0 (omega (arith, all.0, above))) rest

    go : (b : Bool) → nat_lt x.0 (next_ino (tree_at entries s)).0 ≡ b → kind_in (state_after entries).inodes x ≡ kind_in (tree_at entries s).inodes x
    go true made = same_kind entries legal s x (ltb-true x.0 (next_ino (tree_at entries s)).0 made)
    go false not_made = dir ∙ sym (unmade (next_ino (tree_at entries s)).0 (tree_at entries s).inodes low.low (ltb-false x.0 (next_ino (tree_at entries s)).0 not_made))

module _ (tree : Tree) (entries : List Entry) (legal : is_journal entries ≡ true) (stands : NamesStand tree entries) (s : SnapId) (asked : is_asked entries s ≡ true) where
  kinds_now : (x : Ino) → x.0 < (next_ino (tree_at entries s)).0 → kind_of tree x ≡ kind_in (tree_at entries s).inodes x
  kinds_now x made = stands.kinds x ∙ same_kind entries legal s x made

  pub listing_is : (dir : Ino) → listing (kind_of tree) (entries_at s tree) dir ≡ listing (kind_in (tree_at entries s).inodes) (tree_at entries s).entries dir
  listing_is dir =
      ap (λ (es : List Dentry). listing (kind_of tree) es dir) (stands.names s asked)
      ∙ same_listing (next_ino (tree_at entries s)).0 (kind_of tree) (kind_in (tree_at entries s).inodes) (tree_at entries s).entries dir kinds_now (named_below entries legal s)

  start_is : (start : Ino) → kind_of tree start ≡ Dir → kind_of tree start ≡ kind_in (tree_at entries s).inodes start
  start_is start dir = stands.kinds start ∙ start_kind entries legal s start (sym (stands.kinds start) ∙ dir)

  pub walk_is : (start : Ino) (names : List (List ℕ)) → kind_of tree start ≡ Dir → walk (kind_of tree) (entries_at s tree) start names ≡ walk (kind_in (tree_at entries s).inodes) (tree_at entries s).entries start names
  walk_is start names dir =
      ap (λ (es : List Dentry). walk (kind_of tree) es start names) (stands.names s asked)
      ∙ same_walk (next_ino (tree_at entries s)).0 (kind_of tree) (kind_in (tree_at entries s).inodes) (tree_at entries s).entries kinds_now (named_below entries legal s) start names (start_is start dir)

  pub end_is : (start ino : Ino) (names : List (List ℕ)) → kind_of tree start ≡ Dir → walk (kind_of tree) (entries_at s tree) start names ≡ Ok ino → kind_of tree ino ≡ kind_in (tree_at entries s).inodes ino
  end_is start ino names dir ends =
      same_end (next_ino (tree_at entries s)).0 (kind_of tree) (kind_in (tree_at entries s).inodes) (tree_at entries s).entries kinds_now (named_below entries legal s) start ino names (start_is start dir) (sym (walk_is start names dir) ∙ ends)
