-- What the tree says of a file that was made: its shape, and that the realms have it with its context.
use Rattle.std.proofs.Common.{◌≡◌, ℕ, ◌≤◌, List, Bool, true, false, cond, ◌||◌, None, Some, refl, sym, ap, ◌∙◌, arith, eqb}
use Rattle.std.specs.Prelude.{option_map}
use Rattle.std.proofs.lemmas.Bool.Decides.{nat_tests}
use Rattle.snap_ids.specs.declared.id.Ino.{Ino}
use Rattle.snap_ids.specs.declared.id.TheConstants.{NOSNAP, GLOBAL, FIRST_INO}
use Rattle.snap_ids.specs.declared.values.Kind.{Kind}
use Rattle.snap_ids.specs.declared.values.Kind.TheVariants.{Dir, File}
use Rattle.plain_types.specs.declared.entry.Entry.{Entry}
use Rattle.plain_tree.specs.State.{State, kind_in, inode_in, same_ino}
use Rattle.plain_journal.specs.Coverage.{is_made, context}
use Rattle.plain_journal.specs.Entries.{state_after, tree_at}
use Rattle.plain_journal.specs.Legal.{is_made_file, is_journal}
use Rattle.plain_journal.specs.Settled.{Shape, settled_size}
use Rattle.journal_moments.proofs.Moments.{above_now, applied_below_nosnap}
use Rattle.journal_realms.specs.Told.{family_of}
use Rattle.journal_realms.proofs.Kept.{file_is}
use Rattle.journal_realms.proofs.Shown.{same_contexts}
use Rattle.journal_realms.proofs.Trees.{tied_after}
use Rattle.journal_shapes.specs.Stands.{of_shape, attr_after}
use Rattle.journal_shapes.proofs.Sizes.{unmade_size}
use Rattle.realm_story.specs.Family.{is_member, is_root, member}
use Rattle.realm_story.specs.Family.{is_there as is_there_told, context as context_told}
use Rattle.realm_story.specs.Family.{birth_of}
use Rattle.meta_state.specs.Stands as meta
use Rattle.meta_state.specs.Stands.{Tables}
use Rattle.snap_ids.specs.declared.id.SnapId.{SnapId}
use Rattle.snap_ids.specs.declared.values.RealmInfo.{RealmInfo}
use Rattle.snap_ids.specs.Traces.{context_of}
use Rattle.snap_realm.specs.Tree as realms
use Rattle.step_table.specs.Messages.{plain_trace, trace_with}
use Rattle.mds_state.specs.Looks.{size_in, is_file_in}

or_right : (a b : Bool) → b ≡ true → (a || b) ≡ true
or_right true b is = refl
or_right false b is = is

module _ (entries : List Entry) (legal : is_journal entries ≡ true) (x : Ino) where
  tree_now : tree_at entries NOSNAP ≡ state_after entries
  tree_now = above_now entries legal NOSNAP (applied_below_nosnap entries legal)

  -- what an inode is now, by whether it was made
  abbrev shape_of : State → Shape
  shape_of tree = record { kind = kind_in tree.inodes x; mode = (inode_in tree.inodes x).mode; size = settled_size entries x NOSNAP }

  attr_now : attr_after entries x NOSNAP ≡ option_map of_shape (cond (is_made (state_after entries) x) (Some (shape_of (state_after entries))) None)
  attr_now = ap (λ (tree : State). option_map of_shape (cond (is_made tree x) (Some (shape_of tree)) None)) tree_now

  -- its size
  pub size_is : size_in (attr_after entries x NOSNAP) ≡ settled_size entries x NOSNAP
  size_is = ap size_in attr_now ∙ go (is_made (state_after entries) x) refl
    where
      go : (b : Bool) → is_made (state_after entries) x ≡ b → size_in (option_map of_shape (cond b (Some (shape_of (state_after entries))) None)) ≡ settled_size entries x NOSNAP
      go true made = refl
      go false unmade = sym (unmade_size entries legal x NOSNAP unmade)

  -- and whether it is a file
  pub file_is_made : is_file_in (attr_after entries x NOSNAP) ≡ is_made_file (state_after entries) x
  file_is_made = ap is_file_in attr_now ∙ go (is_made (state_after entries) x) (kind_in (state_after entries).inodes x)
    where
      shape : Kind → Shape
      shape k = record { kind = k; mode = (inode_in (state_after entries).inodes x).mode; size = settled_size entries x NOSNAP }

      go : (b : Bool) (k : Kind) → is_file_in (option_map of_shape (cond b (Some (shape k)) None)) ≡ elim k as (λ _. Bool) [ Dir ↦ false | File ↦ b ]
      go true Dir = refl
      go true File = refl
      go false Dir = refl
      go false File = refl

  module _ (file : is_made_file (state_after entries) x ≡ true) where
    is_told : is_member (member (family_of entries).members x) ≡ true
    is_told =
        let l = file_is (kind_in (state_after entries).inodes x) (is_made (state_after entries) x) file in
        (tied_after entries legal).kept x l.1 l.0

    apart : same_ino GLOBAL x ≡ false
    apart = above x.0 GLOBAL.0 ((tied_after entries legal).high x is_told) (omega arith)
      where
        above : (n k : ℕ) → FIRST_INO.0 ≤ n → k ≤ 3 → eqb k n ≡ false
        above n k high low = grind (arith, nat_tests)

    -- the realms have it
    pub file_there : is_there_told (family_of entries).members x ≡ true
    file_there = or_right (is_root x) (is_member (member (family_of entries).members x)) is_told

    -- and give it its context
    pub file_context : context_told (family_of entries) x ≡ context entries x
    file_context = same_contexts entries legal x apart

-- the tree's realms have a file that was made
pub realms_have : (tables : Tables) (entries : List Entry) → meta.StandsFor tables entries → (x : Ino) → is_made_file (state_after entries) x ≡ true → realms.is_there tables.realms x ≡ true
realms_have tables entries stands x file = stands.realms.there x ∙ file_there entries stands.journal x file

-- and a trace gives it its context
pub trace_is : (entries : List Entry) → is_journal entries ≡ true → (x : Ino) → is_made_file (state_after entries) x ≡ true → (birth : SnapId) (trace : List RealmInfo) → birth ≡ birth_of (family_of entries) x → context_of trace (birth_of (family_of entries) x) ≡ context_told (family_of entries) x
    → plain_trace (record { ino = x; birth = birth; trace = trace }) ≡ trace_with x (context entries x)
trace_is entries legal x file birth trace born told =
    ap (trace_with x) (ap (context_of trace) born ∙ told ∙ file_context entries legal x file)
