-- After the calls of an entry the tables stand for the journal with that entry.
use Rattle.std.proofs.Common.{◌≡◌, ℕ, ◌+◌, ◌<◌, ◌^◌, List, [], ◌∷◌, ◌++◌, true, Option, Some, refl, sym, ap, ◌∙◌, subst, arith}
use Rattle.snap_ids.specs.declared.id.Ino.{Ino}
use Rattle.snap_ids.specs.declared.id.SnapId.{SnapId}
use Rattle.snap_ids.specs.declared.id.TheConstants.{NOSNAP, STRAY}
use Rattle.snap_ids.specs.declared.values.Kind.{Kind}
use Rattle.snap_ids.specs.declared.values.Kind.TheVariants.{File}
use Rattle.snap_ids.specs.Context.{is_listed}
use Rattle.plain_types.specs.declared.entry.Entry.{Entry}
use Rattle.plain_types.specs.declared.entry.What.{What}
use Rattle.plain_types.specs.declared.entry.What.TheVariants as what
use Rattle.plain_tree.specs.State.{Snapshot, lookup}
use Rattle.plain_journal.specs.Entries.{state_after, applied}
use Rattle.plain_journal.specs.Legal.{is_legal, is_journal}
use Rattle.plain_journal.specs.Table.{barrier_by}
use Rattle.realm_story.specs.Family.{Family, live_ids}
use Rattle.journal_realms.specs.Told.{told, family_of, move_found, forget_found}
use Rattle.journal_realms.specs.Calls as realms_of
use Rattle.journal_realms.proofs.Calls.{calls_fine}
use Rattle.journal_realms.proofs.Family.{family_more}
use Rattle.journal_realms.proofs.Snaps.{found_of, basic_after}
use Rattle.journal_moments.specs.Moments.{is_live_snap}
use Rattle.journal_names.specs.Calls as names
use Rattle.journal_names.proofs.Follows.{follows}
use Rattle.journal_shapes.specs.Calls as shapes
use Rattle.journal_shapes.proofs.Steps.{stands_more}
use Rattle.journal_uses.specs.Stands.{uses_after}
use Rattle.journal_uses.proofs.Moves.{kept, link_more, open_more, close_more, drop_more}
use Rattle.journal_uses.proofs.Made.{mkdir_more, create_more}
use Rattle.journal_uses.proofs.Counted.{unlink_more, rename_more}
use Rattle.journal_uses.proofs.Folders.{rmdir_more}
use Rattle.file_uses.specs.Uses as uses
use Rattle.inode_versions.specs.declared.attr.Attr.{Attr}
use Rattle.dentry_tree.specs.Dentries.{entries_at}
use Rattle.snap_realm.specs.Tree as realms
use Rattle.meta_state.specs.Applied.{last, Called, Makes, SameCounts}
use Rattle.meta_state.specs.Stands.{Tables, StandsFor}
use Rattle.meta_state.proofs.Counted.{made_by, inodes_more, barrier_more, length_more}
use Rattle.meta_state.proofs.Looked.{listed_found}
use Rattle.meta_state.proofs.May.{journal_more, last_is, named_now}

-- the list of live ids has the id of each live snapshot
live_listed : (entries : List Entry) → is_journal entries ≡ true → (s : SnapId) → is_live_snap s (state_after entries).snaps ≡ true → is_listed s (live_ids (family_of entries)) ≡ true
live_listed entries journal s live =
    let found = found_of s (family_of entries).snaps (subst (λ (snaps : List Snapshot). is_live_snap s snaps ≡ true) (basic_after entries journal).same live) in
    listed_found s (family_of entries).snaps found.0 found.1

module _ (old new : Tables) (entries : List Entry) (stands : StandsFor old entries) (e : Entry) (legal : is_journal (entries ++ e ∷ []) ≡ true) where
  abbrev family : Family
  family = family_of entries

  all_listed : (live : List SnapId) → live ≡ live_ids family → (s : SnapId) → is_live_snap s (state_after entries).snaps ≡ true → is_listed s live ≡ true
  all_listed live same s is = subst (λ (ids : List SnapId). is_listed s ids ≡ true) (sym same) (live_listed entries stands.journal s is)

  gains : (dir : Ino) (name : List ℕ) (ino : Ino) (attr : Attr) → Makes dir name ino attr old new → names.Gains (applied entries) dir name ino attr.kind old.names new.names
  gains dir name ino attr c = subst (λ (n : ℕ). names.Gains n dir name ino attr.kind old.names new.names) (sym (last_is old entries stands)) c.names

  -- the calls on the names
  of_names : (w : What) → Called e.client w old new → names.Called entries w old.names new.names
  of_names (what.Mkdir dir name ino) c = gains dir name ino (shapes.directory ino) c.makes
  of_names (what.Create dir name ino mode) c = gains dir name ino (shapes.file mode) c.makes
  of_names (what.Link ino dir name) c = subst (λ (n : ℕ). names.Gains n dir name ino File old.names new.names) (sym (last_is old entries stands)) c.names
  of_names (what.Unlink dir name) c = subst (λ (n : ℕ). names.Loses n dir name old.names new.names) (sym (last_is old entries stands)) c.names
  of_names (what.Rmdir dir name) c = subst (λ (n : ℕ). names.Loses n dir name old.names new.names) (sym (last_is old entries stands)) c.names
  of_names (what.Rename dir name to_dir to_name) c =
      subst (λ (n : ℕ). names.Renames n dir name to_dir to_name old.names new.names) (sym (last_is old entries stands)) (record {
        ino = c.ino;
        found = c.found;
        between = c.between;
        loses = c.loses;
        gains = subst (λ (k : Kind). names.Gains (last old).0 to_dir to_name c.ino k c.between new.names) (sym c.is_kind) c.gains;
      })
  of_names (what.Trim id) c = record {
    live = c.live;
    each = all_listed c.live (c.all family stands.realms);
    listed = c.names.listed;
    later = c.names.later;
    kinds = c.names.kinds;
    changed = c.names.changed;
  }
  of_names (what.Chmod ino mode) c = c.rest.names
  of_names (what.Settle ino follows upto size) c = c.rest.names
  of_names (what.Release ino follows size) c = c.rest.names
  of_names (what.OpenFile handle ino writable) c = c.names
  of_names (what.CloseFile handle) c = c.names
  of_names (what.Mksnap id dir name) c = c.names
  of_names (what.Rmsnap id) c = c.names
  of_names (what.Purgedone id) c = c.names
  of_names (what.Deadfile ino) c = c.names
  of_names (what.Barrier number) c = c.names
  of_names (what.PrepareCreate id) c = ap (λ (t : Tables). t.names) c
  of_names (what.PrepareDestroy id) c = ap (λ (t : Tables). t.names) c
  of_names (what.Rollback id) c = ap (λ (t : Tables). t.names) c

  created : (dir : Ino) (name : List ℕ) (ino : Ino) (attr : Attr) → Makes dir name ino attr old new → shapes.Created ino (record { 0 = applied entries + 1 }) attr old.inodes new.inodes
  created dir name ino attr c = subst (λ (n : ℕ). shapes.Created ino (record { 0 = n + 1 }) attr old.inodes new.inodes) (sym (last_is old entries stands)) c.inodes

  -- and on the inodes
  of_inodes : (w : What) → Called e.client w old new → shapes.Called entries w old.inodes new.inodes
  of_inodes (what.Mkdir dir name ino) c = created dir name ino (shapes.directory ino) c.makes
  of_inodes (what.Create dir name ino mode) c = created dir name ino (shapes.file mode) c.makes
  of_inodes (what.Chmod ino mode) c =
      (c.head, c.found, subst (λ (n : ℕ). shapes.Changed ino (record { 0 = n }) (shapes.in_mode mode c.head) old.inodes new.inodes) (sym (last_is old entries stands)) c.inodes)
  of_inodes (what.Settle ino follows upto size) c = c.inodes
  of_inodes (what.Release ino follows size) c = c.inodes
  of_inodes (what.Trim id) c = (c.live, all_listed c.live (c.all family stands.realms), c.inodes)
  of_inodes (what.Link ino dir name) c = c.inodes
  of_inodes (what.Unlink dir name) c = c.inodes
  of_inodes (what.Rmdir dir name) c = c.inodes
  of_inodes (what.Rename dir name to_dir to_name) c = c.inodes
  of_inodes (what.OpenFile handle ino writable) c = c.inodes
  of_inodes (what.CloseFile handle) c = c.inodes
  of_inodes (what.Mksnap id dir name) c = c.inodes
  of_inodes (what.Rmsnap id) c = c.inodes
  of_inodes (what.Purgedone id) c = c.inodes
  of_inodes (what.Deadfile ino) c = c.inodes
  of_inodes (what.Barrier number) c = c.inodes
  of_inodes (what.PrepareCreate id) c = ap (λ (t : Tables). t.inodes) c
  of_inodes (what.PrepareDestroy id) c = ap (λ (t : Tables). t.inodes) c
  of_inodes (what.Rollback id) c = ap (λ (t : Tables). t.inodes) c

  fresh : (w : What) → e.what ≡ w → realms_of.IsFine (state_after entries) family w
  fresh w is = subst (λ (v : What). realms_of.IsFine (state_after entries) family v) is (calls_fine entries e legal)

  same_realms : new.realms ≡ old.realms → realms.StandsFor new.realms family
  same_realms same = subst (λ (tree : realms.Tree). realms.StandsFor tree family) (sym same) stands.realms

  named : (f : Option Ino → Family) (dir : Ino) (name : List ℕ) (ino : Ino) → lookup (entries_at NOSNAP old.names) dir name ≡ Some ino → realms.StandsFor new.realms (f (Some ino)) → realms.StandsFor new.realms (f (lookup (state_after entries).entries dir name))
  named f dir name ino found now = subst (λ (o : Option Ino). realms.StandsFor new.realms (f o)) (sym (named_now old entries stands dir name ino found)) now

  -- and on the realms
  of_realms : (w : What) → e.what ≡ w → Called e.client w old new → realms.StandsFor new.realms (told (state_after entries) w family)
  of_realms (what.Mkdir dir name ino) is c = c.makes.realms family stands.realms (fresh (what.Mkdir dir name ino) is).fresh
  of_realms (what.Create dir name ino mode) is c = c.makes.realms family stands.realms (fresh (what.Create dir name ino mode) is).fresh
  of_realms (what.Link ino dir name) is c = c.realms family stands.realms
  of_realms (what.Unlink dir name) is c = named (λ (o : Option Ino). move_found o STRAY family) dir name c.ino c.found (c.realms family stands.realms)
  of_realms (what.Rmdir dir name) is c = named (λ (o : Option Ino). forget_found o family) dir name c.ino c.found (c.realms family stands.realms)
  of_realms (what.Rename dir name to_dir to_name) is c = named (λ (o : Option Ino). move_found o to_dir family) dir name c.ino c.found (c.realms family stands.realms)
  of_realms (what.Mksnap id dir name) is c = c.realms family stands.realms
  of_realms (what.Rmsnap id) is c = c.realms family stands.realms
  of_realms (what.Purgedone id) is c = c.realms family stands.realms
  of_realms (what.Chmod ino mode) is c = same_realms c.rest.realms
  of_realms (what.Settle ino follows upto size) is c = same_realms c.rest.realms
  of_realms (what.Release ino follows size) is c = same_realms c.rest.realms
  of_realms (what.Trim id) is c = same_realms c.realms
  of_realms (what.OpenFile handle ino writable) is c = same_realms c.realms
  of_realms (what.CloseFile handle) is c = same_realms c.realms
  of_realms (what.Deadfile ino) is c = same_realms c.realms
  of_realms (what.Barrier number) is c = same_realms c.realms
  of_realms (what.PrepareCreate id) is c = same_realms (ap (λ (t : Tables). t.realms) c)
  of_realms (what.PrepareDestroy id) is c = same_realms (ap (λ (t : Tables). t.realms) c)
  of_realms (what.Rollback id) is c = same_realms (ap (λ (t : Tables). t.realms) c)

  abbrev more : List Entry
  more = entries ++ e ∷ []

  -- and on the uses of files
  of_uses : (w : What) → e.what ≡ w → Called e.client w old new → new.uses ≡ uses_after more
  of_uses (what.Mkdir dir name ino) is c = c.uses ∙ stands.uses ∙ sym (mkdir_more entries e legal dir name ino is)
  of_uses (what.Create dir name ino mode) is c = c.uses ∙ ap (uses.made ino) stands.uses ∙ sym (create_more entries e legal dir name ino mode is)
  of_uses (what.Link ino dir name) is c = c.uses ∙ ap (uses.linked ino) stands.uses ∙ sym (link_more entries e legal ino dir name is)
  of_uses (what.Unlink dir name) is c = c.uses ∙ ap (uses.unlinked c.ino) stands.uses ∙ sym (unlink_more entries e legal dir c.ino name is (named_now old entries stands dir name c.ino c.found))
  of_uses (what.Rmdir dir name) is c = c.uses ∙ stands.uses ∙ sym (rmdir_more entries e legal dir name is)
  of_uses (what.Rename dir name to_dir to_name) is c = c.uses ∙ stands.uses ∙ sym (rename_more entries e legal dir to_dir name to_name is)
  of_uses (what.OpenFile handle ino writable) is c =
      c.uses ∙ ap (uses.opened (record { client = e.client; handle = handle; ino = ino; writable = writable })) stands.uses ∙ sym (open_more entries e legal handle ino writable is)
  of_uses (what.CloseFile handle) is c = c.uses ∙ ap (uses.closed e.client handle) stands.uses ∙ sym (close_more entries e legal handle is)
  of_uses (what.Deadfile ino) is c = c.uses ∙ ap (uses.dropped ino) stands.uses ∙ sym (drop_more entries e legal ino is)
  of_uses (what.Chmod ino mode) is c = c.rest.uses ∙ stands.uses ∙ sym (kept entries e legal (what.Chmod ino mode) is refl)
  of_uses (what.Settle ino follows upto size) is c = c.rest.uses ∙ stands.uses ∙ sym (kept entries e legal (what.Settle ino follows upto size) is refl)
  of_uses (what.Release ino follows size) is c = c.rest.uses ∙ stands.uses ∙ sym (kept entries e legal (what.Release ino follows size) is refl)
  of_uses (what.Mksnap id dir name) is c = c.uses ∙ stands.uses ∙ sym (kept entries e legal (what.Mksnap id dir name) is refl)
  of_uses (what.Rmsnap id) is c = c.uses ∙ stands.uses ∙ sym (kept entries e legal (what.Rmsnap id) is refl)
  of_uses (what.Trim id) is c = c.uses ∙ stands.uses ∙ sym (kept entries e legal (what.Trim id) is refl)
  of_uses (what.Purgedone id) is c = c.uses ∙ stands.uses ∙ sym (kept entries e legal (what.Purgedone id) is refl)
  of_uses (what.Barrier number) is c = c.uses ∙ stands.uses ∙ sym (kept entries e legal (what.Barrier number) is refl)
  of_uses (what.PrepareCreate id) is c = ap (λ (t : Tables). t.uses) c ∙ stands.uses ∙ sym (kept entries e legal (what.PrepareCreate id) is refl)
  of_uses (what.PrepareDestroy id) is c = ap (λ (t : Tables). t.uses) c ∙ stands.uses ∙ sym (kept entries e legal (what.PrepareDestroy id) is refl)
  of_uses (what.Rollback id) is c = ap (λ (t : Tables). t.uses) c ∙ stands.uses ∙ sym (kept entries e legal (what.Rollback id) is refl)

  -- what is counted of inodes and barriers
  record Counts (w : What) : Type 0 where
    made : new.made ≡ old.made + made_by w
    barrier_is : new.barrier ≡ barrier_by old.barrier w
    few_made : new.made < 2 ^ 62

  makes_one : (w : What) (dir : Ino) (name : List ℕ) (ino : Ino) (attr : Attr) → made_by w ≡ 1 → barrier_by old.barrier w ≡ old.barrier → Makes dir name ino attr old new → Counts w
  makes_one w dir name ino attr one same c = record { made = c.made ∙ ap (λ (n : ℕ). old.made + n) (sym one); barrier_is = c.barrier ∙ sym same; few_made = c.few_made }

  same_counts : (w : What) → made_by w ≡ 0 → barrier_by old.barrier w ≡ old.barrier → SameCounts old new → Counts w
  same_counts w none same c = record {
    made = let is : new.made ≡ old.made = c.made in omega (arith, is, none);
    barrier_is = c.barrier ∙ sym same;
    few_made = subst (λ (n : ℕ). n < 2 ^ 62) (sym c.made) stands.few_made;
  }

  all_same : new ≡ old → SameCounts old new
  all_same is = record { made = ap (λ (t : Tables). t.made) is; barrier = ap (λ (t : Tables). t.barrier) is; entries = ap (λ (t : Tables). t.entries) is }

  of_counts : (w : What) → Called e.client w old new → Counts w
  of_counts (what.Mkdir dir name ino) c = makes_one (what.Mkdir dir name ino) dir name ino (shapes.directory ino) refl refl c.makes
  of_counts (what.Create dir name ino mode) c = makes_one (what.Create dir name ino mode) dir name ino (shapes.file mode) refl refl c.makes
  of_counts (what.Link ino dir name) c = same_counts (what.Link ino dir name) refl refl c.counts
  of_counts (what.Unlink dir name) c = same_counts (what.Unlink dir name) refl refl c.counts
  of_counts (what.Rmdir dir name) c = same_counts (what.Rmdir dir name) refl refl c.counts
  of_counts (what.Rename dir name to_dir to_name) c = same_counts (what.Rename dir name to_dir to_name) refl refl c.counts
  of_counts (what.Chmod ino mode) c = same_counts (what.Chmod ino mode) refl refl c.rest.counts
  of_counts (what.Settle ino follows upto size) c = same_counts (what.Settle ino follows upto size) refl refl c.rest.counts
  of_counts (what.Release ino follows size) c = same_counts (what.Release ino follows size) refl refl c.rest.counts
  of_counts (what.OpenFile handle ino writable) c = same_counts (what.OpenFile handle ino writable) refl refl c.counts
  of_counts (what.CloseFile handle) c = same_counts (what.CloseFile handle) refl refl c.counts
  of_counts (what.Mksnap id dir name) c = same_counts (what.Mksnap id dir name) refl refl c.counts
  of_counts (what.Rmsnap id) c = same_counts (what.Rmsnap id) refl refl c.counts
  of_counts (what.Trim id) c = same_counts (what.Trim id) refl refl c.counts
  of_counts (what.Purgedone id) c = same_counts (what.Purgedone id) refl refl c.counts
  of_counts (what.Deadfile ino) c = same_counts (what.Deadfile ino) refl refl c.counts
  of_counts (what.PrepareCreate id) c = same_counts (what.PrepareCreate id) refl refl (all_same c)
  of_counts (what.PrepareDestroy id) c = same_counts (what.PrepareDestroy id) refl refl (all_same c)
  of_counts (what.Rollback id) c = same_counts (what.Rollback id) refl refl (all_same c)
  of_counts (what.Barrier number) c = record {
    made = let is : new.made ≡ old.made = c.made in omega (arith, is);
    barrier_is = c.barrier;
    few_made = subst (λ (n : ℕ). n < 2 ^ 62) (sym c.made) stands.few_made;
  }

  -- all of it
  carried : is_legal entries e ≡ true → (w : What) → e.what ≡ w → Called e.client w old new → (count : ℕ) → count ≡ old.entries + 1 → count < 2 ^ 62 → StandsFor (record new { entries = count }) more
  carried fine w is c count one few = record {
    journal = legal;
    names = follows old.names new.names entries e legal stands.names (subst (λ (v : What). names.Called entries v old.names new.names) (sym is) (of_names w c));
    inodes = stands_more entries e legal old.inodes new.inodes stands.inodes (subst (λ (v : What). shapes.Called entries v old.inodes new.inodes) (sym is) (of_inodes w c));
    realms = subst (λ (f : Family). realms.StandsFor new.realms f) (ap (λ (v : What). told (state_after entries) v family) (sym is) ∙ sym (family_more entries e)) (of_realms w is c);
    uses = of_uses w is c;
    made = (of_counts w c).made ∙ ap (λ (n : ℕ). n + made_by w) stands.made ∙ sym (inodes_more entries e w is fine);
    barrier = (of_counts w c).barrier_is ∙ ap (λ (n : ℕ). barrier_by n w) stands.barrier ∙ sym (barrier_more entries e w is);
    count = one ∙ ap (λ (n : ℕ). n + 1) stands.count ∙ sym (length_more entries e);
    few_made = (of_counts w c).few_made;
    few_entries = few;
  }

-- the tables after the calls of an entry, which is counted, stand for the journal with it
pub applied_stands : (old new : Tables) (e : Entry) (count : ℕ) → Called e.client e.what old new → count ≡ old.entries + 1 → count < 2 ^ 62 → (entries : List Entry) → StandsFor old entries → is_legal entries e ≡ true → StandsFor (record new { entries = count }) (entries ++ e ∷ [])
applied_stands old new e count c one few entries stands fine =
    carried old new entries stands e (journal_more entries e stands.journal fine) fine e.what refl c count one few
