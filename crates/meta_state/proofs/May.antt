-- The calls of an entry may be made where the tables stand for a journal that it may follow.
use Rattle.std.proofs.Common.{◌≡◌, ℕ, ◌+◌, ◌<◌, List, [], ◌∷◌, ◌++◌, true, false, None, Some, IsSome, refl, sym, ap, ◌∙◌, subst}
use Rattle.snap_ids.specs.declared.id.Ino.{Ino}
use Rattle.snap_ids.specs.declared.id.SnapId.{SnapId}
use Rattle.snap_ids.specs.declared.id.TheConstants.{GLOBAL, NOSNAP, STRAY}
use Rattle.plain_types.specs.declared.entry.Entry.{Entry}
use Rattle.plain_types.specs.declared.entry.What.{What}
use Rattle.plain_types.specs.declared.entry.What.TheVariants as what
use Rattle.plain_tree.specs.State.{lookup}
use Rattle.plain_tree.specs.State.{Entry as Named}
use Rattle.plain_tree.specs.Change.{open_of}
use Rattle.plain_journal.specs.Entries.{state_after, applied}
use Rattle.plain_journal.specs.Legal.{is_legal, is_journal}
use Rattle.realm_story.specs.Family.{Family}
use Rattle.journal_realms.specs.Told.{family_of}
use Rattle.journal_realms.specs.Calls as realms_of
use Rattle.journal_realms.specs.Calls.{Found, IsFine, IsBirth}
use Rattle.journal_realms.proofs.Calls.{calls_fine}
use Rattle.journal_realms.proofs.Induct.{legal_more}
use Rattle.journal_realms.proofs.Last.{same_applied}
use Rattle.journal_names.specs.Calls as names
use Rattle.journal_names.proofs.Entries.{live_names}
use Rattle.journal_names.proofs.Fine.{can_call}
use Rattle.journal_shapes.specs.Calls as shapes
use Rattle.journal_shapes.proofs.Steps.{fine_call}
use Rattle.journal_uses.specs.Stands.{uses_after}
use Rattle.journal_uses.proofs.Found.{create_may, link_may, unlink_may, open_may, drop_may}
use Rattle.file_uses.specs.Uses as uses
use Rattle.file_uses.specs.Uses.{Uses}
use Rattle.dentry_tree.specs.Dentries.{entries_at}
use Rattle.meta_state.specs.Applied.{last, CanMake, MayCall}
use Rattle.meta_state.specs.Stands.{Tables, StandsFor, MayFollow}
use Rattle.meta_state.proofs.Stories.{there, not_there, under, leaf, can_move, can_snap, dead}

-- the entries with a legal one more are a journal
pub journal_more : (entries : List Entry) (e : Entry) → is_journal entries ≡ true → is_legal entries e ≡ true → is_journal (entries ++ e ∷ []) ≡ true
journal_more entries e journal legal = legal_more [] entries e journal legal

-- the last id is that of the realms
pub last_is : (tables : Tables) (entries : List Entry) → StandsFor tables entries → applied entries ≡ (last tables).0
last_is tables entries stands = sym (ap (λ (s : SnapId). s.0) stands.realms.applied_is ∙ same_applied entries stands.journal)

-- a name has now what it has in the plain tree
pub named_now : (tables : Tables) (entries : List Entry) → StandsFor tables entries → (dir : Ino) (name : List ℕ) (ino : Ino) → lookup (entries_at NOSNAP tables.names) dir name ≡ Some ino → lookup (state_after entries).entries dir name ≡ Some ino
named_now tables entries stands dir name ino found =
    ap (λ (es : List Named). lookup es dir name) (sym (live_names tables.names entries stands.journal stands.names)) ∙ found

module _ (tables : Tables) (entries : List Entry) (stands : StandsFor tables entries) (e : Entry) (legal : is_journal (entries ++ e ∷ []) ≡ true) where
  abbrev family : Family
  family = family_of entries

  names_fine : (w : What) → e.what ≡ w → names.CanCall entries w tables.names
  names_fine w is = subst (λ (v : What). names.CanCall entries v tables.names) is (can_call tables.names entries e legal stands.names)

  inodes_fine : (w : What) → e.what ≡ w → shapes.IsFine entries w tables.inodes
  inodes_fine w is = subst (λ (v : What). shapes.IsFine entries v tables.inodes) is (fine_call entries e legal tables.inodes stands.inodes)

  realms_fine : (w : What) → e.what ≡ w → IsFine (state_after entries) family w
  realms_fine w is = subst (λ (v : What). IsFine (state_after entries) family v) is (calls_fine entries e legal)

  gains : (dir : Ino) (name : List ℕ) → names.CanGain (applied entries) dir name tables.names → names.CanGain (last tables).0 dir name tables.names
  gains dir name can = subst (λ (n : ℕ). names.CanGain n dir name tables.names) (last_is tables entries stands) can

  makes : (dir : Ino) (name : List ℕ) (ino : Ino) → names.CanGain (applied entries) dir name tables.names → shapes.IsNew ino (record { 0 = applied entries + 1 }) tables.inodes → IsBirth family ino dir → CanMake dir name ino tables
  makes dir name ino can new birth = record {
    names = gains dir name can;
    inodes = subst (λ (n : ℕ). shapes.IsNew ino (record { 0 = n + 1 }) tables.inodes) (last_is tables entries stands) new;
    there = there tables.realms family stands.realms dir birth.there;
    outside = under tables.realms family stands.realms dir GLOBAL false birth.there birth.outside;
    new = not_there tables.realms family stands.realms ino birth.new;
  }

  found_is : (P : Ino → Type 0) (dir : Ino) (name : List ℕ) (ino : Ino) → lookup (entries_at NOSNAP tables.names) dir name ≡ Some ino → Found P (lookup (state_after entries).entries dir name) → P ino
  found_is P dir name ino found is = subst (Found P) (named_now tables entries stands dir name ino found) is

  known : (P : Uses → Type 0) → P (uses_after entries) → P tables.uses
  known P is = subst P (sym stands.uses) is

  -- at each entry that may follow
  pub may_call : (w : What) → e.what ≡ w → MayCall e.client w tables
  may_call (what.Mkdir dir name ino) is = makes dir name ino (names_fine (what.Mkdir dir name ino) is) (inodes_fine (what.Mkdir dir name ino) is) (realms_fine (what.Mkdir dir name ino) is)
  may_call (what.Create dir name ino mode) is = record {
    makes = makes dir name ino (names_fine (what.Create dir name ino mode) is) (inodes_fine (what.Create dir name ino mode) is) (realms_fine (what.Create dir name ino mode) is);
    uses = known (λ (u : Uses). uses.use_of u ino ≡ None) (create_may entries e legal dir ino name mode is);
  }
  may_call (what.Link ino dir name) is =
      let fine = realms_fine (what.Link ino dir name) is in
      record {
        names = gains dir name (names_fine (what.Link ino dir name) is);
        there = there tables.realms family stands.realms ino fine.there;
        leaf = leaf tables.realms family stands.realms ino fine;
        uses = known (λ (u : Uses). IsSome (uses.use_of u ino)) (link_may entries e legal ino dir name is);
      }
  may_call (what.Unlink dir name) is =
      let can = names_fine (what.Unlink dir name) is in
      record {
        ino = can.0;
        names = can.1;
        realms = can_move tables.realms family stands.realms can.0 STRAY (found_is (λ (ino : Ino). realms_of.IsMove family ino STRAY) dir name can.0 can.1.named (realms_fine (what.Unlink dir name) is));
        uses = known (λ (u : Uses). 0 < uses.names_of u can.0) (unlink_may entries e legal dir can.0 name is (named_now tables entries stands dir name can.0 can.1.named));
      }
  may_call (what.Rmdir dir name) is =
      let can = names_fine (what.Rmdir dir name) is in
      let fine = found_is (realms_of.IsLeaf family) dir name can.0 can.1.named (realms_fine (what.Rmdir dir name) is) in
      record {
        ino = can.0;
        names = can.1;
        there = there tables.realms family stands.realms can.0 fine.there;
        leaf = leaf tables.realms family stands.realms can.0 fine;
      }
  may_call (what.Rename dir name to_dir to_name) is =
      let can = names_fine (what.Rename dir name to_dir to_name) is in
      record {
        ino = can.0;
        names = subst (λ (n : ℕ). names.CanRename n dir name to_dir to_name tables.names can.0) (last_is tables entries stands) can.1;
        realms = can_move tables.realms family stands.realms can.0 to_dir (found_is (λ (ino : Ino). realms_of.IsMove family ino to_dir) dir name can.0 can.1.loses.named (realms_fine (what.Rename dir name to_dir to_name) is));
      }
  may_call (what.Chmod ino mode) is = subst (λ (n : ℕ). shapes.IsThere ino (record { 0 = n }) tables.inodes) (last_is tables entries stands) (inodes_fine (what.Chmod ino mode) is)
  may_call (what.OpenFile handle ino writable) is =
      let may = open_may entries e legal handle ino writable is in
      record {
        free = known (λ (u : Uses). open_of u.handles e.client handle ≡ None) may.0;
        there = known (λ (u : Uses). IsSome (uses.use_of u ino)) may.1;
      }
  may_call (what.Mksnap id dir name) is = can_snap tables.realms family stands.realms id dir name (realms_fine (what.Mksnap id dir name) is)
  may_call (what.Rmsnap id) is = record { family = family; stands = stands.realms; live = realms_fine (what.Rmsnap id) is }
  may_call (what.Settle ino follows upto size) is = inodes_fine (what.Settle ino follows upto size) is
  may_call (what.Release ino follows size) is = inodes_fine (what.Release ino follows size) is
  may_call (what.Purgedone id) is = dead tables.realms family stands.realms id (realms_fine (what.Purgedone id) is)
  may_call (what.Deadfile ino) is = known (λ (u : Uses). IsSome (uses.use_of u ino)) (drop_may entries e legal ino is)
  may_call w is = tt

-- the calls of an entry that may follow
pub may_follow : (tables : Tables) (e : Entry) → MayFollow tables e → MayCall e.client e.what tables
may_follow tables e may =
    may_call tables may.entries may.stands e (journal_more may.entries e may.stands.journal may.legal) e.what refl
