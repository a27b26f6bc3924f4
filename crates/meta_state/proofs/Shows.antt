-- The tables show the plain state after the entries that they stand for.
use Rattle.std.proofs.Common.{◌≡◌, ◌∷◌, [], List, sym, ap, ◌∙◌, subst}
use Rattle.std.specs.List.{AllByRecursion}
use Rattle.snap_ids.specs.declared.id.Ino.{Ino}
use Rattle.snap_ids.specs.declared.values.Kind.{Kind}
use Rattle.plain_types.specs.declared.entry.Entry.{Entry}
use Rattle.plain_tree.specs.State.{Inode, kind_in, next_ino}
use Rattle.plain_tree.specs.State.{Entry as Dentry}
use Rattle.plain_journal.specs.Entries.{state_after}
use Rattle.realm_story.specs.Family.{Family}
use Rattle.file_uses.specs.Uses.{Uses}
use Rattle.journal_realms.specs.Above as journal
use Rattle.journal_realms.specs.Told.{family_of}
use Rattle.journal_realms.proofs.Placed.{placed_after}
use Rattle.journal_realms.proofs.Snapped.{same_own, same_count, same_total, same_rooted}
use Rattle.journal_names.proofs.Entries.{live_names}
use Rattle.rename_split.specs.Plans.{IsOf, IsPlaced, first, live}
use Rattle.change_plan.specs.Tables.{Show}
use Rattle.meta_state.specs.Stands.{Tables, StandsFor, IsState}

-- what stands below a directory's whole way up stands below the directory
placed : (kind : Ino → Kind) (inodes : List Inode) (family : Family) → ((ino : Ino) → kind ino ≡ kind_in inodes ino) → (entries : List Dentry) → AllByRecursion (journal.IsPlaced inodes family) entries → AllByRecursion (IsPlaced kind family) entries
placed kind inodes family same [] all = tt
placed kind inodes family same (entry ∷ entries) all = (
  record {
    there = all.0.there;
    below = λ outside. ap first (all.0.below outside);
    file = λ inside. same entry.ino ∙ all.0.file inside;
  },
  placed kind inodes family same entries all.1,
)

module _ (tables : Tables) (entries : List Entry) (stands : StandsFor tables entries) where
  -- all that a plan of a change asks of them
  pub shown : (next : Ino) → next ≡ next_ino (state_after entries) → Show tables.names tables.realms tables.uses next (state_after entries)
  shown next is = record {
    names_shown = record {
      entries = live_names tables.names entries stands.journal stands.names;
      kinds = stands.names.kinds;
    };
    snaps_shown = record {
      family = family_of entries;
      stands = stands.realms;
      snaps = record {
        named = same_own entries stands.journal;
        of_one = same_count entries stands.journal;
        of_all = same_total entries stands.journal;
        rooted = same_rooted entries stands.journal;
      };
    };
    handles = ap (λ (uses : Uses). uses.handles) stands.uses;
    next_one = is;
  }

  placed_now : AllByRecursion (IsPlaced (live tables.names).kind (family_of entries)) (live tables.names).entries
  placed_now = subst (AllByRecursion (IsPlaced (live tables.names).kind (family_of entries))) (sym (live_names tables.names entries stands.journal stands.names))
      (placed (live tables.names).kind (state_after entries).inodes (family_of entries) stands.names.kinds (state_after entries).entries (placed_after entries stands.journal))

-- the realms are those of what the names name
pub is_of : (tables : Tables) → IsState tables → IsOf (live tables.names) tables.realms
is_of tables state = record {
  family = family_of state.entries;
  stands = state.stands.realms;
  placed = placed_now tables state.entries state.stands;
}

-- the same of the struct's own fields, which are the tables
pub shown_by : (fields tables : Tables) → fields ≡ tables → (entries : List Entry) → StandsFor tables entries → (next : Ino) → next ≡ next_ino (state_after entries) → Show fields.names fields.realms fields.uses next (state_after entries)
shown_by fields tables same entries stands next is = subst (λ (t : Tables). Show t.names t.realms t.uses next (state_after entries)) (sym same) (shown tables entries stands next is)

pub is_of_by : (fields tables : Tables) → fields ≡ tables → IsState tables → IsOf (live fields.names) fields.realms
is_of_by fields tables same state = subst (λ (t : Tables). IsOf (live t.names) t.realms) (sym same) (is_of tables state)
