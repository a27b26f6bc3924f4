-- The id after the last one is that of the next snapshot, and an entry that may be written down leads to a state again.
use Rattle.std.proofs.Common.{◌≡◌, ◌+◌, ◌<◌, Bool, true, ◌&&◌, List, refl, ap, ◌∙◌, arith}
use Rattle.std.proofs.lemmas.Bool.{lt-ltb}
use Rattle.snap_ids.specs.declared.id.SnapId.{SnapId}
use Rattle.plain_types.specs.declared.entry.Entry.{Entry}
use Rattle.plain_types.specs.declared.entry.What.{What}
use Rattle.plain_types.specs.declared.entry.What.TheVariants as what
use Rattle.plain_journal.specs.Entries.{applied}
use Rattle.realm_story.specs.Family.{Family}
use Rattle.snap_realm.specs.Tree as realms
use Rattle.journal_realms.specs.Told.{family_of}
use Rattle.journal_realms.proofs.Last.{same_applied}
use Rattle.meta_state.specs.Stands.{Tables, StandsFor, IsState, MayFollow}
use Rattle.meta_state.specs.Decisions.{CanHaveId, IsLegal, is_free_id}
use Rattle.meta_state.specs.declared.decide.Decision.TheVariants.{Put}

both_true : (a b : Bool) → a ≡ true → b ≡ true → (a && b) ≡ true
both_true a b x y = rw (x, y) refl

pub free_after : (tables : Tables) (entries : List Entry) → StandsFor tables entries → (last id : SnapId) → ((family : Family) → realms.StandsFor tables.realms family → last ≡ family.applied) → id.0 ≡ last.0 + 1 → last.0 < 1000 → is_free_id entries id ≡ true
free_after tables entries stands last id story next few =
    let same : last.0 ≡ applied entries = ap (λ (s : SnapId). s.0) (story (family_of entries) stands.realms) ∙ same_applied entries stands.journal in
    both_true _ _ (lt-ltb (applied entries) id.0 (omega (arith, same, next))) (lt-ltb id.0 4611686018427387904 (omega (arith, next, few)))

pub can_have : (entries : List Entry) (id : SnapId) (w : What) → is_free_id entries id ≡ true → CanHaveId entries id w
can_have entries id (what.Mksnap made dir name) free = free
can_have entries id (what.Mkdir dir name ino) free = tt
can_have entries id (what.Create dir name ino mode) free = tt
can_have entries id (what.Link ino dir name) free = tt
can_have entries id (what.Unlink dir name) free = tt
can_have entries id (what.Rmdir dir name) free = tt
can_have entries id (what.Rename dir name to_dir to_name) free = tt
can_have entries id (what.Chmod ino mode) free = tt
can_have entries id (what.OpenFile handle ino writable) free = tt
can_have entries id (what.CloseFile handle) free = tt
can_have entries id (what.PrepareCreate made) free = tt
can_have entries id (what.PrepareDestroy made) free = tt
can_have entries id (what.Rmsnap made) free = tt
can_have entries id (what.Rollback made) free = tt
can_have entries id (what.Settle ino follows upto size) free = tt
can_have entries id (what.Release ino follows size) free = tt
can_have entries id (what.Trim made) free = tt
can_have entries id (what.Purgedone made) free = tt
can_have entries id (what.Deadfile ino) free = tt
can_have entries id (what.Barrier number) free = tt

-- what was decided for any entries that the tables stand for may follow them
pub may_follow : (tables : Tables) (state : IsState tables) (id : SnapId) (entry : Entry) → ((entries : List Entry) → StandsFor tables entries → IsLegal entries id (Put entry)) → is_free_id state.entries id ≡ true → MayFollow tables entry
may_follow tables state id entry legal free = record {
  entries = state.entries;
  stands = state.stands;
  legal = legal state.entries state.stands (can_have state.entries id entry.what free);
}
