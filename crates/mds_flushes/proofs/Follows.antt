-- Which entries may follow: those of flushes, and those of what the store reports.
use Rattle.std.proofs.Common.{◌≡◌, ◌≤◌, ℕ, Bool, true, false, refl, arith}
use Rattle.std.proofs.lemmas.Bool.Decides.{nat_tests}
use Rattle.std.specs.Prelude.{◌&&◌, ◌||◌, nat_le, if◌then◌else◌}
use Rattle.std.specs.List.{list_any}
use Rattle.snap_ids.specs.declared.id.Ino.{Ino}
use Rattle.snap_ids.specs.declared.id.SnapId.{SnapId}
use Rattle.snap_ids.specs.Context.{is_listed}
use Rattle.plain_types.specs.declared.entry.Entry.{Entry}
use Rattle.plain_types.specs.declared.entry.What.TheVariants.{Settle, Release, Purgedone, Deadfile}
use Rattle.plain_types.specs.declared.message.FlushMsg.{FlushMsg}
use Rattle.plain_tree.specs.State.{same_ino}
use Rattle.plain_journal.specs.Legal.{is_legal}
use Rattle.plain_journal.specs.Table.{last_flush, to_purge, dead}
use Rattle.journal_table.specs.Calls.{IsRuled}
use Rattle.server_holders.proofs.Any.{both_true}
use Rattle.step_table.specs.Acts.{own_entry}
use Rattle.step_table.specs.Flushes.{flush_entry, knows_file}
use Rattle.step_table.specs.Messages.{flush_fits, is_id, is_size}
use Rattle.step_table.specs.ServerState.{Server}
use Rattle.mds_state.specs.Stands.{MayFollow}

-- the entry of a client's flush
abbrev pub entry_of : ℕ → FlushMsg → Entry
entry_of client f = record { client = client; number = f.number; what = flush_entry f }

module _ (s : Server) (client : ℕ) (f : FlushMsg) where
  flush_legal : knows_file s f.ino ≡ true → is_id f.follows ≡ true → is_legal s.entries (entry_of client f) ≡ true
  flush_legal known follows = by_release f.release
    where
      by_release : (b : Bool) → is_legal s.entries (record { client = client; number = f.number; what = if b then Release f.ino f.follows f.size else Settle f.ino f.follows f.upto f.size }) ≡ true
      by_release true = λ i. known i && follows i
      by_release false = λ i. known i && follows i

  flush_ruled : IsRuled s.entries (flush_entry f)
  flush_ruled = by_release f.release
    where
      by_release : (b : Bool) → IsRuled s.entries (if b then Release f.ino f.follows f.size else Settle f.ino f.follows f.upto f.size)
      by_release true = tt
      by_release false = tt

  -- a flush that wasn't taken before, of a file that was made
  pub flush_follows : 1 ≤ client → client ≤ s.clients → knows_file s f.ino ≡ true → flush_fits f ≡ true → nat_le f.number (last_flush s.entries client) ≡ false → MayFollow s.clients s.entries (entry_of client f)
  flush_follows from_one upto known fit new = record {
    legal = flush_legal known (both_true (is_id f.follows) (f.release || is_id f.upto) (both_true (is_id f.follows && (f.release || is_id f.upto)) (is_size f.size) fit).0).0;
    ruled = flush_ruled;
    whose = (upto, λ none. absurd (omega (arith, from_one, none)));
    rises = λ flush. grind (arith, nat_tests);
  }

-- the snapshot was removed, and the store hadn't dropped it
pub purge_follows : (s : Server) (id : SnapId) → is_listed id (to_purge s.entries) ≡ true → MayFollow s.clients s.entries (own_entry (Purgedone id))
purge_follows s id is = record {
  legal = is;
  ruled = tt;
  whose = (omega arith, λ none. (refl, refl));
  rises = λ flush. cc;
}

-- the file has neither name nor handle, and the store hadn't dropped it
pub delete_follows : (s : Server) (ino : Ino) → list_any (same_ino ino) (dead s.entries) ≡ true → MayFollow s.clients s.entries (own_entry (Deadfile ino))
delete_follows s ino is = record {
  legal = is;
  ruled = tt;
  whose = (omega arith, λ none. (refl, refl));
  rises = λ flush. cc;
}
