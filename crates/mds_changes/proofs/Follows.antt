-- The entries that a request for a change writes down may follow.
use Rattle.std.proofs.Common.{◌≡◌, ℕ, ◌≤◌, Bool, true, false, List, Option, None, Some, Result, Ok, Err, is_some, refl, sym, ap, subst, arith}
use Rattle.std.specs.Prelude.{◌||◌, not, ◌&&◌}
use Rattle.snap_ids.specs.declared.id.SnapId.{SnapId}
use Rattle.plain_types.specs.declared.answer.Refusal.{Refusal}
use Rattle.plain_types.specs.declared.change.Change.{Change}
use Rattle.plain_types.specs.declared.change.Change.TheVariants as change
use Rattle.plain_types.specs.declared.entry.Entry.{Entry}
use Rattle.plain_types.specs.declared.entry.What.{What}
use Rattle.plain_types.specs.declared.entry.What.TheVariants as what
use Rattle.plain_journal.specs.Entries.{change_in, state_after}
use Rattle.plain_journal.specs.Table.{outstanding, is_flush}
use Rattle.held_files.specs.Files.{is_empty}
use Rattle.meta_state.specs.Decisions.{CanHaveId}
use Rattle.journal_table.specs.Calls.{IsRuled}
use Rattle.server_sessions.specs.Calls.{IsOf}
use Rattle.step_table.specs.Acts.{entry_for}
use Rattle.step_table.specs.Requests.{is_busy, next_id}
use Rattle.step_table.specs.ServerState.{Asked, Server}
use Rattle.mds_state.specs.Fits.{IsFit}
use Rattle.mds_state.specs.Parts.{Parts}
use Rattle.mds_state.specs.Stands.{MayBuffer, MayFollow, StandsFor}
use Rattle.mds_changes.specs.Decided.{can_be_given, comes_to, prepared_in, CanPrepare, IsMade, MayMake, MayPrepare}
use Rattle.mds_changes.proofs.Asked.{HasId, gets_id, is_live}

-- an entry that nothing prepares makes no snapshot
can_have : (entries : List Entry) (id : SnapId) (w : What) → prepared_in w ≡ None → CanHaveId entries id w
can_have entries id (what.Mksnap made dir name) none = cc
can_have entries id w none = tt

-- one that says a change is no preparation
ruled : (entries : List Entry) (w : What) (made : Change) → change_in w ≡ Some made → prepared_in w ≡ None → IsRuled entries w
ruled entries (what.PrepareCreate id) made says none = cc
ruled entries (what.PrepareDestroy id) made says none = cc
ruled entries (what.Mksnap id dir name) made says none = cc
ruled entries (what.Rmsnap id) made says none = cc
ruled entries w made says none = tt

-- nor a flush
no_flush : (w : What) (made : Change) → change_in w ≡ Some made → is_flush w ≡ true → ⊥
no_flush (what.Settle ino follows upto size) made says flush = cc
no_flush (what.Release ino follows size) made says flush = cc
no_flush w made says flush = cc

-- who asks is one of the clients
no_zero : (client : ℕ) → 1 ≤ client → client ≡ 0 → ⊥
no_zero client from is = omega arith

-- the entry is the request's
pub entry_is : (s : Server) (a : Asked) (made : Change) (entry : Entry) → IsMade s a made entry → entry ≡ entry_for a entry.what
entry_is s a made entry is = λ i. record { client = is.written.of_client i; number = is.written.of_request i; what = entry.what }

-- the entry of a change of the tree may follow
pub made_follows : (s : Server) (a : Asked) (made : Change) (entry : Entry) → IsFit s a → IsMade s a made entry → prepared_in entry.what ≡ None → MayFollow s.clients s.entries entry
made_follows s a made entry fit is none = record {
  legal = is.legal (can_have s.entries (next_id s) entry.what none);
  ruled = ruled s.entries entry.what made is.written.says none;
  whose = (subst (λ (client : ℕ). client ≤ s.clients) (sym is.written.of_client) fit.upto, λ zero. absurd (no_zero a.client fit.from_one (subst (λ (client : ℕ). client ≡ 0) is.written.of_client zero)));
  rises = λ flush. absurd (no_flush entry.what made is.written.says flush);
}

pub may_make : (p : Parts) (a : Asked) (entry : Entry) → MayMake p a entry → prepared_in entry.what ≡ None → MayBuffer p entry
may_make p a entry may none = record {
  taken = Some a;
  state = may.state;
  stands = may.stands;
  may = made_follows may.state a may.made entry may.fit may.is none;
}

-- what can be prepared may follow where nothing is outstanding
pub prepared_follows : (s : Server) (a : Asked) (said : What) → IsFit s a → CanPrepare s.entries said → can_be_given said ≡ true → outstanding s.entries ≡ None → MayFollow s.clients s.entries (entry_for a said)
prepared_follows s a (what.PrepareCreate id) fit can given free = record {
  legal = refl;
  ruled = (free, can, given);
  whose = (fit.upto, λ zero. absurd (no_zero a.client fit.from_one zero));
  rises = λ flush. cc;
}
prepared_follows s a (what.PrepareDestroy id) fit can given free = record {
  legal = refl;
  ruled = (free, can);
  whose = (fit.upto, λ zero. absurd (no_zero a.client fit.from_one zero));
  rises = λ flush. cc;
}
prepared_follows s a said fit can given free = absurd can

-- nothing is where the server isn't busy
free_of : (o : Option (SnapId × ℕ)) (more : Bool) → (is_some o || more) ≡ false → o ≡ None
free_of None more is = refl
free_of (Some operation) more is = cc

pub is_free : (alone : Bool) (s : Server) → is_busy alone s ≡ false → outstanding s.entries ≡ None
is_free alone s is = free_of (outstanding s.entries) (not alone && not (is_empty s.deferred)) is

pub may_prepare : (p : Parts) (a : Asked) (alone : Bool) (said : What) (may : MayPrepare p a said) → is_busy alone may.state ≡ false → can_be_given said ≡ true → MayBuffer p (entry_for a said)
may_prepare p a alone said may free given = record {
  taken = Some a;
  state = may.state;
  stands = may.stands;
  may = prepared_follows may.state a said may.fit may.can given (is_free alone may.state free);
}

-- the operation of a change that is asked for can be prepared
pub can_prepare : (s : Server) (a : Asked) (made : Change) (w said : What) → comes_to s a ≡ Some (Ok made) → change_in w ≡ Some made → prepared_in w ≡ Some said → CanPrepare s.entries said
can_prepare s a made (what.Mksnap id dir name) said comes says is =
    let same : made ≡ change.Mksnap id dir name = cc in
    let what_is : what.PrepareCreate id ≡ said = cc in
    let given : id ≡ next_id s = subst (HasId (next_id s)) same (gets_id (state_after s.entries) a.client (next_id s) a.request made comes) in
    subst (CanPrepare s.entries) what_is (ap (λ (i : SnapId). i.0) given)
can_prepare s a made (what.Rmsnap id) said comes says is =
    let same : made ≡ change.Rmsnap id = cc in
    let what_is : what.PrepareDestroy id ≡ said = cc in
    let comes_so = subst (λ (m : Change). comes_to s a ≡ Some (Ok m)) same comes in
    subst (CanPrepare s.entries) what_is (is_live (state_after s.entries) a.client (next_id s) id a.request comes_so)
can_prepare s a made w said comes says is = cc
