-- What the decision on a planned request is, by what the state after the entries says of it.
use Rattle.std.proofs.Common.{◌≡◌, ℕ, Bool, true, false, not, ◌&&◌, List, Option, None, Some, Result, Ok, Err, refl, sym, ap, subst, IfOk, OnErr}
use Rattle.snap_ids.specs.declared.id.Ino.{Ino}
use Rattle.snap_ids.specs.declared.id.SnapId.{SnapId}
use Rattle.snap_ids.specs.declared.memory.NoMemory.{NoMemory}
use Rattle.plain_types.specs.declared.answer.Answer.TheVariants.{Refused}
use Rattle.plain_types.specs.declared.answer.Refusal.{Refusal}
use Rattle.plain_types.specs.declared.change.Change.{Change}
use Rattle.plain_types.specs.declared.change.Change.TheVariants as change
use Rattle.plain_types.specs.declared.entry.Entry.{Entry}
use Rattle.plain_types.specs.declared.entry.What.{What}
use Rattle.plain_types.specs.declared.entry.What.TheVariants as what
use Rattle.plain_types.specs.declared.request.Request.{Request}
use Rattle.plain_tree.specs.State.{State, same_ino, next_ino}
use Rattle.plain_tree.specs.Change.{is_refused}
use Rattle.plain_tree.specs.Request.{change_asked}
use Rattle.plain_tree.proofs.Asked.{same_number}
use Rattle.plain_tree.proofs.Succeeds.{asked_succeeds}
use Rattle.plain_journal.specs.Entries.{change_in, state_after}
use Rattle.plain_journal.specs.Legal.{is_made_by, fits}
use Rattle.meta_state.specs.Decisions.{IsPut, is_free_id, CanHaveId, IsLegal, query_of, IsAnswer, takes_memory, is_of_bytes, Follows}
use Rattle.change_plan.specs.Causes.{is_named}
use Rattle.meta_state.specs.Stands.{Tables, StandsFor}
use Rattle.meta_state.specs.declared.decide.Decision.{Decision}
use Rattle.meta_state.specs.declared.decide.Decision.TheVariants.{Put, Say}
use Rattle.meta_state.proofs.Fits.{IsGiven, given}

not_of_bytes : (state : State) (id : SnapId) (made : Change) → IsGiven state id made → is_of_bytes made ≡ false
not_of_bytes state id (change.Mkdir dir name ino) is = refl
not_of_bytes state id (change.Create dir name ino mode) is = refl
not_of_bytes state id (change.Link ino dir name) is = refl
not_of_bytes state id (change.Unlink dir name) is = refl
not_of_bytes state id (change.Rmdir dir name) is = refl
not_of_bytes state id (change.Rename dir name to_dir to_name) is = refl
not_of_bytes state id (change.Chmod ino mode) is = refl
not_of_bytes state id (change.OpenFile handle ino writable) is = refl
not_of_bytes state id (change.CloseFile handle) is = refl
not_of_bytes state id (change.Mksnap made dir name) is = refl
not_of_bytes state id (change.Rmsnap made) is = refl
not_of_bytes state id (change.WriteFile handle offset bytes) is = absurd is
not_of_bytes state id (change.Truncate handle size) is = absurd is

-- the numbers of an entry that says such a change fit the entries
same_next : (ino next : Ino) → ino ≡ next → same_ino ino next ≡ true
same_next ino next is = subst (λ (other : Ino). same_ino ino other ≡ true) is (same_number ino.0)

says_fit : (entries : List Entry) (id : SnapId) (w : What) (made : Change) → change_in w ≡ Some made → IsGiven (state_after entries) id made → CanHaveId entries id w → fits entries w ≡ true
says_fit entries id (what.Mkdir dir name ino) made is all can =
    let same : made ≡ change.Mkdir dir name ino = cc in
    same_next ino (next_ino (state_after entries)) (subst (IsGiven (state_after entries) id) same all)
says_fit entries id (what.Create dir name ino mode) made is all can =
    let same : made ≡ change.Create dir name ino mode = cc in
    same_next ino (next_ino (state_after entries)) (subst (IsGiven (state_after entries) id) same all)
says_fit entries id (what.Mksnap new dir name) made is all can =
    let same : made ≡ change.Mksnap new dir name = cc in
    subst (λ (s : SnapId). is_free_id entries s ≡ true) (sym (subst (IsGiven (state_after entries) id) same all)) can
says_fit entries id (what.Settle ino follows upto size) made is all can = cc
says_fit entries id (what.Release ino follows size) made is all can = cc
says_fit entries id (what.Purgedone new) made is all can = cc
says_fit entries id (what.Deadfile ino) made is all can = cc
says_fit entries id (what.Link ino dir name) made is all can = refl
says_fit entries id (what.Unlink dir name) made is all can = refl
says_fit entries id (what.Rmdir dir name) made is all can = refl
says_fit entries id (what.Rename dir name to_dir to_name) made is all can = refl
says_fit entries id (what.Chmod ino mode) made is all can = refl
says_fit entries id (what.OpenFile handle ino writable) made is all can = refl
says_fit entries id (what.CloseFile handle) made is all can = refl
says_fit entries id (what.PrepareCreate new) made is all can = refl
says_fit entries id (what.PrepareDestroy new) made is all can = refl
says_fit entries id (what.Rmsnap new) made is all can = refl
says_fit entries id (what.Rollback new) made is all can = refl
says_fit entries id (what.Trim new) made is all can = refl
says_fit entries id (what.Barrier number) made is all can = refl

both_true : (a b : Bool) → a ≡ true → b ≡ true → (a && b) ≡ true
both_true a b x y = rw (x, y) refl

module _ (entries : List Entry) (client number : ℕ) (id : SnapId) (asked : Request) where
  abbrev coming : Option (Result Change Refusal)
  coming = change_asked (state_after entries) client id asked

  -- the entry of a change that is asked for is legal
  entry_legal : (made : Change) (decision : Decision) → coming ≡ Some (Ok made) → IsPut client number made decision → IsLegal entries id decision
  entry_legal made (Put entry) is put = λ can. both_true (is_made_by (state_after entries) entry.client (change_in entry.what)) (fits entries entry.what)
      (subst (λ (o : Option Change). is_made_by (state_after entries) entry.client o ≡ true) (sym put.says)
      (subst (λ (c : ℕ). not (is_refused (state_after entries) c made) ≡ true) (sym put.of_client) (ap not (asked_succeeds (state_after entries) client id asked made is))))
      (says_fit entries id entry.what made put.says (given (state_after entries) client id asked made is) can)
  entry_legal made (Say answer) is put = tt

  -- and the decision is to write such an entry down
  put_for : (made : Change) (decision : Decision) → coming ≡ Some (Ok made) → Follows entries client number asked (Ok decision) coming → IsPut client number made decision
  put_for made decision is follows =
      subst (Follows entries client number asked (Ok decision)) is follows (not_of_bytes (state_after entries) id made (given (state_after entries) client id asked made is))

  -- a decision that follows is legal, whatever the request comes to
  legal_for : (planned : Option (Result Change Refusal)) (decision : Decision) → coming ≡ planned → Follows entries client number asked (Ok decision) coming → IsLegal entries id decision
  legal_for (Some (Ok made)) decision is follows = entry_legal made decision is (put_for made decision is follows)
  legal_for (Some (Err refusal)) decision is follows = subst (IsLegal entries id) (sym (subst (Follows entries client number asked (Ok decision)) is follows)) tt
  legal_for None (Say answer) is follows = tt
  legal_for None (Put entry) is follows = absurd (subst (Follows entries client number asked (Ok (Put entry))) is follows)

  refused_for : (refusal : Refusal) (decision : Decision) → coming ≡ Some (Err refusal) → Follows entries client number asked (Ok decision) coming → decision ≡ Say (Refused refusal)
  refused_for refusal decision is follows = subst (Follows entries client number asked (Ok decision)) is follows

  answered_for : (decision : Decision) → coming ≡ None → Follows entries client number asked (Ok decision) coming → IsAnswer entries (query_of asked) decision
  answered_for decision is follows = subst (Follows entries client number asked (Ok decision)) is follows

-- the same for all entries that the tables stand for
module _ (tables : Tables) (client number : ℕ) (id : SnapId) (asked : Request) where
  abbrev pub Told : Result Decision NoMemory → Type 0
  Told result = (entries : List Entry) → StandsFor tables entries → Follows entries client number asked result (change_asked (state_after entries) client id asked)

  pub told : (planned : Option (Result Change Refusal)) (result : Result Decision NoMemory) → ((entries : List Entry) → StandsFor tables entries → planned ≡ change_asked (state_after entries) client id asked) → ((entries : List Entry) → StandsFor tables entries → Follows entries client number asked result planned) → Told result
  told planned result same follows = λ entries stands. subst (Follows entries client number asked result) (same entries stands) (follows entries stands)

  pub written_is : (result : Result Decision NoMemory) → Told result → IfOk result (λ decision. (entries : List Entry) (made : Change) → StandsFor tables entries → change_asked (state_after entries) client id asked ≡ Some (Ok made) → IsPut client number made decision)
  written_is (Ok decision) all = λ entries made stands is. put_for entries client number id asked made decision is (all entries stands)
  written_is (Err wanted) all = tt

  pub legal_is : (result : Result Decision NoMemory) → Told result → IfOk result (λ decision. (entries : List Entry) → StandsFor tables entries → IsLegal entries id decision)
  legal_is (Ok decision) all = λ entries stands. legal_for entries client number id asked (change_asked (state_after entries) client id asked) decision refl (all entries stands)
  legal_is (Err wanted) all = tt

  pub refused_is : (result : Result Decision NoMemory) → Told result → IfOk result (λ decision. (entries : List Entry) (refusal : Refusal) → StandsFor tables entries → change_asked (state_after entries) client id asked ≡ Some (Err refusal) → decision ≡ Say (Refused refusal))
  refused_is (Ok decision) all = λ entries refusal stands is. refused_for entries client number id asked refusal decision is (all entries stands)
  refused_is (Err wanted) all = tt

  pub answered_is : (result : Result Decision NoMemory) → Told result → IfOk result (λ decision. (entries : List Entry) → StandsFor tables entries → change_asked (state_after entries) client id asked ≡ None → IsAnswer entries (query_of asked) decision)
  answered_is (Ok decision) all = λ entries stands is. answered_for entries client number id asked decision is (all entries stands)
  answered_is (Err wanted) all = tt

  pub wanted_is : (result : Result Decision NoMemory) → Told result → OnErr result ((entries : List Entry) → StandsFor tables entries → takes_memory (change_asked (state_after entries) client id asked) asked ≡ true)
  wanted_is (Ok decision) all = tt
  wanted_is (Err wanted) all = all

  -- a plan wants memory for names alone
  pub planned_wants : {A : Type 0} (failed : Result A NoMemory) → ((entries : List Entry) → StandsFor tables entries → is_named (change_asked (state_after entries) client id asked) ≡ true) → OnErr failed ((entries : List Entry) → StandsFor tables entries → takes_memory (change_asked (state_after entries) client id asked) asked ≡ true)
  planned_wants (Ok value) named = tt
  planned_wants (Err wanted) named = λ entries stands. takes (change_asked (state_after entries) client id asked) (named entries stands)
    where
      takes : (planned : Option (Result Change Refusal)) → is_named planned ≡ true → takes_memory planned asked ≡ true
      takes None is = cc
      takes (Some made) is = is
