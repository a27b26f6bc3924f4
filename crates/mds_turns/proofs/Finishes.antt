-- The entry of an operation that is finished may follow, and what is done with it.
use Rattle.std.proofs.Common.{◌≡◌, ℕ, ◌≤◌, ◌<◌, List, [], ◌∷◌, Bool, true, false, cond, Option, None, Some, Result, Ok, Err, refl, sym, subst, ◌∙◌, arith}
use Rattle.std.proofs.lemmas.Bool.Decides.{nat_tests}
use Rattle.std.specs.Prelude.{not, ◌&&◌, ◌==◌, nat_lt}
use Rattle.snap_ids.specs.declared.id.SnapId.{SnapId}
use Rattle.plain_types.specs.declared.answer.Answer.TheVariants.{Refused}
use Rattle.plain_types.specs.declared.answer.Refusal.{Refusal}
use Rattle.plain_types.specs.declared.change.Change.{Change}
use Rattle.plain_types.specs.declared.change.Change.TheVariants as change
use Rattle.plain_types.specs.declared.entry.Entry.{Entry}
use Rattle.plain_types.specs.declared.entry.What.{What}
use Rattle.plain_types.specs.declared.entry.What.TheVariants as what
use Rattle.plain_types.specs.declared.request.Request.{Request}
use Rattle.plain_types.specs.declared.request.Request.TheVariants as request
use Rattle.plain_tree.specs.Line.{answer_to as answer_of}
use Rattle.plain_tree.specs.Request.{change_asked}
use Rattle.plain_journal.specs.Entries.{applied, change_in, state_after}
use Rattle.plain_journal.specs.Legal.{is_given}
use Rattle.plain_journal.specs.Table.{is_flush}
use Rattle.snap_table.specs.declared.op.TableOp.TheVariants.{Create, Destroy}
use Rattle.journal_table.specs.Calls.{IsRuled}
use Rattle.journal_table.specs.Stands.{operation}
use Rattle.meta_state.specs.Decisions.{CanHaveId, IsLegal, IsPut}
use Rattle.meta_state.specs.declared.decide.Decision.{Decision}
use Rattle.meta_state.specs.declared.decide.Decision.TheVariants.{Put, Say}
use Rattle.run_laws.specs.Prepared.{is_mkdir, is_rmdir}
use Rattle.step_table.specs.Acts.{Act, entry_for, AnswerIt, DeferFirst, MakeEffect}
use Rattle.step_table.specs.Background.{finish_with, roll_back}
use Rattle.step_table.specs.ServerState.{Asked, Server}
use Rattle.mds_state.specs.Fits.{IsFit}
use Rattle.mds_state.specs.Parts.{Parts}
use Rattle.mds_state.specs.Stands.{MayBuffer, MayFollow, StandsFor}
use Rattle.mds_changes.proofs.Asked.{IsAsked, asks, is_asked}
use Rattle.mds_turns.specs.Finishing.{comes_with, removes_another, Completes, Ends, IsPrepared, MayComplete}
use Rattle.mds_turns.proofs.Prepared.{is_one, making, removing}

-- only a `mkdir` comes to a snapshot, under the id that is given, and only an `rmdir` to a removal
makes_it : (id new : SnapId) (asked : Request) (dir : _) (name : _) → IsAsked id asked (change.Mksnap new dir name) → (new ≡ id) × (is_mkdir asked ≡ true)
makes_it id new (request.Mkdir path) dir name is = (is, refl)
makes_it id new (request.Rmdir path) dir name is = absurd is
makes_it id new asked dir name is = absurd is

removes_it : (id old : SnapId) (asked : Request) → IsAsked id asked (change.Rmsnap old) → is_rmdir asked ≡ true
removes_it id old (request.Rmdir path) is = refl
removes_it id old (request.Mkdir path) is = absurd is
removes_it id old asked is = absurd is

same_id : (now id : SnapId) → not (now.0 == id.0) ≡ false → now ≡ id
same_id now id is = let same : now.0 ≡ id.0 = grind (arith, nat_tests, is) in λ i. record { 0 = same i }

no_flush : (w : What) (made : Change) → change_in w ≡ Some made → is_flush w ≡ true → ⊥
no_flush (what.Settle ino follows upto size) made says flush = cc
no_flush (what.Release ino follows size) made says flush = cc
no_flush w made says flush = cc

no_zero : (client : ℕ) → 1 ≤ client → client ≡ 0 → ⊥
no_zero client from is = omega arith

both_true : (a b : Bool) → a ≡ true → b ≡ true → (a && b) ≡ true
both_true a b x y = rw (x, y) refl

module _ (p : Parts) (s : Server) (a : Asked) (id : SnapId) (stands : StandsFor p (Some a) s) (fit : IsFit s a) (made : Change) (entry : Entry) (is : Completes s a id made entry) where
  given_so : (w : What) → change_in w ≡ Some made → CanHaveId s.entries id w
  given_so (what.Mksnap new dir name) says =
      let same : made ≡ change.Mksnap new dir name = cc in
      let asked = subst (IsAsked id a.request) same (is_asked (state_after s.entries) a.client id a.request made is.comes) in
      let made_so = making s a id is.was (makes_it id new a.request dir name asked).1 in
      let above : applied s.entries < id.0 = (stands.written.table.awaited id (stands.written.table.outstanding ∙ made_so)).1 in
      let test : nat_lt (applied s.entries) id.0 ≡ true = grind (arith, nat_tests, above) in
      both_true (nat_lt (applied s.entries) id.0) (is_given id) test is.given
  given_so w says = tt

  ruled_so : (w : What) → change_in w ≡ Some made → removes_another w id ≡ false → IsRuled s.entries w
  ruled_so (what.Mksnap new dir name) says same_one =
      let same : made ≡ change.Mksnap new dir name = cc in
      let asked = subst (IsAsked id a.request) same (is_asked (state_after s.entries) a.client id a.request made is.comes) in
      let l = makes_it id new a.request dir name asked in
      subst (λ (i : SnapId). operation s.entries ≡ Some (Create i)) (sym l.0) (making s a id is.was l.1)
  ruled_so (what.Rmsnap now) says same_one =
      let same : made ≡ change.Rmsnap now = cc in
      let asked = subst (IsAsked id a.request) same (is_asked (state_after s.entries) a.client id a.request made is.comes) in
      subst (λ (i : SnapId). operation s.entries ≡ Some (Destroy i)) (sym (same_id now id same_one)) (removing s a id is.was (removes_it id now a.request asked))
  ruled_so (what.PrepareCreate new) says same_one = cc
  ruled_so (what.PrepareDestroy old) says same_one = cc
  ruled_so w says same_one = tt

  -- the entry is the request's, and may follow
  pub own_one : entry ≡ entry_for a entry.what
  own_one = λ i. record { client = is.written.of_client i; number = is.written.of_request i; what = entry.what }

  pub completes_follows : removes_another entry.what id ≡ false → MayFollow s.clients s.entries entry
  completes_follows same_one = record {
    legal = is.legal (given_so entry.what is.written.says);
    ruled = ruled_so entry.what is.written.says same_one;
    whose = (subst (λ (client : ℕ). client ≤ s.clients) (sym is.written.of_client) fit.upto, λ zero. absurd (no_zero a.client fit.from_one (subst (λ (client : ℕ). client ≡ 0) is.written.of_client zero)));
    rises = λ flush. absurd (no_flush entry.what made is.written.says flush);
  }

pub may_complete : (p : Parts) (a : Asked) (id : SnapId) (entry : Entry) → MayComplete p a id entry → removes_another entry.what id ≡ false → MayBuffer p entry
may_complete p a id entry may same_one = record {
  taken = Some a;
  state = may.state;
  stands = may.stands;
  may = completes_follows p may.state a id may.stands may.fit may.made entry may.completes same_one;
}

-- the acts of a change, if there is one
abbrev by_change : (Change → List Act) → Option Change → List Act
by_change list None = []
by_change list (Some made) = list made

abbrev pub made_at_once : Change → List Act
made_at_once made = MakeEffect made ∷ AnswerIt (answer_of made) ∷ []

by_kept : (kept : Bool) (xs ys : List Act) → not kept ≡ false → cond kept xs ys ≡ xs
by_kept true xs ys is = refl
by_kept false xs ys is = cc

by_other : (kept : Bool) (xs ys : List Act) → not kept ≡ true → cond kept xs ys ≡ ys
by_other true xs ys is = cc
by_other false xs ys is = refl

made_acts : (id : SnapId) (w : What) → removes_another w id ≡ false → by_change (finish_with id) (change_in w) ≡ by_change made_at_once (change_in w)
made_acts id (what.Rmsnap now) is = by_kept (now.0 == id.0) _ _ is
made_acts id w is = refl

-- it is made
pub finish_made : (id : SnapId) (w : What) (made : Change) → change_in w ≡ Some made → removes_another w id ≡ false → finish_with id made ≡ made_at_once made
finish_made id w made says is = subst (λ (o : Option Change). by_change (finish_with id) o ≡ by_change made_at_once o) says (made_acts id w is)

-- or given up, where it removes another snapshot
pub finish_other : (id : SnapId) (w : What) (made : Change) → change_in w ≡ Some made → removes_another w id ≡ true → finish_with id made ≡ roll_back id ∷ DeferFirst ∷ []
finish_other id (what.Rmsnap now) made says is =
    let same : change.Rmsnap now ≡ made = cc in
    subst (λ (m : Change). finish_with id m ≡ roll_back id ∷ DeferFirst ∷ []) same (by_other (now.0 == id.0) _ _ is)
finish_other id w made says is = cc

-- the decision on the operation's request is what it comes to
pub ends_so : (s : Server) (a : Asked) (decision : Decision) (client tid : ℕ) (id : SnapId) (asked : Request) → client ≡ a.client → tid ≡ a.tid → asked ≡ a.request → is_given id ≡ true → IsPrepared s a id
    → ((made : Change) → change_asked (state_after s.entries) client id asked ≡ Some (Ok made) → IsPut client tid made decision)
    → IsLegal s.entries id decision
    → ((refusal : Refusal) → change_asked (state_after s.entries) client id asked ≡ Some (Err refusal) → decision ≡ Say (Refused refusal))
    → Ends s a id decision
ends_so s a decision client tid id asked client_is tid_is asked_is given was written legal refused =
    by_coming decision (comes_with s a id) refl
    (λ made comes.
    subst (λ (t : ℕ). IsPut a.client t made decision) tid_is
    (subst (λ (x : ℕ). IsPut x tid made decision) client_is (written made (same ∙ comes))))
    legal
    (λ refusal comes. refused refusal (same ∙ comes))
  where
    same : change_asked (state_after s.entries) client id asked ≡ comes_with s a id
    same = λ i. change_asked (state_after s.entries) (client_is i) id (asked_is i)

    by_coming : (d : Decision) (o : Option (Result Change Refusal)) → comes_with s a id ≡ o
        → ((made : Change) → comes_with s a id ≡ Some (Ok made) → IsPut a.client a.tid made d)
        → IsLegal s.entries id d
        → ((refusal : Refusal) → comes_with s a id ≡ Some (Err refusal) → d ≡ Say (Refused refusal))
        → Ends s a id d
    by_coming d None comes put lawful no_change = absurd (asks (state_after s.entries) a.client id a.request (is_one s a id was) comes)
    by_coming (Put entry) (Some (Ok made)) comes put lawful no_change = (made, record { was = was; given = given; comes = comes; written = put made comes; legal = lawful })
    by_coming (Say answer) (Some (Ok made)) comes put lawful no_change = absurd (put made comes)
    by_coming (Put entry) (Some (Err refusal)) comes put lawful no_change = let same_one = no_change refusal comes in cc
    by_coming (Say answer) (Some (Err refusal)) comes put lawful no_change = let same_one = no_change refusal comes in let is_refused : answer ≡ Refused refusal = cc in (refusal, (comes, is_refused))
