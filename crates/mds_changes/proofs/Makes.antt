-- What a request for a change comes to, and which acts that is.
use Rattle.std.proofs.Common.{◌≡◌, ℕ, ◌∙◌, Bool, true, false, List, [], ◌∷◌, cond, Option, None, Some, Result, Ok, Err, refl, sym, ap, subst}
use Rattle.std.specs.List.{list_any}
use Rattle.snap_ids.specs.declared.id.SnapId.{SnapId}
use Rattle.plain_types.specs.declared.answer.Answer.{Answer}
use Rattle.plain_types.specs.declared.answer.Answer.TheVariants.{Refused}
use Rattle.plain_types.specs.declared.answer.Refusal.{Refusal}
use Rattle.plain_types.specs.declared.change.Change.{Change}
use Rattle.plain_types.specs.declared.change.Change.TheVariants as change
use Rattle.plain_types.specs.declared.entry.Entry.{Entry}
use Rattle.plain_types.specs.declared.entry.What.{What}
use Rattle.plain_types.specs.declared.entry.What.TheVariants as what
use Rattle.plain_types.specs.declared.request.Request.{Request}
use Rattle.plain_types.specs.declared.request.Request.TheVariants as request
use Rattle.plain_tree.specs.Line.{answer_to as answer_of}
use Rattle.plain_tree.specs.Request.{change_asked}
use Rattle.plain_journal.specs.Entries.{change_in, state_after}
use Rattle.meta_state.specs.Decisions.{IsLegal, IsPut}
use Rattle.meta_state.specs.declared.decide.Decision.{Decision}
use Rattle.meta_state.specs.declared.decide.Decision.TheVariants.{Put, Say}
use Rattle.step_table.specs.Acts.{Act, act, acts, entry_for, AnswerIt, Defer, MakeEffect, Prepare}
use Rattle.step_table.specs.Requests.{decided, is_busy, make, next_id, opens, prepare, treat_new}
use Rattle.step_table.specs.ServerState.{Asked, Server}
use Rattle.mds_state.specs.Acted.{Acted, Stands}
use Rattle.mds_state.specs.Fits.{IsFit, MayTreat}
use Rattle.mds_state.specs.Parts.{Parts}
use Rattle.mds_state.specs.Stands.{IsState, MayFollow, StandsFor}
use Rattle.mds_changes.specs.Changes.{is_change}
use Rattle.mds_changes.specs.Decided.{comes_to, prepared_in, IsDecided, IsMade, MayDecide}
use Rattle.mds_changes.proofs.Asked.{asks}

-- the acts of a change, if there is one
abbrev by_change : (Change → List Act) → Option Change → List Act
by_change list None = []
by_change list (Some made) = list made

-- a change of the tree is made and answered
abbrev pub made_at_once : Change → List Act
made_at_once made = MakeEffect made ∷ AnswerIt (answer_of made) ∷ []

tree_acts : (alone : Bool) (s : Server) (w : What) → prepared_in w ≡ None → by_change (make alone s) (change_in w) ≡ by_change made_at_once (change_in w)
tree_acts alone s (what.Mksnap id dir name) none = cc
tree_acts alone s (what.Rmsnap id) none = cc
tree_acts alone s w none = refl

pub tree_made : (alone : Bool) (s : Server) (w : What) (made : Change) → change_in w ≡ Some made → prepared_in w ≡ None → make alone s made ≡ made_at_once made
tree_made alone s w made says none = subst (λ (o : Option Change). by_change (make alone s) o ≡ by_change made_at_once o) says (tree_acts alone s w none)

-- one of the table of snapshots is prepared
pub table_made : (alone : Bool) (s : Server) (w said : What) (made : Change) → change_in w ≡ Some made → prepared_in w ≡ Some said → make alone s made ≡ prepare alone s said
table_made alone s (what.Mksnap id dir name) said made says is =
    let made_is : change.Mksnap id dir name ≡ made = cc in
    let said_is : what.PrepareCreate id ≡ said = cc in
    subst (λ (m : Change). make alone s m ≡ prepare alone s said) made_is (ap (prepare alone s) said_is)
table_made alone s (what.Rmsnap id) said made says is =
    let made_is : change.Rmsnap id ≡ made = cc in
    let said_is : what.PrepareDestroy id ≡ said = cc in
    subst (λ (m : Change). make alone s m ≡ prepare alone s said) made_is (ap (prepare alone s) said_is)
table_made alone s w said made says is = cc

-- what is prepared or deferred
pub prepares : (new : Parts) (alone : Bool) (s : Server) (said : What) (busy : Bool) → is_busy alone s ≡ busy → StandsFor new None (acts s (cond busy (Defer ∷ []) (Prepare said ∷ []))) → StandsFor new None (acts s (prepare alone s said))
prepares new alone s said busy is stands = subst (λ (b : Bool). StandsFor new None (acts s (cond b (Defer ∷ []) (Prepare said ∷ [])))) (sym is) stands

-- and what the code has prepared by an entry of its own
pub prepares_by : (new : Parts) (s : Server) (a : Asked) (said : What) (e : Entry) → e ≡ entry_for a said → (MayFollow s.clients s.entries e → e ≡ entry_for a e.what → StandsFor new None (act s (Prepare e.what))) → MayFollow s.clients s.entries (entry_for a said) → StandsFor new None (act s (Prepare said))
prepares_by new s a said e is all may = let made = subst (λ (x : Entry). MayFollow s.clients s.entries x → x ≡ entry_for a x.what → StandsFor new None (act s (Prepare x.what))) is all in made may refl

-- the decision on a request for a change is what it comes to
pub decides : (s : Server) (a : Asked) (decision : Decision) → is_change a.request ≡ true
    → ((made : Change) → comes_to s a ≡ Some (Ok made) → IsPut a.client a.tid made decision)
    → IsLegal s.entries (next_id s) decision
    → ((refusal : Refusal) → comes_to s a ≡ Some (Err refusal) → decision ≡ Say (Refused refusal))
    → IsDecided s a decision
decides s a decision is written legal refused = by_coming decision (comes_to s a) refl written legal refused
  where
    by_coming : (d : Decision) (o : Option (Result Change Refusal)) → comes_to s a ≡ o
        → ((made : Change) → comes_to s a ≡ Some (Ok made) → IsPut a.client a.tid made d)
        → IsLegal s.entries (next_id s) d
        → ((refusal : Refusal) → comes_to s a ≡ Some (Err refusal) → d ≡ Say (Refused refusal))
        → IsDecided s a d
    by_coming d None comes put lawful no_change = absurd (asks (state_after s.entries) a.client (next_id s) a.request is comes)
    by_coming (Put entry) (Some (Ok made)) comes put lawful no_change = (made, record { comes = comes; written = put made comes; legal = lawful })
    by_coming (Say answer) (Some (Ok made)) comes put lawful no_change = absurd (put made comes)
    by_coming (Put entry) (Some (Err refusal)) comes put lawful no_change = let same = no_change refusal comes in cc
    by_coming (Say answer) (Some (Err refusal)) comes put lawful no_change = let same = no_change refusal comes in let is_refused : answer ≡ Refused refusal = cc in (refusal, (comes, is_refused))

-- the same as the code asks for it
pub decided_so : (s : Server) (a : Asked) (decision : Decision) (client tid : ℕ) (id : SnapId) (asked : Request) → client ≡ a.client → tid ≡ a.tid → id ≡ next_id s → asked ≡ a.request → is_change a.request ≡ true
    → ((made : Change) → change_asked (state_after s.entries) client id asked ≡ Some (Ok made) → IsPut client tid made decision)
    → IsLegal s.entries id decision
    → ((refusal : Refusal) → change_asked (state_after s.entries) client id asked ≡ Some (Err refusal) → decision ≡ Say (Refused refusal))
    → IsDecided s a decision
decided_so s a decision client tid id asked client_is tid_is id_is asked_is is written legal refused = decides s a decision is
    (λ made comes.
    subst (λ (t : ℕ). IsPut a.client t made decision) tid_is
    (subst (λ (x : ℕ). IsPut x tid made decision) client_is (written made (same ∙ comes))))
    (subst (λ (i : SnapId). IsLegal s.entries i decision) id_is legal)
    (λ refusal comes. refused refusal (same ∙ comes))
  where
    same : change_asked (state_after s.entries) client id asked ≡ comes_to s a
    same = λ i. change_asked (state_after s.entries) (client_is i) (id_is i) (asked_is i)

-- it opens nothing
prepare_opens : (alone : Bool) (s : Server) (said : What) → list_any opens (prepare alone s said) ≡ false
prepare_opens alone s said = by_busy (is_busy alone s)
  where
    by_busy : (b : Bool) → list_any opens (cond b (Defer ∷ []) (Prepare said ∷ [])) ≡ false
    by_busy true = refl
    by_busy false = refl

make_opens : (alone : Bool) (s : Server) (made : Change) → list_any opens (make alone s made) ≡ false
make_opens alone s (change.Mksnap id dir name) = prepare_opens alone s (what.PrepareCreate id)
make_opens alone s (change.Rmsnap id) = prepare_opens alone s (what.PrepareDestroy id)
make_opens alone s made = refl

pub opens_nothing : (alone : Bool) (s : Server) (o : Option (Result Change Refusal)) → list_any opens (decided alone s o) ≡ false
opens_nothing alone s None = refl
opens_nothing alone s (Some (Err refusal)) = refl
opens_nothing alone s (Some (Ok made)) = make_opens alone s made

-- a request for a change is treated so
pub treats : (alone : Bool) (s : Server) (a : Asked) (asked : Request) → is_change asked ≡ true → decided alone s (change_asked (state_after s.entries) a.client (next_id s) asked) ≡ treat_new alone s a asked
treats alone s a (request.Cat path) is = cc
treats alone s a (request.Stat path) is = cc
treats alone s a (request.List path) is = cc
treats alone s a (request.Realm path) is = cc
treats alone s a (request.Clones path index) is = cc
treats alone s a (request.Cap ino mode) is = cc
treats alone s a (request.Barrier number) is = cc
treats alone s a asked is = refl

-- where nothing is in hand after it
stands_so : (p : Parts) (s : Server) → StandsFor p None s → Stands p s
stands_so p s stands = subst (λ (taken : Option Asked). StandsFor p taken s) (sym stands.hand) stands

pub acted : (p : Parts) (alone : Bool) (s : Server) (a : Asked) → is_change a.request ≡ true → StandsFor p None (acts s (decided alone s (comes_to s a))) → Acted p s (treat_new alone s a a.request) false
acted p alone s a is stands = subst (λ (list : List Act). Acted p s list false) (treats alone s a a.request is)
    (stands_so p (acts s (decided alone s (comes_to s a))) stands, sym (opens_nothing alone s (comes_to s a)))

-- the request in hand may be treated
pub is_state : (p : Parts) (a : Asked) → MayTreat p a → IsState p
is_state p a may = record { taken = Some a; state = may.state; stands = may.stands }
