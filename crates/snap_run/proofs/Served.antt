-- The server's event of a line is what the entries so far ask for, and what the server then has stands for one entry more.
use Rattle.std.proofs.Common.{◌≡◌, ℕ, zero, suc, ◌+◌, ◌<◌, ◌≤◌, List, [], ◌∷◌, ◌++◌, length, Bool, true, false, cond, Option, None, Some, Result, Ok, Err, get_or, take, refl, sym, ap, ◌∙◌, subst, arith, append_assoc, length-append}
use Rattle.std.proofs.lemmas.List.{append-nil, length-take-le, take_more, take_all}
use Rattle.std.proofs.lemmas.Bool.Decides.{nat_tests}
use Rattle.std.specs.Prelude.{◌&&◌, nat_lt, is_some, IfOk}
use Rattle.snap_ids.specs.declared.id.Ino.{Ino}
use Rattle.snap_ids.specs.declared.id.SnapId.{SnapId}
use Rattle.snap_ids.specs.Path.{Place, Live, Snaps, InSnap, place_of}
use Rattle.plain_types.specs.declared.answer.Answer.{Answer}
use Rattle.plain_types.specs.declared.answer.Answer.TheVariants.{Refused}
use Rattle.plain_types.specs.declared.answer.Refusal.{Refusal}
use Rattle.plain_types.specs.declared.change.Change.{Change}
use Rattle.plain_types.specs.declared.change.Change.TheVariants as change
use Rattle.plain_types.specs.declared.entry.Entry.{Entry}
use Rattle.plain_types.specs.declared.entry.What.{What}
use Rattle.plain_types.specs.declared.entry.What.TheVariants as what
use Rattle.plain_types.specs.declared.history.Event.{Event}
use Rattle.plain_types.specs.declared.request.Query.{Query}
use Rattle.plain_types.specs.declared.request.Query.TheVariants as query
use Rattle.plain_types.specs.declared.request.Request.{Request}
use Rattle.plain_types.specs.declared.request.Request.TheVariants as request
use Rattle.plain_types.specs.declared.script.Line.{Line}
use Rattle.plain_types.specs.declared.script.Line.TheVariants as line
use Rattle.plain_tree.specs.Line.{request_of, server_change, change_answer, answer_to as answer_to_change}
use Rattle.plain_tree.specs.Query.{Found, InLive, found_at}
use Rattle.plain_tree.specs.Request.{change_asked, and_then, tree_of, walk_live}
use Rattle.plain_journal.specs.Answers.{found, answer_to}
use Rattle.plain_journal.specs.Entries.{change_in, state_after, tree_at, applied}
use Rattle.plain_journal.specs.Legal.{is_given, is_legal}
use Rattle.plain_journal.specs.Realms.{shown}
use Rattle.direct_journal.specs.Direct.{comes_to, told, answer_after, IsServedBy, ServesAfter, OfOneClient}
use Rattle.direct_journal.specs.Journal.{what_of, entry_of, entries_in, journal_of, next_snap}
use Rattle.direct_journal.specs.Legal.{Asked, one_more, numbered_after, numbered, success, outcome_answer, effects_of}
use Rattle.direct_journal.specs.Served.{is_live_place, is_served}
use Rattle.direct_journal.proofs.More.{serves_push, journal_push}
use Rattle.meta_state.specs.declared.decide.Decision.{Decision}
use Rattle.meta_state.specs.declared.decide.Decision.TheVariants.{Put, Say}
use Rattle.meta_state.specs.Decisions.{IsWritten, IsPut, IsAnswer, CanHaveId, is_free_id, IsLegal, query_of}
use Rattle.meta_state.specs.Queries.{IsFoundPast, IsPast}
use Rattle.meta_state.specs.Stands.{Tables, StandsFor}
use Rattle.snap_run.specs.Event.{event_of, made_by, said_by}

-- what is written down of a change is what said it
said_again : (said : What) (made : Change) → change_in said ≡ Some made → what_of made ≡ Some said
said_again (what.Mkdir dir name ino) made is = cc
said_again (what.Create dir name ino mode) made is = cc
said_again (what.Link ino dir name) made is = cc
said_again (what.Unlink dir name) made is = cc
said_again (what.Rmdir dir name) made is = cc
said_again (what.Rename dir name to_dir to_name) made is = cc
said_again (what.Chmod ino mode) made is = cc
said_again (what.OpenFile handle ino writable) made is = cc
said_again (what.CloseFile handle) made is = cc
said_again (what.Mksnap id dir name) made is = cc
said_again (what.Rmsnap id) made is = cc
said_again other made is = cc

-- what is asked of a live path asks for no size in a snapshot
live_is_past : (entries : List Entry) (place : Place) → is_live_place place ≡ true → IsFoundPast entries (found_at (shown entries) (tree_at entries) (state_after entries) place)
live_is_past entries (Live path) live = by_walk (walk_live (tree_of (state_after entries)) path)
  where
    by_walk : (end : Result Ino Refusal) → IsFoundPast entries (and_then end (λ ino. Ok (InLive ino)))
    by_walk (Ok ino) = tt
    by_walk (Err refusal) = tt
live_is_past entries (Snaps dir) live = cc
live_is_past entries (InSnap dir name below) live = cc

-- the clauses of a decision on what a client is asked after the entries
pub record IsDecided (entries : List Entry) (client number : ℕ) (id : SnapId) (asked : Request) (decision : Decision) : Type 0 where
  pub written : (made : Change) → change_asked (state_after entries) client id asked ≡ Some (Ok made) → IsPut client number made decision
  pub refused : (refusal : Refusal) → change_asked (state_after entries) client id asked ≡ Some (Err refusal) → decision ≡ Say (Refused refusal)
  pub answered : change_asked (state_after entries) client id asked ≡ None → IsAnswer entries (query_of asked) decision
  pub legal : IsLegal entries id decision

module _ (entries : List Entry) (client number : ℕ) (id : SnapId) (asked : Request) (decision : Decision) (decided : IsDecided entries client number id asked decision) where
  abbrev planned : Option (Result Change Refusal)
  planned = change_asked (state_after entries) client id asked

  -- the change that is made is what the request comes to
  made_as : (plan : Option (Result Change Refusal)) → planned ≡ plan → made_by decision ≡ success plan
  made_as (Some (Ok made)) is = by_decision decision (decided.written made is)
    where
      by_decision : (d : Decision) → IsPut client number made d → made_by d ≡ Some made
      by_decision (Put entry) put = put.says
      by_decision (Say answer) put = absurd put
  made_as (Some (Err refusal)) is = ap made_by (decided.refused refusal is)
  made_as None is = by_decision decision (decided.answered is)
    where
      by_decision : (d : Decision) → IsAnswer entries (query_of asked) d → made_by d ≡ None
      by_decision (Put entry) answer = absurd answer
      by_decision (Say answer) known = refl

  -- so is what its client is told of it
  said_as : (plan : Result Change Refusal) → planned ≡ Some plan → said_by decision ≡ change_answer plan
  said_as (Ok made) is = by_decision decision (decided.written made is)
    where
      by_decision : (d : Decision) → IsPut client number made d → said_by d ≡ answer_to_change made
      by_decision (Put entry) put = rw (put.says) refl
      by_decision (Say answer) put = absurd put
  said_as (Err refusal) is = ap said_by (decided.refused refusal is)

  -- a query is answered as it is after the entries
  queried_as : (wanted : Query) → planned ≡ None → query_of asked ≡ Some wanted → IsPast entries wanted → said_by decision ≡ told (answer_to entries wanted)
  queried_as wanted is asks past = by_decision decision (subst (λ (q : Option Query). IsAnswer entries q decision) asks (decided.answered is))
    where
      by_decision : (d : Decision) → IsAnswer entries (Some wanted) d → said_by d ≡ told (answer_to entries wanted)
      by_decision (Put entry) answer = absurd answer
      by_decision (Say answer) known = ap told (known past)

some_is : {A : Type 0} (a b : A) → Some a ≡ Some b → b ≡ a
some_is a b is = cc

module _ (entries : List Entry) (client number : ℕ) (decision : Decision) where
  abbrev Decided : Request → Type 0
  Decided asked = IsDecided entries client number (next_snap entries) asked decision

  said_of : (asked : Request) (plan : Result Change Refusal) → Decided asked → change_asked (state_after entries) client (next_snap entries) asked ≡ Some plan → said_by decision ≡ change_answer plan
  said_of asked plan decided is = said_as entries client number (next_snap entries) asked decision decided plan is

  queried : (asked : Request) (wanted : Query) → Decided asked → change_asked (state_after entries) client (next_snap entries) asked ≡ None → query_of asked ≡ Some wanted → IsPast entries wanted → said_by decision ≡ told (answer_to entries wanted)
  queried asked wanted decided is asks past = queried_as entries client number (next_snap entries) asked decision decided wanted is asks past

  -- a line's change is what the entries ask for
  pub made_is : (line : Line) (asked : Request) → request_of line ≡ Some asked → Decided asked → made_by decision ≡ success (comes_to entries client line)
  made_is line asked is decided =
      made_as entries client number (next_snap entries) asked decision decided (change_asked (state_after entries) client (next_snap entries) asked) refl
      ∙ ap (λ (o : Option Request). success (server_change (state_after entries) client (next_snap entries) o)) (sym is)

  -- and what its client is told is what they answer
  pub said_is : (line : Line) (asked : Request) → request_of line ≡ Some asked → is_served line ≡ true → Decided asked → said_by decision ≡ answer_after entries client line
  said_is (line.Mkdir path) asked is served decided =
      said_of (request.Mkdir path) _ (subst Decided (some_is (request.Mkdir path) asked is) decided) refl
  said_is (line.Rmdir path) asked is served decided =
      said_of (request.Rmdir path) _ (subst Decided (some_is (request.Rmdir path) asked is) decided) refl
  said_is (line.Create path mode) asked is served decided =
      said_of (request.Create path mode) _ (subst Decided (some_is (request.Create path mode) asked is) decided) refl
  said_is (line.Unlink path) asked is served decided =
      said_of (request.Unlink path) _ (subst Decided (some_is (request.Unlink path) asked is) decided) refl
  said_is (line.Link path target) asked is served decided =
      said_of (request.Link path target) _ (subst Decided (some_is (request.Link path target) asked is) decided) refl
  said_is (line.Rename path target) asked is served decided =
      said_of (request.Rename path target) _ (subst Decided (some_is (request.Rename path target) asked is) decided) refl
  said_is (line.Chmod path mode) asked is served decided =
      said_of (request.Chmod path mode) _ (subst Decided (some_is (request.Chmod path mode) asked is) decided) refl
  said_is (line.Stat path) asked is served decided =
      queried (request.Stat path) (query.Stat path) (subst Decided (some_is (request.Stat path) asked is) decided) refl refl
      (live_is_past entries (place_of path) served)
  said_is (line.List path) asked is served decided =
      queried (request.List path) (query.List path) (subst Decided (some_is (request.List path) asked is) decided) refl refl tt
  said_is (line.Realm path) asked is served decided =
      queried (request.Realm path) (query.Realm path) (subst Decided (some_is (request.Realm path) asked is) decided) refl refl tt
  said_is other asked is served decided = cc

  -- so the event of the decision serves the line
  pub served_by : (line : Line) (asked : Request) (event : Event) (count : ℕ) → request_of line ≡ Some asked → is_served line ≡ true → Decided asked → count ≡ length entries → event ≡ event_of client number count (made_by decision) (said_by decision) → IsServedBy entries (record { client = client; number = number; line = line }) event
  served_by line asked event count is served decided counted same =
      let told_so : event ≡ event_of client number (length entries) (success (comes_to entries client line)) (answer_after entries client line) = same ∙ (λ i. event_of client number (counted i) (made_is line asked is decided i) (said_is line asked is served decided i)) in
      subst (IsServedBy entries (record { client = client; number = number; line = line })) (sym told_so) (record {
        served = served;
        node = refl;
        step = refl;
        taken = refl;
        sent = refl;
        effects = refl;
        replies = refl;
      })

  -- a decision to write an entry down is for the change that the entry says
  written_so : (asked : Request) (entry : Entry) → Decided asked → decision ≡ Put entry → (made : Change) × IsWritten client number made entry
  written_so asked entry decided is = by_plan (change_asked (state_after entries) client (next_snap entries) asked) refl
    where
      by_plan : (plan : Option (Result Change Refusal)) → change_asked (state_after entries) client (next_snap entries) asked ≡ plan → (made : Change) × IsWritten client number made entry
      by_plan (Some (Ok made)) plan = (made, subst (IsPut client number made) is (decided.written made plan))
      by_plan (Some (Err refusal)) plan = let other = decided.refused refusal plan in cc
      by_plan None plan = absurd (subst (IsAnswer entries (query_of asked)) is (decided.answered plan))

  -- and its event writes that entry down
  pub entry_is : (asked : Request) (entry : Entry) (count : ℕ) (event : Event) → Decided asked → decision ≡ Put entry → event ≡ event_of client number count (made_by decision) (said_by decision) → entries_in event ≡ entry ∷ []
  entry_is asked entry count event decided is same =
      let so = written_so asked entry decided is in
      let made_so : made_by decision ≡ Some so.0 = ap made_by is ∙ so.1.says in
      let kept : what_of so.0 ≡ Some entry.what = said_again entry.what so.0 so.1.says in
      ap entries_in same
      ∙ ap (λ (o : Option Change). entries_in (event_of client number count o (said_by decision))) made_so
      ∙ ap (λ (o : Option What). entry_of client number o ++ []) kept
      ∙ (λ i. record { client = sym so.1.of_client i; number = sym so.1.of_request i; what = entry.what } ∷ [])

  -- another one's writes nothing down
  pub no_entry : (answer : Answer) (count : ℕ) (event : Event) → decision ≡ Say answer → event ≡ event_of client number count (made_by decision) (said_by decision) → entries_in event ≡ []
  no_entry answer count event is same =
      ap entries_in same ∙ ap (λ (d : Decision). entries_in (event_of client number count (made_by d) (said_by decision))) is

  -- what is written down may follow
  pub legal_is : (asked : Request) (entry : Entry) → is_given (next_snap entries) ≡ true → Decided asked → decision ≡ Put entry → is_legal entries entry ≡ true
  legal_is asked entry given decided is = subst (IsLegal entries (next_snap entries)) is decided.legal (by_what entry.what)
    where
      free : is_free_id entries (next_snap entries) ≡ true
      free = let above : nat_lt (applied entries) (applied entries + 1) ≡ true = grind (arith, nat_tests) in rw (above, given) refl

      by_what : (said : What) → CanHaveId entries (next_snap entries) said
      by_what (what.Mksnap id dir name) = free
      by_what other = tt

-- the lines of client 1 have rising numbers, from the next one on
abbrev pub rising : ℕ → List (ℕ × Line) → List Asked
rising n [] = []
rising n (line ∷ lines) = record { client = 1; number = n + 1; line = line.1 } ∷ rising (n + 1) lines

rising-append : (n : ℕ) (lines : List (ℕ × Line)) (line : ℕ × Line) → rising n (lines ++ line ∷ []) ≡ rising n lines ++ record { client = 1; number = n + length lines + 1; line = line.1 } ∷ []
rising-append n [] line = (λ i. record { client = 1; number = add_zero i + 1; line = line.1 } ∷ [])
  where
    add_zero : n ≡ n + 0
    add_zero = omega arith
rising-append n (first ∷ lines) line =
    ap (λ (more : List Asked). record { client = 1; number = n + 1; line = first.1 } ∷ more)
    (rising-append (n + 1) lines line ∙ (λ i. rising (n + 1) lines ++ record { client = 1; number = same i + 1; line = line.1 } ∷ []))
  where
    same : n + 1 + length lines ≡ n + length (first ∷ lines)
    same = omega arith

pub numbered_rising : (before : ℕ → ℕ) (n : ℕ) (lines : List (ℕ × Line)) → before 1 ≡ n → OfOneClient lines → numbered_after before lines ≡ rising n lines
numbered_rising before n [] is of_one = refl
numbered_rising before n (line ∷ lines) is of_one =
    (λ i. record { client = of_one.0 i; number = first i + 1; line = line.1 } ∷ numbered_after (one_more line.0 before) lines)
    ∙ ap (λ (more : List Asked). record { client = 1; number = n + 1; line = line.1 } ∷ more) (numbered_rising (one_more line.0 before) (n + 1) lines next of_one.1)
  where
    first : before line.0 ≡ n
    first = ap before of_one.0 ∙ is

    next : one_more line.0 before 1 ≡ n + 1
    next = rw of_one.0 (ap (λ (m : ℕ). m + 1) is)

-- the first lines and one more
pub rising_more : (lines : List (ℕ × Line)) (i number : ℕ) (line : ℕ × Line) → i < length lines → line ≡ get_or lines i line → number ≡ i + 1 → line.0 ≡ 1 → rising 0 (take (i + 1) lines) ≡ rising 0 (take i lines) ++ record { client = line.0; number = number; line = line.1 } ∷ []
rising_more lines i number line within is same of_one =
    let count : number ≡ 0 + length (take i lines) + 1 = omega (arith, same, length-take-le i lines (omega arith)) in
    let asked_is : ◌≡◌ {A = Asked} (record { client = line.0; number = number; line = line.1 }) (record { client = 1; number = 0 + length (take i lines) + 1; line = line.1 }) = (λ j. record { client = of_one j; number = count j; line = line.1 }) in
    let more : take (i + 1) lines ≡ take i lines ++ line ∷ [] = take_more lines i line within ∙ ap (λ (l : ℕ × Line). take i lines ++ l ∷ []) (sym is) in
    ap (rising 0) more ∙ rising-append 0 (take i lines) line ∙ ap (λ (a : Asked). rising 0 (take i lines) ++ a ∷ []) (sym asked_is)

-- all lines
pub all_served : (lines : List (ℕ × Line)) (events : List Event) (i : ℕ) → OfOneClient lines → length lines ≤ i → ServesAfter [] (rising 0 (take i lines)) events → ServesAfter [] (numbered lines) events
all_served lines events i of_one all serves =
    subst (λ (l : List Asked). ServesAfter [] l events) (ap (rising 0) (take_all i lines all) ∙ sym (numbered_rising (λ client. 0) 0 lines refl of_one)) serves

-- one more line is served, and the state stands for its entry too
pub next_step : (new : Tables) (lines : List (ℕ × Line)) (events after : List Event) (i number : ℕ) (line : ℕ × Line) (event : Event) → i < length lines → line ≡ get_or lines i line → number ≡ i + 1 → line.0 ≡ 1 → ServesAfter [] (rising 0 (take i lines)) events → IsServedBy (journal_of events) (record { client = line.0; number = number; line = line.1 }) event → StandsFor new (journal_of events ++ entries_in event) → after ≡ events ++ event ∷ [] → record { stands : StandsFor new (journal_of after); serves : ServesAfter [] (rising 0 (take (i + 1) lines)) after }
next_step new lines events after i number line event within is same of_one serves served stands pushed = record {
  stands = subst (StandsFor new) (sym (ap journal_of pushed ∙ journal_push events event)) stands;
  serves = rw (pushed, rising_more lines i number line within is same of_one) (serves_push [] (rising 0 (take i lines)) events (record { client = line.0; number = number; line = line.1 }) event serves served);
}

-- what follows from what an answer holds
pub map_ok : {A E : Type 0} (r : Result A E) (P Q : A → Type 0) → ((x : A) → P x → Q x) → IfOk r P → IfOk r Q
map_ok (Ok x) P Q f p = f x p
map_ok (Err error) P Q f p = tt
