-- The replies of a legal history, one by one.
use Rattle.std.proofs.Common.{◌≡◌, ℕ, ◌+◌, List, [], ◌∷◌, length, Bool, true, false, cond, ◌++◌, Result, Ok, Err, refl, sym, ap, subst, arith}
use Rattle.std.specs.Prelude.{filter, is_some}
use Rattle.std.specs.List.{AllByRecursion}
use Rattle.std.proofs.lemmas.Bool.Decides.{nat_tests}
use Rattle.snap_ids.specs.declared.id.Ino.{Ino}
use Rattle.snap_ids.specs.declared.id.SnapId.{SnapId}
use Rattle.snap_ids.specs.Path.{Place, Live, Snaps, InSnap, place_of}
use Rattle.plain_types.specs.declared.answer.Refusal.{Refusal}
use Rattle.plain_types.specs.declared.entry.Entry.{Entry}
use Rattle.plain_types.specs.declared.history.Event.{Event}
use Rattle.plain_types.specs.declared.history.Replied.{Replied}
use Rattle.plain_types.specs.declared.script.Line.{Line}
use Rattle.plain_types.specs.declared.script.Line.TheVariants as line
use Rattle.plain_tree.specs.State.{State}
use Rattle.plain_tree.specs.Query.{InLive, found_at, answered, list_answer, stat_answer}
use Rattle.plain_tree.specs.Request.{and_then, tree_of, walk_live}
use Rattle.plain_tree.specs.History.{replies, at_entry}
use Rattle.plain_journal.specs.Realms.{shown}
use Rattle.direct_journal.specs.Cut.{tree}
use Rattle.direct_journal.specs.Journal.{journal_at}
use Rattle.direct_journal.specs.Served.{is_live_place, is_served}
use Rattle.direct_journal.specs.Legal.{Asked, one_more, numbered_after, Serves, Legal, change_made, line_answer, listed, IsSnapReply, IsFromSnap, IsFromLive, is_reply_to, HasReply, EachReply}
use Rattle.direct_journal.proofs.Numbered.{IsAfter, all_after, Answers, none_answers, all_further}

-- a reply to a line of a legal history
abbrev the_reply : List Event → ℕ → ℕ → ℕ → Bool → Line → Replied
the_reply history entries number client changed line = record {
  client = client;
  line = number;
  changed = changed;
  entry = entries;
  answer = line_answer (at_entry history entries) (tree history) (journal_at history entries) client line;
}

-- each reply to a line that is served has P
abbrev Each : List Event → (Line → Replied → Type 0) → Type 0
Each history P = (entries number client : ℕ) (changed : Bool) (line : Line) → is_served line ≡ true → P line (the_reply history entries number client changed line)

-- the replies answer the lines in their order
in_order : (history : List Event) (entries : ℕ) (lines : List Asked) (events : List Event) → Serves history entries lines events → Answers lines (replies events)
in_order history entries [] [] serves = tt
in_order history entries [] (event ∷ events) serves = absurd serves
in_order history entries (asked ∷ lines) [] serves = absurd serves
in_order history entries (asked ∷ lines) (event ∷ events) serves =
    rw serves.0.replies (refl, refl, in_order history (entries + length event.effects) lines events serves.1)

same_numbers : (asked : Asked) (reply : Replied) → reply.client ≡ asked.client → reply.line ≡ asked.number → is_reply_to asked reply ≡ true
same_numbers asked reply client number = grind (arith, nat_tests)

-- if each reply that is so has P, each line of a legal history has a reply with P
each : (history : List Event) (P : Line → Replied → Type 0) → Each history P → (entries : ℕ) (before : ℕ → ℕ) (lines : List (ℕ × Line)) (events : List Event) → Serves history entries (numbered_after before lines) events → AllByRecursion (HasReply P (replies events)) (numbered_after before lines)
each history P has entries before [] [] serves = tt
each history P has entries before [] (event ∷ events) serves = absurd serves
each history P has entries before (line ∷ lines) [] serves = absurd serves
each history P has entries before (line ∷ lines) (event ∷ events) serves =
    subst (λ (first : List Replied). AllByRecursion (HasReply P (first ++ replies events)) (asked ∷ later)) (sym serves.0.replies)
    (here, all_further P before line.0 reply (replies events) later refl refl numbers (each history P has (entries + length event.effects) (one_more line.0 before) lines events serves.1))
  where
    changed : Bool
    changed = is_some (change_made (at_entry history entries) (journal_at history entries) line.0 line.1)

    asked : Asked
    asked = record { client = line.0; number = before line.0 + 1; line = line.1 }

    later : List Asked
    later = numbered_after (one_more line.0 before) lines

    reply : Replied
    reply = the_reply history entries (before line.0 + 1) line.0 changed line.1

    numbers : AllByRecursion (IsAfter (one_more line.0 before)) later
    numbers = all_after (one_more line.0 before) lines

    none : filter (is_reply_to asked) (replies events) ≡ []
    none = none_answers before asked later (replies events) refl numbers (in_order history (entries + length event.effects) later events serves.1)

    here : HasReply P (reply ∷ replies events) asked
    here = record {
      reply = reply;
      one = rw (same_numbers asked reply refl refl) (ap (λ (more : List Replied). reply ∷ more) none);
      right = has entries (before line.0 + 1) line.0 changed line.1 serves.0.served;
    }

-- and there are as many replies as lines
as_many : (history : List Event) (entries : ℕ) (before : ℕ → ℕ) (lines : List (ℕ × Line)) (events : List Event) → Serves history entries (numbered_after before lines) events → length (replies events) ≡ length lines
as_many history entries before [] [] serves = refl
as_many history entries before [] (event ∷ events) serves = absurd serves
as_many history entries before (line ∷ lines) [] serves = absurd serves
as_many history entries before (line ∷ lines) (event ∷ events) serves =
    rw serves.0.replies (let rest = as_many history (entries + length event.effects) (one_more line.0 before) lines events serves.1 in omega arith)

each_reply : (history : List Event) (P : Line → Replied → Type 0) → Each history P → (lines : List (ℕ × Line)) → Legal history lines → EachReply P lines (replies history)
each_reply history P has lines legal = (each history P has 0 (λ client. 0) lines history legal, as_many history 0 (λ client. 0) lines history legal)

-- each reply to `ls` under `.snap` is the answer in the one tree of that snapshot
pub from_snap : (history : List Event) (lines : List (ℕ × Line)) → Legal history lines → EachReply (IsFromSnap history) lines (replies history)
from_snap history lines legal = each_reply history (IsFromSnap history) by_line lines legal
  where
    by_place : (entries number client : ℕ) (changed : Bool) (place : Place) → IsSnapReply history place (record { client = client; line = number; changed = changed; entry = entries; answer = listed (at_entry history entries) (tree history) (journal_at history entries) place })
    by_place entries number client changed (Live there) = tt
    by_place entries number client changed (Snaps dir) = refl
    by_place entries number client changed (InSnap dir name below) = refl

    by_line : Each history (IsFromSnap history)
    by_line entries number client changed (line.List path) served = by_place entries number client changed (place_of path)
    by_line entries number client changed line served = tt

-- an answer about the live tree has nothing of the snapshots' trees
lists_live : (live : State) (entries : List Entry) (some others : SnapId → State) (r : Result Ino Refusal) → answered (and_then r (λ ino. Ok (InLive ino))) (list_answer (shown entries) some live) ≡ answered (and_then r (λ ino. Ok (InLive ino))) (list_answer (shown entries) others live)
lists_live live entries some others (Ok ino) = refl
lists_live live entries some others (Err refusal) = refl

stats_live : (live : State) (some others : SnapId → State) (r : Result Ino Refusal) → answered (and_then r (λ ino. Ok (InLive ino))) (stat_answer some live) ≡ answered (and_then r (λ ino. Ok (InLive ino))) (stat_answer others live)
stats_live live some others (Ok ino) = refl
stats_live live some others (Err refusal) = refl

-- each other reply is the live answer
pub from_live : (history : List Event) (lines : List (ℕ × Line)) → Legal history lines → EachReply (IsFromLive history) lines (replies history)
from_live history lines legal = each_reply history (IsFromLive history) by_line lines legal
  where
    lists : (live : State) (entries : List Entry) (some others : SnapId → State) (place : Place) → cond (is_live_place place) false true ≡ false → listed live some entries place ≡ listed live others entries place
    lists live entries some others (Live path) other = lists_live live entries some others (walk_live (tree_of live) path)
    lists live entries some others (Snaps dir) other = cc
    lists live entries some others (InSnap dir name below) other = cc

    stats : (live : State) (entries : List Entry) (some others : SnapId → State) (place : Place) → is_live_place place ≡ true → answered (found_at (shown entries) some live place) (stat_answer some live) ≡ answered (found_at (shown entries) others live place) (stat_answer others live)
    stats live entries some others (Live path) is = stats_live live some others (walk_live (tree_of live) path)
    stats live entries some others (Snaps dir) is = cc
    stats live entries some others (InSnap dir name below) is = cc

    by_line : Each history (IsFromLive history)
    by_line entries number client changed (line.List path) served other trees = lists (at_entry history entries) (journal_at history entries) (tree history) trees (place_of path) other
    by_line entries number client changed (line.Stat path) served other trees = stats (at_entry history entries) (journal_at history entries) (tree history) trees (place_of path) served
    by_line entries number client changed line served other trees = refl
