-- What a story's replies are, beside what they are to be.
use Rattle.std.specs.Prelude.{ℕ, ◌+◌, ◌-◌, Bool, true, false, ◌&&◌, List, [], ◌∷◌, ◌++◌, map, filter, flat_map, filter_map, slice_get, Option, None, Some, option_map}
use Rattle.std.specs.List.{list_all}
use Rattle.snap_ids.specs.declared.id.SnapId.{SnapId}
use Rattle.plain_types.specs.declared.answer.Answer.{Answer}
use Rattle.plain_types.specs.declared.answer.Answer.TheVariants.{Pending, Gone}
use Rattle.plain_types.specs.declared.change.Effect.{Effect}
use Rattle.plain_types.specs.declared.entry.Entry.{Entry}
use Rattle.plain_types.specs.declared.history.Event.{Event}
use Rattle.plain_types.specs.declared.history.Replied.{Replied}
use Rattle.plain_types.specs.declared.request.Query.{Query}
use Rattle.plain_types.specs.declared.request.Query.TheVariants as query
use Rattle.plain_types.specs.declared.script.Line.{Line}
use Rattle.plain_types.specs.declared.script.Line.TheVariants as line
use Rattle.plain_types.specs.declared.script.Script.{Script}
use Rattle.plain_tree.specs.State.{start}
use Rattle.plain_tree.specs.Cut.{cut, keep}
use Rattle.plain_tree.specs.History.{effects}
use Rattle.step_table.specs.World.{journal, lines_of}
use Rattle.step_table.specs.Schedule.{Outcome, Through, outcome}
use Rattle.step_table.specs.Shown.{is_closed, all_succeed}
use Rattle.step_table.specs.Promise.{plain_answer}
use Rattle.step_table.specs.Example.{made_by}

-- the query of a line, as far as it is answered from the tree
abbrev pub query_of : Line → Option Query
query_of (line.List path) = Some (query.List path)
query_of (line.Stat path) = Some (query.Stat path)
query_of (line.Cat path) = Some (query.Cat path)
query_of (line.Realm path) = Some (query.Realm path)
query_of text = None

abbrev pub query_at : Option Line → Option Query
query_at None = None
query_at (Some text) = query_of text

-- the query that a reply answers
abbrev pub query_for : Script → Replied → Option Query
query_for s reply = query_at (slice_get (lines_of reply.client s.lines) (reply.line - 1))

-- an answer that stands in the place of the plain one
abbrev pub is_plain : Answer → Bool
is_plain (Pending client) = false
is_plain Gone = false
is_plain answer = true

-- the reply, and the plain answer to its query
abbrev pub beside : Answer → Option Answer → List (Answer × Answer)
beside answer None = []
beside answer (Some plain) = (answer, plain) ∷ []

abbrev pub pairs_in : Script → List Event → List Entry → ℕ → List Replied → List (Answer × Answer)
pairs_in s history entries event replies = flat_map (λ (r : Replied).
    beside r.answer (option_map (plain_answer 4096 [] history entries event r.entry) (query_for s r)))
    (filter (λ (r : Replied). is_plain r.answer) replies)

abbrev pub pairs_from : Script → List Event → List Entry → ℕ → List Event → List (Answer × Answer)
pairs_from s history entries number [] = []
pairs_from s history entries number (event ∷ later) =
    pairs_in s history entries number event.replies ++ pairs_from s history entries (number + 1) later

abbrev pub pairs : Script → Outcome → List (Answer × Answer)
pairs s (Through p) = pairs_from s p.history (journal p.world) 0 p.history
pairs s other = []

abbrev pub firsts : List (Answer × Answer) → List Answer
firsts all = map (λ (pair : Answer × Answer). pair.0) all

abbrev pub seconds : List (Answer × Answer) → List Answer
seconds all = map (λ (pair : Answer × Answer). pair.1) all

-- the replies of a story to its queries, and the plain answers to them
abbrev pub replied : Script → List Answer
replied s = firsts (pairs s (outcome 1000 s))

abbrev pub promised : Script → List Answer
promised s = seconds (pairs s (outcome 1000 s))

-- a snapshot's cut is closed, and none of the changes that it keeps is refused
abbrev pub is_good : List Event → List Entry → SnapId → Bool
is_good history entries id =
    is_closed entries history (cut history id) && all_succeed start (keep (cut history id) (effects history))

abbrev pub good : Outcome → Bool
good (Through p) = list_all (is_good p.history (journal p.world))
    (filter_map (λ (effect : Effect). made_by effect.change) (effects p.history))
good other = false

-- so are those of all snapshots of a story
abbrev pub cuts_are_good : Script → Bool
cuts_are_good s = good (outcome 1000 s)
