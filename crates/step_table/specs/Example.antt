-- Words for small stories of the whole protocol: a script with its schedule, and what its lines are answered.
use Rattle.std.specs.Prelude.{ℕ, ◌+◌, Bool, true, false, ◌&&◌, ◌==◌, List, [], ◌∷◌, ◌++◌, filter, filter_map, flat_map, find, length, map, codes, Option, None, Some, option_map}
use Rattle.snap_ids.specs.declared.id.SnapId.{SnapId}
use Rattle.snap_ids.specs.declared.values.Kind.TheVariants.{Dir, File}
use Rattle.plain_types.specs.declared.answer.Answer.{Answer}
use Rattle.plain_types.specs.declared.answer.Answer.TheVariants.{Done, Snap, Opened, Listed, FileBytes, ClonesAre}
use Rattle.plain_types.specs.declared.change.Change.{Change}
use Rattle.plain_types.specs.declared.change.Change.TheVariants.{Mksnap}
use Rattle.plain_types.specs.declared.change.Effect.{Effect}
use Rattle.plain_types.specs.declared.history.Replied.{Replied}
use Rattle.plain_types.specs.declared.history.Step.{Step}
use Rattle.plain_types.specs.declared.history.Step.TheVariants.{Op, Commit, Tend, ServerTakes}
use Rattle.plain_types.specs.declared.script.Line.{Line}
use Rattle.plain_types.specs.declared.script.Line.TheVariants.{Mkdir, Create, Open, Write}
use Rattle.plain_types.specs.declared.script.Planned.{Planned}
use Rattle.plain_types.specs.declared.script.Planned.TheVariants.{Make}
use Rattle.plain_types.specs.declared.script.Script.{Script}
use Rattle.plain_tree.specs.History.{replies, effects}
use Rattle.step_table.specs.Schedule.{Outcome, Through, Refused, Unfinished, Unknown, outcome, history_of}

-- schedule lines with their numbers
abbrev pub numbered : ℕ → List Planned → List (ℕ × Planned)
numbered n [] = []
numbered n (item ∷ items) = (n, item) ∷ numbered (n + 1) items

-- a script of so many clients
abbrev pub script : ℕ → List (ℕ × Line) → List Planned → Script
script clients lines items =
    record { clients = clients; object = None; restarts = []; lines = lines; schedule = numbered 1 items; input_lines = 0 }

-- the lines of one client
abbrev pub by : ℕ → List Line → List (ℕ × Line)
by client lines = map (λ (text : Line). (client, text)) lines

abbrev pub steps : List Step → List Planned
steps made = map (λ (step : Step). Make step) made

-- a reply that says more than that a line was carried out
abbrev pub is_news : Answer → Bool
is_news Done = false
is_news (Opened ino) = false
is_news answer = true

-- the replies that say more, in their order: the client, its line, and the answer
abbrev pub news : List Replied → List (ℕ × ℕ × Answer)
news all = map (λ (r : Replied). (r.client, r.line, r.answer)) (filter (λ (r : Replied). is_news r.answer) all)

abbrev pub news_of : Outcome → Option (List (ℕ × ℕ × Answer))
news_of (Through p) = Some (news (replies p.history))
news_of (Refused line p) = None
news_of (Unfinished p) = None
news_of Unknown = None

-- what a script is answered in the run that its schedule makes, where the schedule comes through and nothing is left
abbrev pub told : Script → Option (List (ℕ × ℕ × Answer))
told s = news_of (outcome 1000 s)

abbrev pub is_of : ℕ → ℕ → ℕ × ℕ × Answer → Bool
is_of client line said = said.0 == client && said.1 == line

-- what one line of a client is answered there, where it says more
abbrev pub answer_in : ℕ → ℕ → Option (List (ℕ × ℕ × Answer)) → Option Answer
answer_in client line None = None
answer_in client line (Some all) = option_map (λ (said : ℕ × ℕ × Answer). said.2) (find (is_of client line) all)

abbrev pub answer : Script → ℕ → ℕ → Option Answer
answer s client line = answer_in client line (told s)

-- the ids of the snapshots that clones serve
abbrev pub served : Option Answer → List SnapId
served (Some (ClonesAre list)) = flat_map (λ (made : SnapId × List SnapId). made.1) list.clones
served other = []

-- how many bytes are answered
abbrev pub bytes_answered : Option Answer → ℕ
bytes_answered (Some (FileBytes text)) = length text
bytes_answered other = 0

abbrev pub made_by : Change → Option SnapId
made_by (Mksnap id dir name) = Some id
made_by change = None

-- the ids of the snapshots that are made there
abbrev pub snaps_made : Script → List SnapId
snaps_made s = filter_map (λ (effect : Effect). made_by effect.change) (effects (history_of (outcome 1000 s)))

-- a path of one, two and three names
abbrev pub at1 : List ℕ → List (List ℕ)
at1 one = one ∷ []

abbrev pub at2 : List ℕ → List ℕ → List (List ℕ)
at2 one two = one ∷ two ∷ []

abbrev pub at3 : List ℕ → List ℕ → List ℕ → List (List ℕ)
at3 one two three = one ∷ two ∷ three ∷ []

-- `/a`, and `/a/f`
abbrev pub a : List (List ℕ)
a = at1 (codes "a")

abbrev pub f : List (List ℕ)
f = at2 (codes "a") (codes "f")

-- the snapshot of a directory of the root, and a name in it
abbrev pub snap_of : List ℕ → List ℕ → List (List ℕ)
snap_of dir name = at3 dir (codes ".snap") name

abbrev pub in_snap : List ℕ → List ℕ → List ℕ → List (List ℕ)
in_snap dir name below = dir ∷ codes ".snap" ∷ name ∷ below ∷ []

-- the snapshot `s` of `/a`, and `f` in it
abbrev pub s_of_a : List (List ℕ)
s_of_a = snap_of (codes "a") (codes "s")

abbrev pub f_in_s : List (List ℕ)
f_in_s = in_snap (codes "a") (codes "s") (codes "f")

-- answers
abbrev pub snap : ℕ → Answer
snap id = Snap (record { 0 = id })

abbrev pub bytes : List ℕ → Answer
bytes text = FileBytes text

abbrev pub dirs : List (List ℕ) → Answer
dirs names = Listed (map (λ (name : List ℕ). (name, Dir)) names)

abbrev pub files : List (List ℕ) → Answer
files names = Listed (map (λ (name : List ℕ). (name, File)) names)

-- the ids by falling number, and a clone of an id that serves some
abbrev pub ids : List ℕ → List SnapId
ids numbers = map (λ n. record { 0 = n }) numbers

abbrev pub clone : ℕ → List ℕ → SnapId × List SnapId
clone id numbers = (record { 0 = id }, ids numbers)

abbrev pub clones : List (SnapId × List SnapId) → Option ℕ → Answer
clones made head = ClonesAre (record { clones = made; head = head })

-- `/a/f` is made and opened for writing
abbrev pub opened : List Line
opened = Mkdir a ∷ Create f 420 ∷ Open 1 f true ∷ []

-- and two bytes are written
abbrev pub written : List Line
written = opened ++ Write 1 0 (codes "aa") ∷ []

-- client 2's next line, a snapshot, is prepared, made and durable, and nobody was told yet
abbrev pub snapshot_made : List Planned
snapshot_made = steps (Op 2 ∷ ServerTakes 2 ∷ Commit ∷ Tend ∷ Commit ∷ [])
