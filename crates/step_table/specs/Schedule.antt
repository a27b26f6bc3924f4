-- Which steps the schedule of a script makes.
use Rattle.std.specs.Prelude.{ℕ, zero, suc, ◌+◌, Bool, true, false, ◌&&◌, List, [], ◌∷◌, ◌++◌, map, fold, if◌then◌else◌, Option, None, Some, is_none}
use Rattle.std.specs.List.{list_all}
use Rattle.plain_types.specs.declared.history.Event.{Event}
use Rattle.plain_types.specs.declared.history.Step.{Step}
use Rattle.plain_types.specs.declared.history.Step.TheVariants.{Op, Flush, ClientFromServer, ClientFromStore, ServerTakes, Commit, Tend, StoreTakes}
use Rattle.plain_types.specs.declared.script.Planned.{Planned}
use Rattle.plain_types.specs.declared.script.Planned.TheVariants.{Make, Drain, All, Ops}
use Rattle.plain_types.specs.declared.script.Script.{Script}
use Rattle.held_files.specs.Files.{is_empty}
use Rattle.step_table.specs.ServerState.{up_to}
use Rattle.step_table.specs.ClientState.{Under, Idle, Client}
use Rattle.step_table.specs.World.{World, Made, row, event_of, start}

-- the steps that `drain` tries, in this order
abbrev pub drain_steps : ℕ → List Step
drain_steps clients =
    map (λ c. ClientFromServer c) (up_to clients)
    ++ map (λ c. ClientFromStore c) (up_to clients)
    ++ map (λ c. ServerTakes c) (up_to clients)
    ++ ServerTakes (clients + 1) ∷ Commit ∷ []
    ++ map (λ c. StoreTakes c) (up_to clients)
    ++ StoreTakes 0 ∷ []
    ++ map (λ c. Flush c) (up_to clients)
    ++ Tend ∷ []

-- those that `all` tries: each kind of step but a restart
abbrev pub all_steps : ℕ → List Step
all_steps clients = drain_steps clients ++ map (λ c. Op c) (up_to clients)

-- what has happened so far, and the world after it
pub record Progress : Type 0 where
  pub history : List Event
  pub world : World

abbrev pub progress_with : Progress → Step → Made → Progress
progress_with p step made = record { history = p.history ++ event_of step made ∷ []; world = made.world }

-- the first enabled one of some steps is made
abbrev pub first_of : Progress → List Step → Option Progress
first_of p [] = None
first_of p (step ∷ steps) = elim (row p.world step) [ None ↦ first_of p steps | Some made ↦ Some (progress_with p step made) ]

-- no step but a restart is enabled
abbrev pub quiet : World → Bool
quiet w = is_none (first_of (record { history = []; world = w }) (all_steps w.server.clients))

-- How far a schedule came: through; or up to a line whose step isn't enabled, by the line's number; or through with
-- something unfinished; or it isn't known, as so many steps of one line weren't enough.
pub data Outcome : Type 0 where
  Through : Progress → Outcome
  Refused : ℕ → Progress → Outcome
  Unfinished : Progress → Outcome
  Unknown : Outcome

-- the first enabled one of some steps is made until none is, at most so often
abbrev pub repeated : ℕ → List Step → Progress → Outcome
repeated zero steps p = Unknown
repeated (suc more) steps p = elim (first_of p steps) [ None ↦ Through p | Some next ↦ repeated more steps next ]

abbrev pub drained : ℕ → Progress → Outcome
drained most p = repeated most (drain_steps p.world.server.clients) p

-- one step of a schedule line
abbrev pub made_or_refused : ℕ → Progress → Option Progress → Outcome
made_or_refused line p None = Refused line p
made_or_refused line p (Some next) = Through next

abbrev pub made : ℕ → Step → Progress → Outcome
made line step p = made_or_refused line p (first_of p (step ∷ []))

abbrev pub drained_after : ℕ → Outcome → Outcome
drained_after most (Through p) = drained most p
drained_after most other = other

-- one line of a client, and all that comes of it
abbrev pub op_and_drain : ℕ → ℕ → ℕ → Outcome → Outcome
op_and_drain most line client (Through p) = drained_after most (made line (Op client) p)
op_and_drain most line client other = other

abbrev pub ops : ℕ → ℕ → ℕ → ℕ → Outcome → Outcome
ops most line client zero sofar = sofar
ops most line client (suc times) sofar = ops most line client times (op_and_drain most line client sofar)

-- a line of a schedule
abbrev pub planned : ℕ → ℕ → Planned → Progress → Outcome
planned most line (Make step) p = made line step p
planned most line Drain p = drained most p
planned most line All p = repeated most (all_steps p.world.server.clients) p
planned most line (Ops client times) p = ops most line client times (Through p)

abbrev pub planned_after : ℕ → Outcome → ℕ × Planned → Outcome
planned_after most (Through p) item = planned most item.0 item.1 p
planned_after most other item = other

-- the client has no line left, and none under way
abbrev pub is_idle : Under → Bool
is_idle Idle = true
is_idle under = false

abbrev pub has_ended : Client → Bool
has_ended c = is_empty c.lines && is_idle c.under

abbrev pub is_finished : World → Bool
is_finished w = list_all (λ (c : ℕ × Client). has_ended c.1) w.clients && quiet w

abbrev pub ended : Outcome → Outcome
ended (Through p) = if is_finished p.world then Through p else Unfinished p
ended other = other

-- how far the schedule of a script comes, where `drain` and `all` make at most so many steps
abbrev pub outcome : ℕ → Script → Outcome
outcome most script =
    ended (fold (planned_after most) (Through (record { history = []; world = start script })) script.schedule)

abbrev pub history_of : Outcome → List Event
history_of (Through p) = p.history
history_of (Refused line p) = p.history
history_of (Unfinished p) = p.history
history_of Unknown = []
