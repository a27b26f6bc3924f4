-- When the restart lines of a script act, where no schedule says it.
use Rattle.std.specs.Prelude.{ℕ, ◌+◌, ◌-◌, min, Bool, true, false, not, ◌&&◌, ◌==◌, nat_le, List, [], ◌∷◌, length, drop, if◌then◌else◌, Option, None, Some, is_none}
use Rattle.plain_types.specs.declared.history.Step.{Step}
use Rattle.plain_types.specs.declared.history.Step.TheVariants.{ServerTakes, Commit, Restart, Tend}
use Rattle.plain_types.specs.declared.script.Script.{Script}
use Rattle.step_table.specs.ServerState.{Server, buffered}
use Rattle.step_table.specs.World.{World, row, after_row, start}

-- how many entries a server's step buffers
abbrev pub new_entries : Server → Step → Server → ℕ
new_entries before (Restart k) now = length now.entries - (before.durable + k)
new_entries before step now = length now.entries - length before.entries

-- The restart that is due: once so many entries have been buffered since the start, those that were lost counted, as many
-- of those that aren't durable survive as the line says, or as there are.
abbrev pub restart_due : List (ℕ × ℕ) → ℕ → Server → Option ℕ
restart_due [] ever s = None
restart_due (line ∷ lines) ever s = if nat_le line.0 ever then Some (min line.1 (buffered s)) else None

-- the step is the server's
abbrev pub is_servers : Step → Bool
is_servers (ServerTakes n) = true
is_servers Commit = true
is_servers (Restart k) = true
is_servers Tend = true
is_servers step = false

-- a step in the place of a due restart
abbrev pub is_restart_with : ℕ → Step → Bool
is_restart_with kept (Restart k) = k == kept
is_restart_with kept step = not (is_servers step)

abbrev pub is_restart : Step → Bool
is_restart (Restart k) = true
is_restart step = false

-- where a restart is due, the server's next step is that one; else it doesn't restart
abbrev pub may_be : Option ℕ → Step → Bool
may_be None step = not (is_restart step)
may_be (Some kept) step = is_restart_with kept step

-- the lines that are left after a step
abbrev pub lines_left : List (ℕ × ℕ) → Step → List (ℕ × ℕ)
lines_left lines step = if is_restart step then drop 1 lines else lines

abbrev pub follow : List (ℕ × ℕ) → ℕ → World → List Step → Bool
follow lines ever w [] = is_none (restart_due lines ever w.server)
follow lines ever w (step ∷ steps) =
    let next = after_row w (row w step) in
    may_be (restart_due lines ever w.server) step
    && follow (lines_left lines step) (ever + new_entries w.server step next.server) next steps

-- the restarts among the steps are those of the script's lines, each in its place
abbrev pub restarts_as_written : Script → List Step → Bool
restarts_as_written script steps = follow script.restarts 0 (start script) steps
