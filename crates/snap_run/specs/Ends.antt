-- What an input comes to.
use Rattle.std.specs.Prelude.{◌≡◌, ◌⊎◌, ℕ, ◌+◌, Bool, true, false, not, ◌&&◌, ◌==◌, nat_lt, List, [], ◌∷◌, length, position, is_some, bytes_eq, codes, if◌then◌else◌, Option, None, Some, Result, Ok, Err}
use Rattle.plain_types.specs.declared.script.Line.{Line}
use Rattle.plain_types.specs.declared.script.Planned.{Planned}
use Rattle.plain_types.specs.declared.script.Planned.TheVariants.{All}
use Rattle.plain_types.specs.declared.script.Script.{Script}
use Rattle.direct_journal.specs.Served.{is_served}
use Rattle.script_text.specs.declared.error.ScriptError.{ScriptError}
use Rattle.script_text.specs.declared.error.ScriptError.TheVariants.{BadLine}
use Rattle.script_text.specs.declared.outcome.End.{End}
use Rattle.script_text.specs.declared.outcome.End.TheVariants as ending
use Rattle.script_text.specs.Grammar.{grammar}
use Rattle.script_text.specs.Places.{number_at}

-- the server takes the line: it is one of client 1, and of a kind that is served
abbrev pub is_taken : ℕ × Line → Bool
is_taken line = line.0 == 1 && is_served line.1

abbrev pub IsTaken : ℕ × Line → Type 0
IsTaken line = is_taken line ≡ true

-- the place of the first line that isn't taken
abbrev pub first_untaken : List (ℕ × Line) → Option ℕ
first_untaken lines = position (λ line. not (is_taken line)) lines

-- how many lines of the input stand before the client lines, those apart that are skipped
abbrev pub header_lines : Script → ℕ
header_lines script = (if is_some script.object then 2 else 1) + length script.restarts

abbrev pub is_all : Planned → Bool
is_all All = true
is_all plan = false

-- the number of the first line of a schedule
abbrev pub first_number : List (ℕ × Planned) → Option ℕ
first_number [] = None
first_number (plan ∷ schedule) = Some plan.0

-- the first line of a schedule that no server follows yet: the one line `all` is followed
abbrev pub first_unfollowed : List (ℕ × Planned) → Option ℕ
first_unfollowed [] = None
first_unfollowed (plan ∷ schedule) = if is_all plan.1 then first_number schedule else Some plan.0

-- the number of the first client line that isn't taken, by its place, else of the first schedule line that isn't followed
abbrev pub unserved_at : List ℕ → Script → Option ℕ → Option ℕ
unserved_at input script (Some place) = Some (number_at input (header_lines script + place))
unserved_at input script None = first_unfollowed script.schedule

-- The number of the first line of a script that no server takes yet: one client is served, some kinds of its lines,
-- and the schedule `all`.
abbrev pub first_unserved : List ℕ → Script → Option ℕ
first_unserved input script =
    if script.clients == 1 then unserved_at input script (first_untaken script.lines) else Some (number_at input 0)

-- a client has a line, and the schedule doesn't let it go on
abbrev pub is_unfinished : Script → Bool
is_unfinished script = nat_lt 0 (length script.lines) && length script.schedule == 0

-- what a script comes to, whose first line that no server takes yet is this one
abbrev pub end_with : Script → Option ℕ → End
end_with script (Some number) = ending.ScriptRefused (BadLine number)
end_with script None = if is_unfinished script then ending.Unfinished script.input_lines else ending.Done

-- what an input comes to that the grammar refuses, or that spells a script
abbrev pub end_of_result : List ℕ → Result Script ScriptError → End
end_of_result input (Err error) = ending.ScriptRefused error
end_of_result input (Ok script) = end_with script (first_unserved input script)

-- the words are the program's own name and `replay`
abbrev pub is_replay : List (List ℕ) → Bool
is_replay (name ∷ word ∷ []) = bytes_eq word (codes "replay")
is_replay words = false

-- what words and an input come to
abbrev pub end_of : List (List ℕ) → List ℕ → End
end_of words input = if is_replay words then end_of_result input (grammar input true) else ending.Usage

-- the run ended so, or for want of memory
abbrev pub EndsAs : End → End → Type 0
EndsAs wanted end = (end ≡ wanted) ⊎ (end ≡ ending.NoMemory)
