-- What a run came to, counted.
use Rattle.std.specs.Prelude.{ℕ, ◌-◌, ◌==◌, ◌&&◌, nat_lt, Bool, true, false, List, [], ◌++◌, length, map, codes, filter, slice_get}
use Rattle.std.specs.List.{count_by}
use Rattle.std.specs.Option.{option_map_or}
use Rattle.snap_ids.specs.Path.{Place, InSnap, place_of}
use Rattle.plain_types.specs.declared.answer.Answer.{Answer}
use Rattle.plain_types.specs.declared.answer.Answer.TheVariants.{Done, Snap, Refused, Pending, Gone}
use Rattle.plain_types.specs.declared.history.Replied.{Replied}
use Rattle.plain_types.specs.declared.script.Line.{Line}
use Rattle.plain_types.specs.declared.script.Line.TheVariants as line
use Rattle.plain_types.specs.declared.script.Script.{Script}
use Rattle.reply_text.specs.Count.{count_line}

-- the answer says that a snapshot was made
abbrev pub is_snap : Answer → Bool
is_snap (Snap id) = true
is_snap _ = false

-- the answer says that a change was made
abbrev pub is_done : Answer → Bool
is_done Done = true
is_done _ = false

-- the answer is none of what was asked
abbrev pub is_refused : Answer → Bool
is_refused (Refused refusal) = true
is_refused (Pending client) = true
is_refused Gone = true
is_refused _ = false

-- the place is a snapshot
abbrev pub is_snapshot : Place → Bool
is_snapshot (InSnap dir name []) = true
is_snapshot _ = false

-- the line asks to remove a snapshot
abbrev pub removes : Line → Bool
removes (line.Rmdir path) = is_snapshot (place_of path)
removes _ = false

-- a client's lines, in their order
abbrev pub lines_of : List (ℕ × Line) → ℕ → List Line
lines_of lines client = map (λ asked. asked.1) (filter (λ asked. asked.0 == client) lines)

-- whether the line of this number, from 1, asks to remove a snapshot
abbrev pub removes_at : List Line → ℕ → Bool
removes_at lines number = nat_lt 0 number && option_map_or removes (slice_get lines (number - 1)) false

-- a snapshot was removed for the line of this reply
abbrev pub is_removal : List (ℕ × Line) → Replied → Bool
is_removal lines reply = is_done reply.answer && removes_at (lines_of lines reply.client) reply.line

-- the clients, their lines, the snapshots that were made and removed, and the refusals
abbrev pub summary_text : Script → List Replied → List ℕ
summary_text script replies =
    count_line (codes "clients") script.clients
    ++ count_line (codes "lines") (length script.lines)
    ++ count_line (codes "snapshots") (count_by (λ reply. is_snap reply.answer) replies)
    ++ count_line (codes "removed") (count_by (is_removal script.lines) replies)
    ++ count_line (codes "refused") (count_by (λ reply. is_refused reply.answer) replies)
    ++ codes "done\n"
