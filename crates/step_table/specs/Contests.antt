-- Scripts with schedules: who holds a file, and what restarts and broken links leave.
use Rattle.std.specs.Prelude.{ℕ, Bool, true, false, [], ◌∷◌, ◌++◌, codes, Option, None, Some}
use Rattle.plain_types.specs.declared.history.Step.TheVariants.{Op, Flush, ClientFromServer, ServerTakes, Commit, Restart, Tend}
use Rattle.plain_types.specs.declared.script.Line.TheVariants.{Mkdir, Create, Open, Write, Read, Cat, List as Ls, Clones, Barrier, Break}
use Rattle.plain_types.specs.declared.script.Planned.TheVariants.{Drain, All, Ops}
use Rattle.plain_types.specs.declared.script.Script.{Script}
use Rattle.step_table.specs.Schedule.{Outcome, Refused, Unfinished, outcome}
use Rattle.step_table.specs.Example.{script, by, steps, at2, a, f, s_of_a, f_in_s, opened, written, snapshot_made}

-- the line of a schedule whose step isn't enabled
abbrev pub refused_line : Outcome → Option ℕ
refused_line (Refused line p) = Some line
refused_line other = None

abbrev pub stops_at : Script → Option ℕ
stops_at s = refused_line (outcome 1000 s)

-- client 2 reads a file, client 1 writes it again, and client 2 reads it again
abbrev pub reader_and_writer : Script
reader_and_writer = script 2
    (by 1 (written ++ Write 1 2 (codes "bb") ∷ []) ++ by 2 (Open 1 f false ∷ Read 1 ∷ Read 1 ∷ []))
    (Ops 1 4 ∷ Ops 2 2 ∷ Ops 1 1 ∷ Ops 2 1 ∷ [])

-- Client 1 asks for a file that it writes, and gives it back to client 2 before it takes the answer.
abbrev pub let_go_while_asking : Script
let_go_while_asking = script 2
    (by 1 (written ++ Cat f ∷ []) ++ by 2 (Open 1 f true ∷ Write 1 0 (codes "bb") ∷ []))
    (Ops 1 4 ∷ Ops 2 1
    ∷ steps (Op 2 ∷ ServerTakes 2 ∷ Op 1 ∷ ClientFromServer 1 ∷ Flush 1 ∷ ServerTakes 1 ∷ ClientFromServer 1 ∷ []) ++ Drain ∷ [])

-- a client that writes makes a snapshot itself, takes one message of the server, and goes on with its next line
abbrev pub told_of_its_own : Script
told_of_its_own = script 1
    (by 1 (written ++ Mkdir s_of_a ∷ Write 1 0 (codes "bb") ∷ Cat f_in_s ∷ []))
    (Ops 1 4 ∷ steps (Op 1 ∷ ServerTakes 1 ∷ Commit ∷ Tend ∷ Commit ∷ ClientFromServer 1 ∷ Op 1 ∷ []) ++ All ∷ [])

-- it takes both messages
abbrev pub told_in_order : Script
told_in_order = script 1
    (by 1 (written ++ Mkdir s_of_a ∷ Write 1 0 (codes "bb") ∷ Cat f_in_s ∷ []))
    (Ops 1 4
    ∷ steps (Op 1 ∷ ServerTakes 1 ∷ Commit ∷ Tend ∷ Commit ∷ ClientFromServer 1 ∷ ClientFromServer 1 ∷ Op 1 ∷ []) ++ All ∷ [])

-- a writer has heard of a snapshot, sends its piece, and then the mark before the store has answered
abbrev pub mark_too_early : Script
mark_too_early = script 2
    (by 1 written ++ by 2 (Mkdir s_of_a ∷ []))
    (Ops 1 3 ∷ steps (Op 1 ∷ ServerTakes 1 ∷ ClientFromServer 1 ∷ []) ++ snapshot_made
    ++ steps (ClientFromServer 1 ∷ Flush 1 ∷ Flush 1 ∷ []) ++ All ∷ [])

-- two entries are buffered, the second below the first, and one of them survives
abbrev pub one_survives : Script
one_survives = script 2
    (by 1 (Mkdir a ∷ Ls a ∷ []) ++ by 2 (Mkdir (at2 (codes "a") (codes "b")) ∷ []))
    (steps (Op 1 ∷ ServerTakes 1 ∷ Op 2 ∷ ServerTakes 2 ∷ Restart 1 ∷ []) ++ All ∷ [])

-- a snapshot is prepared durably, the server restarts, and the client hears of it at once
abbrev pub heard_at_once : Script
heard_at_once = script 1
    (by 1 (Mkdir a ∷ Mkdir s_of_a ∷ []))
    (Ops 1 1 ∷ steps (Op 1 ∷ ServerTakes 1 ∷ Commit ∷ Restart 0 ∷ ClientFromServer 1 ∷ []) ++ All ∷ [])

-- the server restarts before a writer has flushed for a snapshot, and the writer writes again
abbrev pub restarted_before_the_flush : Script
restarted_before_the_flush = script 2
    (by 1 (written ++ Write 1 0 (codes "bb") ∷ []) ++ by 2 (Mkdir s_of_a ∷ Cat f_in_s ∷ Cat f ∷ []))
    (Ops 1 4 ∷ snapshot_made ++ steps (ClientFromServer 1 ∷ Restart 0 ∷ []) ++ All ∷ [])

-- the same, where it had not heard of the snapshot
abbrev pub restarted_before_the_notice : Script
restarted_before_the_notice = script 2
    (by 1 (written ++ Write 1 0 (codes "bb") ∷ []) ++ by 2 (Mkdir s_of_a ∷ Cat f_in_s ∷ Cat f ∷ []))
    (Ops 1 4 ∷ snapshot_made ++ steps (Restart 0 ∷ []) ++ All ∷ [])

-- a client breaks its link while the server is about to recall its file, and holds on to it
abbrev pub broken_while_recalled : Script
broken_while_recalled = script 2
    (by 1 (written ++ Break ∷ []) ++ by 2 (Cat f ∷ []))
    (Ops 1 4 ∷ steps (Op 1 ∷ Op 2 ∷ ServerTakes 2 ∷ ServerTakes 1 ∷ []) ++ All ∷ [])

-- two clients meet at a barrier
abbrev pub at_a_barrier : Script
at_a_barrier = script 2
    (by 1 (Barrier ∷ Ls [] ∷ []) ++ by 2 (Mkdir a ∷ Barrier ∷ []))
    (All ∷ [])

-- an entry of a schedule that isn't enabled, and a schedule that ends too early
abbrev pub nothing_to_commit : Script
nothing_to_commit = script 1 [] (steps (Commit ∷ []))

abbrev pub never_run : Script
never_run = script 1 (by 1 (Mkdir a ∷ [])) []

abbrev pub is_unfinished : Outcome → Bool
is_unfinished (Unfinished p) = true
is_unfinished other = false

abbrev pub ends_early : Script → Bool
ends_early s = is_unfinished (outcome 1000 s)

-- two clients have read a file, and both want to write it
abbrev pub both_want_to_write : Script
both_want_to_write = script 2
    (by 1 (Mkdir a ∷ Create f 420 ∷ Open 1 f true ∷ Read 1 ∷ Write 1 0 (codes "aa") ∷ Cat f ∷ [])
    ++ by 2 (Open 1 f true ∷ Read 1 ∷ Write 1 2 (codes "bb") ∷ []))
    (Ops 1 4 ∷ Ops 2 2 ∷ steps (Op 1 ∷ Op 2 ∷ ServerTakes 1 ∷ ServerTakes 2 ∷ []) ++ Drain ∷ Ops 1 1 ∷ [])

-- a file of two objects of 16 bytes, and a write in the second one after a snapshot
abbrev pub small_objects : Script
small_objects = record (script 1
    (by 1 (opened ++ Write 1 0 (codes "abcdefghijklmnopqr") ∷ Mkdir s_of_a ∷ Write 1 16 (codes "XY") ∷ Clones f 1 ∷ Clones f 0
    ∷ Cat f_in_s ∷ []))
    (All ∷ [])) { object = Some 16 }

-- a restart line: once one entry was buffered, the server restarts and keeps none
abbrev pub restart_line : Script
restart_line = record (script 1 (by 1 (Mkdir a ∷ [])) []) { restarts = (1, 0) ∷ [] }
