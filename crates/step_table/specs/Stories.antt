-- Scripts with schedules: what happens between a snapshot and those who write.
use Rattle.std.specs.Prelude.{true, List, [], ◌∷◌, ◌++◌, codes}
use Rattle.plain_types.specs.declared.history.Step.{Step}
use Rattle.plain_types.specs.declared.history.Step.TheVariants.{Op, Flush, ClientFromServer, ServerTakes, Commit, Restart, Tend, StoreTakes}
use Rattle.plain_types.specs.declared.script.Line.TheVariants.{Mkdir, Rmdir, Create, Unlink, Link, Rename, Chmod, Open, Close, Write, Truncate, Read, Cat, Stat, List as Ls, Clones, Break}
use Rattle.plain_types.specs.declared.script.Planned.{Planned}
use Rattle.plain_types.specs.declared.script.Planned.TheVariants.{Drain, All, Ops}
use Rattle.plain_types.specs.declared.script.Script.{Script}
use Rattle.step_table.specs.Example.{script, by, steps, at1, at2, at3, a, f, snap_of, in_snap, s_of_a, f_in_s, opened, written, snapshot_made}

-- client 2 makes a snapshot while client 1 writes again, in between these steps
abbrev pub write_twice : List Planned → Script
write_twice before = script 2
    (by 1 (written ++ Write 1 0 (codes "bb") ∷ []) ++ by 2 (Mkdir s_of_a ∷ Cat f_in_s ∷ []))
    (Ops 1 4 ∷ snapshot_made ++ before ++ steps (Op 1 ∷ []) ++ Drain ∷ Ops 2 1 ∷ [])

abbrev pub before_the_notice : Script
before_the_notice = write_twice []

abbrev pub after_the_notice : Script
after_the_notice = write_twice (steps (ClientFromServer 1 ∷ []))

-- client 2 reads the file in the snapshot before client 1 has flushed, and after
abbrev pub pending_then_bytes : Script
pending_then_bytes = script 2
    (by 1 written ++ by 2 (Mkdir s_of_a ∷ Cat f_in_s ∷ Cat f_in_s ∷ []))
    (Ops 1 4 ∷ snapshot_made
    ++ steps (ClientFromServer 1 ∷ ClientFromServer 2 ∷ Op 2 ∷ ServerTakes 2 ∷ ClientFromServer 2 ∷ []) ++ Drain ∷ Ops 2 1 ∷ [])

-- client 2 writes a file that client 1 wrote, and client 3 makes a snapshot while the release of client 1 is under way
abbrev pub hand_over : Script
hand_over = script 3
    (by 1 written ++ by 2 (Open 1 f true ∷ Write 1 0 (codes "bb") ∷ []) ++ by 3 (Mkdir s_of_a ∷ Cat f_in_s ∷ Cat f_in_s ∷ Cat f ∷ []))
    (Ops 1 4 ∷ Ops 2 1 ∷ steps (Op 2 ∷ ServerTakes 2 ∷ ClientFromServer 1 ∷ Flush 1 ∷ Op 3 ∷ ServerTakes 3 ∷ Commit ∷ Tend
    ∷ Commit ∷ ClientFromServer 3 ∷ Op 3 ∷ ServerTakes 3 ∷ ClientFromServer 3 ∷ []) ++ Drain ∷ Ops 3 2 ∷ [])

-- two snapshots, a write between their notices, and a change of mode between them
abbrev pub two_notices : Script
two_notices = script 2
    (by 1 (written ++ Write 1 2 (codes "aa") ∷ [])
    ++ by 2 (Mkdir s_of_a ∷ Chmod f 384 ∷ Mkdir (snap_of (codes "a") (codes "t")) ∷ Stat f_in_s
    ∷ Stat (in_snap (codes "a") (codes "t") (codes "f")) ∷ Stat f ∷ []))
    (Ops 1 4 ∷ snapshot_made
    ++ steps (ClientFromServer 2 ∷ Op 2 ∷ ServerTakes 2 ∷ Commit ∷ ClientFromServer 2 ∷ ClientFromServer 1 ∷ Op 1 ∷ [])
    ++ snapshot_made ++ Drain ∷ Ops 2 3 ∷ [])

-- a directory moves under another while a second snapshot of that is prepared and not yet made
abbrev pub moved_in_between : Script
moved_in_between = script 2
    (by 1 (Mkdir a ∷ Mkdir (at1 (codes "b")) ∷ Mkdir (at2 (codes "b") (codes "d")) ∷ Mkdir (snap_of (codes "a") (codes "r"))
    ∷ Mkdir s_of_a ∷ Ls s_of_a ∷ Ls (at3 (codes "a") (codes "d") (codes ".snap")) ∷ [])
    ++ by 2 (Rename (at2 (codes "b") (codes "d")) (at2 (codes "a") (codes "d")) ∷ []))
    (Ops 1 4 ∷ steps (Op 1 ∷ ServerTakes 1 ∷ Commit ∷ Op 2 ∷ ServerTakes 2 ∷ []) ++ Drain ∷ Ops 1 2 ∷ [])

-- the server restarts after these steps of a snapshot's making
abbrev pub restarted_after : List Step → Script
restarted_after made = script 1
    (by 1 (Mkdir a ∷ Mkdir s_of_a ∷ Ls (at2 (codes "a") (codes ".snap")) ∷ []))
    (Ops 1 1 ∷ steps (Op 1 ∷ ServerTakes 1 ∷ made) ++ All ∷ [])

-- the prepare is durable and what made the snapshot is lost
abbrev pub made_and_lost : Script
made_and_lost = restarted_after (Commit ∷ Tend ∷ Restart 0 ∷ [])

-- what made it is kept
abbrev pub made_and_kept : Script
made_and_kept = restarted_after (Commit ∷ Tend ∷ Restart 1 ∷ [])

-- the prepare is lost
abbrev pub prepare_lost : Script
prepare_lost = restarted_after (Restart 0 ∷ [])

-- client 1's link breaks between its change and the reply to it
abbrev pub broken_before_the_reply : Script
broken_before_the_reply = script 2
    (by 1 (Mkdir a ∷ Create f 420 ∷ Break ∷ Ls a ∷ []) ++ by 2 (Mkdir s_of_a ∷ Ls s_of_a ∷ []))
    (Ops 1 1 ∷ steps (Op 1 ∷ ServerTakes 1 ∷ Commit ∷ Op 1 ∷ []) ++ snapshot_made ++ All ∷ [])

-- a file's clones with two snapshots, with one, and with none
abbrev pub clones_listed : Script
clones_listed = script 1
    (by 1 (written ++ Mkdir s_of_a ∷ Mkdir (snap_of (codes "a") (codes "t")) ∷ Write 1 0 (codes "bb") ∷ Clones f 0
    ∷ Rmdir (snap_of (codes "a") (codes "t")) ∷ Clones f 0 ∷ Rmdir s_of_a ∷ Clones f 0 ∷ []))
    (All ∷ [])

-- a snapshot is purged between a client's finding of a file in it and its reading
abbrev pub purged_before_the_read : Script
purged_before_the_read = script 2
    (by 1 (written ++ Mkdir s_of_a ∷ Rmdir s_of_a ∷ []) ++ by 2 (Cat f_in_s ∷ []))
    (Ops 1 5 ∷ steps (Op 2 ∷ ServerTakes 2 ∷ ClientFromServer 2 ∷ Op 1 ∷ ServerTakes 1 ∷ Commit ∷ Tend ∷ Commit ∷ Tend ∷ Commit
    ∷ StoreTakes 0 ∷ StoreTakes 2 ∷ []) ++ All ∷ [])

-- A client whose request for a snapshot is deferred breaks its link and asks again. Then the directory moves away, and
-- another takes its name: a second turn of that request would make a second snapshot.
abbrev pub asked_again_while_deferred : Script
asked_again_while_deferred = script 2
    (by 1 (Mkdir a ∷ Mkdir (snap_of (codes "a") (codes "t")) ∷ Break ∷ Rename a (at1 (codes "b")) ∷ Mkdir a ∷ [])
    ++ by 2 (Mkdir (at2 (codes ".snap") (codes "x")) ∷ []))
    (Ops 1 1 ∷ steps (Op 2 ∷ ServerTakes 2 ∷ Op 1 ∷ ServerTakes 1 ∷ Op 1 ∷ ServerTakes 1 ∷ Commit ∷ Tend ∷ Commit ∷ Tend ∷ Commit
    ∷ Tend ∷ Commit ∷ ClientFromServer 1 ∷ ClientFromServer 1 ∷ Op 1 ∷ ServerTakes 1 ∷ Commit ∷ ClientFromServer 1 ∷ Op 1
    ∷ ServerTakes 1 ∷ Commit ∷ ClientFromServer 1 ∷ []) ++ All ∷ [])

-- a snapshot holds what its directory had
abbrev pub listed : Script
listed = script 1
    (by 1 (Mkdir a ∷ Mkdir s_of_a ∷ Mkdir (at2 (codes "a") (codes "b")) ∷ Ls s_of_a ∷ Ls a ∷ []))
    (All ∷ [])

-- a file of two names is in the snapshots of both directories
abbrev pub linked : Script
linked = script 1
    (by 1 (Mkdir a ∷ Mkdir (at1 (codes "b")) ∷ Create f 420 ∷ Open 1 f true ∷ Write 1 0 (codes "aa") ∷ Link f (at2 (codes "b") (codes "g"))
    ∷ Mkdir (snap_of (codes "b") (codes "s")) ∷ Write 1 0 (codes "bb") ∷ Cat (in_snap (codes "b") (codes "s") (codes "g"))
    ∷ Cat (at2 (codes "b") (codes "g")) ∷ Mkdir (snap_of (codes "a") (codes "t")) ∷ Write 1 0 (codes "cc")
    ∷ Cat (in_snap (codes "a") (codes "t") (codes "f")) ∷ Cat (in_snap (codes "b") (codes "s") (codes "g")) ∷ []))
    (All ∷ [])

-- a file is cut to nothing and made longer again after a snapshot
abbrev pub cut_and_grown : Script
cut_and_grown = script 1
    (by 1 (opened ++ Write 1 0 (codes "abc") ∷ Mkdir s_of_a ∷ Truncate 1 0 ∷ Truncate 1 3 ∷ Cat f_in_s ∷ Cat f ∷ []))
    (All ∷ [])

-- an open file loses its name, and then its handle
abbrev pub unlinked : Script
unlinked = script 1
    (by 1 (opened ++ Write 1 0 (codes "a") ∷ Mkdir s_of_a ∷ Unlink f ∷ Write 1 0 (codes "b") ∷ Read 1 ∷ Cat f_in_s ∷ Close 1
    ∷ Cat f_in_s ∷ Cat f ∷ []))
    (All ∷ [])
