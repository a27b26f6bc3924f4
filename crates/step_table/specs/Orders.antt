-- Scripts with schedules: what comes first, what waits, and who isn't told.
use Rattle.std.specs.Prelude.{true, false, List, [], ◌∷◌, ◌++◌, codes}
use Rattle.plain_types.specs.declared.history.Step.{Step}
use Rattle.plain_types.specs.declared.history.Step.TheVariants.{Op, Flush, ClientFromServer, ServerTakes, Commit, Tend, StoreTakes}
use Rattle.plain_types.specs.declared.script.Line.TheVariants.{Mkdir, Rmdir, Create, Unlink, Rename, Open, Close, Write, Read, Cat, Stat, List as Ls, Barrier, Break}
use Rattle.plain_types.specs.declared.script.Planned.TheVariants.{Drain, All, Ops}
use Rattle.plain_types.specs.declared.script.Script.{Script}
use Rattle.step_table.specs.Example.{script, by, steps, at1, at2, a, f, snap_of, s_of_a, f_in_s, written, snapshot_made}

-- a line of client 1 that removes a snapshot, up to its reply
abbrev pub removal_made : List Step
removal_made = Op 1 ∷ ServerTakes 1 ∷ Commit ∷ Tend ∷ Commit ∷ ClientFromServer 1 ∷ []

-- Client 2 has found a file in the first of two snapshots. Both are removed, and then one of them is purged before the
-- store is read.
abbrev pub two_to_purge : Script
two_to_purge = script 2
    (by 1 (written ++ Mkdir s_of_a ∷ Mkdir (snap_of (codes "a") (codes "t")) ∷ Rmdir s_of_a
    ∷ Rmdir (snap_of (codes "a") (codes "t")) ∷ []) ++ by 2 (Cat f_in_s ∷ []))
    (Ops 1 6 ∷ steps (Op 2 ∷ ServerTakes 2 ∷ ClientFromServer 2 ∷ removal_made
    ++ Op 1 ∷ ServerTakes 1 ∷ Commit ∷ Tend ∷ Commit ∷ Tend ∷ Commit ∷ StoreTakes 0 ∷ StoreTakes 2 ∷ []) ++ All ∷ [])

-- a file loses its name and then its handle while its writer holds it, and the background turn is made
abbrev pub held_without_a_name : Script
held_without_a_name = script 1
    (by 1 (written ++ Unlink f ∷ Close 1 ∷ []))
    (Ops 1 5 ∷ steps (Op 1 ∷ ServerTakes 1 ∷ Commit ∷ ClientFromServer 1 ∷ Tend ∷ ClientFromServer 1 ∷ Flush 1 ∷ []) ++ All ∷ [])

-- Clients 1 and 2 ask for a file that client 3 writes, in this order. Then client 1 breaks its link and asks again.
abbrev pub asked_again_behind : Script
asked_again_behind = script 3
    (by 3 written ++ by 1 (Open 1 f true ∷ Write 1 0 (codes "bb") ∷ Break ∷ Cat f ∷ [])
    ++ by 2 (Open 1 f true ∷ Write 1 0 (codes "cc") ∷ []))
    (Ops 3 4 ∷ Ops 1 1 ∷ Ops 2 1 ∷ steps (Op 1 ∷ ServerTakes 1 ∷ Op 2 ∷ ServerTakes 2 ∷ Op 1 ∷ ServerTakes 1 ∷ [])
    ++ Drain ∷ Ops 1 1 ∷ [])

-- a snapshot is made of a file that client 1 reads, and client 1 is to take a message
abbrev pub reader_beside_a_snapshot : Script
reader_beside_a_snapshot = script 2
    (by 1 (Mkdir a ∷ Create f 420 ∷ Open 1 f false ∷ Read 1 ∷ []) ++ by 2 (Mkdir s_of_a ∷ []))
    (Ops 1 4 ∷ snapshot_made ++ steps (ClientFromServer 1 ∷ []) ++ All ∷ [])

-- the purge of a snapshot is under way while its client is at a barrier, and these steps come before the next turn
abbrev pub barrier_after : List Step → Script
barrier_after made = script 1
    (by 1 (Mkdir a ∷ Mkdir s_of_a ∷ Rmdir s_of_a ∷ Barrier ∷ []))
    (Ops 1 2 ∷ steps (removal_made ++ Op 1 ∷ ServerTakes 1 ∷ Tend ∷ Commit ∷ made ++ Tend ∷ []) ++ All ∷ [])

abbrev pub barrier_before_the_purge : Script
barrier_before_the_purge = barrier_after []

abbrev pub barrier_behind_the_purge : Script
barrier_behind_the_purge = barrier_after (StoreTakes 0 ∷ ServerTakes 2 ∷ [])

-- Client 1 removes a snapshot. While that is prepared, its directory moves away and another with a snapshot of that name
-- takes its place, and client 3 asks to remove the snapshot by the same path.
abbrev pub named_anew : Script
named_anew = script 3
    (by 1 (Mkdir a ∷ Mkdir s_of_a ∷ Mkdir (at1 (codes "b")) ∷ Mkdir (snap_of (codes "b") (codes "s")) ∷ Rmdir s_of_a
    ∷ Ls (at2 (codes "a") (codes ".snap")) ∷ Ls (at2 (codes "c") (codes ".snap")) ∷ [])
    ++ by 2 (Rename a (at1 (codes "c")) ∷ Rename (at1 (codes "b")) a ∷ []) ++ by 3 (Rmdir s_of_a ∷ []))
    (Ops 1 4 ∷ steps (Op 1 ∷ ServerTakes 1 ∷ Commit ∷ Op 2 ∷ ServerTakes 2 ∷ Commit ∷ ClientFromServer 2 ∷ Op 2 ∷ ServerTakes 2
    ∷ Op 3 ∷ ServerTakes 3 ∷ Tend ∷ []) ++ Drain ∷ Ops 1 2 ∷ [])

-- Three clients make a snapshot each. The third asks when the first one's is made and the second one's is deferred.
abbrev pub three_in_a_row : Script
three_in_a_row = script 3
    (by 1 (Mkdir (at2 (codes ".snap") (codes "r")) ∷ []) ++ by 2 (Mkdir (at2 (codes ".snap") (codes "s")) ∷ [])
    ++ by 3 (Mkdir (at2 (codes ".snap") (codes "t")) ∷ []))
    (steps (Op 1 ∷ ServerTakes 1 ∷ Op 2 ∷ ServerTakes 2 ∷ Commit ∷ Tend ∷ Op 3 ∷ ServerTakes 3 ∷ []) ++ All ∷ [])

-- clients 2 and 3 ask to write a file that client 1 writes, in this order
abbrev pub two_want_to_write : Script
two_want_to_write = script 3
    (by 1 (written ++ Cat f ∷ []) ++ by 2 (Open 1 f true ∷ Write 1 0 (codes "bb") ∷ [])
    ++ by 3 (Open 1 f true ∷ Write 1 0 (codes "cc") ∷ []))
    (Ops 1 4 ∷ Ops 2 1 ∷ Ops 3 1 ∷ steps (Op 2 ∷ ServerTakes 2 ∷ Op 3 ∷ ServerTakes 3 ∷ []) ++ Drain ∷ Ops 1 1 ∷ [])

-- clients 2 and 3 ask for a file that client 1 writes, and client 1 is to take two messages
abbrev pub wanted_back_twice : Script
wanted_back_twice = script 3
    (by 1 written ++ by 2 (Cat f ∷ []) ++ by 3 (Cat f ∷ []))
    (Ops 1 4 ∷ steps (Op 2 ∷ ServerTakes 2 ∷ Op 3 ∷ ServerTakes 3 ∷ ClientFromServer 1 ∷ ClientFromServer 1 ∷ []) ++ All ∷ [])

-- client 1 has asked the store for a file's bytes when the file is recalled, and is to let it go
abbrev pub recalled_while_reading : Script
recalled_while_reading = script 2
    (by 1 (written ++ Read 1 ∷ []) ++ by 2 (Stat f ∷ []))
    (Ops 1 4 ∷ steps (Op 1 ∷ Op 2 ∷ ServerTakes 2 ∷ ClientFromServer 1 ∷ Flush 1 ∷ []) ++ All ∷ [])

-- the background turn is to be made twice, while the removal of a snapshot isn't durable
abbrev pub removal_not_durable : Script
removal_not_durable = script 1
    (by 1 (Mkdir a ∷ Mkdir s_of_a ∷ Rmdir s_of_a ∷ []))
    (Ops 1 2 ∷ steps (Op 1 ∷ ServerTakes 1 ∷ Commit ∷ Tend ∷ Tend ∷ []) ++ All ∷ [])

-- a writer comes to a barrier before it has flushed for a snapshot
abbrev pub barrier_before_the_flush : Script
barrier_before_the_flush = script 1
    (by 1 (written ++ Mkdir s_of_a ∷ Barrier ∷ []))
    (Ops 1 4 ∷ steps (Op 1 ∷ ServerTakes 1 ∷ Commit ∷ Tend ∷ Commit ∷ ClientFromServer 1 ∷ ClientFromServer 1 ∷ Op 1
    ∷ ServerTakes 1 ∷ Tend ∷ []) ++ All ∷ [])

-- the size of a file in a snapshot is asked for before the writer has flushed, and after
abbrev pub size_pending : Script
size_pending = script 2
    (by 1 written ++ by 2 (Mkdir s_of_a ∷ Stat f_in_s ∷ Stat f_in_s ∷ []))
    (Ops 1 4 ∷ snapshot_made ++ steps (ClientFromServer 2 ∷ Op 2 ∷ ServerTakes 2 ∷ ClientFromServer 2 ∷ []) ++ Drain ∷ Ops 2 1 ∷ [])

-- a file grows after a snapshot, and its writer gives it back
abbrev pub grown_and_released : Script
grown_and_released = script 2
    (by 1 (written ++ Write 1 2 (codes "bb") ∷ []) ++ by 2 (Mkdir s_of_a ∷ Stat f ∷ Stat f_in_s ∷ []))
    (Ops 1 4 ∷ Ops 2 1 ∷ Ops 1 1 ∷ Ops 2 2 ∷ [])
