-- Scripts with schedules: who comes back after a broken link or a restart.
use Rattle.std.specs.Prelude.{ℕ, true, false, List, [], ◌∷◌, ◌++◌, codes}
use Rattle.plain_types.specs.declared.entry.What.TheVariants.{Settle}
use Rattle.plain_types.specs.declared.history.Sent.{Sent}
use Rattle.plain_types.specs.declared.history.Step.TheVariants.{Op, Flush, ClientFromServer, ServerTakes, Commit, Restart, Tend}
use Rattle.plain_types.specs.declared.message.FlushMsg.{FlushMsg}
use Rattle.plain_types.specs.declared.message.Message.TheVariants as message
use Rattle.plain_types.specs.declared.message.ToClient.TheVariants.{Welcome}
use Rattle.plain_types.specs.declared.script.Line.TheVariants.{Mkdir, Rmdir, Create, Unlink, Open, Write, Read, Cat, Barrier, Break}
use Rattle.plain_types.specs.declared.script.Planned.TheVariants.{Drain, All, Ops}
use Rattle.plain_types.specs.declared.script.Script.{Script}
use Rattle.step_table.specs.Messages.{trace_with}
use Rattle.step_table.specs.ServerState.{Server}
use Rattle.step_table.specs.ClientState.{context_at_first}
use Rattle.step_table.specs.Drops.{server, file, id, entry, stamp, flush}
use Rattle.step_table.specs.Example.{script, by, steps, at2, a, f, in_snap, s_of_a, f_in_s, written, snapshot_made}
use Rattle.step_table.specs.Orders.{removal_made}

-- A writer has flushed for a snapshot, and the server has that durably. The link breaks before the writer hears of it.
abbrev pub flushed_before_the_break : Script
flushed_before_the_break = script 2
    (by 1 (written ++ Break ∷ []) ++ by 2 (Mkdir s_of_a ∷ Cat f_in_s ∷ []))
    (Ops 1 4 ∷ snapshot_made
    ++ steps (ClientFromServer 1 ∷ Flush 1 ∷ ServerTakes 1 ∷ Commit ∷ Op 1 ∷ []) ++ Drain ∷ Ops 2 1 ∷ [])

-- the same, where the writer has heard of it
abbrev pub acknowledged_before_the_break : Script
acknowledged_before_the_break = script 2
    (by 1 (written ++ Break ∷ []) ++ by 2 (Mkdir s_of_a ∷ Cat f_in_s ∷ []))
    (Ops 1 4 ∷ Ops 2 1 ∷ Ops 1 1 ∷ Ops 2 1 ∷ [])

-- `/a/g`, and `g` in the snapshot `s` of `/a`
abbrev pub g : List (List ℕ)
g = at2 (codes "a") (codes "g")

abbrev pub g_in_s : List (List ℕ)
g_in_s = in_snap (codes "a") (codes "s") (codes "g")

-- After a snapshot client 1 writes two files, of which it has read one before. Then its link breaks.
abbrev pub held_since_the_snapshot : Script
held_since_the_snapshot = script 2
    (by 1 (Mkdir a ∷ Create f 420 ∷ Create g 420 ∷ Open 1 f true ∷ Read 1 ∷ Open 2 g true ∷ Write 1 0 (codes "aa")
    ∷ Write 2 0 (codes "bb") ∷ Break ∷ [])
    ++ by 2 (Mkdir s_of_a ∷ Cat f_in_s ∷ Cat f_in_s ∷ Cat g_in_s ∷ []))
    (Ops 1 6 ∷ Ops 2 1 ∷ Ops 1 2 ∷ Ops 2 1 ∷ Ops 1 1 ∷ Ops 2 2 ∷ [])

-- a snapshot is made while client 1 connects anew, and client 1 writes again
abbrev pub broken_before_the_notice : Script
broken_before_the_notice = script 2
    (by 1 (written ++ Break ∷ Write 1 0 (codes "bb") ∷ []) ++ by 2 (Mkdir s_of_a ∷ Cat f_in_s ∷ []))
    (Ops 1 4 ∷ steps (Op 1 ∷ []) ++ snapshot_made ++ Drain ∷ Ops 1 1 ∷ Ops 2 1 ∷ [])

-- client 2 reads a file, the server restarts, client 1 writes the file, and client 2 reads it again
abbrev pub reader_comes_back : Script
reader_comes_back = script 2
    (by 1 (written ++ Write 1 2 (codes "bb") ∷ []) ++ by 2 (Open 1 f false ∷ Read 1 ∷ Read 1 ∷ []))
    (Ops 1 4 ∷ Ops 2 2 ∷ steps (Restart 0 ∷ []) ++ Ops 1 1 ∷ Ops 2 1 ∷ [])

-- after a restart client 1 has connected and asks for a file, before client 2 can claim it
abbrev pub asked_before_the_claim : Script
asked_before_the_claim = script 2
    (by 2 written ++ by 1 (Cat f ∷ []))
    (Ops 2 4 ∷ steps (Restart 0 ∷ ClientFromServer 1 ∷ ServerTakes 1 ∷ ClientFromServer 1 ∷ Op 1 ∷ ServerTakes 1 ∷ []) ++ All ∷ [])

-- a snapshot is removed, and after a restart one of two clients has connected when the background turn is to be made
abbrev pub turn_before_all_connected : Script
turn_before_all_connected = script 2
    (by 1 (Mkdir a ∷ Mkdir s_of_a ∷ Rmdir s_of_a ∷ []))
    (Ops 1 2 ∷ steps (removal_made ++ Restart 0 ∷ ClientFromServer 1 ∷ ServerTakes 1 ∷ Tend ∷ []) ++ All ∷ [])

-- a purge is lost with a restart, and a client waits at a barrier
abbrev pub purge_lost : Script
purge_lost = script 1
    (by 1 (Mkdir a ∷ Mkdir s_of_a ∷ Rmdir s_of_a ∷ Barrier ∷ []))
    (Ops 1 2 ∷ steps (removal_made ++ Tend ∷ Restart 0 ∷ []) ++ All ∷ [])

-- the same for the deletion of a file
abbrev pub deletion_lost : Script
deletion_lost = script 1
    (by 1 (Mkdir a ∷ Create f 420 ∷ Unlink f ∷ Barrier ∷ []))
    (Ops 1 2 ∷ steps (Op 1 ∷ ServerTakes 1 ∷ Tend ∷ Restart 1 ∷ []) ++ All ∷ [])

-- a barrier has opened, and client 1's link breaks before it hears of that
abbrev pub broken_at_a_barrier : Script
broken_at_a_barrier = script 2
    (by 1 (Barrier ∷ Break ∷ []) ++ by 2 (Barrier ∷ []))
    (steps (Op 1 ∷ ServerTakes 1 ∷ Op 2 ∷ ServerTakes 2 ∷ Tend ∷ Commit ∷ Op 1 ∷ []) ++ All ∷ [])

-- a client whose link broke is to begin a line, or to send a piece, before it is welcomed
abbrev pub line_before_the_welcome : Script
line_before_the_welcome = script 1
    (by 1 (Break ∷ Mkdir a ∷ []))
    (steps (Op 1 ∷ Op 1 ∷ []) ++ All ∷ [])

abbrev pub piece_before_the_welcome : Script
piece_before_the_welcome = script 1
    (by 1 (written ++ Break ∷ []))
    (Ops 1 3 ∷ steps (Op 1 ∷ ServerTakes 1 ∷ ClientFromServer 1 ∷ Op 1 ∷ Flush 1 ∷ []) ++ All ∷ [])

-- client 1's first flush is in the journal
abbrev pub flushed_once : Server
flushed_once = record server {
  entries = server.entries ++ entry 1 (Settle file (id 1) (id 2) 2) ∷ [];
  durable = 3;
}

-- that flush
abbrev pub first_flush : FlushMsg
first_flush = flush file (id 1) (id 2) 2

-- client 1 is welcomed on its second connection, with this last flush, and told of its file
abbrev pub welcomed : List Sent
welcomed = record {
  to = 1;
  message = message.ToClient (Welcome 2 (stamp (id 1)) 1 (trace_with file context_at_first ∷ []));
} ∷ []
