use Rattle.std.proofs.Common.{◌≡◌, length, arith}
use Rattle.std.proofs.lemmas.List.{length-take}
use Rattle.snap_run.proofs.Transfers.{read_to_end, input_at_limit}
use Rattle.snap_run.proofs.edge.read_input.Goals as goal

-- the source is at its end
pub returns-then-n-eq0-clause-input : goal.returns-then-n-eq0-clause-input
returns-then-n-eq0-clause-input g c =
    let read = c.in-Ok.ensures.bytes in
    read_to_end _ _ _ c.loop-room.input.items _ c.in-Ok.n 16777217 c.loop-room.invariant.bounded c.if-n-eq0.true c.loop-room.invariant.taken read.0 (read.1 c.if-n-eq0.true (omega (arith, c.read.auto.room, length-take c.min-most.result c.loop-room.room, c.loop-room.invariant.sized, c.min-most.ensures, c.len-in-loop-room.ensures, c.len.ensures, c.loop-room-test.true)))

-- one byte more than a script can have was read
pub returns-clause-input : goal.returns-clause-input
returns-clause-input g c =
    let full : length c.loop-room.input.items ≡ 16777217 = omega (arith, c.len.ensures, c.loop-room-test.false, c.loop-room.invariant.bounded) in
    input_at_limit _ _ c.loop-room.input.items 16777217 full c.loop-room.invariant.taken
