use Rattle.std.proofs.Common.{◌≡◌, length, Option}
use Rattle.std.specs.List.{list_all}
use Rattle.step_table.specs.ServerState.{Asked, Server}
use Rattle.mds_state.specs.Stands.{StandsFor}
use Rattle.mds_flushes.specs.Takes.{is_known}
use Rattle.mds_flushes.proofs.back.knows_flushes.Given as goal

-- what is left decides
abbrev pub invariant-loop-flush : goal.invariant-loop-flush
invariant-loop-flush l =
    (s : Server) (taken : Option Asked) → StandsFor l.fn.state taken s → list_all (is_known s) l.left ≡ list_all (is_known s) l.fn.flushes

abbrev pub decreases-loop-flush : goal.decreases-loop-flush
decreases-loop-flush l = length l.left
