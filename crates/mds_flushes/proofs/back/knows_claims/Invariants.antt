use Rattle.std.proofs.Common.{◌≡◌, length, Option}
use Rattle.std.specs.List.{list_all}
use Rattle.step_table.specs.ServerState.{Asked, Server}
use Rattle.mds_state.specs.Stands.{StandsFor}
use Rattle.mds_flushes.specs.Takes.{is_known_claim}
use Rattle.mds_flushes.proofs.back.knows_claims.Given as goal

-- what is left decides
abbrev pub invariant-loop-claim : goal.invariant-loop-claim
invariant-loop-claim l =
    (s : Server) (taken : Option Asked) → StandsFor l.fn.state taken s → list_all (is_known_claim s) l.left ≡ list_all (is_known_claim s) l.fn.claims

abbrev pub decreases-loop-claim : goal.decreases-loop-claim
decreases-loop-claim l = length l.left
