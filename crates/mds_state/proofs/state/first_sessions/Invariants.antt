use Rattle.std.proofs.Common.{◌≡◌, ◌≤◌, ◌-◌, replicate}
use Rattle.session_link.specs.Sessions.{first}
use Rattle.mds_state.proofs.state.first_sessions.Given as goal

abbrev pub invariant-loop-made : goal.invariant-loop-made
invariant-loop-made l = (l.sessions.items ≡ replicate l.made first) × (l.made ≤ l.clients)

abbrev pub decreases-loop-made : goal.decreases-loop-made
decreases-loop-made l = l.clients - l.made
