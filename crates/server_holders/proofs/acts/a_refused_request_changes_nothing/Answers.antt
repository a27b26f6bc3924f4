use Rattle.server_holders.proofs.Same.{nothing_changes}
use Rattle.server_holders.proofs.acts.a_refused_request_changes_nothing.Goals as goal

pub returns : goal.returns
returns c held marks s client ino mode last stands conflict = nothing_changes held marks s stands client ino mode last conflict
