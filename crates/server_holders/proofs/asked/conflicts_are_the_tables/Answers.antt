use Rattle.std.proofs.Common.{ap}
use Rattle.cap_state.specs.Table.{answer_by}
use Rattle.server_holders.proofs.Grants.{none_against}
use Rattle.server_holders.proofs.Same.{recalls_these}
use Rattle.server_holders.proofs.asked.conflicts_are_the_tables.Goals as goal

pub returns-clause-granted : goal.returns-clause-granted
returns-clause-granted c held marks s client ino mode stands none = ap answer_by (none_against held marks s.holders stands client ino mode none)

pub returns-clause-recalled : goal.returns-clause-recalled
returns-clause-recalled c held marks s client ino mode tab clients stands conflict = recalls_these held marks s stands client ino mode tab clients conflict
