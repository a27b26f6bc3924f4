use Rattle.std.proofs.Common.{ap}
use Rattle.std.specs.Prelude.{nat_le}
use Rattle.mds_turns.proofs.turning.is_durable.Goals as goal

pub returns : goal.returns
returns c = λ s taken stands. ap (nat_le c.args.number) (c.durable-durable.ensures s taken stands)
