use Rattle.std.proofs.Common.{ℕ, ap, ◌∙◌, nat_eq}
use Rattle.node_channels.specs.Channels.{count}
use Rattle.node_channels.proofs.Counted.{counts_none}
use Rattle.node_channels.proofs.channels.Channels.is_empty.Goals as goal

-- a count of none
pub returns-clause-none : goal.returns-clause-none
returns-clause-none c = counts_none c.args.self.now (nat_eq c.self.inside.waiting 0) (ap (λ (n : ℕ). nat_eq n 0) (c.self.invariant.1 ∙ ap count c.self.view_is))
