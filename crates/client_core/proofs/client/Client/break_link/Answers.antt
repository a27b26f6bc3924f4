use Rattle.client_core.proofs.Breaks.{may_break}
use Rattle.client_core.proofs.client.Client.break_link.Goals as goal

pub op-requires : goal.op-requires
op-requires c = record { may = may_break _ c.requires.may }
