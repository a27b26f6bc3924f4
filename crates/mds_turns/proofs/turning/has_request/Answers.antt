use Rattle.std.proofs.Common.{ap, sym, ◌∙◌, is_some}
use Rattle.std.specs.Prelude.{option_map}
use Rattle.mds_turns.proofs.turning.has_request.Goals as goal

pub returns-in-None : goal.returns-in-None
returns-in-None c = λ s taken stands. ap is_some (ap (option_map _) (sym c.in-None.is) ∙ c.operation_request.ensures s taken stands)

pub returns-in-Some : goal.returns-in-Some
returns-in-Some c = λ s taken stands. ap is_some (ap (option_map _) (sym c.in-Some.is) ∙ c.operation_request.ensures s taken stands)
