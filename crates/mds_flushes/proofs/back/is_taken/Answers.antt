use Rattle.std.proofs.Common.{Bool, ap, sym, ◌∙◌}
use Rattle.std.specs.Prelude.{◌&&◌}
use Rattle.step_table.specs.Flushes as table
use Rattle.step_table.specs.Flushes.{brought}
use Rattle.mds_flushes.proofs.back.is_taken.Goals as goal

pub returns-then-may_bring : goal.returns-then-may_bring
returns-then-may_bring c = λ s taken stands.
    let said = table.knows_brought s (brought c.args.client c.args.asked.now) in
    c.knows_brought.ensures s taken stands
    ∙ ap (λ (b : Bool). b && said) (sym c.if-may_bring.true ∙ c.may_bring.ensures s taken stands)
