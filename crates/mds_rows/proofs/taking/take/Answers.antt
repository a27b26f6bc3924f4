use Rattle.std.proofs.Common.{None, sym, subst, ◌∙◌}
use Rattle.std.proofs.lemmas.Result.{IfOk-weaker}
use Rattle.step_table.specs.Messages.{to_server_fits}
use Rattle.step_table.specs.Row.{Row}
use Rattle.step_table.specs.ServerRows.{taken_from}
use Rattle.step_table.specs.ServerState.{Server}
use Rattle.mds_rows.specs.Given.{Gives}
use Rattle.mds_rows.proofs.Rules.{dropped, take_may, take_row}
use Rattle.mds_rows.proofs.taking.take.Goals as goal

pub take_from-requires : goal.take_from-requires
take_from-requires c =
    let fit = sym c.fits.ensures ∙ c.if-fits.true in
    record {
      from_one = c.requires.from_one;
      upto = c.requires.upto;
      can = record { state = c.requires.can.state; stands = c.requires.can.stands; may = take_may c.requires.can.state c.args.client c.args.message fit c.requires.can.may };
      fits = fit;
    }

pub returns-then-fits-clause-row : goal.returns-then-fits-clause-row
returns-then-fits-clause-row c = IfOk-weaker c.take_from.result _ _ (λ sent gives s stands may.
    let fit = sym c.fits.ensures ∙ c.if-fits.true in
    subst (λ (row : Row Server). Gives c.take_from.new.state sent row) (sym (take_row s c.args.client c.args.message fit))
    (gives s stands (take_may s c.args.client c.args.message fit may))) c.take_from.ensures.row

pub returns-else-fits-clause-row : goal.returns-else-fits-clause-row
returns-else-fits-clause-row c = IfOk-weaker c.send.result _ _ (λ sent gives s stands may.
    dropped c.send.new.state sent s (to_server_fits c.args.message) (taken_from s c.args.client c.args.message)
    (sym c.fits.ensures ∙ c.if-fits.false) (gives s None stands)) c.send.ensures.row
