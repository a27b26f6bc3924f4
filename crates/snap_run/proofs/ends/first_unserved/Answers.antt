use Rattle.std.proofs.Common.{sym, ap, ◌∙◌}
use Rattle.snap_run.specs.Ends.{first_untaken}
use Rattle.snap_run.proofs.Verdicts.{if_none}
use Rattle.snap_run.proofs.Verdicts.{all_taken}
use Rattle.snap_run.proofs.ends.first_unserved.Goals as goal

-- all client lines are taken
pub returns-in-None-clause-taken : goal.returns-in-None-clause-taken
returns-in-None-clause-taken c =
    if_none c.first_unfollowed.result _
    (all_taken c.args.script.now.lines (ap first_untaken (sym c.as_slice.ensures) ∙ sym c.in-None.ensures.found))
