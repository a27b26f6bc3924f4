use Rattle.std.proofs.Common.{[], ◌∷◌, sym, subst}
use Rattle.std.specs.Prelude.{if◌then◌else◌}
use Rattle.step_table.specs.Acts.{Settled}
use Rattle.step_table.specs.Flushes.{take_flush}
use Rattle.step_table.specs.ServerState.{Server}
use Rattle.mds_state.specs.Stands.{StandsFor}
use Rattle.mds_flushes.proofs.Later.{acts_more}
use Rattle.mds_flushes.proofs.back.take_brought.Goals as goal

pub returns-clause-table : goal.returns-clause-table
returns-clause-table c = λ s taken stands known.
    let f = c.args.flush.now in
    subst (λ (t : Server). StandsFor c.settle_brought.new.state taken t)
    (sym (acts_more s (take_flush c.args.client s f) (if f.release then [] else Settled c.args.client f.ino f.upto ∷ [])))
    (c.settle_brought.ensures.table _ taken (c.in_ok-take_flush.ensures.table s taken stands known))
