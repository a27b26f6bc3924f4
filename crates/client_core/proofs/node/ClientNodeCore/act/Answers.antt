use Rattle.std.proofs.Common.{refl}
use Rattle.client_core.specs.Laws.{stands}
use Rattle.client_core.specs.Owns.{step_of, taken_of}
use Rattle.client_core.specs.Rows.{number_of}
use Rattle.client_core.proofs.node.ClientNodeCore.act.Goals as goal

pub returns-in-Ok-make-clause-stands : goal.returns-in-Ok-make-clause-stands
returns-in-Ok-make-clause-stands c = λ node clients st.
    let step = step_of (number_of c.args.self.now) c.in-Some.own in
    let taken = taken_of c.in-Some.own in
    stands c.args.self.now c.make.new.self step taken c.in-Ok-make.done (c.in-Ok-make.ensures.row step taken refl refl) node clients st
