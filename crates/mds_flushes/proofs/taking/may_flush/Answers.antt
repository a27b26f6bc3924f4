use Rattle.std.proofs.Common.{sym, ◌∙◌}
use Rattle.mds_flushes.proofs.taking.may_flush.Goals as goal

pub returns-clause-may : goal.returns-clause-may
returns-clause-may c = λ is so.
    record { taken = is.taken; state = is.state; stands = is.stands; known = sym (c.knows_file.ensures is.state is.taken is.stands) ∙ so }
