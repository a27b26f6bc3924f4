use Rattle.std.proofs.Common.{sym, ap, ◌∙◌, Some}
use Rattle.journal_format.proofs.Listed.{same_is}
use Rattle.journal_format.proofs.reading.decode.Goals as goal

pub returns-in-Ok-clause-only : goal.returns-in-Ok-clause-only
returns-in-Ok-clause-only c = λ entries within e. ap (λ l. Some l) (same_is c.in-Ok.entries entries c.in-Ok.ensures.0 within (sym c.in-Ok.ensures.1 ∙ e))
