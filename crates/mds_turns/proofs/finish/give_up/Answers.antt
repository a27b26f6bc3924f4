use Rattle.std.proofs.Common.{Some}
use Rattle.plain_types.specs.declared.entry.What.TheVariants.{Rollback}
use Rattle.step_table.specs.Acts.{act, own_entry, Buffer}
use Rattle.mds_turns.proofs.finish.give_up.Goals as goal

pub returns-clause-table : goal.returns-clause-table
returns-clause-table c = λ s stands.
    c.in_ok-defer_first.ensures.table (act s (Buffer (own_entry (Rollback c.args.id)))) (c.in_ok-write_own.ensures.table s (Some c.args.asked) stands)
