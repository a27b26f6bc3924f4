use Rattle.std.proofs.Common.{ap, ◌∙◌}
use Rattle.std.specs.Prelude.{Option, option_map}
use Rattle.snap_ids.specs.Context.{is_listed}
use Rattle.plain_journal.specs.Entries.{state_after}
use Rattle.plain_journal.specs.Table.{to_purge}
use Rattle.snap_table.specs.Op.{id_of}
use Rattle.snap_table.specs.declared.op.TableOp.{TableOp}
use Rattle.journal_table.proofs.Least.{first_is_least}
use Rattle.journal_table.proofs.Lists.{listed_live}
use Rattle.journal_table.proofs.Steps.{same_operation}
use Rattle.journal_table.proofs.laws.answers_are_the_journals.Goals as goal

pub returns-clause-is_live : goal.returns-clause-is_live
returns-clause-is_live c table entries stands s = ap (is_listed s) stands.live ∙ listed_live s (state_after entries).snaps

pub returns-clause-outstanding : goal.returns-clause-outstanding
returns-clause-outstanding c table entries stands = ap (λ (op : Option TableOp). option_map id_of op) stands.outstanding ∙ same_operation entries

pub returns-clause-to_purge : goal.returns-clause-to_purge
returns-clause-to_purge c table entries stands = first_is_least table.unpurged (to_purge entries) stands.rising stands.unpurged
