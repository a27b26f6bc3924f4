use Rattle.cap_state.proofs.Edits.{table_without, table_flushed}
use Rattle.cap_state.proofs.Kept.{table_asked, table_rebuilt}
use Rattle.cap_state.proofs.laws.tables_stay_tables.Goals as goal

pub returns-clause-asked : goal.returns-clause-asked
returns-clause-asked c = table_asked

pub returns-clause-released : goal.returns-clause-released
returns-clause-released c = table_without

pub returns-clause-flushed : goal.returns-clause-flushed
returns-clause-flushed c = table_flushed

pub returns-clause-rebuilt : goal.returns-clause-rebuilt
returns-clause-rebuilt c = table_rebuilt
