use Rattle.std.proofs.Common.{ℕ, Option, sym, subst}
use Rattle.snap_ids.specs.declared.id.SnapId.{SnapId}
use Rattle.plain_types.specs.declared.entry.Entry.{Entry}
use Rattle.step_table.specs.Acts.{act, acts, Buffer}
use Rattle.step_table.specs.ServerRows.{roll_back_from}
use Rattle.mds_state.specs.Stands.{MayFollow, StandsFor}
use Rattle.mds_rows.proofs.Quiet.{may_roll_back, rolls_back}
use Rattle.mds_rows.proofs.rest.roll_back.Goals as goal

pub buffer-requires : goal.buffer-requires
buffer-requires c = record { may = may_roll_back c.args.state.now c.own_entry-entry.result c.in-Some.id c.own_entry-entry.ensures c.requires }

pub returns-in-None-clause-table : goal.returns-in-None-clause-table
returns-in-None-clause-table c = λ s taken stands.
    subst (λ (o : Option (SnapId × ℕ)). StandsFor c.args.state.now taken (acts s (roll_back_from o))) (c.in-None.ensures s taken stands) stands

pub returns-in_ok-buffer-in-Some-clause-table : goal.returns-in_ok-buffer-in-Some-clause-table
returns-in_ok-buffer-in-Some-clause-table c = λ s taken stands.
    subst (λ (o : Option (SnapId × ℕ)). StandsFor c.buffer.new.self taken (acts s (roll_back_from o))) (c.in-Some.ensures s taken stands)
    (subst (λ (e : Entry). StandsFor c.buffer.new.self taken (act s (Buffer e))) c.own_entry-entry.ensures
    (c.in_ok-buffer-in-Some.ensures.table s taken stands (subst (MayFollow s.clients s.entries) (sym c.own_entry-entry.ensures) (rolls_back s c.in-Some.id))))
