use Rattle.std.proofs.Common.{subst, sym}
use Rattle.plain_types.specs.declared.entry.Entry.{Entry}
use Rattle.step_table.specs.Acts.{act, Buffer}
use Rattle.mds_state.specs.Stands.{MayFollow, StandsFor}
use Rattle.mds_turns.proofs.Follows.{may_own, own_follows}
use Rattle.mds_turns.proofs.own.write_own.Goals as goal

pub buffer-requires : goal.buffer-requires
buffer-requires c = record { may = may_own c.args.state.now c.args.what c.own_entry-entry.result c.own_entry-entry.ensures c.requires.state c.requires.own }

pub returns-clause-table : goal.returns-clause-table
returns-clause-table c = λ s taken stands.
    subst (λ (e : Entry). StandsFor c.buffer.new.self taken (act s (Buffer e))) c.own_entry-entry.ensures
    (c.in_ok-buffer.ensures.table s taken stands (subst (MayFollow s.clients s.entries) (sym c.own_entry-entry.ensures) (own_follows s c.args.what c.requires.own)))
