use Rattle.plain_types.specs.declared.entry.What.TheVariants.{Trim}
use Rattle.step_table.specs.Acts.{act, own_entry, Buffer, SendPurge}
use Rattle.mds_asks.proofs.Acting.{stands_so}
use Rattle.mds_turns.proofs.collect.purge.Goals as goal

pub returns-clause-table : goal.returns-clause-table
returns-clause-table c = λ s stands.
    let t = act s (Buffer (own_entry (Trim c.args.id))) in
    stands_so c.send_purge.new.self s.hand (act t (SendPurge c.args.id)) (c.in_ok-send_purge.ensures.table t s.hand (c.in_ok-write_own.ensures.table s s.hand stands))
