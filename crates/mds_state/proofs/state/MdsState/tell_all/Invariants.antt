use Rattle.std.proofs.Common.{◌≡◌, ◌≤◌, ◌-◌, true, List, Option}
use Rattle.std.specs.List.{list_all}
use Rattle.plain_types.specs.declared.entry.Entry.{Entry}
use Rattle.step_table.specs.Acts.{notices}
use Rattle.step_table.specs.ServerState.{Asked, Server, up_to}
use Rattle.mds_state.specs.Changed.{MayTell, is_made_kept, kept_in}
use Rattle.mds_state.specs.Stands.{StandsFor}
use Rattle.mds_state.proofs.state.MdsState.tell_all.Given as goal

abbrev pub invariant-loop-told : goal.invariant-loop-told
invariant-loop-told l = record {
  upto : l.told ≤ l.clients;
  same : l.clients ≡ l.fn.self.clients;
  clients : l.self.clients ≡ l.fn.self.clients;
  may : MayTell l.self l.kept;
  table : (s : Server) (taken : Option Asked) (before : List Entry) → StandsFor l.fn.self taken s → list_all (is_made_kept s.entries) l.kept ≡ true
      → l.kept ≡ kept_in before l.fn.self.tenures.holdings → StandsFor l.self taken (notices before s (up_to l.told));
}

abbrev pub decreases-loop-told : goal.decreases-loop-told
decreases-loop-told l = l.clients - l.told
