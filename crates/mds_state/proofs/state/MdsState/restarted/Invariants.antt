use Rattle.std.proofs.Common.{◌≡◌, ◌++◌, [], None}
use Rattle.mds_state.specs.Stands.{AllFollow, StandsFor, bare}
use Rattle.mds_state.proofs.state.MdsState.restarted.Given as goal

abbrev pub invariant-loop-entry : goal.invariant-loop-entry
invariant-loop-entry l = record {
  stands : StandsFor l.state None (bare l.clients l.yielded []);
  follow : AllFollow l.clients l.yielded l.entry-iterator.rest.items;
  whole : l.yielded ++ l.entry-iterator.rest.items ≡ l.fn.entries;
  clients : l.state.clients ≡ l.clients;
}
