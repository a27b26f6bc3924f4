use Rattle.std.proofs.Common.{◌≡◌, length, true, Option}
use Rattle.std.specs.List.{list_all}
use Rattle.snap_ids.specs.declared.id.Ino.{Ino}
use Rattle.plain_journal.specs.Coverage.{context}
use Rattle.server_holders.specs.Answers.{is_settled_at}
use Rattle.step_table.specs.Capabilities.{is_settled}
use Rattle.step_table.specs.ServerState.{Asked, Server}
use Rattle.mds_state.specs.Stands.{StandsFor}
use Rattle.mds_state.specs.Writers.{is_made_held}
use Rattle.mds_state.proofs.state.MdsState.all_settled.Given as goal

-- what is left decides
abbrev pub invariant-loop-held : goal.invariant-loop-held
invariant-loop-held l = record {
  made : (s : Server) (taken : Option Asked) → StandsFor l.fn.self taken s → list_all (is_made_held s.entries) l.left ≡ true;
  same : (s : Server) (taken : Option Asked) → StandsFor l.fn.self taken s
      → list_all (is_settled_at (λ (ino : Ino). (context s.entries ino).seq)) l.left ≡ list_all (is_settled s) s.holders;
}

abbrev pub decreases-loop-held : goal.decreases-loop-held
decreases-loop-held l = length l.left
