use Rattle.std.proofs.Common.{[], take}
use Rattle.direct_journal.specs.Direct.{ServesAfter}
use Rattle.direct_journal.specs.Journal.{journal_of}
use Rattle.meta_state.specs.Stands.{StandsFor}
use Rattle.snap_run.proofs.Served.{rising}
use Rattle.snap_run.proofs.serve.history_of.Given as goal

-- the events so far serve the lines so far, and the state stands for what they write down
abbrev pub invariant-loop-i : goal.invariant-loop-i
invariant-loop-i l = record {
  stands : StandsFor l.meta (journal_of l.events.items);
  serves : ServesAfter [] (rising 0 (take l.i l.lines)) l.events.items;
}
