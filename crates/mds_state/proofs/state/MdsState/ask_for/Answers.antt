use Rattle.std.proofs.Common.{ℕ, ◌≤◌, subst, sym}
use Rattle.snap_ids.specs.declared.id.SnapId.{SnapId}
use Rattle.plain_journal.specs.Entries.{applied}
use Rattle.step_table.specs.ServerState.{Asked, Server}
use Rattle.std.specs.Prelude.{Option}
use Rattle.mds_state.specs.Given.{IsGiven}
use Rattle.mds_state.specs.Parts.{Parts}
use Rattle.mds_state.specs.Stands.{StandsFor}
use Rattle.mds_state.specs.Tenures.{Asks}
use Rattle.mds_state.proofs.Asks.{given_so, gives}
use Rattle.mds_state.proofs.state.MdsState.ask_for.Goals as goal
use Rattle.mds_state.proofs.state.MdsState.ask_for.Goals.{In_ok-given}

-- what was asked, after the last snapshot of the table
asked : (c : In_ok-given) (s : Server) (taken : Option Asked) → StandsFor c.args.self.now taken s → Asks c.in_ok-given.given c.args.client c.args.ino c.args.mode (record { 0 = applied s.entries }) c.self.inside.tenures c.ask.new.self
asked c s taken stands =
    let now = subst (λ (p : Parts). StandsFor p taken s) (sym c.self.view_is) stands in
    subst (λ (last : SnapId). Asks c.in_ok-given.given c.args.client c.args.ino c.args.mode last c.self.inside.tenures c.ask.new.self) (c.applied-applied.ensures s.clients s.entries s.durable now.written) c.in_ok-given.ensures

given : (c : In_ok-given) (s : Server) (taken : Option Asked) → StandsFor c.args.self.now taken s → IsGiven c.in_ok-given.given s c.args.client c.args.ino c.args.mode
given c s taken stands =
    let now = subst (λ (p : Parts). StandsFor p taken s) (sym c.self.view_is) stands in
    given_so _ taken s now c.args.client c.args.ino c.args.mode c.ask.new.self
    (λ free. c.conflicts_are_the_tables.ensures.granted _ _ s c.args.client c.args.ino c.args.mode now.tenures.stands free)
    (λ not_free. c.conflicts_are_the_tables.ensures.recalled _ _ s c.args.client c.args.ino c.args.mode now.tenures.table now.tenures.theirs now.tenures.stands not_free)
    c.in_ok-given.given (asked c s taken stands)
    (c.modes_are_the_tables.ensures.reads _ _ s c.args.client c.args.ino now.tenures.table now.tenures.stands)

pub returns-clause-answer : goal.returns-clause-answer
returns-clause-answer c = λ s taken stands. given (goal.at.returns-clause-answer c).In_ok-given s taken stands

pub returns-clause-table : goal.returns-clause-table
returns-clause-table c = λ s taken stands file.
    let it = (goal.at.returns-clause-table c).In_ok-given in
    let now = subst (λ (p : Parts). StandsFor p taken s) (sym c.self.view_is) stands in
    gives _ taken s now c.args.client c.args.ino c.args.mode c.ask.new.self
    (λ free. c.conflicts_are_the_tables.ensures.granted _ _ s c.args.client c.args.ino c.args.mode now.tenures.stands free)
    (λ not_free. c.conflicts_are_the_tables.ensures.recalled _ _ s c.args.client c.args.ino c.args.mode now.tenures.table now.tenures.theirs now.tenures.stands not_free)
    c.requires.from_one (subst (λ (n : ℕ). c.args.client ≤ n) stands.clients c.requires.upto) file
    (c.tables_stay_tables.ensures.asked c.args.client c.args.ino c.args.mode (record { 0 = applied s.entries }) _ now.tenures.table)
    (λ free. c.a_file_is_granted.ensures _ _ s c.args.client c.args.ino c.args.mode now.tenures.table now.tenures.alone now.tenures.stands free)
    (λ not_free. c.a_refused_request_changes_nothing.ensures _ _ s c.args.client c.args.ino c.args.mode (record { 0 = applied s.entries }) now.tenures.stands not_free)
    c.in_ok-given.given (asked it s taken stands) (given it s taken stands)
