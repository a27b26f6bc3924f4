use Rattle.std.proofs.Common.{None, subst, sym}
use Rattle.step_table.specs.Flushes.{knows_file, on_flush}
use Rattle.step_table.specs.Row.{Row}
use Rattle.step_table.specs.ServerState.{is_current}
use Rattle.mds_requests.proofs.Turned.{as_it_is}
use Rattle.mds_rows.specs.Given.{Gives}
use Rattle.mds_rows.proofs.Rules.{both, flush_ready, flush_row, rule_given}
use Rattle.mds_rows.proofs.taking.flush_now.Goals as goal

pub on_flush-requires : goal.on_flush-requires
on_flush-requires c =
    let s = c.requires.can.state in
    let stands = c.requires.can.stands in
    record {
      from_one = c.requires.from_one;
      upto = c.requires.upto;
      known = record {
        taken = None;
        state = s;
        stands = stands;
        known = (both (is_current s c.args.client c.args.conn) (knows_file s c.args.flush.now.ino) (c.requires.well s stands)).1;
      };
      fits = c.requires.fits;
    }

pub go_on-requires : goal.go_on-requires
go_on-requires c =
    let s = c.requires.can.state in
    let stands = c.requires.can.stands in
    let well = c.requires.well s stands in
    let known = (both (is_current s c.args.client c.args.conn) (knows_file s c.args.flush.now.ino) well).1 in
    record {
      may = record {
        state = s;
        done = on_flush c.args.client s c.args.flush.now;
        acted = c.in_ok-opened.ensures.acts s (as_it_is c.args.state.now None s stands) known;
        ready = flush_ready s c.args.client c.args.conn c.args.flush.now well c.many_held-many.result stands.hand (c.many_held-many.ensures s None stands) c.requires.can.may;
      };
    }

pub returns-clause-row : goal.returns-clause-row
returns-clause-row c = λ s stands may.
    let well = c.requires.well s stands in
    let known = (both (is_current s c.args.client c.args.conn) (knows_file s c.args.flush.now.ino) well).1 in
    let many = c.many_held-many.ensures s None stands in
    subst (λ (row : Row _). Gives c.go_on.new.state c.in_ok-sent.sent row) (sym (flush_row s c.args.client c.args.conn c.args.flush.now well))
    (rule_given c.go_on.new.state c.in_ok-sent.sent s (on_flush c.args.client s c.args.flush.now) c.many_held-many.result many
    (c.in_ok-sent.ensures.row s (on_flush c.args.client s c.args.flush.now) (c.in_ok-opened.ensures.acts s (as_it_is c.args.state.now None s stands) known)
    (flush_ready s c.args.client c.args.conn c.args.flush.now well c.many_held-many.result stands.hand many may)))
