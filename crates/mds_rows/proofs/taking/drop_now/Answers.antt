use Rattle.std.proofs.Common.{None, subst, sym}
use Rattle.step_table.specs.Flushes.{on_drop}
use Rattle.step_table.specs.Row.{Row}
use Rattle.mds_requests.proofs.Turned.{as_it_is}
use Rattle.mds_rows.specs.Given.{Gives}
use Rattle.mds_rows.proofs.Rules.{drop_ready, drop_row, rule_given}
use Rattle.mds_rows.proofs.taking.drop_now.Goals as goal

pub go_on-requires : goal.go_on-requires
go_on-requires c =
    let s = c.requires.can.state in
    let stands = c.requires.can.stands in
    record {
      may = record {
        state = s;
        done = on_drop c.args.client s c.args.ino;
        acted = c.on_drop-opened.ensures.acts s (as_it_is c.args.state.now None s stands);
        ready = drop_ready s c.args.client c.args.conn c.args.ino (c.requires.well s stands) c.many_held-many.result stands.hand (c.many_held-many.ensures s None stands) c.requires.can.may;
      };
    }

pub returns-clause-row : goal.returns-clause-row
returns-clause-row c = λ s stands may.
    let well = c.requires.well s stands in
    let many = c.many_held-many.ensures s None stands in
    subst (λ (row : Row _). Gives c.go_on.new.state c.in_ok-sent.sent row) (sym (drop_row s c.args.client c.args.conn c.args.ino well))
    (rule_given c.go_on.new.state c.in_ok-sent.sent s (on_drop c.args.client s c.args.ino) c.many_held-many.result many
    (c.in_ok-sent.ensures.row s (on_drop c.args.client s c.args.ino) (c.on_drop-opened.ensures.acts s (as_it_is c.args.state.now None s stands))
    (drop_ready s c.args.client c.args.conn c.args.ino well c.many_held-many.result stands.hand many may)))
