use Rattle.std.proofs.Common.{◌≡◌, true, false, Some, ◌∙◌, sym, rules}
use Rattle.step_table.specs.Requests.{is_busy}
use Rattle.mds_changes.specs.Decided.{can_be_given}
use Rattle.mds_changes.proofs.Follows.{is_free, may_prepare, prepared_follows}
use Rattle.mds_changes.proofs.Makes.{prepares, prepares_by}
use Rattle.mds_changes.proofs.operation.prepare.Goals as goal

pub returns-then-is_busy-clause-table : goal.returns-then-is_busy-clause-table
returns-then-is_busy-clause-table c = λ s stands fit can.
    prepares c.defer.new.self c.args.alone s c.args.what true (sym (c.is_busy.ensures s (Some c.args.asked) stands) ∙ c.if-is_busy.true)
    (c.in_ok-defer.ensures.table s stands)

pub returns-clause-table : goal.returns-clause-table
returns-clause-table c = λ s stands fit can.
    let free : is_busy c.args.alone s ≡ false = sym (c.is_busy.ensures s (Some c.args.asked) stands) ∙ c.if-is_busy.false in
    let passed : c.can_be_given.result ≡ true = search rules in
    let given : can_be_given c.args.what ≡ true = sym c.can_be_given.ensures ∙ passed in
    prepares c.prepare.new.self c.args.alone s c.args.what false free
    (prepares_by c.prepare.new.self s c.args.asked c.args.what c.entry_for-entry.result c.entry_for-entry.ensures
    (c.in_ok-prepare.ensures.table s stands) (prepared_follows s c.args.asked c.args.what fit can given (is_free c.args.alone s free)))
