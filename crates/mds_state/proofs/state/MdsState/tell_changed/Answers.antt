use Rattle.std.proofs.Common.{◌≡◌, ◌≤◌, length, arith}
use Rattle.std.proofs.lemmas.Bool.Decides.{nat_tests}
use Rattle.std.proofs.lemmas.List.{nil_from_length}
use Rattle.mds_state.specs.Changed.{changed_in}
use Rattle.mds_state.proofs.Changed.{silent, spoken}
use Rattle.mds_state.proofs.state.MdsState.tell_changed.Goals as goal

pub returns-in_ok-tell_files-clause-table : goal.returns-in_ok-tell_files-clause-table
returns-in_ok-tell_files-clause-table c = λ s taken stands made.
    let ok = c.in_ok-files.files.ok.0 in
    let is = c.is_empty.ensures in
    let here = c.if-not-is_empty.true in
    let some : 1 ≤ length c.in_ok-files.files.items = grind (arith, nat_tests) in
    let same = c.in_ok-files.ensures.told s taken stands made in
    spoken c.tell_files.new.self taken s c.args.client (changed_in s.entries c.args.client c.args.kept.now) c.in_ok-files.files.items same some
    (c.in_ok-tell_files.ensures.table s taken (changed_in s.entries c.args.client c.args.kept.now) stands same)

pub returns-else-not-is_empty-clause-table : goal.returns-else-not-is_empty-clause-table
returns-else-not-is_empty-clause-table c = λ s taken stands made.
    let ok = c.in_ok-files.files.ok.0 in
    let is = c.is_empty.ensures in
    let here = c.if-not-is_empty.false in
    let long : length c.in_ok-files.files.items ≡ 0 = grind (arith, nat_tests) in
    silent c.args.self.now taken s c.args.client (changed_in s.entries c.args.client c.args.kept.now) c.in_ok-files.files.items (c.in_ok-files.ensures.told s taken stands made)
    (nil_from_length _ long) stands
