use Rattle.std.proofs.Common.{List, subst}
use Rattle.std.proofs.lemmas.List.{take_all}
use Rattle.plain_types.specs.declared.entry.Entry.{Entry}
use Rattle.meta_state.specs.Stands.{StandsFor}
use Rattle.tree_tests.proofs.Fronts.{may_next, stands_next}
use Rattle.tree_tests.proofs.states.after.Goals as goal

-- src/states.rt
pub apply-requires : goal.apply-requires
apply-requires c =
    record { legal = may_next c.args.entries.now c.loop-entry.entry-index c.entry-item.result c.loop-entry-test.true c.entry-item.is c.requires c.loop-entry.state c.loop-entry.invariant }

pub loop-entry-preserved : goal.loop-entry-preserved
loop-entry-preserved c =
    stands_next c.args.entries.now c.loop-entry.entry-index c.entry-item.result c.loop-entry-test.true c.entry-item.is c.requires c.loop-entry.state c.apply.new.self c.loop-entry.invariant c.in_ok-apply.ensures.applied

pub returns : goal.returns
returns c =
    subst (λ (entries : List Entry). StandsFor c.loop-entry.state entries) (take_all c.loop-entry.entry-index c.args.entries.now c.loop-entry-test.false) c.loop-entry.invariant
