use Rattle.std.proofs.Common.{cond, ◌+◌, ◌-◌, ap, sym, ◌∙◌, arith}
use Rattle.snap_ids.specs.declared.id.Ino.{Ino}
use Rattle.realm_story.specs.Records.{parent_by, realm_by, is_realm, nearest_on, up_from}
use Rattle.snap_realm.specs.Tree.{node_at}
use Rattle.snap_realm.proofs.Loops.{ended, out, step, now}
use Rattle.snap_realm.proofs.walk.nearest.Goals as goal

pub loop-preserved : goal.loop-preserved
loop-preserved c = record {
  whole = c.loop.invariant.whole;
  left = λ k sum.
      ap (λ b. cond b c.in-Some.here (nearest_on (λ y. is_realm (realm_by (node_at c.args.nodes.now.entries y.0))) c.in-Some.here (up_from k (node_at c.args.nodes.now.entries) c.parent-next.result))) (sym c.if-begins.false ∙ c.begins.ensures)
      ∙ step Ino (nearest_on (λ y. is_realm (realm_by (node_at c.args.nodes.now.entries y.0))) c.loop.last) _ _ c.in-Some.here _ c.loop.counter _ _ c.loop.invariant.left c.in-Some.is c.parent-next.ensures k sum;
}

pub returns-in_default : goal.returns-in_default
returns-in_default c = ended Ino (nearest_on (λ y. is_realm (realm_by (node_at c.args.nodes.now.entries y.0))) c.loop.last) _ _ c.loop.counter _ _ c.loop.invariant.left c.loop.auto.counter-end c.in_default.is

pub returns-then-begins : goal.returns-then-begins
returns-then-begins c =
    ap (λ b. cond b c.in-Some.here (nearest_on (λ y. is_realm (realm_by (node_at c.args.nodes.now.entries y.0))) c.in-Some.here (up_from (c.len-end.result - (c.loop.counter + 1)) (node_at c.args.nodes.now.entries) (parent_by (node_at c.args.nodes.now.entries c.in-Some.here.0))))) (sym c.if-begins.true ∙ c.begins.ensures)
    ∙ now Ino (nearest_on (λ y. is_realm (realm_by (node_at c.args.nodes.now.entries y.0))) c.loop.last) _ _ c.in-Some.here c.loop.counter _ _ c.loop.invariant.left c.in-Some.is c.loop-test.true

pub returns : goal.returns
returns c = out Ino (nearest_on (λ y. is_realm (realm_by (node_at c.args.nodes.now.entries y.0))) c.loop.last) _ _ c.loop.counter _ _ c.loop.invariant.left (omega (arith, c.loop.auto.counter-end, c.loop-test.false))
