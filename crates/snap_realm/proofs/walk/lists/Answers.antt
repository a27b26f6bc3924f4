use Rattle.std.proofs.Common.{Bool, ◌+◌, ◌-◌, ap, ◌∙◌, arith}
use Rattle.realm_story.specs.Records.{parent_by, lists, lists_by, up_from}
use Rattle.snap_realm.specs.Tree.{node_at}
use Rattle.snap_realm.proofs.Loops.{ended, out, step, now}
use Rattle.snap_realm.proofs.walk.lists.Goals as goal

pub loop-preserved : goal.loop-preserved
loop-preserved c = record {
  whole = c.loop.invariant.whole;
  left = λ k sum.
      c.in_default-decided.ensures (lists (node_at c.args.nodes.now.entries) (up_from k (node_at c.args.nodes.now.entries) c.parent-next.result) c.args.root c.args.id)
      ∙ ap (λ r. lists_by r c.in-Some.here c.args.root c.args.id (lists (node_at c.args.nodes.now.entries) (up_from k (node_at c.args.nodes.now.entries) c.parent-next.result) c.args.root c.args.id)) c.realm.ensures
      ∙ step Bool (λ way. lists (node_at c.args.nodes.now.entries) way c.args.root c.args.id) _ _ c.in-Some.here _ c.loop.counter _ _ c.loop.invariant.left c.in-Some.is c.parent-next.ensures k sum;
}

pub returns-in_default : goal.returns-in_default
returns-in_default c = ended Bool (λ way. lists (node_at c.args.nodes.now.entries) way c.args.root c.args.id) _ _ c.loop.counter _ _ c.loop.invariant.left c.loop.auto.counter-end c.in_default.is

pub returns-in-Some-decided : goal.returns-in-Some-decided
returns-in-Some-decided c =
    c.in-Some-decided.ensures (lists (node_at c.args.nodes.now.entries) (up_from (c.len-end.result - (c.loop.counter + 1)) (node_at c.args.nodes.now.entries) (parent_by (node_at c.args.nodes.now.entries c.in-Some.here.0))) c.args.root c.args.id)
    ∙ ap (λ r. lists_by r c.in-Some.here c.args.root c.args.id (lists (node_at c.args.nodes.now.entries) (up_from (c.len-end.result - (c.loop.counter + 1)) (node_at c.args.nodes.now.entries) (parent_by (node_at c.args.nodes.now.entries c.in-Some.here.0))) c.args.root c.args.id)) c.realm.ensures
    ∙ now Bool (λ way. lists (node_at c.args.nodes.now.entries) way c.args.root c.args.id) _ _ c.in-Some.here c.loop.counter _ _ c.loop.invariant.left c.in-Some.is c.loop-test.true

pub returns : goal.returns
returns c = out Bool (λ way. lists (node_at c.args.nodes.now.entries) way c.args.root c.args.id) _ _ c.loop.counter _ _ c.loop.invariant.left (omega (arith, c.loop.auto.counter-end, c.loop-test.false))
