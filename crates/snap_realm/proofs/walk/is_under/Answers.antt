use Rattle.std.proofs.Common.{Bool, ◌||◌, ◌+◌, ◌-◌, ap, sym, ◌∙◌, eq-eqb, arith}
use Rattle.realm_story.specs.Family.{is_on}
use Rattle.realm_story.specs.Records.{parent_by, up_from}
use Rattle.snap_realm.specs.Tree.{node_at}
use Rattle.snap_realm.proofs.Loops.{ended, out, step, now, apart}
use Rattle.snap_realm.proofs.walk.is_under.Goals as goal

pub loop-preserved : goal.loop-preserved
loop-preserved c = record {
  whole = c.loop.invariant.whole;
  left = λ k sum. ap (λ b. b || is_on c.args.top (up_from k (node_at c.args.nodes.now.entries) c.parent-next.result)) (sym (apart _ _ c.if-top-here.false))
      ∙ step Bool (is_on c.args.top) _ _ c.in-Some.here _ c.loop.counter _ _ c.loop.invariant.left c.in-Some.is c.parent-next.ensures k sum;
}

pub returns-in_default : goal.returns-in_default
returns-in_default c = ended Bool (is_on c.args.top) _ _ c.loop.counter _ _ c.loop.invariant.left c.loop.auto.counter-end c.in_default.is

pub returns-then-top-here : goal.returns-then-top-here
returns-then-top-here c =
    ap (λ b. b || is_on c.args.top (up_from (c.len-end.result - (c.loop.counter + 1)) (node_at c.args.nodes.now.entries) (parent_by (node_at c.args.nodes.now.entries c.in-Some.here.0)))) (sym (eq-eqb _ _ c.if-top-here.true))
    ∙ now Bool (is_on c.args.top) _ _ c.in-Some.here c.loop.counter _ _ c.loop.invariant.left c.in-Some.is c.loop-test.true

pub returns : goal.returns
returns c = out Bool (is_on c.args.top) _ _ c.loop.counter _ _ c.loop.invariant.left (omega (arith, c.loop.auto.counter-end, c.loop-test.false))
