use Rattle.std.proofs.Common.{◌≡◌, ℕ, Bool, true, false, cond, max, leb, ap, ◌∙◌, arith}
use Rattle.realm_story.specs.Records.{seq_on, seq_by, up_from}
use Rattle.snap_realm.specs.Tree.{node_at}
use Rattle.snap_realm.specs.Walks.{most}
use Rattle.snap_realm.proofs.Loops.{ended, out, step}
use Rattle.snap_realm.proofs.walk.seq.Goals as goal

-- nothing above counts for nothing
alone : (a b : ℕ) → a ≡ most a b 0
alone a b = go (leb b 0)
  where
    go : (t : Bool) → a ≡ max a (cond t 0 0)
    go true = omega arith
    go false = omega arith

pub loop-preserved : goal.loop-preserved
loop-preserved c = record {
  whole = c.loop.invariant.whole;
  left = λ k sum.
      c.raised-seen.ensures (seq_on (node_at c.args.nodes.now.entries) (up_from k (node_at c.args.nodes.now.entries) c.parent-next.result))
      ∙ ap (λ r. most c.loop.seen.0 c.loop.seen.1 (seq_by r (seq_on (node_at c.args.nodes.now.entries) (up_from k (node_at c.args.nodes.now.entries) c.parent-next.result)))) c.realm.ensures
      ∙ step ℕ (λ way. most c.loop.seen.0 c.loop.seen.1 (seq_on (node_at c.args.nodes.now.entries) way)) _ _ c.in-Some.here _ c.loop.counter _ _ c.loop.invariant.left c.in-Some.is c.parent-next.ensures k sum;
}

pub returns-in_default : goal.returns-in_default
returns-in_default c = alone c.loop.seen.0 c.loop.seen.1 ∙ ended ℕ (λ way. most c.loop.seen.0 c.loop.seen.1 (seq_on (node_at c.args.nodes.now.entries) way)) _ _ c.loop.counter _ _ c.loop.invariant.left c.loop.auto.counter-end c.in_default.is

pub returns : goal.returns
returns c = alone c.loop.seen.0 c.loop.seen.1 ∙ out ℕ (λ way. most c.loop.seen.0 c.loop.seen.1 (seq_on (node_at c.args.nodes.now.entries) way)) _ _ c.loop.counter _ _ c.loop.invariant.left (omega (arith, c.loop.auto.counter-end, c.loop-test.false))
