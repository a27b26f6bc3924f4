use Rattle.std.proofs.Common.{◌≡◌, List, [], ◌∷◌, ◌++◌, refl, ap, ◌∙◌, arith}
use Rattle.snap_ids.specs.declared.values.RealmInfo.{RealmInfo}
use Rattle.realm_story.specs.Records.{infos, info_by, up_from}
use Rattle.snap_realm.specs.Tree.{node_at}
use Rattle.snap_realm.proofs.Loops.{ended, out, step}
use Rattle.snap_realm.proofs.walk.infos.Goals as goal

with_none : (xs : List RealmInfo) → xs ≡ xs ++ []
with_none [] = refl
with_none (x ∷ xs) = ap (λ ys. x ∷ ys) (with_none xs)

pub loop-preserved : goal.loop-preserved
loop-preserved c = record {
  whole = c.loop.invariant.whole;
  left = λ k sum.
      c.in_ok-push_info.ensures (infos (node_at c.args.nodes.now.entries) c.args.snaps.now (up_from k (node_at c.args.nodes.now.entries) c.parent-next.result))
      ∙ ap (λ r. c.loop.infos.items ++ info_by r c.in-Some.here c.args.snaps.now (infos (node_at c.args.nodes.now.entries) c.args.snaps.now (up_from k (node_at c.args.nodes.now.entries) c.parent-next.result))) c.realm.ensures
      ∙ step (List RealmInfo) (λ way. c.loop.infos.items ++ infos (node_at c.args.nodes.now.entries) c.args.snaps.now way) _ _ c.in-Some.here _ c.loop.counter _ _ c.loop.invariant.left c.in-Some.is c.parent-next.ensures k sum;
}

pub returns-in_default : goal.returns-in_default
returns-in_default c = with_none c.loop.infos.items ∙ ended (List RealmInfo) (λ way. c.loop.infos.items ++ infos (node_at c.args.nodes.now.entries) c.args.snaps.now way) _ _ c.loop.counter _ _ c.loop.invariant.left c.loop.auto.counter-end c.in_default.is

pub returns : goal.returns
returns c = with_none c.loop.infos.items ∙ out (List RealmInfo) (λ way. c.loop.infos.items ++ infos (node_at c.args.nodes.now.entries) c.args.snaps.now way) _ _ c.loop.counter _ _ c.loop.invariant.left (omega (arith, c.loop.auto.counter-end, c.loop-test.false))
