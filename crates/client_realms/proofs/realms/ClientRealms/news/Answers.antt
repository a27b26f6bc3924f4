use Rattle.std.proofs.Common.{rules}
use Rattle.client_realms.specs.Fresh.{growth, fresh_of}
use Rattle.client_realms.proofs.Steps.{one_more}
use Rattle.client_realms.proofs.realms.ClientRealms.news.Goals as goal

pub loop-file-preserved : goal.loop-file-preserved
loop-file-preserved c = record {
  fresh = one_more (fresh_of c.args.self.now) c.loop-file.news.fresh.items _ _ c.loop-file.left.now c.in-Some.rest.now c.in-Some.file.now c.loop-file.invariant.fresh c.in-Some.ensures.cases.0 c.in_ok-add.ensures.fresh;
  grown = one_more (growth c.args.self.now) c.loop-file.news.grown.items _ _ c.loop-file.left.now c.in-Some.rest.now c.in-Some.file.now c.loop-file.invariant.grown c.in-Some.ensures.cases.0 c.in_ok-add.ensures.grown;
  born = search rules;
}
