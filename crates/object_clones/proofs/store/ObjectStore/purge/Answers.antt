use Rattle.std.proofs.lemmas.Result.{on_ok_weaker, on_err_weaker}
use Rattle.object_clones.proofs.Taken.{purged_stands, same_stands}
use Rattle.object_clones.proofs.store.ObjectStore.purge.Goals as goal

pub returns-clause-ok : goal.returns-clause-ok
returns-clause-ok c = on_ok_weaker c.purge_all.result (λ h size taken stands. purged_stands c.args.self.now c.purge_all.new.self size taken c.args.s h stands) c.purge_all.ensures.ok

pub returns-clause-stands : goal.returns-clause-stands
returns-clause-stands c = on_err_weaker c.purge_all.result (λ h size taken stands. same_stands c.args.self.now c.purge_all.new.self size taken h stands) c.purge_all.ensures.err
