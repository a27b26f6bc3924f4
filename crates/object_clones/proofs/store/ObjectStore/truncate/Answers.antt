use Rattle.std.proofs.lemmas.Result.{on_ok_weaker, on_err_weaker}
use Rattle.plain_types.specs.declared.message.ToStore.TheVariants as message
use Rattle.object_clones.specs.declared.object.Edit.TheVariants as edit
use Rattle.object_clones.proofs.Taken.{edited_stands, same_stands, says_cut}
use Rattle.object_clones.proofs.store.ObjectStore.truncate.Goals as goal

pub returns-clause-ok : goal.returns-clause-ok
returns-clause-ok c = on_ok_weaker c.edit.result (λ h size taken stands. edited_stands c.args.self.now c.edit.new.self size taken
    (message.Cut c.args.ino c.args.length c.args.context.now) c.args.ino (edit.Cut c.args.length) c.args.context.now _ (says_cut c.args.ino c.args.length c.args.context.now) c.edit.ensures.well_formed h stands) c.edit.ensures.ok

pub returns-clause-stands : goal.returns-clause-stands
returns-clause-stands c = on_err_weaker c.edit.result (λ h size taken stands. same_stands c.args.self.now c.edit.new.self size taken h stands) c.edit.ensures.err
