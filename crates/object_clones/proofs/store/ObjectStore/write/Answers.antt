use Rattle.std.proofs.Common.{◌++◌, ◌∷◌, [], ℕ, List, subst}
use Rattle.std.proofs.lemmas.Result.{on_ok_weaker, on_err_weaker}
use Rattle.plain_types.specs.declared.message.ToStore.TheVariants as message
use Rattle.object_clones.specs.declared.object.Edit.TheVariants as edit
use Rattle.object_clones.specs.Stands.{StandsFor}
use Rattle.object_clones.proofs.Taken.{edited_stands, same_stands, says_write}
use Rattle.object_clones.proofs.store.ObjectStore.write.Goals as goal

pub returns-clause-ok : goal.returns-clause-ok
returns-clause-ok c =
    let slice = c.as_slice-bytes.result in
    on_ok_weaker c.edit.result (λ h size taken stands.
    let P : List ℕ → Type 0 = λ bytes. StandsFor c.edit.new.self size (taken ++ message.WriteAt c.args.ino c.args.offset bytes c.args.context.now ∷ []) in
    subst P c.as_slice-bytes.ensures (edited_stands c.args.self.now c.edit.new.self size taken
    (message.WriteAt c.args.ino c.args.offset slice.now c.args.context.now) c.args.ino (edit.Write c.args.offset slice) c.args.context.now _
    (says_write c.args.ino c.args.offset slice c.args.context.now) c.edit.ensures.well_formed h stands)) c.edit.ensures.ok

pub returns-clause-stands : goal.returns-clause-stands
returns-clause-stands c = on_err_weaker c.edit.result (λ h size taken stands. same_stands c.args.self.now c.edit.new.self size taken h stands) c.edit.ensures.err
