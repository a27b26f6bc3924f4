use Rattle.std.proofs.Common.{◌≡◌, ◌∙◌, sym, ap}
use Rattle.std.proofs.lemmas.Result.{IfOk-weaker}
use Rattle.object_clones.specs.Objects.{list_of}
use Rattle.object_clones.specs.Store.{Shown, object_at, object_among}
use Rattle.object_clones.proofs.Stores.{object_at-plain_files}
use Rattle.object_clones.proofs.store.ObjectStore.listed.Goals as goal

pub returns : goal.returns
returns c =
    let s = c.self.inside in
    let was : object_among s.files c.args.ino.0 c.args.index ≡ object_at c.args.self.now c.args.ino.0 c.args.index =
    sym (object_at-plain_files s.files s.size s.purged.ids.keys c.args.ino.0 c.args.index) ∙ ap (λ (v : Shown). object_at v c.args.ino.0 c.args.index) c.self.view_is in
    IfOk-weaker c.listed.result _ _ (λ list h. h ∙ ap list_of was) c.listed.ensures
