use Rattle.std.proofs.Common.{◌≡◌, ℕ, ◌*◌, ◌==◌, if◌then◌else◌, sym, ◌∙◌, ap}
use Rattle.std.proofs.lemmas.Result.{on_ok_weaker, on_err_weaker}
use Rattle.object_clones.specs.Objects.{Plain, edited}
use Rattle.object_clones.specs.Purged.{has, has_id}
use Rattle.object_clones.specs.Store.{Shown, object_at, object_among}
use Rattle.object_clones.proofs.Stores.{object_at-plain_files}
use Rattle.object_clones.proofs.store.ObjectStore.edit.Goals as goal

pub returns-clause-ok : goal.returns-clause-ok
returns-clause-ok c =
    let s = c.self.inside in
    let was : (f k : ℕ) → object_among s.files f k ≡ object_at c.args.self.now f k =
    λ f k. sym (object_at-plain_files s.files s.size s.purged.ids.keys f k) ∙ ap (λ (v : Shown). object_at v f k) c.self.view_is in
    on_ok_weaker c.edit.result (λ h. record {
      size = ap (λ (v : Shown). v.size) c.self.view_is;
      purged = ap (λ (v : Shown). v.purged) c.self.view_is;
      objects = λ f k. object_at-plain_files c.edit.new.self s.size s.purged.ids.keys f k ∙ h f k
          ∙ ap (λ (o : Plain). if f == c.args.ino.0 then edited (has s.purged) (k * s.size) s.size c.args.edit c.args.context.now o else o) (was f k)
          ∙ ap (λ (v : Shown). if f == c.args.ino.0 then edited (has_id v.purged) (k * v.size) v.size c.args.edit c.args.context.now (object_at c.args.self.now f k) else object_at c.args.self.now f k) c.self.view_is;
    }) c.edit.ensures.ok

pub returns-clause-err : goal.returns-clause-err
returns-clause-err c =
    let s = c.self.inside in
    on_err_weaker c.edit.result (λ h. record {
      size = ap (λ (v : Shown). v.size) c.self.view_is;
      purged = ap (λ (v : Shown). v.purged) c.self.view_is;
      objects = λ f k. object_at-plain_files c.edit.new.self s.size s.purged.ids.keys f k ∙ h f k
          ∙ sym (object_at-plain_files s.files s.size s.purged.ids.keys f k) ∙ ap (λ (v : Shown). object_at v f k) c.self.view_is;
    }) c.edit.ensures.err
