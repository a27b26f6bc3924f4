use Rattle.std.proofs.Common.{◌≡◌, ℕ, ◌||◌, eqb, sym, ◌∙◌, ap}
use Rattle.object_clones.specs.Objects.{purged}
use Rattle.object_clones.specs.Purged.{has_id}
use Rattle.object_clones.specs.Store.{Shown, object_at, object_among}
use Rattle.object_clones.proofs.Stores.{object_at-plain_files}
use Rattle.object_clones.proofs.store.ObjectStore.purge_all.Goals as goal

pub returns-clause-ok : goal.returns-clause-ok
returns-clause-ok c =
    let s = c.self.inside in
    let was : (f k : ℕ) → object_among s.files f k ≡ object_at c.args.self.now f k =
    λ f k. sym (object_at-plain_files s.files s.size s.purged.ids.keys f k) ∙ ap (λ (v : Shown). object_at v f k) c.self.view_is in
    record {
      size = ap (λ (v : Shown). v.size) c.self.view_is;
      gone = λ q. c.in_ok-add.ensures.ok q ∙ ap (λ (v : Shown). eqb q.0 c.args.s.0 || has_id v.purged q) c.self.view_is;
      objects = λ f k. object_at-plain_files c.purge.new.self s.size c.add.new.self.ids.keys f k ∙ c.purge.ensures.objects f k ∙ ap (purged c.args.s) (was f k);
    }
