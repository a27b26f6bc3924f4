use Rattle.std.proofs.Common.{◌≡◌, ℕ, ◌∙◌, sym, ap}
use Rattle.object_clones.specs.Objects.{Plain}
use Rattle.object_clones.specs.Files.{bytes_read}
use Rattle.object_clones.specs.Store.{Shown, object_at, object_among}
use Rattle.object_clones.proofs.Stores.{object_at-plain_files}
use Rattle.object_clones.proofs.store.ObjectStore.read.Goals as goal

pub returns : goal.returns
returns c =
    let s = c.self.inside in
    let was : (k : ℕ) → object_among s.files c.args.ino.0 k ≡ object_at c.args.self.now c.args.ino.0 k =
    λ k. sym (object_at-plain_files s.files s.size s.purged.ids.keys c.args.ino.0 k) ∙ ap (λ (v : Shown). object_at v c.args.ino.0 k) c.self.view_is in
    c.from_vec.ensures ∙ c.in_ok-bytes.ensures
    ∙ ap (λ (objects : ℕ → Plain). bytes_read s.size objects c.args.size c.args.s) (λ i k. was k i)
    ∙ ap (λ (v : Shown). bytes_read v.size (object_at c.args.self.now c.args.ino.0) c.args.size c.args.s) c.self.view_is
