use Rattle.std.proofs.Common.{rules, ap, ◌∙◌, List, Bool, not, eqb, filter}
use Rattle.std.proofs.lemmas.Fn.{filter_same}
use Rattle.snap_ids.specs.declared.id.SnapId.{SnapId}
use Rattle.object_clones.specs.Objects.{Kept}
use Rattle.object_clones.proofs.Decided.{other_id}
use Rattle.object_clones.proofs.object.Saved.purge.Goals as goal

pub returns : goal.returns
returns c =
    let with : List SnapId → Kept = λ ids. record { id = c.args.self.now.id; ids = ids; bytes = c.args.self.now.bytes } in
    ap with (filter_same _ (λ (id : SnapId). not (eqb id.0 c.args.s.0)) _ (λ x b q k. search rules) _ _ c.retain.ensures.filtered
    ∙ ap (λ (t : SnapId → Bool). filter t c.args.self.now.ids.items) (λ i x. other_id x c.args.s i))
