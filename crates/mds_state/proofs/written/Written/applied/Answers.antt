use Rattle.std.proofs.Common.{ℕ, ap, subst, sym, ◌∙◌}
use Rattle.journal_realms.specs.Told.{family_of}
use Rattle.journal_realms.proofs.Last.{same_applied}
use Rattle.snap_ids.specs.declared.id.SnapId.{SnapId}
use Rattle.meta_state.specs.Stands as meta
use Rattle.snap_realm.specs.Tree as realms
use Rattle.mds_state.specs.Parts.{WrittenParts}
use Rattle.mds_state.proofs.written.Written.applied.Goals as goal

pub returns : goal.returns
returns c = λ clients entries done stands.
    let tree = subst (λ (w : WrittenParts). meta.StandsFor w.tree entries) (sym c.self.view_is) stands.tree in
    let last =
    c.applied.ensures.story (family_of entries) (subst (λ (t : realms.Tree). realms.StandsFor t (family_of entries)) (sym c.realms.ensures) tree.realms)
    ∙ ap (λ (n : ℕ). let id : SnapId = record { 0 = n } in id) (same_applied entries stands.tree.journal) in
    last
