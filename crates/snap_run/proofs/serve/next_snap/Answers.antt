use Rattle.std.proofs.Common.{◌≡◌, ℕ, ◌+◌, ap, ◌∙◌, sym, subst}
use Rattle.snap_ids.specs.declared.id.SnapId.{SnapId}
use Rattle.journal_realms.specs.Told.{family_of}
use Rattle.journal_realms.proofs.Last.{same_applied}
use Rattle.snap_realm.specs.Tree.{Tree, StandsFor as Tells}
use Rattle.snap_run.proofs.serve.next_snap.Goals as goal

-- the realms have the last id of the journal
pub returns-clause-next : goal.returns-clause-next
returns-clause-next c entries stands =
    let story = subst (λ (tree : Tree). Tells tree (family_of entries)) (sym c.realms.ensures) stands.realms in
    let last = c.applied-applied.ensures.story (family_of entries) story in
    ap (λ (n : ℕ). record { 0 = n + 1 }) (ap (λ (s : SnapId). s.0) last ∙ same_applied entries stands.journal)
