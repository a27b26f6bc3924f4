use Rattle.std.proofs.Common.{ap, subst, sym, ◌∙◌}
use Rattle.snap_ids.specs.Context.{Context}
use Rattle.journal_realms.specs.Told.{family_of}
use Rattle.meta_state.specs.Stands as meta
use Rattle.snap_realm.specs.Tree as realms
use Rattle.mds_state.specs.Parts.{WrittenParts}
use Rattle.mds_state.proofs.Files.{realms_have, file_context}
use Rattle.mds_state.proofs.written.Written.seq.Goals as goal

pub seq_of-requires : goal.seq_of-requires
seq_of-requires c =
    let is = c.requires in
    ap (λ (tree : realms.Tree). realms.is_there tree c.args.ino) c.realms.ensures
    ∙ realms_have c.self.inside.tree is.entries (subst (λ (w : WrittenParts). meta.StandsFor w.tree is.entries) (sym c.self.view_is) is.stands.tree) c.args.ino is.made

pub returns : goal.returns
returns c = λ clients entries done stands file.
    c.seq_of.ensures (family_of entries)
    (subst (λ (tree : realms.Tree). realms.StandsFor tree (family_of entries)) (sym c.realms.ensures) ((subst (λ (w : WrittenParts). meta.StandsFor w.tree entries) (sym c.self.view_is) stands.tree).realms))
    ∙ ap (λ (seen : Context). seen.seq) (file_context entries stands.tree.journal c.args.ino file)
