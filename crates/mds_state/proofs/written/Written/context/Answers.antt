use Rattle.std.proofs.Common.{ap, subst, sym, ◌∙◌}
use Rattle.journal_realms.specs.Told.{family_of}
use Rattle.meta_state.specs.Stands as meta
use Rattle.snap_realm.specs.Tree as realms
use Rattle.mds_state.specs.Parts.{WrittenParts}
use Rattle.mds_state.proofs.Files.{realms_have, file_context}
use Rattle.mds_state.proofs.written.Written.context.Goals as goal

pub context-requires : goal.context-requires
context-requires c =
    let is = c.requires in
    record {
      there =
          ap (λ (tree : realms.Tree). realms.is_there tree c.args.ino) c.realms.ensures
          ∙ realms_have c.self.inside.tree is.entries (subst (λ (w : WrittenParts). meta.StandsFor w.tree is.entries) (sym c.self.view_is) is.stands.tree) c.args.ino is.made;
    }

pub returns-in-Ok : goal.returns-in-Ok
returns-in-Ok c = λ clients entries done stands file.
    c.in-Ok.ensures.story (family_of entries)
    (subst (λ (tree : realms.Tree). realms.StandsFor tree (family_of entries)) (sym c.realms.ensures) ((subst (λ (w : WrittenParts). meta.StandsFor w.tree entries) (sym c.self.view_is) stands.tree).realms))
    ∙ file_context entries stands.tree.journal c.args.ino file
