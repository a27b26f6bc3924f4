use Rattle.std.proofs.Common.{ap, subst, sym, ◌∙◌}
use Rattle.journal_realms.specs.Told.{family_of}
use Rattle.meta_state.specs.Stands as meta
use Rattle.snap_realm.specs.Tree as realms
use Rattle.mds_state.specs.Parts.{WrittenParts}
use Rattle.mds_state.proofs.Files.{realms_have, trace_is}
use Rattle.mds_state.proofs.Traces.{can_be}
use Rattle.mds_state.proofs.written.Written.file_trace.Goals as goal

pub birth_of-birth-requires : goal.birth_of-birth-requires
birth_of-birth-requires c =
    let is = c.requires in
    ap (λ (tree : realms.Tree). realms.is_there tree c.args.ino) c.realms-realms.ensures
    ∙ realms_have c.self.inside.tree is.entries (subst (λ (w : WrittenParts). meta.StandsFor w.tree is.entries) (sym c.self.view_is) is.stands.tree) c.args.ino is.made

pub trace-requires : goal.trace-requires
trace-requires c =
    let is = c.requires in
    ap (λ (tree : realms.Tree). realms.is_there tree c.args.ino) c.realms-realms.ensures
    ∙ realms_have c.self.inside.tree is.entries (subst (λ (w : WrittenParts). meta.StandsFor w.tree is.entries) (sym c.self.view_is) is.stands.tree) c.args.ino is.made

pub returns-in-Ok-clause-fits : goal.returns-in-Ok-clause-fits
returns-in-Ok-clause-fits c =
    let is = c.requires in
    let now = subst (λ (w : WrittenParts). meta.StandsFor w.tree is.entries) (sym c.self.view_is) is.stands.tree in
    can_be _ is.entries now.journal (subst (λ (tree : realms.Tree). realms.StandsFor tree (family_of is.entries)) (sym c.realms-realms.ensures) now.realms)
    c.args.ino c.birth_of-birth.result c.in-Ok.trace c.birth_of-birth.ensures.records c.in-Ok.ensures.records

pub returns-in-Ok-clause-told : goal.returns-in-Ok-clause-told
returns-in-Ok-clause-told c = λ clients entries done stands file.
    let told = subst (λ (tree : realms.Tree). realms.StandsFor tree (family_of entries)) (sym c.realms-realms.ensures) ((subst (λ (w : WrittenParts). meta.StandsFor w.tree entries) (sym c.self.view_is) stands.tree).realms) in
    trace_is entries stands.tree.journal c.args.ino file c.birth_of-birth.result c.in-Ok.trace (c.birth_of-birth.ensures.story (family_of entries) told) (c.in-Ok.ensures.story (family_of entries) told)
