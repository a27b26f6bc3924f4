use Rattle.std.proofs.Common.{ap, subst, sym, ◌∙◌}
use Rattle.meta_state.specs.Stands as meta
use Rattle.mds_state.specs.Looks.{is_file_in}
use Rattle.mds_state.specs.Parts.{WrittenParts}
use Rattle.mds_state.proofs.Files.{file_is_made}
use Rattle.mds_state.proofs.written.Written.knows_file.Goals as goal

pub returns : goal.returns
returns c = λ clients entries done stands.
    c.is_file.ensures ∙ ap is_file_in (c.head.ensures entries (subst (λ (w : WrittenParts). meta.StandsFor w.tree entries) (sym c.self.view_is) stands.tree)) ∙ file_is_made entries stands.tree.journal c.args.ino
