use Rattle.std.proofs.Common.{ap, subst, sym, ◌∙◌}
use Rattle.meta_state.specs.Stands as meta
use Rattle.mds_state.specs.Looks.{size_in}
use Rattle.mds_state.specs.Parts.{WrittenParts}
use Rattle.mds_state.proofs.Files.{size_is}
use Rattle.mds_state.proofs.written.Written.size.Goals as goal

pub returns : goal.returns
returns c = λ clients entries done stands.
    c.size_of.ensures ∙ ap size_in (c.head.ensures entries (subst (λ (w : WrittenParts). meta.StandsFor w.tree entries) (sym c.self.view_is) stands.tree)) ∙ size_is entries stands.tree.journal c.args.ino
