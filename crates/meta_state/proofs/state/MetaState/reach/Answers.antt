use Rattle.std.proofs.Common.{◌∙◌}
use Rattle.meta_state.proofs.Finds.{has_directory}
use Rattle.meta_state.proofs.state.MetaState.reach.Goals as goal

-- src/find.rt
pub snap_find-requires : goal.snap_find-requires
snap_find-requires c =
    let is = c.requires.state in record {
      directory = has_directory c.args.self.now is.entries is.stands c.in-InSnap.dir.now c.in-Ok-directory-2.dir (c.directory-in-InSnap.ensures is.entries is.stands ∙ c.in-Ok-directory-2.is);
    }
