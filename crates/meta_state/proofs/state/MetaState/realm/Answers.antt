use Rattle.std.proofs.Common.{◌∙◌}
use Rattle.snap_ids.specs.Path.{place_of}
use Rattle.meta_state.proofs.Lives.{live_inode}
use Rattle.meta_state.proofs.state.MetaState.realm.Goals as goal

-- src/answer.rt
pub realm_of-requires : goal.realm_of-requires
realm_of-requires c =
    let is = c.requires.state in record {
      there = live_inode c.args.self.now is.entries is.stands (place_of c.args.path.now) c.in-Ok.ino (c.live_at.ensures is.entries is.stands ∙ c.in-Ok.is);
    }
