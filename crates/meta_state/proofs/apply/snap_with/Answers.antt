use Rattle.std.proofs.Common.{sym}
use Rattle.meta_state.proofs.Looked.{unnamed}
use Rattle.meta_state.proofs.apply.snap_with.Goals as goal

-- src/apply.rt
pub unreachable-requires : goal.unreachable-requires
unreachable-requires c = unnamed c.args.id c.requires.family.snaps c.requires.live (sym (c.in-None.ensures c.requires.family c.requires.stands))
