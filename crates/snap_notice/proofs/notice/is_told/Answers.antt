use Rattle.std.proofs.Common.{◌&&◌, eqb, ap, sym, ◌∙◌}
use Rattle.std.specs.List.{list_any}
use Rattle.snap_ids.specs.declared.id.Ino.{Ino}
use Rattle.cap_state.specs.Table.{writes}
use Rattle.snap_notice.proofs.notice.is_told.Goals as goal

pub returns-in-Write : goal.returns-in-Write
returns-in-Write c =
    c.has_changed.ensures
    ∙ ap (λ mode. writes mode && list_any (λ (ino : Ino). eqb ino.0 c.args.held.now.1.ino.0) c.args.changed.now) (sym c.in-Write.is)
