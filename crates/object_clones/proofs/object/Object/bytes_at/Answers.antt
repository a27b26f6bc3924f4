use Rattle.std.proofs.Common.{Some, None, sym, ◌∙◌}
use Rattle.snap_ids.specs.Context.{is_listed}
use Rattle.object_clones.specs.declared.object.Saved.{Saved}
use Rattle.object_clones.specs.Objects.{clone_at, plain}
use Rattle.object_clones.proofs.Clones.{clone_at_found, not_below, if_true, if_false}
use Rattle.object_clones.proofs.object.Object.bytes_at.Goals as goal

pub returns-then-serves : goal.returns-then-serves
returns-then-serves c =
    let o = plain c.args.self.now in
    let saved : Saved = c.in-Some.saved.now in
    sym (if_false _ o.head (clone_at c.args.s o.clones) (not_below c.args.self.now.seq.0 c.args.s.0 c.if-self-s.false)
    ∙ sym (clone_at_found c.args.s c.args.self.now.older.items c.args.self.now.newest (Some saved) c.in-Some.ensures)
    ∙ if_true (is_listed c.args.s saved.ids.items) (Some saved.bytes) None (sym c.if-serves.ensures))

pub returns-else-serves : goal.returns-else-serves
returns-else-serves c =
    let o = plain c.args.self.now in
    let saved : Saved = c.in-Some.saved.now in
    sym (if_false _ o.head (clone_at c.args.s o.clones) (not_below c.args.self.now.seq.0 c.args.s.0 c.if-self-s.false)
    ∙ sym (clone_at_found c.args.s c.args.self.now.older.items c.args.self.now.newest (Some saved) c.in-Some.ensures)
    ∙ if_false (is_listed c.args.s saved.ids.items) (Some saved.bytes) None (sym c.if-serves.ensures))

pub returns-in-None : goal.returns-in-None
returns-in-None c =
    let o = plain c.args.self.now in
    sym (if_false _ o.head (clone_at c.args.s o.clones) (not_below c.args.self.now.seq.0 c.args.s.0 c.if-self-s.false)
    ∙ sym (clone_at_found c.args.s c.args.self.now.older.items c.args.self.now.newest None c.in-None.ensures))
