use Rattle.std.proofs.Common.{sym, ap, ◌∙◌}
use Rattle.held_files.specs.Files.{settled_to, with_file}
use Rattle.cap_snap.specs.Woven.{waits}
use Rattle.cap_snap.proofs.Stands.{stands, changed, not_changed, kept_same}
use Rattle.cap_snap.proofs.snaps.CapSnaps.acked.Goals as goal

pub invariant_of-self : goal.invariant_of-self
invariant_of-self c = kept_same c.self.inside.files.entries c.self.inside.waiting.items _ c.self.invariant c.in-Some.at c.index_mut.result.now c.settle.new.self
    c.index_mut.ensures.value (ap waits c.settle.ensures)

pub returns-in-Some : goal.returns-in-Some
returns-in-Some c = changed c.args.ino (settled_to c.args.upto) c.self.inside.files.entries c.in-Some.at c.index_mut.result.now c.settle.new.self
    (stands c.args.ino c.self.inside.files.entries c.in-Some.at c.in-Some.ensures.index) c.index_mut.ensures.value c.settle.ensures
    ∙ ap (with_file c.args.ino (settled_to c.args.upto)) c.self.view_is

pub returns-in_default : goal.returns-in_default
returns-in_default c = sym c.self.view_is ∙ not_changed c.args.ino (settled_to c.args.upto) c.self.inside.files.entries (sym c.in_default.ensures.found)
    ∙ ap (with_file c.args.ino (settled_to c.args.upto)) c.self.view_is
