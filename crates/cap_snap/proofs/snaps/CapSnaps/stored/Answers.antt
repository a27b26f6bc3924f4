use Rattle.std.proofs.Common.{sym, ap, ◌∙◌}
use Rattle.held_files.specs.Files.{stored, with_file}
use Rattle.cap_snap.specs.Woven.{waits}
use Rattle.cap_snap.proofs.Stands.{stands, changed, not_changed, kept_same, same_value, on_false}
use Rattle.cap_snap.proofs.snaps.CapSnaps.stored.Goals as goal

pub invariant_of-self : goal.invariant_of-self
invariant_of-self c = kept_same c.self.inside.files.entries c.self.inside.waiting.items _ c.self.invariant c.in-Some.at c.index_mut.result.now c.stored.new.self
    c.index_mut.ensures.value (ap waits c.stored.ensures.stored)

pub returns-clause-stored : goal.returns-clause-stored
returns-clause-stored c = changed c.args.ino stored c.self.inside.files.entries c.in-Some.at c.index_mut.result.now c.stored.new.self
    (stands c.args.ino c.self.inside.files.entries c.in-Some.at c.in-Some.ensures.index) c.index_mut.ensures.value c.stored.ensures.stored
    ∙ ap (with_file c.args.ino stored) c.self.view_is

pub returns-in_default-clause-stored : goal.returns-in_default-clause-stored
returns-in_default-clause-stored c = sym c.self.view_is ∙ not_changed c.args.ino stored c.self.inside.files.entries (sym c.in_default.ensures.found)
    ∙ ap (with_file c.args.ino stored) c.self.view_is

pub returns-clause-as_before : goal.returns-clause-as_before
returns-clause-as_before c = on_false c.stored.result
    (λ same. same_value c.self.inside.files.entries c.in-Some.at c.index_mut.result.now c.stored.new.self c.index_mut.ensures.value same ∙ c.self.view_is)
    c.stored.ensures.as_before
