use Rattle.std.proofs.Common.{true, sym, ap, ◌∙◌}
use Rattle.held_files.specs.Files.{recalled, with_file}
use Rattle.cap_snap.specs.Woven.{waits}
use Rattle.cap_snap.proofs.Stands.{stands, changed, not_changed, room_to_note, kept_noted}
use Rattle.cap_snap.proofs.snaps.CapSnaps.recall.Goals as goal

pub note-requires : goal.note-requires
note-requires c = room_to_note c.self.inside.files.entries c.self.inside.waiting.items _ c.self.invariant c.in-Some.at c.recall.new.self true
    c.in-Some.ensures.within (ap waits (sym c.recall.ensures))

pub invariant_of-self : goal.invariant_of-self
invariant_of-self c = kept_noted c.self.inside.files.entries c.self.inside.waiting.items _ c.self.invariant c.in-Some.at c.recall.new.self true _ _
    c.in-Some.ensures.within (ap waits (sym c.recall.ensures)) c.note.ensures.items c.note.ensures.room

pub returns-in-Some : goal.returns-in-Some
returns-in-Some c = changed c.args.ino recalled c.self.inside.files.entries c.in-Some.at c.index_mut.result.now c.recall.new.self
    (stands c.args.ino c.self.inside.files.entries c.in-Some.at c.in-Some.ensures.index) c.index_mut.ensures.value c.recall.ensures
    ∙ ap (with_file c.args.ino recalled) c.self.view_is

pub returns-in_default : goal.returns-in_default
returns-in_default c = sym c.self.view_is ∙ not_changed c.args.ino recalled c.self.inside.files.entries (sym c.in_default.ensures.found)
    ∙ ap (with_file c.args.ino recalled) c.self.view_is
