use Rattle.std.proofs.Common.{false, sym, ap, ◌∙◌}
use Rattle.held_files.specs.Files.{hold, is_writer, file_of}
use Rattle.cap_snap.proofs.Stands.{stands, held_there, room_to_note, kept_noted, file_is, is_reader}
use Rattle.cap_snap.proofs.snaps.CapSnaps.hold.Goals as goal

pub hold_again-waits-requires : goal.hold_again-waits-requires
hold_again-waits-requires c = is_reader c.index_mut.result.now.mode
    (file_is (file_of c.args.ino c.self.inside.files.entries) false c.index_mut.result.now (sym c.in-Some.ensures.value ∙ c.index_mut.ensures.value)
    (ap (is_writer c.args.ino) c.self.view_is ∙ c.requires))

pub note-requires : goal.note-requires
note-requires c = room_to_note c.self.inside.files.entries c.self.inside.waiting.items _ c.self.invariant c.in-Some.at c.hold_again-waits.new.self c.hold_again-waits.result
    c.in-Some.ensures.within c.hold_again-waits.ensures.waits

pub invariant_of-self : goal.invariant_of-self
invariant_of-self c = kept_noted c.self.inside.files.entries c.self.inside.waiting.items _ c.self.invariant c.in-Some.at c.hold_again-waits.new.self c.hold_again-waits.result _ _
    c.in-Some.ensures.within c.hold_again-waits.ensures.waits c.note.ensures.items c.note.ensures.room

pub returns-clause-held : goal.returns-clause-held
returns-clause-held c = held_there c.args.ino c.args.mode c.args.size c.args.settled c.self.inside.files.entries c.in-Some.at c.index_mut.result.now c.hold_again-waits.new.self
    (stands c.args.ino c.self.inside.files.entries c.in-Some.at c.in-Some.ensures.index) c.index_mut.ensures.value c.hold_again-waits.ensures.held
    ∙ ap (hold c.args.ino c.args.mode c.args.size c.args.settled) c.self.view_is
