use Rattle.std.proofs.Common.{true, sym, ap, ◌∙◌}
use Rattle.held_files.specs.Files.{OfMark, with_mark, with_file, is_writer, file_of}
use Rattle.cap_snap.specs.Woven.{waits}
use Rattle.cap_snap.proofs.Stands.{stands, changed, same_value, room_to_note, kept_noted, kept_same, file_is, no_writer, waits_more, on_err}
use Rattle.cap_snap.proofs.snaps.CapSnaps.queue.Goals as goal

pub returns-in_default-clause-marked : goal.returns-in_default-clause-marked
returns-in_default-clause-marked c =
    absurd (no_writer (file_of c.args.ino c.self.inside.files.entries) (sym c.in_default.ensures.found) (ap (is_writer c.args.ino) c.self.view_is ∙ c.requires.held))

pub queue-requires : goal.queue-requires
queue-requires c = file_is (file_of c.args.ino c.self.inside.files.entries) true c.index_mut.result.now (sym c.in-Some.ensures.value ∙ c.index_mut.ensures.value)
    (ap (is_writer c.args.ino) c.self.view_is ∙ c.requires.held)

pub invariant_of-self : goal.invariant_of-self
invariant_of-self c = kept_same c.self.inside.files.entries c.self.inside.waiting.items _ c.self.invariant c.in-Some.at c.index_mut.result.now c.queue.new.self
    c.index_mut.ensures.value (ap waits c.in_err-queue.ensures.as_before)

pub returns-in_err-queue-clause-as_before : goal.returns-in_err-queue-clause-as_before
returns-in_err-queue-clause-as_before c = on_err c.from_residual.result (same_value c.self.inside.files.entries c.in-Some.at c.index_mut.result.now c.queue.new.self c.index_mut.ensures.value c.in_err-queue.ensures.as_before
    ∙ c.self.view_is)

pub note-requires : goal.note-requires
note-requires c = room_to_note c.self.inside.files.entries c.self.inside.waiting.items _ c.self.invariant c.in-Some.at c.queue.new.self true c.in-Some.ensures.within
    (waits_more c.index_mut.result.now.recalled c.index_mut.result.now.unsent (OfMark (record { follows = c.args.follows; upto = c.args.upto; size = c.args.size })) ∙ ap waits (sym c.in_ok-queue.ensures.marked))

pub invariant_of-self-2 : goal.invariant_of-self-2
invariant_of-self-2 c = kept_noted c.self.inside.files.entries c.self.inside.waiting.items _ c.self.invariant c.in-Some.at c.queue.new.self true _ _ c.in-Some.ensures.within
    (waits_more c.index_mut.result.now.recalled c.index_mut.result.now.unsent (OfMark (record { follows = c.args.follows; upto = c.args.upto; size = c.args.size })) ∙ ap waits (sym c.in_ok-queue.ensures.marked))
    c.note.ensures.items c.note.ensures.room

pub returns-clause-marked : goal.returns-clause-marked
returns-clause-marked c = changed c.args.ino (with_mark (record { follows = c.args.follows; upto = c.args.upto; size = c.args.size })) c.self.inside.files.entries c.in-Some.at c.index_mut.result.now c.queue.new.self
    (stands c.args.ino c.self.inside.files.entries c.in-Some.at c.in-Some.ensures.index) c.index_mut.ensures.value c.in_ok-queue.ensures.marked
    ∙ ap (with_file c.args.ino (with_mark (record { follows = c.args.follows; upto = c.args.upto; size = c.args.size }))) c.self.view_is
