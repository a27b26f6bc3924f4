use Rattle.std.proofs.Common.{◌≡◌, ◌+◌, ◌-◌, ◌∙◌, ap, arith}
use Rattle.held_files.specs.Files.{HeldFile}
use Rattle.cap_snap.specs.declared.held.Queued.{Queued}
use Rattle.cap_snap.specs.Woven.{total}
use Rattle.cap_snap.proofs.Weave.{mark_added, total_more, kept}
use Rattle.cap_snap.proofs.held.Held.queue.Goals as goal

pub invariant_of-self-2 : goal.invariant_of-self-2
invariant_of-self-2 c =
    let mark : Queued = record { after = c.unsent_count-unsent.result - c.self.inside.marked; follows = c.args.follows; upto = c.args.upto; size = c.args.size } in (
      ap total c.in_ok-push_back.ensures.items ∙ total_more c.self.inside.marks.items mark ∙ (let e : total c.self.inside.marks.items + (c.unsent_count-unsent.result - c.self.inside.marked) ≡ c.unsent_count-unsent.result = omega (arith, c.self.invariant, c.unsent_count-unsent.ensures) in e),
      omega (arith, c.unsent_count-unsent.ensures),
      kept c.self.inside.mode c.args.self.now.mode c.self.inside.buf c.push_back.new.self.items (ap (λ (f : HeldFile). f.mode) c.self.view_is) c.requires,
    )

pub returns-clause-marked : goal.returns-clause-marked
returns-clause-marked c =
    let mark : Queued = record { after = c.unsent_count-unsent.result - c.self.inside.marked; follows = c.args.follows; upto = c.args.upto; size = c.args.size } in
    mark_added c.self.inside.mode c.self.inside.settled c.self.inside.recalled c.self.inside.buf c.self.inside.marks.items c.push_back.new.self.items c.args.self.now mark
    c.self.view_is (omega (arith, c.self.invariant, c.unsent_count-unsent.ensures)) c.in_ok-push_back.ensures.items
