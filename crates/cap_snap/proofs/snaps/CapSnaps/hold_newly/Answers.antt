use Rattle.std.proofs.Common.{◌++◌, ◌∷◌, [], sym, ap, subst, ◌∙◌, arith}
use Rattle.std.specs.Vec.{vec_capacity}
use Rattle.indexmap.proofs.CallerLemmas.{insert_entry-new}
use Rattle.held_files.specs.Files.{HeldFiles, is_ino, hold, file_of}
use Rattle.cap_snap.specs.Places.{IsKept}
use Rattle.cap_snap.specs.Woven.{waits}
use Rattle.cap_snap.proofs.Stands.{held_last, kept_newly, few_kept}
use Rattle.cap_snap.proofs.snaps.CapSnaps.hold_newly.Goals as goal

pub overflow_sub-more : goal.overflow_sub-more
overflow_sub-more c = omega (arith, c.len.ensures.len, c.len-2.ensures, few_kept c.self.inside.files.entries c.self.inside.waiting.items _ c.self.invariant, c.self.inside.waiting.ok)

pub invariant_of-self-2 : goal.invariant_of-self-2
invariant_of-self-2 c = subst (λ (files : HeldFiles). IsKept files c.reserve.new.self.items (vec_capacity c.reserve.new.self))
    (sym (c.in_ok-insert.ensures.entries ∙ insert_entry-new is_ino c.self.inside.files c.args.ino c.new.result (ap (file_of c.args.ino) c.self.view_is ∙ c.requires)))
    (kept_newly c.self.inside.files.entries c.self.inside.waiting.items _ c.self.invariant (c.args.ino, c.new.result) c.reserve.new.self.items (vec_capacity c.reserve.new.self)
    (ap waits c.new.ensures) c.reserve.ensures.items (omega (arith, c.in_ok-reserve.ensures.ok, c.len.ensures.len, c.len-2.ensures, c.reserve.ensures.len)))

pub returns-clause-held : goal.returns-clause-held
returns-clause-held c = c.in_ok-insert.ensures.entries
    ∙ insert_entry-new is_ino c.self.inside.files c.args.ino c.new.result (ap (file_of c.args.ino) c.self.view_is ∙ c.requires)
    ∙ (λ i. c.self.inside.files.entries ++ (c.args.ino, c.new.ensures i) ∷ [])
    ∙ sym (held_last c.args.ino c.args.mode c.args.size c.args.settled c.self.inside.files.entries (ap (file_of c.args.ino) c.self.view_is ∙ c.requires))
    ∙ ap (hold c.args.ino c.args.mode c.args.size c.args.settled) c.self.view_is
