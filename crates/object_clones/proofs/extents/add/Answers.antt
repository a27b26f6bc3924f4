use Rattle.std.proofs.Common.{◌≡◌, ◌+◌, ◌<◌, length, List, [], ◌++◌, append-nil, arith, sym, ◌∙◌, ap, subst, length-append}
use Rattle.object_clones.specs.Extents.{Rise}
use Rattle.object_clones.specs.declared.extents.Extent.{Extent}
use Rattle.object_clones.proofs.Rises.{rise_upto, rise_push, rise_grow}
use Rattle.object_clones.proofs.extents.add.Goals as goal
use Rattle.object_clones.proofs.extents.add.Goals.{in-Some+else-end-offset+in_ok-push-2, in_default}

pub returns-then-is_empty-clause-rise : goal.returns-then-is_empty-clause-rise
returns-then-is_empty-clause-rise c = λ from upto r h. rise_upto c.args.extents.now.items from upto _ r (omega arith)

pub returns-then-end-offset-clause-rise : goal.returns-then-end-offset-clause-rise
returns-then-end-offset-clause-rise c = λ from upto r h. rw c.in_ok-push.ensures.items
    (let longer : length c.extend.new.self.bytes.items ≡ length c.in-Some.last.bytes.items + length c.args.bytes.now =
    ap length c.in_ok-extend.ensures.bytes ∙ length-append c.in-Some.last.bytes.items c.args.bytes.now in
    rise_grow c.args.extents.now.items c.pop.new.self.items c.in-Some.last c.extend.new.self from upto _ r
    c.in-Some.ensures.items c.in_ok-extend.ensures.offset (omega arith) (omega (arith, c.end.ensures, c.in_ok-extend.ensures.offset)))

pub returns-clause-rise : goal.returns-clause-rise
returns-clause-rise c = λ from upto r h.
    let same : c.match-pop.extents.items ≡ c.args.extents.now.items =
    elim c.match-pop.branch [
      | in-Some+else-end-offset+in_ok-push-2 w ↦ ap (λ v. v.items) w.extents-is ∙ w.in_ok-push-2.ensures.items ∙ sym w.in-Some.ensures.items
      | in_default w ↦ ap (λ v. v.items) w.extents-is ∙ (let e : c.args.extents.now.items ≡ c.pop.new.self.items ++ [] = w.in_default.ensures.items in sym (e ∙ append-nil c.pop.new.self.items))
    ] in
    let long : length c.in_ok-bytes.bytes.items ≡ length c.args.bytes.now = ap length c.in_ok-bytes.ensures.items in
    rw c.in_ok-push-3.ensures.items
    (let R : List Extent → Type 0 = λ es. Rise from upto es in
    rise_push c.match-pop.extents.items _ from upto _ (subst R (sym same) r) h (let n : 0 < length c.args.bytes.now = grind (arith, c.if-is_empty.ensures) in omega arith) (omega arith))
