use Rattle.std.proofs.Common.{◌≡◌, remove, ap, ◌∙◌, arith}
use Rattle.held_requests.specs.Keys.{place_of}
use Rattle.held_requests.proofs.Cuts.{removed, not_there}
use Rattle.held_requests.proofs.order.cut.Goals as goal

pub returns-then-at-len : goal.returns-then-at-len
returns-then-at-len c =
    let items = c.args.order.now.items in
    let at : c.place_of-at.result ≡ place_of c.args.key items = c.place_of-at.ensures ∙ ap (place_of c.args.key) c.deref.ensures.value in
    c.remove.ensures.items ∙ ap (remove items) at ∙ removed c.args.key items (omega (arith, c.if-at-len.true, at, c.len.ensures, c.args.order.now.ok))

pub returns-else-at-len : goal.returns-else-at-len
returns-else-at-len c =
    let items = c.args.order.now.items in
    let at : c.place_of-at.result ≡ place_of c.args.key items = c.place_of-at.ensures ∙ ap (place_of c.args.key) c.deref.ensures.value in
    not_there c.args.key items (omega (arith, c.if-at-len.false, at, c.len.ensures, c.args.order.now.ok))
