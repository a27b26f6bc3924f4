use Rattle.std.proofs.Common.{◌≡◌, ◌≤◌, ◌-◌, ◌+◌, ◌^◌, ◌∙◌, ap, reverse, take, min, arith, length, rules}
use Rattle.io_edge.specs.Past.{stopped_file, file_after}
use Rattle.io_edge.proofs.StoppedLemmas.{stopped_is}
use Rattle.io_edge.proofs.recorded.Recorded.stopped.Goals as goal

pub returns : goal.returns
returns c =
    let inside = c.self.inside in
    let calls = inside.done.items in
    let until = c.min-until.result in
    let copied : c.in_ok-base.base.items ≡ c.in_ok-file.file.items = search rules in
    let again : c.in_ok-file.file.items ≡ file_after inside.base.items (reverse (take until calls)) = search rules in
    let up_to : until ≡ min (min (inside.synced + c.args.kept) (2 ^ 64 - 1)) (length calls) = grind arith in
    let fits : length calls ≤ 2 ^ 64 - 1 = omega arith in
    let stopped = stopped_is inside.base.items calls inside.synced c.args.kept until c.self.invariant.synced up_to fits in
    let base_is : c.in_ok-base.base.items ≡ stopped_file c.args.kept c.args.self.now = copied ∙ again ∙ stopped ∙ ap (stopped_file c.args.kept) c.self.view_is in
    λ i. record { base = base_is i; done = reverse (c.new.ensures.items i) }
