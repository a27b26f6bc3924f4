use Rattle.std.proofs.Common.{ap, arith}
use Rattle.meta_state.specs.Stands.{Tables}
use Rattle.meta_state.proofs.Next.{some_made}
use Rattle.meta_state.proofs.state.MetaState.next.Goals as goal

-- the root was made
pub overflow_sub-result : goal.overflow_sub-result
overflow_sub-result c =
    let some = some_made c.args.self.now c.requires in
    let same = ap (λ (t : Tables). t.made) c.self.view_is in
    omega (arith, some, same)
