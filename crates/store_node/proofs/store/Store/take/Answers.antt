use Rattle.std.proofs.Common.{◌≡◌, Option, Some, subst}
use Rattle.object_clones.specs.Store.{Shown}
use Rattle.store_node.specs.Rows.{Stands}
use Rattle.store_node.proofs.store.Store.take.Goals as goal

pub returns-clause-row : goal.returns-clause-row
returns-clause-row c = λ object log st.
    let is : c.args.self.now ≡ Some c.in-Some.objects = cc (c.self.view_is, c.take.ensures.value, c.in-Some.is) in
    c.in_ok-done.ensures.row object log (subst (λ (x : Option Shown). Stands x object log) is st)
