use Rattle.std.proofs.Common.{sym, subst, ◌∙◌}
use Rattle.cap_state.specs.Table.{IsTable}
use Rattle.cap_state.specs.Places.{IsPlace, IsGap}
use Rattle.cap_state.proofs.Edits.{any_at_here, without_here, any_at_none, without_none, table_without}
use Rattle.cap_state.proofs.places.let_go.Goals as goal
use Rattle.cap_state.proofs.places.let_go.Goals.{In-Ok, In-Err}

here : (c : In-Ok) → IsPlace c.args.client c.args.ino c.args.held.now.items c.in-Ok.at
here c = subst (λ held. IsPlace c.args.client c.args.ino held c.in-Ok.at) c.deref.ensures.value c.in-Ok.ensures.found

gap : (c : In-Err) → IsGap c.args.client c.args.ino c.args.held.now.items c.in-Err.field-0
gap c = subst (λ held. IsGap c.args.client c.args.ino held c.in-Err.field-0) c.deref.ensures.value c.in-Err.ensures.absent

pub returns-in-Ok-clause-said : goal.returns-in-Ok-clause-said
returns-in-Ok-clause-said c =
    let it = (goal.at.returns-in-Ok-clause-said c).In-Ok in
    sym (any_at_here c.args.client c.args.ino c.args.held.now.items c.in-Ok.at (here it) c.remove.result)

pub returns-in-Ok-clause-gone : goal.returns-in-Ok-clause-gone
returns-in-Ok-clause-gone c =
    let it = (goal.at.returns-in-Ok-clause-gone c).In-Ok in
    c.remove.ensures.items ∙ sym (without_here c.args.client c.args.ino c.args.held.now.items c.in-Ok.at (here it) c.remove.result)

pub returns-in-Ok-clause-table : goal.returns-in-Ok-clause-table
returns-in-Ok-clause-table c =
    let it = (goal.at.returns-in-Ok-clause-table c).In-Ok in
    subst IsTable (without_here c.args.client c.args.ino c.args.held.now.items c.in-Ok.at (here it) c.remove.result ∙ sym c.remove.ensures.items)
    (table_without c.args.client c.args.ino c.args.held.now.items c.requires)

pub returns-in-Err-clause-said : goal.returns-in-Err-clause-said
returns-in-Err-clause-said c =
    let it = (goal.at.returns-in-Err-clause-said c).In-Err in sym (any_at_none c.args.client c.args.ino c.args.held.now.items _ (gap it))

pub returns-in-Err-clause-gone : goal.returns-in-Err-clause-gone
returns-in-Err-clause-gone c =
    let it = (goal.at.returns-in-Err-clause-gone c).In-Err in sym (without_none c.args.client c.args.ino c.args.held.now.items _ (gap it))
