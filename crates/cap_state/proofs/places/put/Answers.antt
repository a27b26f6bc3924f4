use Rattle.std.proofs.Common.{◌≡◌, sym, subst, ◌∙◌}
use Rattle.std.specs.List.{insert}
use Rattle.cap_state.specs.Table.{IsTable}
use Rattle.cap_state.specs.Places.{IsPlace, IsGap}
use Rattle.cap_state.proofs.Order.{table_with}
use Rattle.cap_state.proofs.Edits.{with_here, with_there}
use Rattle.cap_state.proofs.places.put.Goals as goal
use Rattle.cap_state.proofs.places.put.Goals.{In-Ok, After-unwrap}

here : (c : In-Ok) → IsPlace c.args.client c.args.claim.ino c.args.held.now.items c.in-Ok.at
here c = subst (λ held. IsPlace c.args.client c.args.claim.ino held c.in-Ok.at) c.deref.ensures.value c.in-Ok.ensures.found

-- the holding goes into its gap
inserted : (c : After-unwrap) → c.insert.new.self.items ≡ insert c.args.held.now.items c.in-Err.at (c.args.client, c.args.claim)
inserted c = rw c.unwrap.ensures at c.insert.ensures.items

gap : (c : After-unwrap) → IsGap c.args.client c.args.claim.ino c.args.held.now.items c.in-Err.at
gap c = subst (λ held. IsGap c.args.client c.args.claim.ino held c.in-Err.at) c.deref.ensures.value c.in-Err.ensures.absent

pub returns-in-Ok-clause-held : goal.returns-in-Ok-clause-held
returns-in-Ok-clause-held c =
    sym (with_here c.args.client c.args.claim c.args.held.now.items c.in-Ok.at (here (goal.at.returns-in-Ok-clause-held c).In-Ok))

pub returns-in-Ok-clause-table : goal.returns-in-Ok-clause-table
returns-in-Ok-clause-table c =
    subst IsTable (with_here c.args.client c.args.claim c.args.held.now.items c.in-Ok.at (here (goal.at.returns-in-Ok-clause-table c).In-Ok))
    (table_with (c.args.client, c.args.claim) c.args.held.now.items c.requires.apart c.requires.table)

pub returns-in-Err-clause-held : goal.returns-in-Err-clause-held
returns-in-Err-clause-held c =
    let it = (goal.at.returns-in-Err-clause-held c).After-unwrap in
    inserted it ∙ sym (with_there c.args.client c.args.claim c.args.held.now.items c.in-Err.at (gap it))

pub returns-in-Err-clause-table : goal.returns-in-Err-clause-table
returns-in-Err-clause-table c =
    let it = (goal.at.returns-in-Err-clause-table c).After-unwrap in
    subst IsTable (with_there c.args.client c.args.claim c.args.held.now.items c.in-Err.at (gap it) ∙ sym (inserted it))
    (table_with (c.args.client, c.args.claim) c.args.held.now.items c.requires.apart c.requires.table)
