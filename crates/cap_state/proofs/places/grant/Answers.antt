use Rattle.std.proofs.Common.{◌≡◌, Bool, true, false, Some, None, get_or, set, refl, ap, sym, subst, ◌∙◌}
use Rattle.cap_state.specs.Table.{Holding, IsTable, suffices, granted}
use Rattle.cap_state.specs.Places.{IsPlace, IsGap}
use Rattle.cap_state.proofs.Edits.{mode_here, mode_none, with_here, with_there, granted_by}
use Rattle.cap_state.proofs.Apart.{table_granted}
use Rattle.cap_state.proofs.places.grant.Goals as goal
use Rattle.cap_state.proofs.places.grant.Goals.{After-suffices, After-index_mut, In_ok-insert-in-Err}

here : (c : After-suffices) → IsPlace c.args.client c.args.claim.ino c.args.held.now.items c.in-Ok.at
here c = subst (λ held. IsPlace c.args.client c.args.claim.ino held c.in-Ok.at) c.deref.ensures.value c.in-Ok.ensures.found

-- what is held is enough, or isn't
suits : (c : After-suffices) (b : Bool) → c.suffices.result ≡ b → suffices (Some (get_or c.args.held.now.items c.in-Ok.at c.index.result.now).1.mode) c.args.claim.mode ≡ b
suits c b is = ap (λ (h : Holding). suffices (Some h.1.mode) c.args.claim.mode) (sym c.index.ensures) ∙ sym c.suffices.ensures ∙ is

-- Read is raised to Write
written : (c : After-index_mut) → set c.args.held.now.items c.in-Ok.at (c.args.client, c.args.claim) ≡ granted c.args.client c.args.claim c.args.held.now.items
written c =
    let it = (goal.at.After-index_mut c).After-suffices in
    let client = c.args.client in
    let claim = c.args.claim in
    let held = c.args.held.now.items in
    sym
    (granted_by client claim held c.in-Ok.at false (Some (get_or held c.in-Ok.at c.index.result.now).1.mode) (mode_here client claim.ino held c.in-Ok.at (here it) c.index.result.now) (suits it false c.if-not-suffices.true)
    ∙ with_here client claim held c.in-Ok.at (here it))

pub returns-then-not-suffices-clause-granted : goal.returns-then-not-suffices-clause-granted
returns-then-not-suffices-clause-granted c = written (goal.at.returns-then-not-suffices-clause-granted c).After-index_mut

pub returns-then-not-suffices-clause-table : goal.returns-then-not-suffices-clause-table
returns-then-not-suffices-clause-table c =
    subst IsTable (sym (written (goal.at.returns-then-not-suffices-clause-table c).After-index_mut))
    (table_granted c.args.client c.args.claim c.args.held.now.items c.requires.free c.requires.table)

pub returns-else-not-suffices-clause-granted : goal.returns-else-not-suffices-clause-granted
returns-else-not-suffices-clause-granted c =
    let it = (goal.at.returns-else-not-suffices-clause-granted c).After-suffices in
    let client = c.args.client in
    let claim = c.args.claim in
    let held = c.args.held.now.items in
    sym (granted_by client claim held c.in-Ok.at true (Some (get_or held c.in-Ok.at c.index.result.now).1.mode) (mode_here client claim.ino held c.in-Ok.at (here it) c.index.result.now) (suits it true c.if-not-suffices.false))

-- a new holding goes into its gap
inserted : (c : In_ok-insert-in-Err) → c.insert.new.self.items ≡ granted c.args.client c.args.claim c.args.held.now.items
inserted c =
    let client = c.args.client in
    let claim = c.args.claim in
    let held = c.args.held.now.items in
    let gap : IsGap client claim.ino held c.in-Err.at = subst (λ hs. IsGap client claim.ino hs c.in-Err.at) c.deref.ensures.value c.in-Err.ensures.absent in
    c.in_ok-insert-in-Err.ensures.items
    ∙ sym (granted_by client claim held c.in-Err.at false None (mode_none client claim.ino held c.in-Err.at gap) refl ∙ with_there client claim held c.in-Err.at gap)

pub returns-in_ok-insert-in-Err-clause-granted : goal.returns-in_ok-insert-in-Err-clause-granted
returns-in_ok-insert-in-Err-clause-granted c = inserted (goal.at.returns-in_ok-insert-in-Err-clause-granted c).In_ok-insert-in-Err

pub returns-in_ok-insert-in-Err-clause-table : goal.returns-in_ok-insert-in-Err-clause-table
returns-in_ok-insert-in-Err-clause-table c =
    subst IsTable (sym (inserted (goal.at.returns-in_ok-insert-in-Err-clause-table c).In_ok-insert-in-Err))
    (table_granted c.args.client c.args.claim c.args.held.now.items c.requires.free c.requires.table)
