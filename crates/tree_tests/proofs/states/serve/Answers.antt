use Rattle.std.proofs.Common.{◌+◌, ◌<◌, [], ◌∷◌, ◌++◌, refl, sym, subst, arith}
use Rattle.snap_ids.specs.declared.id.SnapId.{SnapId}
use Rattle.realm_story.specs.Family.{Family}
use Rattle.snap_realm.specs.Tree as realms
use Rattle.meta_state.specs.Stands.{MayFollow}
use Rattle.meta_state.specs.Decisions.{IsLegal}
use Rattle.tree_tests.proofs.Ids.{free_after, may_follow}
use Rattle.tree_tests.proofs.states.serve.Goals as goal
use Rattle.tree_tests.proofs.states.serve.Goals.{In-Put}

-- the entry may follow the entries
follows : (c : In-Put) → MayFollow c.args.state.now c.in-Put.entry
follows c =
    let few : c.applied-last.result.0 < 1000 = omega (arith, c.if-last-ge1000.false) in
    let next : SnapId = record { 0 = c.applied-last.result.0 + 1 } in
    may_follow c.args.state.now c.requires next c.in-Put.entry
    (λ entries stands. subst (IsLegal entries next) c.in-Put.is (c.in_ok-entry.ensures.legal entries stands))
    (free_after c.args.state.now c.requires.entries c.requires.stands c.applied-last.result next
    (λ (family : Family) stands. c.applied-last.ensures.story family (subst (λ t. realms.StandsFor t family) (sym c.realms.ensures) stands))
    refl few)

pub apply-requires : goal.apply-requires
apply-requires c = record { legal = follows (goal.at.apply-requires c).In-Put }

-- and with it they are the entries of the new state
pub returns-in-Put : goal.returns-in-Put
returns-in-Put c =
    let may = follows (goal.at.returns-in-Put c).In-Put in
    record {
      entries = may.entries ++ c.in-Put.entry ∷ [];
      stands = c.in_ok-apply-in-Put.ensures.applied may.entries may.stands may.legal;
    }
