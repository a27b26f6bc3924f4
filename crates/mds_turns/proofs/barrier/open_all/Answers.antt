use Rattle.std.proofs.Common.{◌≡◌, ◌≤◌, ◌+◌, ℕ, refl, subst, sym, ◌∙◌, arith}
use Rattle.std.specs.Prelude.{flat_map}
use Rattle.step_table.specs.Acts.{acts}
use Rattle.step_table.specs.Background.{open_to}
use Rattle.step_table.specs.ServerState.{up_to}
use Rattle.mds_state.specs.Acted.{Stands}
use Rattle.mds_turns.proofs.Standing.{opened_more}
use Rattle.mds_turns.proofs.barrier.open_all.Goals as goal

pub loop-done-init : goal.loop-done-init
loop-done-init c = record {
  upto = omega arith;
  many = c.clients-clients.ensures.parts;
  clients = refl;
  table = λ s stands. stands;
}

pub open_for-requires : goal.open_for-requires
open_for-requires c =
    let at = c.requires.state in
    let is = c.loop-done.invariant in
    let below : c.loop-done.done + 1 ≤ c.clients-clients.result = omega arith in
    record {
      state = record { state = acts at.state (flat_map open_to (up_to c.loop-done.done)); stands = is.table at.state at.stands };
      from_one = omega arith;
      upto = subst (λ (n : ℕ). c.loop-done.done + 1 ≤ n) (is.many ∙ sym is.clients) below;
    }

pub loop-done-preserved : goal.loop-done-preserved
loop-done-preserved c =
    let is = c.loop-done.invariant in
    record {
      upto = omega arith;
      many = is.many;
      clients = c.in_ok-open_for.ensures.clients ∙ is.clients;
      table = λ s stands.
          subst (Stands c.open_for.new.state) (sym (opened_more c.loop-done.done s))
          (c.in_ok-open_for.ensures.table (acts s (flat_map open_to (up_to c.loop-done.done))) (is.table s stands));
    }

pub returns-clause-table : goal.returns-clause-table
returns-clause-table c = λ s stands.
    let is = c.loop-done.invariant in
    let all : c.loop-done.done ≡ c.clients-clients.result = omega (arith, is.upto) in
    subst (λ (n : ℕ). Stands c.loop-done.state (acts s (flat_map open_to (up_to n)))) (all ∙ is.many ∙ stands.clients) (is.table s stands)
