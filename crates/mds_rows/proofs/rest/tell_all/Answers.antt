use Rattle.std.proofs.Common.{◌≡◌, ℕ, map, refl, subst, ◌∙◌, arith}
use Rattle.step_table.specs.Acts.{acts, TellRestart}
use Rattle.step_table.specs.ServerState.{Server, up_to}
use Rattle.mds_state.specs.Stands.{StandsFor}
use Rattle.mds_rows.proofs.Quiet.{told_more}
use Rattle.mds_rows.proofs.rest.tell_all.Goals as goal

pub loop-done-init : goal.loop-done-init
loop-done-init c = record {
  upto = omega arith;
  many = c.clients-clients.ensures.parts;
  clients = refl;
  table = λ s taken stands. stands;
}

pub loop-done-preserved : goal.loop-done-preserved
loop-done-preserved c =
    let is = c.loop-done.invariant in
    record {
      upto = omega arith;
      many = is.many;
      clients = c.in_ok-tell_restart.ensures.clients ∙ is.clients;
      table = λ s taken stands.
          subst (λ (t : Server). StandsFor c.tell_restart.new.self taken t) (told_more s c.loop-done.done)
          (c.in_ok-tell_restart.ensures.table (acts s (map TellRestart (up_to c.loop-done.done))) taken (is.table s taken stands));
    }

pub returns-clause-table : goal.returns-clause-table
returns-clause-table c = λ s taken stands.
    let is = c.loop-done.invariant in
    let all : c.loop-done.done ≡ c.clients-clients.result = omega (arith, is.upto) in
    subst (λ (n : ℕ). StandsFor c.loop-done.state taken (acts s (map TellRestart (up_to n)))) (all ∙ is.many ∙ stands.clients) (is.table s taken stands)
