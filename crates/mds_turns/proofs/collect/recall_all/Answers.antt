use Rattle.std.proofs.Common.{◌≡◌, ℕ, List, [], refl, ap, subst, sym, ◌∙◌}
use Rattle.std.proofs.lemmas.List.{nil_from_length}
use Rattle.step_table.specs.Acts.{acts}
use Rattle.step_table.specs.Capabilities.{recall, recalls}
use Rattle.step_table.specs.ServerState.{Server}
use Rattle.mds_state.specs.Stands.{StandsFor}
use Rattle.mds_asks.specs.Others.{AreOthers}
use Rattle.mds_asks.proofs.Recalled.{recalled_next}
use Rattle.mds_turns.proofs.collect.recall_all.Goals as goal

pub loop-client-init : goal.loop-client-init
loop-client-init c = record {
  are = subst (AreOthers c.args.state.now.clients) (sym c.as_slice-left.ensures) c.requires;
  clients = refl;
  table = λ s taken stands. record { state = s; stands = stands; same = ap (λ (left : List ℕ). acts s (recalls s c.args.ino left)) c.as_slice-left.ensures };
}

pub recall-requires : goal.recall-requires
recall-requires c =
    let are = subst (AreOthers c.loop-client.state.clients) c.in-Some.ensures.cases.0 c.loop-client.invariant.are in
    record { from_one = are.0; upto = are.1 }

pub loop-client-preserved : goal.loop-client-preserved
loop-client-preserved c =
    let is = c.loop-client.invariant in
    let are = subst (AreOthers c.loop-client.state.clients) c.in-Some.ensures.cases.0 is.are in
    record {
      are = subst (λ (n : ℕ). AreOthers n c.in-Some.rest.now) (sym c.in_ok-recall.ensures.clients) are.3;
      clients = c.in_ok-recall.ensures.clients ∙ is.clients;
      table = λ s taken stands.
          let l = is.table s taken stands in
          record {
            state = acts l.state (recall l.state c.args.ino c.in-Some.client.now);
            stands = c.in_ok-recall.ensures.table l.state taken l.stands;
            same =
                sym (recalled_next l.state c.args.ino c.in-Some.client.now c.in-Some.rest.now are.2)
                ∙ ap (λ (left : List ℕ). acts l.state (recalls l.state c.args.ino left)) (sym c.in-Some.ensures.cases.0)
                ∙ l.same;
          };
    }

pub returns-clause-table : goal.returns-clause-table
returns-clause-table c = λ s taken stands.
    let l = c.loop-client.invariant.table s taken stands in
    let none : c.loop-client.left.now ≡ [] = nil_from_length _ c.in_default.ensures.cases in
    subst (λ (t : Server). StandsFor c.loop-client.state taken t) (ap (λ (left : List ℕ). acts l.state (recalls l.state c.args.ino left)) (sym none) ∙ l.same) l.stands
