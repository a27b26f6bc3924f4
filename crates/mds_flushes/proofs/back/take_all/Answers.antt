use Rattle.std.proofs.Common.{◌≡◌, [], refl, ap, sym, subst, ◌∙◌, ◌≤◌, List, ℕ}
use Rattle.std.specs.List.{list_all}
use Rattle.std.proofs.lemmas.List.{nil_from_length}
use Rattle.plain_types.specs.declared.message.FlushMsg.{FlushMsg}
use Rattle.server_holders.proofs.Any.{both_true}
use Rattle.step_table.specs.Acts.{acts, each}
use Rattle.step_table.specs.Flushes.{take_brought}
use Rattle.step_table.specs.Messages.{flush_fits}
use Rattle.step_table.specs.ServerState.{Server}
use Rattle.mds_state.specs.Stands.{StandsFor}
use Rattle.mds_flushes.specs.Takes.{is_known}
use Rattle.mds_flushes.proofs.Later.{acts_more, all_later, brought_later}
use Rattle.mds_flushes.proofs.back.take_all.Goals as goal

pub loop-flush-init : goal.loop-flush-init
loop-flush-init c = record {
  clients = refl;
  known = c.requires.known;
  fit = c.requires.fit;
  table = λ s taken stands known. record { state = s; stands = stands; known = known; same = refl };
}

pub take_brought-requires : goal.take_brought-requires
take_brought-requires c =
    let is = c.loop-flush.invariant in
    let known = sym (ap (list_all (is_known is.known.state)) c.in-Some.ensures.cases.0) ∙ is.known.known in
    let fit = sym (ap (list_all flush_fits) c.in-Some.ensures.cases.0) ∙ is.fit in
    record {
      from_one = c.requires.from_one;
      upto = subst (λ (n : ℕ). c.args.client ≤ n) (sym is.clients) c.requires.upto;
      known = record {
        taken = is.known.taken;
        state = is.known.state;
        stands = is.known.stands;
        known = (both_true (is_known is.known.state c.in-Some.flush.now) (list_all (is_known is.known.state) c.in-Some.rest.now) known).0;
      };
      fits = (both_true (flush_fits c.in-Some.flush.now) (list_all flush_fits c.in-Some.rest.now) fit).0;
    }

pub loop-flush-preserved : goal.loop-flush-preserved
loop-flush-preserved c =
    let is = c.loop-flush.invariant in
    let f = c.in-Some.flush.now in
    let rest = c.in-Some.rest.now in
    let client = c.args.client in
    let known = sym (ap (list_all (is_known is.known.state)) c.in-Some.ensures.cases.0) ∙ is.known.known in
    let both = both_true (is_known is.known.state f) (list_all (is_known is.known.state) rest) known in
    let fit = sym (ap (list_all flush_fits) c.in-Some.ensures.cases.0) ∙ is.fit in
    record {
      clients = c.in_ok-take_brought.ensures.clients ∙ is.clients;
      known = record {
        taken = is.known.taken;
        state = acts is.known.state (take_brought client is.known.state f);
        stands = c.in_ok-take_brought.ensures.table is.known.state is.known.taken is.known.stands both.0;
        known = all_later is.known.state (acts is.known.state (take_brought client is.known.state f)) (brought_later client f is.known.state) rest both.1;
      };
      fit = (both_true (flush_fits f) (list_all flush_fits rest) fit).1;
      table = λ s taken stands all.
          let was = is.table s taken stands all in
          let now = acts was.state (take_brought client was.state f) in
          let here = both_true (is_known was.state f) (list_all (is_known was.state) rest) (sym (ap (list_all (is_known was.state)) c.in-Some.ensures.cases.0) ∙ was.known) in
          record {
            state = now;
            stands = c.in_ok-take_brought.ensures.table was.state taken was.stands here.0;
            known = all_later was.state now (brought_later client f was.state) rest here.1;
            same =
                sym (acts_more was.state (take_brought client was.state f) (each (take_brought client) now rest))
                ∙ sym (ap (λ (l : List FlushMsg). acts was.state (each (take_brought client) was.state l)) c.in-Some.ensures.cases.0)
                ∙ was.same;
          };
    }

pub returns-clause-table : goal.returns-clause-table
returns-clause-table c = λ s taken stands all.
    let was = c.loop-flush.invariant.table s taken stands all in
    let none : c.loop-flush.left.now ≡ [] = nil_from_length _ c.in_default.ensures.cases in
    subst (λ (t : Server). StandsFor c.loop-flush.state taken t)
    (sym (ap (λ (l : List FlushMsg). acts was.state (each (take_brought c.args.client) was.state l)) none) ∙ was.same) was.stands
