use Rattle.std.proofs.Common.{refl, sym, subst, ◌≤◌, length, List, [], arith}
use Rattle.plain_types.specs.declared.history.Event.{Event}
use Rattle.direct_journal.specs.Direct.{ServesAfter}
use Rattle.direct_journal.specs.Journal.{journal_of}
use Rattle.direct_journal.specs.Legal.{numbered}
use Rattle.meta_state.specs.Stands.{StandsFor}
use Rattle.snap_run.proofs.Served.{next_step, all_served}
use Rattle.snap_run.proofs.Verdicts.{taken_at, of_one, served, of_one_client}
use Rattle.snap_run.proofs.serve.history_of.Goals as goal

pub loop-i-init : goal.loop-i-init
loop-i-init c = record {
  stands = subst (λ (events : List Event). StandsFor c.in_ok-meta.meta (journal_of events)) (sym c.in_ok-events.ensures.items) c.in_ok-meta.ensures;
  serves = subst (λ (events : List Event). ServesAfter [] [] events) (sym c.in_ok-events.ensures.items) tt;
}

pub serve-requires-clause-state : goal.serve-requires-clause-state
serve-requires-clause-state c = record { entries = journal_of c.loop-i.events.items; stands = c.loop-i.invariant.stands }

pub serve-requires-clause-taken : goal.serve-requires-clause-taken
serve-requires-clause-taken c =
    served c.index-lines-i.result (taken_at c.args.lines.now c.loop-i.i c.index-lines-i.result c.requires.taken c.loop-i-test.true c.index-lines-i.is)

pub loop-i-preserved : goal.loop-i-preserved
loop-i-preserved c =
    let line = c.index-lines-i.result in
    let taken = taken_at c.args.lines.now c.loop-i.i line c.requires.taken c.loop-i-test.true c.index-lines-i.is in
    let entries = journal_of c.loop-i.events.items in
    next_step c.serve.new.meta c.args.lines.now c.loop-i.events.items c.push.new.self.items c.loop-i.i _ line c.in_ok-serve.field-0 c.loop-i-test.true c.index-lines-i.is refl (of_one line taken) c.loop-i.invariant.serves (c.in_ok-serve.ensures.served entries c.loop-i.invariant.stands) (c.in_ok-serve.ensures.stands entries c.loop-i.invariant.stands) c.in_ok-push.ensures.items

pub returns : goal.returns
returns c =
    let all : length c.args.lines.now ≤ c.loop-i.i = omega arith in
    subst (λ (events : List Event). ServesAfter [] (numbered c.args.lines.now) events) (sym c.from_vec.ensures)
    (all_served c.args.lines.now c.loop-i.events.items c.loop-i.i (of_one_client c.args.lines.now c.requires.taken) all c.loop-i.invariant.serves)
