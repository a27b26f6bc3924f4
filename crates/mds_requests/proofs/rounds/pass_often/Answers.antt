use Rattle.std.proofs.Common.{◌≡◌, ◌-◌, suc, refl, ◌∙◌, arith}
use Rattle.mds_requests.proofs.Passing.{toward_first, toward_may, toward_next, toward_last}
use Rattle.mds_requests.proofs.rounds.pass_often.Goals as goal

pub loop-left-init : goal.loop-left-init
loop-left-init c = record { clients = refl; toward = λ r at ready. toward_first r c.args.many c.args.state.now c.args.opened at ready }

pub pass-requires : goal.pass-requires
pass-requires c =
    let may = c.requires.may in
    let some : c.loop-left.left ≡ suc (c.loop-left.left - 1) = omega arith in
    record { may = toward_may may.pass c.loop-left.left (c.loop-left.left - 1) c.args.many c.loop-left.state c.loop-left.again some (c.loop-left.invariant.toward may.pass may.stands may.ready) }

pub loop-left-preserved : goal.loop-left-preserved
loop-left-preserved c =
    let some : c.loop-left.left ≡ suc (c.loop-left.left - 1) = omega arith in
    record {
      clients = c.in_ok-again.ensures.clients ∙ c.loop-left.invariant.clients;
      toward = λ r at ready. toward_next r c.loop-left.left (c.loop-left.left - 1) c.args.many c.loop-left.state c.pass.new.state c.loop-left.again _ some c.in_ok-again.ensures.acts (c.loop-left.invariant.toward r at ready);
    }

pub returns-clause-acts : goal.returns-clause-acts
returns-clause-acts c =
    let none : c.loop-left.left ≡ 0 = omega arith in
    λ r at ready. toward_last _ c.loop-left.left c.loop-left.state c.loop-left.again _ none (c.loop-left.invariant.toward r at ready)
