use Rattle.std.proofs.Common.{◌≡◌, true, false, None, Option, subst, sym, ◌∙◌, rules}
use Rattle.step_table.specs.Acts.{act, TakeOperation}
use Rattle.step_table.specs.Background as background
use Rattle.step_table.specs.ServerState.{Asked}
use Rattle.mds_state.specs.Stands.{StandsFor}
use Rattle.mds_turns.specs.Turned.{Turned}
use Rattle.mds_turns.proofs.Taken.{finished, fit_operation, is_prepared, may_finish, none_of, some_of}
use Rattle.mds_turns.proofs.turning.turn_operation.Goals as goal

pub returns-then-not-has_request-clause-acts : goal.returns-then-not-has_request-clause-acts
returns-then-not-has_request-clause-acts c = λ s number stands fit asks out.
    let failed : c.has_request.result ≡ false = search rules in
    let none = none_of s.operation (sym (c.has_request.ensures s s.hand stands) ∙ failed) in
    subst (λ (o : Option Asked). Turned c.args.state.now s (background.turn_operation s c.args.id o) None) (sym none) stands

pub returns-in-None-clause-acts : goal.returns-in-None-clause-acts
returns-in-None-clause-acts c = λ s number stands fit asks out.
    let there : c.has_request.result ≡ true = search rules in
    let taken = c.take_operation.ensures.table s s.hand stands in
    absurd (some_of s.operation (sym (c.has_request.ensures s s.hand stands) ∙ there) (taken.hand ∙ c.in-None.is))

pub finish-requires : goal.finish-requires
finish-requires c =
    let may = c.requires.may in
    record {
      may = may_finish c.take_operation.new.self may.state c.take_operation.result c.in-Some.asked c.args.id may.number c.in-Some.is
          (c.take_operation.ensures.table may.state may.state.hand may.stands) may.fit may.asks may.out;
    }

pub returns-in_ok-finish-in-Some-clause-acts : goal.returns-in_ok-finish-in-Some-clause-acts
returns-in_ok-finish-in-Some-clause-acts c = λ s number stands fit asks out.
    let t = act s TakeOperation in
    let taken = c.take_operation.ensures.table s s.hand stands in
    finished c.take_operation.new.self c.finish.new.state s c.take_operation.result c.in-Some.asked c.args.id c.in-Some.is taken
    (c.in_ok-finish-in-Some.ensures.table t (subst (λ (o : Option Asked). StandsFor c.take_operation.new.self o t) c.in-Some.is taken)
    (fit_operation c.take_operation.new.self s c.take_operation.result c.in-Some.asked c.in-Some.is fit taken)
    (is_prepared c.take_operation.new.self s c.take_operation.result c.in-Some.asked c.args.id number c.in-Some.is taken asks out))
