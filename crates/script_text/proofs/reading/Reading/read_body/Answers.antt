use Rattle.std.proofs.Common.{subst, sym, Result}
use Rattle.std.specs.Prelude.{OnOk, IfErr, ◌≡◌, Ok}
use Rattle.script_text.specs.declared.error.Fault.{Fault}
use Rattle.script_text.specs.declared.reading.Reading.{Reading}
use Rattle.script_text.specs.Faults.{IsFaultOf}
use Rattle.script_text.proofs.Readings.{body_longer}
use Rattle.script_text.proofs.reading.Reading.read_body.Goals as goal

pub returns-clause-err : goal.returns-clause-err
returns-clause-err c =
    let words = rw c.in-Some.is at c.first_word.ensures in
    subst (λ (told : Result Reading Fault). IfErr c.read_longer.result (IsFaultOf told))
    (sym (body_longer c.args.allowed c.args.self.now c.first_word.result.0.now c.in-Some.rest.now _ words)) c.read_longer.ensures.err

pub returns-clause-ok : goal.returns-clause-ok
returns-clause-ok c =
    let words = rw c.in-Some.is at c.first_word.ensures in
    subst (λ (told : Result Reading Fault). OnOk c.read_longer.result (told ≡ Ok c.read_longer.new.self))
    (sym (body_longer c.args.allowed c.args.self.now c.first_word.result.0.now c.in-Some.rest.now _ words)) c.read_longer.ensures.ok
