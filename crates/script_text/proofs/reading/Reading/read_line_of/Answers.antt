use Rattle.std.proofs.Common.{sym, refl, arith, length}
use Rattle.script_text.proofs.Readings.{none_of, some_of, full, free}
use Rattle.script_text.proofs.reading.Reading.read_line_of.Goals as goal

pub returns-then-not-is_asked-clause-err : goal.returns-then-not-is_asked-clause-err
returns-then-not-is_asked-clause-err c =
    let none = none_of _ (sym c.if-not-is_asked.ensures) in
    rw (← c.in-Some.ensures, none) refl

pub returns-then-len-ge512-clause-err : goal.returns-then-len-ge512-clause-err
returns-then-len-ge512-clause-err c =
    let some = some_of _ (sym c.if-not-is_asked.ensures) in
    let limit = full (length c.args.self.now.script.lines) 512 (omega (arith, c.len.ensures)) in
    rw (← c.in-Some.ensures, some.1, limit) refl

pub returns-in-Err-clause-err : goal.returns-in-Err-clause-err
returns-in-Err-clause-err c =
    let some = some_of _ (sym c.if-not-is_asked.ensures) in
    let room = free (length c.args.self.now.script.lines) 512 (omega (arith, c.len.ensures)) in
    rw (← c.in-Some.ensures, some.1, room) refl
