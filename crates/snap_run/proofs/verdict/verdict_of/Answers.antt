use Rattle.std.proofs.Common.{◌≡◌, ◌≤◌, ℕ, List, length, true, sym, subst}
use Rattle.std.specs.Io.KnownBytes.{IsAtEnd}
use Rattle.snap_run.specs.Ends.{is_replay}
use Rattle.snap_run.specs.Run.{texts, reading_of, IsInputOf}
use Rattle.snap_run.proofs.Verdicts.{verdict_from_clauses}
use Rattle.snap_run.proofs.verdict.verdict_of.Goals as goal

-- the input that was read is run
pub returns-in-Ok-clause-verdict : goal.returns-in-Ok-clause-verdict
returns-in-Ok-clause-verdict g c =
    let input = c.deref.result.now in
    let same = sym c.deref.ensures.value in
    let reading = reading_of g.S.Source.left g.S.Source.faults c.args.source.now c.read_input.new.source in
    let replay : is_replay (texts c.args.words.now) ≡ true = cc in
    let read : IsInputOf reading input = subst (IsInputOf reading) same (record { front = c.in-Ok.ensures.input; taken = c.in-Ok.ensures.taken; sound = c.in-Ok.ensures.sound }) in
    let at_end = subst (λ (l : List ℕ). length l ≤ 16777216 → IsAtEnd reading.after) same c.in-Ok.ensures.end in
    let run = c.run_input.ensures in
    verdict_from_clauses (texts c.args.words.now) reading input c.run_input.result replay read at_end run.end run.report run.short
