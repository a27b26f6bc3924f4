use Rattle.std.proofs.Common.{◌≡◌, ◌≤◌, ℕ, List, length, Bool, arith, sym, ap, ◌∙◌, Result, Ok, Err}
use Rattle.std.specs.Prelude.{OnOk}
use Rattle.plain_types.specs.declared.script.Script.{Script}
use Rattle.script_text.specs.declared.error.ScriptError.{ScriptError}
use Rattle.script_text.specs.Grammar.{grammar, read_lines, finished, ◌>>=◌}
use Rattle.script_text.proofs.Fronts.{accepted_short}
use Rattle.script_text.specs.Lines.{lines_of}
use Rattle.script_text.proofs.Kept.{line_counted}
use Rattle.script_text.proofs.Steps.{step_accepted}
use Rattle.script_text.proofs.parser.parse.Goals as goal

pub loop-line-preserved : goal.loop-line-preserved
loop-line-preserved c =
    let before = c.loop-line.reading in
    let after = c.read_line.new.self in
    let read = c.in_ok-read_line.ensures.ok in
    let counted = line_counted c.args.schedule before c.in-Some.line.now after read in
    record {
      same = sym (step_accepted c.args.schedule before after c.in-Some.line.now (lines_of c.in-Some.rest.now) _ c.in-Some.ensures.cut read) ∙ c.loop-line.invariant.same;
      bytes = omega (arith, counted.bytes, c.in-Some.ensures.whole);
      lines = omega (arith, counted.lines, counted.bytes, c.in-Some.ensures.some);
      short = counted.short;
      limited = counted.limited c.loop-line.invariant.limited;
    }

-- an input that is accepted is short
short_where_ok : (input : List ℕ) (allowed : Bool) (told : Result Script ScriptError) → grammar input allowed ≡ told → OnOk told (length input ≤ 16777216)
short_where_ok input allowed (Ok script) is = accepted_short input allowed script is
short_where_ok input allowed (Err error) is = tt

pub returns-clause-short : goal.returns-clause-short
returns-clause-short c =
    short_where_ok c.args.input.now c.args.schedule c.finish.result
    (sym c.loop-line.invariant.same
    ∙ ap (λ lines. read_lines c.args.schedule c.loop-line.reading lines >>= finished) c.in_default.ensures.cut
    ∙ sym c.finish.ensures)
