use Rattle.std.proofs.Common.{ℕ, List, [], ◌++◌, ◌∙◌, ap, subst}
use Rattle.plain_types.specs.declared.script.Line.{Line}
use Rattle.direct_journal.specs.Direct.{ServesAfter}
use Rattle.direct_journal.specs.Legal.{numbered, Legal}
use Rattle.direct_journal.proofs.Direct.{direct_is_legal}
use Rattle.direct_journal.proofs.Replies.{from_snap, from_live}
use Rattle.reply_text.specs.declared.form.Form.TheVariants.{Plain}
use Rattle.reply_text.specs.Text.{text}
use Rattle.snap_run.proofs.Verdicts.{of_one_client}
use Rattle.snap_run.proofs.verdict.run_script.Goals as goal

-- what serves each line after the ones before it is legal
pub returns-clause-runs : goal.returns-clause-runs
returns-clause-runs c =
    let script = c.args.script.now in
    let history = c.in_ok-history.history in
    let serves = subst (λ (lines : List (ℕ × Line)). ServesAfter [] (numbered lines) history) c.as_slice.ensures c.in_ok-history.ensures in
    let legal : Legal history script.lines = direct_is_legal script.lines history (of_one_client script.lines c.requires.taken) serves in
    record {
      script = script;
      spelled = c.requires.spelled;
      legal = legal;
      from_snap = from_snap history script.lines legal;
      from_live = from_live history script.lines legal;
      text_of_all = c.in_ok-write_text.ensures.ok ∙ ap (λ (before : List ℕ). before ++ text script history Plain) c.new-text.ensures.items;
    }
