use Rattle.std.proofs.Common.{◌≡◌, true, rules, not, ◌&&◌, Bool, ap, sym, ◌∙◌}
use Rattle.std.specs.Prelude.{◌==◌}
use Rattle.snap_ids.specs.Context.{Context}
use Rattle.plain_journal.specs.Coverage.{context}
use Rattle.step_table.specs.Acts.{same_context}
use Rattle.mds_state.proofs.state.MdsState.has_changed.Goals as goal

pub returns : goal.returns
returns c = λ s taken stands made.
    let mine : (c.args.kept.now.0 == c.args.client) ≡ true = search rules in
    ap not c.same_context.ensures
    ∙ ap (λ (seen : Context). not (same_context c.args.kept.now.2 seen)) (c.in_ok-now.ensures s taken stands made)
    ∙ ap (λ (b : Bool). b && not (same_context c.args.kept.now.2 (context s.entries c.args.kept.now.1))) (sym mine)
