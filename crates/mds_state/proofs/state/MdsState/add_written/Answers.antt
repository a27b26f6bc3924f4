use Rattle.std.proofs.Common.{[], ◌∷◌, ◌++◌, Bool, cond, map, ap, sym, ◌∙◌}
use Rattle.std.specs.Prelude.{true, ◌&&◌}
use Rattle.std.specs.List.{list_all}
use Rattle.std.proofs.lemmas.List.{map-append}
use Rattle.std.proofs.lemmas.List.Folds.{list_all-append}
use Rattle.cap_state.specs.Table.{Holding}
use Rattle.step_table.specs.Messages.{plain_trace, trace_fits}
use Rattle.step_table.specs.ServerState.{trace_of}
use Rattle.mds_state.proofs.state.MdsState.add_written.Goals as goal

pub returns-in_ok-push-clause-fits : goal.returns-in_ok-push-clause-fits
returns-in_ok-push-clause-fits c = λ all.
    ap (list_all trace_fits) c.in_ok-push.ensures.items
    ∙ list_all-append trace_fits c.args.files.now.items (c.in_ok-file.file ∷ [])
    ∙ (λ i. all i && (c.in_ok-file.ensures.fits i && true))

pub returns-in_ok-push-clause-told : goal.returns-in_ok-push-clause-told
returns-in_ok-push-clause-told c = λ s taken stands made.
    ap (map plain_trace) c.in_ok-push.ensures.items
    ∙ map-append plain_trace c.args.files.now.items (c.in_ok-file.file ∷ [])
    ∙ (λ i. map plain_trace c.args.files.now.items ++ c.in_ok-file.ensures.told s taken stands made i ∷ [])
    ∙ ap (λ (b : Bool). map plain_trace c.args.files.now.items ++ map (trace_of s) (map (λ (h : Holding). h.1.ino) (cond b (c.args.held.now ∷ []) []))) (sym c.if-is_writers.true ∙ c.is_writers.ensures)
