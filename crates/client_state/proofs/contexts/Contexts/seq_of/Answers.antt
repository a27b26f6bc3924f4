use Rattle.std.proofs.Common.{List, ap, ◌∙◌}
use Rattle.snap_ids.specs.declared.id.Ino.{Ino}
use Rattle.snap_ids.specs.Context.{Context}
use Rattle.step_table.specs.ClientState.{context_in}
use Rattle.client_state.proofs.Known.{known, unknown}
use Rattle.client_state.proofs.contexts.Contexts.seq_of.Goals as goal

pub returns-in-Some : goal.returns-in-Some
returns-in-Some c = c.seq.ensures.seq ∙ ap (λ (x : Context). x.seq) (known c.args.ino c.self.inside.contexts.entries c.in-Some.context.now c.in-Some.ensures.value)
    ∙ ap (λ (l : List (Ino × Context)). (context_in l c.args.ino).seq) c.self.view_is

pub returns-in-None : goal.returns-in-None
returns-in-None c = ap (λ (x : Context). x.seq) (unknown c.args.ino c.self.inside.contexts.entries c.in-None.ensures.value)
    ∙ ap (λ (l : List (Ino × Context)). (context_in l c.args.ino).seq) c.self.view_is
