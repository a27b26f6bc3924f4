use Rattle.std.proofs.Common.{◌≡◌, List, IfOk, ap, subst, ◌∙◌}
use Rattle.snap_ids.specs.declared.id.Ino.{Ino}
use Rattle.snap_ids.specs.Context.{Context}
use Rattle.step_table.specs.ClientState.{context_in}
use Rattle.client_state.proofs.Known.{known, unknown}
use Rattle.client_state.proofs.contexts.Contexts.copied.Goals as goal

pub returns-in-Some : goal.returns-in-Some
returns-in-Some c = subst (λ (x : Context). IfOk c.copy_of.result (λ context. context ≡ x))
    (known c.args.ino c.self.inside.contexts.entries c.in-Some.context.now c.in-Some.ensures.value
    ∙ ap (λ (l : List (Ino × Context)). context_in l c.args.ino) c.self.view_is) c.copy_of.ensures

pub returns-in-None : goal.returns-in-None
returns-in-None c = subst (λ (x : Context). IfOk c.first_context.result (λ context. context ≡ x))
    (unknown c.args.ino c.self.inside.contexts.entries c.in-None.ensures.value
    ∙ ap (λ (l : List (Ino × Context)). context_in l c.args.ino) c.self.view_is) c.first_context.ensures
