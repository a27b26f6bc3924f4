use Rattle.std.proofs.Common.{ap, ◌∙◌, refl}
use Rattle.std.specs.Option.{option_map}
use Rattle.client_realms.specs.Contexts.{held_in}
use Rattle.std.specs.List.{filter_map}
use Rattle.client_realms.specs.Fresh.{after, fresh_of}
use Rattle.client_realms.proofs.Steps.{updated}
use Rattle.client_realms.proofs.realms.ClientRealms.update.Goals as goal

pub returns-clause-contexts : goal.returns-clause-contexts
returns-clause-contexts c = λ f.
    c.put_all.ensures f
    ∙ ap (λ fresh. option_map (after f fresh) (held_in c.args.self.now f)) c.in_ok-fresh.ensures.fresh
    ∙ ap (λ files. option_map (after f (filter_map (fresh_of c.args.self.now) files)) (held_in c.args.self.now f)) c.as_slice.ensures
    ∙ updated c.args.self.now f c.args.update.now (held_in c.args.self.now f) refl
