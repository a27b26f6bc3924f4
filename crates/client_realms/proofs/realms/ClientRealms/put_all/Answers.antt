use Rattle.std.proofs.Common.{◌≡◌, ap, sym, ◌∙◌, []}
use Rattle.std.proofs.lemmas.List.{nil_from_length}
use Rattle.std.specs.Option.{option_map}
use Rattle.client_realms.specs.Contexts.{held_in}
use Rattle.client_realms.specs.Fresh.{after}
use Rattle.client_realms.proofs.Steps.{put_one, put_none}
use Rattle.client_realms.proofs.realms.ClientRealms.put_all.Goals as goal

pub loop-ino-init : goal.loop-ino-init
loop-ino-init c = λ f. ap (λ items. option_map (after f items) (held_in c.args.self.now f)) c.into_iter-ino-iterator.ensures.into_iter_gives.0

pub loop-ino-preserved : goal.loop-ino-preserved
loop-ino-preserved c = λ f.
    ap (option_map (after f c.next.new.self.rest.items)) (c.put.ensures f)
    ∙ put_one f c.in-Some.ino c.in-Some.context c.next.new.self.rest.items (held_in c.loop-ino.self f)
    ∙ ap (λ items. option_map (after f items) (held_in c.loop-ino.self f)) (sym c.in-Some.ensures.steps.0)
    ∙ c.loop-ino.invariant f

pub returns : goal.returns
returns c = λ f.
    let none : c.loop-ino.ino-iterator.rest.items ≡ [] = nil_from_length _ (sym c.loop-ino.ino-iterator.rest.ok.0 ∙ c.in-None.ensures.steps.0) in
    sym (put_none f (held_in c.loop-ino.self f))
    ∙ ap (λ items. option_map (after f items) (held_in c.loop-ino.self f)) (sym none)
    ∙ c.loop-ino.invariant f
