use Rattle.std.proofs.Common.{◌∙◌, ◌+◌, ◌-◌, ◌%◌, ℕ, sym, ap}
use Rattle.script_text.specs.Load.{next, drawn}
use Rattle.script_text.proofs.Loads.{round_made, after-one, on_ok}
use Rattle.script_text.proofs.seeded.Generator.round.Goals as goal

pub returns-clause-made : goal.returns-clause-made
returns-clause-made c =
    let clients = c.args.clients in
    round_made c.remove.result clients c.args.round c.args.self.now.state c.draw.new.self.state c.draw.result _ c.in_ok-path.path c.in_ok-path-2.path
    c.args.made.now c.write_all.new.made c.push.new.self c.wait_all.new.made c.push-2.new.self c.remove.new.made
    (ap (λ (n : ℕ). (c.args.round - 1) % n + 1) c.from.ensures)
    (c.draw.ensures.state ∙ ap next c.in_ok-write_all.ensures.state)
    (c.draw.ensures.drawn ∙ ap (λ (n : ℕ). drawn n c.draw.new.self.state) c.from-2.ensures)
    c.in_ok-path.ensures c.in_ok-path-2.ensures
    c.in_ok-write_all.ensures.made c.in_ok-push.ensures.ok c.in_ok-wait_all.ensures c.in_ok-push-2.ensures.ok c.remove.ensures

pub returns-clause-state : goal.returns-clause-state
returns-clause-state c = on_ok c.remove.result _ (c.draw.ensures.state ∙ ap next c.in_ok-write_all.ensures.state ∙ sym (after-one _ _))
