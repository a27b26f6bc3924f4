use Rattle.std.proofs.Common.{◌≤◌, ◌+◌, ◌-◌, ◌∙◌, sym, arith, append-nil, ap, ◌++◌}
use Rattle.script_text.specs.Load.{round_length}
use Rattle.script_text.proofs.Loads.{rounds_more, rounds_none, round_length-min}
use Rattle.script_text.proofs.seeded.play.Goals as goal

pub loop-left-preserved : goal.loop-left-preserved
loop-left-preserved c =
    let at = c.loop-left in
    let least = round_length-min c.args.clients at.round c.requires.clients in
    let fits : round_length c.args.clients at.round ≤ at.left = omega (arith, c.round_length.ensures) in
    let made = rounds_more at.made c.round.new.made _ (c.args.lines + 1) c.args.clients at.round at.generator.state c.round.new.self.state at.left fits (omega (arith, least, at.invariant.room)) c.in_ok-round.ensures.state c.in_ok-round.ensures.made at.invariant.made in
    record {
      made = rw c.round_length-left.ensures made;
      some = omega arith;
      room = omega (arith, least, at.invariant.room, c.round_length-left.ensures, c.round_length.ensures);
    }

pub returns : goal.returns
returns c =
    let at = c.loop-left in
    let none = rounds_none (c.args.lines + 1 - at.round) c.args.clients at.round at.generator.state at.left (omega (arith, c.round_length.ensures)) in
    sym (append-nil at.made) ∙ ap (λ l. at.made ++ l) (sym none) ∙ at.invariant.made
