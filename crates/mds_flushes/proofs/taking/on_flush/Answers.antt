use Rattle.std.proofs.Common.{[], ◌∷◌, sym, subst, ◌∙◌}
use Rattle.step_table.specs.Acts.{TellAck}
use Rattle.step_table.specs.Flushes.{take_flush}
use Rattle.step_table.specs.ServerState.{Server}
use Rattle.mds_state.specs.Stands.{StandsFor}
use Rattle.mds_flushes.proofs.Later.{acts_more}
use Rattle.mds_flushes.proofs.Taken.{opens_ack, stands_by}
use Rattle.mds_flushes.proofs.taking.on_flush.Goals as goal

pub returns-clause-acts : goal.returns-clause-acts
returns-clause-acts c = λ s stands known.
    let client = c.args.client in
    let number = c.args.flush.now.number in
    let list = take_flush client s c.args.flush.now in (
      stands_by c.tell_ack.new.self s.hand _
          (subst (λ (t : Server). StandsFor c.tell_ack.new.self s.hand t) (sym (acts_more s list (TellAck client number ∷ [])))
          (c.in_ok-tell_ack.ensures.table _ s.hand (c.in_ok-opened.ensures.table s s.hand stands known))),
      c.in_ok-opened.ensures.opened s s.hand stands ∙ opens_ack client number list,
    )
