use Rattle.std.proofs.Common.{◌≡◌, true, rules}
use Rattle.client_takes.specs.Takes.{takes_reply}
use Rattle.client_takes.proofs.Rows.{reply_of}
use Rattle.client_takes.proofs.replies.take_reply.Goals as goal

pub returns-clause-row : goal.returns-clause-row
returns-clause-row c =
    let test : takes_reply c.args.client.now c.args.tid c.args.said ≡ true = search rules in
    reply_of c.answered.new.client c.args.client.now c.idle-under.new.self c.answered.result c.args.tid c.args.stamp c.args.said _
    c.idle-under.ensures.idle c.idle-under.ensures.taken test c.answered.ensures
