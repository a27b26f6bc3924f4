use Rattle.client_takes.proofs.Rows.{also, rest_is}
use Rattle.client_takes.proofs.answers.take_answer.Goals as goal

pub returns-in_default : goal.returns-in_default
returns-in_default c =
    also c.finish.new.client c.finish.result _ _
    (rest_is c.args.client.now c.args.asked.now.number c.args.asked.now.line c.args.asked.now.request c.args.asked.now.let_go c.args.stamp c.args.said
    c.requires.idle c.in_default.not-FoundLive c.in_default.not-FoundSnap c.in_default.not-FoundObject)
    c.finish.ensures
