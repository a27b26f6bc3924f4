use Rattle.mds_rows.proofs.Rules.{can_ask, asked_given}
use Rattle.mds_rows.proofs.taking.ask_now.Goals as goal

pub ask-requires : goal.ask-requires
ask-requires c = record { may = can_ask c.args.state.now c.args.client c.args.conn c.args.tid c.args.request c.new-asked.result c.new-asked.ensures c.requires.from_one c.requires.upto c.requires.can c.requires.well }

pub returns-clause-row : goal.returns-clause-row
returns-clause-row c = λ s stands may.
    asked_given c.args.state.now c.ask.new.state c.send.new.state c.args.client c.args.conn c.args.tid c.args.request c.new-asked.result c.new-asked.ensures c.requires.from_one c.requires.upto c.requires.well
    _ c.in_ok-ask.ensures.table c.in_ok-sent.ensures.row s stands may
