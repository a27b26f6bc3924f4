use Rattle.mds_journal.proofs.journal.Journal.open.Goals as goal

pub returns-in-Err-clause-not_journal : goal.returns-in-Err-clause-not_journal
returns-in-Err-clause-not_journal g c = λ because entries journal. c.in-Err.ensures.not_journal (cc because) entries journal
