use Rattle.std.proofs.Common.{sym, ◌∙◌}
use Rattle.plain_journal.specs.Answers.{found}
use Rattle.mds_asks.proofs.Seen.{else_seen, found_unpurged, live_seen, snap_seen}
use Rattle.mds_asks.proofs.sight.sight_of.Goals as goal

pub returns-in-FoundLive : goal.returns-in-FoundLive
returns-in-FoundLive c = λ s path legal is.
    live_seen s (found s.entries path) c.in-FoundLive.ino c.in-FoundLive.perm c.in-FoundLive.size _ (sym c.in-FoundLive.is ∙ is)

pub returns-in-FoundSnap : goal.returns-in-FoundSnap
returns-in-FoundSnap c = λ s path legal is.
    let l = snap_seen s (found s.entries path) c.in-FoundSnap.ino c.in-FoundSnap.snap _ (sym c.in-FoundSnap.is ∙ is) in
    (found_unpurged s.entries legal path c.in-FoundSnap.snap c.in-FoundSnap.ino l.0, l.1)

pub returns-in_default : goal.returns-in_default
returns-in_default c = λ s path legal is.
    else_seen s (found s.entries path) c.args.answer.now c.in_default.not-FoundLive c.in_default.not-FoundSnap is
