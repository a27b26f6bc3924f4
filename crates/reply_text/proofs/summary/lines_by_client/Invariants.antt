use Rattle.std.proofs.Common.{take, map}
use Rattle.reply_text.specs.Summary.{lines_of}
use Rattle.reply_text.specs.Lists.{HasEach}
use Rattle.reply_text.proofs.summary.lines_by_client.Given as goal

-- the lines so far are in the lists of their clients
abbrev pub invariant-loop-asked : goal.invariant-loop-asked
invariant-loop-asked l = HasEach (map (λ list. map (λ line. line.now) list.items) l.lists.items) (lines_of (take l.asked-index l.lines))
