use Rattle.std.proofs.Common.{◌≡◌, take, map}
use Rattle.std.specs.List.{count_by}
use Rattle.reply_text.specs.Summary.{is_removal}
use Rattle.reply_text.proofs.summary.count_removed.Given as goal

-- the replies so far are counted
abbrev pub invariant-loop-reply : goal.invariant-loop-reply
invariant-loop-reply l = l.count ≡ count_by (is_removal l.lines) (map (λ reply. reply.now) (take l.reply-index l.replies))
