use Rattle.std.proofs.Common.{ap, ◌∙◌, arith}
use Rattle.reply_text.proofs.Listed.{seen, lines_more, seen_push}
use Rattle.reply_text.proofs.summary.lines_by_client.Goals as goal

-- one more line is in its client's list
pub loop-asked-preserved : goal.loop-asked-preserved
loop-asked-preserved c =
    lines_more c.loop-asked.lists.items c.args.lines.now c.loop-asked.asked-index c.asked-item.result c.from.result c.index_mut.result.now c.push.new.self c.loop-asked.invariant c.loop-asked-test.true c.asked-item.is c.from.ensures (omega arith) c.index_mut.ensures.value (ap seen c.in_ok-push.ensures.items ∙ seen_push c.index_mut.result.now.items _)
