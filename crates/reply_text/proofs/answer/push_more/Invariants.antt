use Rattle.std.proofs.Common.{◌≡◌, ◌++◌, take, flat_map}
use Rattle.reply_text.specs.Answer.{more_text}
use Rattle.reply_text.proofs.answer.push_more.Given as goal

-- the ids so far are written
abbrev pub invariant-loop-id : goal.invariant-loop-id
invariant-loop-id l = l.out.items ≡ l.fn.out.items ++ flat_map more_text (take l.id-index l.ids)
