use Rattle.std.proofs.Common.{◌≡◌, ◌++◌, take, map, flat_map}
use Rattle.reply_text.specs.Reply.{plain_reply}
use Rattle.reply_text.proofs.form.push_plain.Given as goal

-- the replies so far are written
abbrev pub invariant-loop-reply : goal.invariant-loop-reply
invariant-loop-reply l = l.out.items ≡ l.fn.out.items ++ flat_map plain_reply (map (λ reply. reply.now) (take l.reply-index l.replies))
