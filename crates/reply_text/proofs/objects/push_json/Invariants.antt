use Rattle.std.proofs.Common.{◌≡◌, ◌++◌, take, map, flat_map}
use Rattle.reply_text.specs.Json.{json_reply}
use Rattle.reply_text.proofs.objects.push_json.Given as goal

-- the replies so far are written
abbrev pub invariant-loop-reply : goal.invariant-loop-reply
invariant-loop-reply l = l.out.items ≡ l.fn.out.items ++ flat_map json_reply (map (λ reply. reply.now) (take l.reply-index l.replies))
