use Rattle.std.proofs.Common.{◌≡◌, ◌++◌, take, flat_map}
use Rattle.reply_text.specs.Answer.{clone_text}
use Rattle.reply_text.proofs.answer.push_clones.Given as goal

-- the clones so far are written
abbrev pub invariant-loop-clone : goal.invariant-loop-clone
invariant-loop-clone l = l.out.items ≡ l.fn.out.items ++ flat_map clone_text (take l.clone-index l.clones)
