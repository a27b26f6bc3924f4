use Rattle.std.proofs.Common.{◌≡◌, ℕ, ◌-◌, ◌≤◌, map, [], length, get_or}
use Rattle.reply_text.proofs.lists.empty_lists.Given as goal

-- there are at most so many lists, and all of them are empty
abbrev pub invariant-loop-alloc : goal.invariant-loop-alloc
invariant-loop-alloc g l = record {
  few : length l.lists.items ≤ 256;
  empty : (client : ℕ) → get_or (map (λ list. map (λ item. item.now) list.items) l.lists.items) client [] ≡ [];
}

abbrev pub decreases-loop-alloc : goal.decreases-loop-alloc
decreases-loop-alloc g l = 256 - length l.lists.items
