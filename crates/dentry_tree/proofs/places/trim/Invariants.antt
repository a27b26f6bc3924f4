use Rattle.std.proofs.Common.{◌≡◌, ◌++◌, take, drop, map}
use Rattle.dentry_tree.specs.Places.{trimmed}
use Rattle.dentry_tree.proofs.places.trim.Given as goal

-- the dentries so far are trimmed
abbrev pub invariant-loop-dentry : goal.invariant-loop-dentry
invariant-loop-dentry l = l.dentry-items ≡ map (trimmed l.live) (take l.dentry-index l.fn.dentries.items) ++ drop l.dentry-index l.fn.dentries.items
