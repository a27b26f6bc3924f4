use Rattle.std.proofs.Common.{◌≡◌, map, take}
use Rattle.snap_ids.proofs.path.names_spelled.Given as goal

-- the names so far are what the texts so far spell
abbrev pub invariant-loop-text : goal.invariant-loop-text
invariant-loop-text l = l.names.items ≡ map (λ text. text.now) (take l.text-index l.texts)
