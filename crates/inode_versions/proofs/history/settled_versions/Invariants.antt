use Rattle.std.proofs.Common.{◌≡◌, take}
use Rattle.std.specs.List.{flat_map}
use Rattle.inode_versions.specs.Parts.{settled_parts}
use Rattle.inode_versions.proofs.history.settled_versions.Given as goal

-- the versions so far in their pieces
abbrev pub invariant-loop-version : goal.invariant-loop-version
invariant-loop-version l = l.made.items ≡ flat_map (settled_parts l.follows l.upto l.size) (take l.version-index l.versions)
