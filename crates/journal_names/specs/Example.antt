-- Trees of names after small journals.
use Rattle.std.specs.Prelude.{ℕ, List, [], ◌∷◌, codes}
use Rattle.snap_ids.specs.declared.id.Ino.{Ino}
use Rattle.snap_ids.specs.declared.id.SnapId.{SnapId}
use Rattle.snap_ids.specs.declared.id.TheConstants.{NOSNAP}
use Rattle.plain_journal.specs.Example.{inode, snap, root}
use Rattle.dentry_tree.specs.Dentries.{Dentry, Tree}

-- a name, and the inode that it has from one id to another
abbrev pub named : Ino → List ℕ → Ino → SnapId → SnapId → Dentry
named dir name ino first last = record { dir = dir; name = name; versions = record { ino = ino; valid = record { first = first; last = last } } ∷ [] }

-- after `snapshot`: `/a` and `/a/b` are older than the snapshot, `/a/c` isn't
abbrev pub of_snapshot : Tree
of_snapshot = record {
  dentries =
      named root (codes "a") (inode 0) (snap 2) NOSNAP
      ∷ named (inode 0) (codes "b") (inode 1) (snap 2) NOSNAP
      ∷ named (inode 0) (codes "c") (inode 2) (snap 3) NOSNAP
      ∷ [];
  kinds = [];
}

-- after `moved`: `/a/d` was there up to the second snapshot, and `/b/d` with `x` is there since
abbrev pub of_moved : Tree
of_moved = record {
  dentries =
      named root (codes "a") (inode 0) (snap 2) NOSNAP
      ∷ named root (codes "b") (inode 1) (snap 2) NOSNAP
      ∷ named (inode 0) (codes "d") (inode 2) (snap 2) (snap 3)
      ∷ named (inode 1) (codes "d") (inode 2) (snap 4) NOSNAP
      ∷ named (inode 2) (codes "x") (inode 3) (snap 4) NOSNAP
      ∷ [];
  kinds = [];
}
