-- Where names lead in a tree.
use Rattle.std.specs.Prelude.{ℕ, zero, suc, Bool, true, false, List, [], ◌∷◌, length, filter, None, Some, Result, Ok, Err}
use Rattle.std.specs.List.{list_any}
use Rattle.snap_ids.specs.declared.id.Ino.{Ino}
use Rattle.snap_ids.specs.declared.values.Kind.{Kind}
use Rattle.snap_ids.specs.declared.values.Kind.TheVariants.{Dir, File}
use Rattle.plain_types.specs.declared.answer.Refusal.{Refusal}
use Rattle.plain_types.specs.declared.answer.Refusal.TheVariants.{NoEntry, NotDir}
use Rattle.plain_tree.specs.State.{Entry, same_ino, lookup}

-- The inode at the end of a path from an inode, or the refusal at the first name that fails: a name is looked up in a
-- file, or it isn't there. What each inode is, is given.
abbrev pub walk : (Ino → Kind) → List Entry → Ino → List (List ℕ) → Result Ino Refusal
walk kind entries ino [] = Ok ino
walk kind entries ino (name ∷ names) = elim (kind ino) [
  | File ↦ Err NotDir
  | Dir ↦ elim (lookup entries ino name) [ None ↦ Err NoEntry | Some next ↦ walk kind entries next names ]
]

-- the entries that name an inode
abbrev pub names_of : List Entry → Ino → List Entry
names_of entries ino = filter (λ entry. same_ino entry.ino ino) entries

-- some name of an inode leads up to another inode, over at most so many entries
abbrev pub leads_up : ℕ → List Entry → Ino → Ino → Bool
leads_up zero entries ino root = same_ino ino root
leads_up (suc more) entries ino root = elim (same_ino ino root) [
  | true ↦ true
  | false ↦ list_any (λ (entry : Entry). elim (same_ino entry.ino ino) [ true ↦ leads_up more entries entry.dir root | false ↦ false ]) entries
]

-- an inode is another one, or below it by some of its names
abbrev pub is_under : List Entry → Ino → Ino → Bool
is_under entries ino root = leads_up (length entries) entries ino root
