-- What calls on a tree answer.
use Rattle.std.specs.Prelude.{◌≡◌, Option, None, Some, Result, Ok, Err}
use Rattle.snap_ids.specs.declared.id.Ino.{Ino}
use Rattle.snap_ids.specs.declared.values.Kind.{Kind}
use Rattle.snap_ids.specs.declared.values.Kind.TheVariants.{Dir, File}
use Rattle.plain_types.specs.declared.answer.Refusal.{Refusal}
use Rattle.plain_types.specs.declared.answer.Refusal.TheVariants as refusal
use Rattle.dentry_tree.specs.declared.error.TreeError.{TreeError}
use Rattle.dentry_tree.specs.declared.error.TreeError.TheVariants.{Exists, NoEntry, NotDir, IsDir, NoMemory}

-- the error is a walk's refusal
abbrev pub IsRefusal : TreeError → Result Ino Refusal → Type 0
IsRefusal NoEntry walked = walked ≡ Err refusal.NoEntry
IsRefusal NotDir walked = walked ≡ Err refusal.NotDir
IsRefusal error walked = ⊥

-- the name is taken, or memory was wanted
abbrev pub IsOfPut : TreeError → Type 0
IsOfPut Exists = Unit {0}
IsOfPut NoMemory = Unit {0}
IsOfPut error = ⊥

-- what a cut of a file's name answers, where the name has this inode
abbrev pub file_answer : (Ino → Kind) → Option Ino → Result Ino TreeError
file_answer kind None = Err NoEntry
file_answer kind (Some ino) = elim (kind ino) [ Dir ↦ Err IsDir | File ↦ Ok ino ]

-- and what a cut of a directory's answers
abbrev pub dir_answer : (Ino → Kind) → Option Ino → Result Ino TreeError
dir_answer kind None = Err NoEntry
dir_answer kind (Some ino) = elim (kind ino) [ Dir ↦ Ok ino | File ↦ Err NotDir ]
