-- Why a request isn't planned, and what an answer says.
use Rattle.std.specs.Prelude.{◌≡◌, Bool, true, false, Option, None, Some, Result, Ok, Err}
use Rattle.snap_ids.specs.declared.memory.NoMemory.{NoMemory as Wanted}
use Rattle.plain_types.specs.declared.answer.Refusal.{Refusal}
use Rattle.plain_types.specs.declared.change.Change.{Change}
use Rattle.plain_types.specs.declared.change.Change.TheVariants.{Mkdir, Create, Link, Unlink, Rmdir, Rename, Mksnap}
use Rattle.change_plan.specs.declared.cause.Cause.{Cause}
use Rattle.change_plan.specs.declared.cause.Cause.TheVariants.{Refused, NoMemory}

-- it is a change that has a name
abbrev pub has_name : Result Change Refusal → Bool
has_name (Ok (Mkdir dir name ino)) = true
has_name (Ok (Create dir name ino mode)) = true
has_name (Ok (Link ino dir name)) = true
has_name (Ok (Unlink dir name)) = true
has_name (Ok (Rmdir dir name)) = true
has_name (Ok (Rename dir name to_dir to_name)) = true
has_name (Ok (Mksnap id dir name)) = true
has_name (Ok change) = false
has_name (Err refusal) = false

-- the same of what a request comes to
abbrev pub is_named : Option (Result Change Refusal) → Bool
is_named None = false
is_named (Some asked) = has_name asked

-- a plan is what is asked for; memory is wanted only for a name of a change
abbrev pub Plans : Result Change Cause → Result Change Refusal → Type 0
Plans (Ok change) asked = asked ≡ Ok change
Plans (Err (Refused refusal)) asked = asked ≡ Err refusal
Plans (Err NoMemory) asked = has_name asked ≡ true

-- an answer is what is asked for; memory is wanted only for a name of a change
abbrev pub Answers : Result (Option (Result Change Refusal)) Wanted → Option (Result Change Refusal) → Type 0
Answers (Ok plan) asked = plan ≡ asked
Answers (Err wanted) asked = is_named asked ≡ true
