-- The verbs by the words that they have.
use Rattle.std.specs.Prelude.{ℕ, Bool, ◌||◌, List, bytes_eq, codes}

-- a verb that has a path, and nothing else
abbrev pub is_verb_of_path : List ℕ → Bool
is_verb_of_path verb =
    bytes_eq verb (codes "mkdir") || bytes_eq verb (codes "rmdir") || bytes_eq verb (codes "unlink") || bytes_eq verb (codes "cat") || bytes_eq verb (codes "stat") || bytes_eq verb (codes "ls") || bytes_eq verb (codes "realm")

-- a verb that has a handle, and nothing else
abbrev pub is_verb_of_handle : List ℕ → Bool
is_verb_of_handle verb = bytes_eq verb (codes "close") || bytes_eq verb (codes "read")
