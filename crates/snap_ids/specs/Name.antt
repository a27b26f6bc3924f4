-- Which texts are names, and which names something new may have.
use Rattle.std.specs.Prelude.{ℕ, Bool, not, ◌&&◌, ◌||◌, ◌==◌, nat_lt, nat_le, List, length, take, codes, bytes_eq}
use Rattle.std.specs.List.{list_all}
use Rattle.std.specs.Char.{is_ascii_alphanumeric}

-- a byte that a name may have: `a-z A-Z 0-9 . _ -`
abbrev pub is_name_byte : ℕ → Bool
is_name_byte b = is_ascii_alphanumeric b || b == 46 || b == 95 || b == 45

-- the two names that a directory has for itself and its parent
abbrev pub is_dots : List ℕ → Bool
is_dots text = bytes_eq text (codes ".") || bytes_eq text (codes "..")

-- from 1 to 96 bytes
abbrev pub has_name_length : List ℕ → Bool
has_name_length text = nat_lt 0 (length text) && nat_le (length text) 96

-- 1 to 96 such bytes, and neither `.` nor `..`
abbrev pub is_name : List ℕ → Bool
is_name text = has_name_length text && list_all is_name_byte text && not (is_dots text)

-- the name of each directory's hidden directory of snapshots
abbrev pub is_dot_snap : List ℕ → Bool
is_dot_snap name = bytes_eq name (codes ".snap")

-- a new entry's name has at most 64 bytes, and isn't `.snap`
abbrev pub is_new : List ℕ → Bool
is_new name = nat_le (length name) 64 && not (is_dot_snap name)

-- the name begins with `_`, as inherited snapshots are listed
abbrev pub begins_with_underscore : List ℕ → Bool
begins_with_underscore name = bytes_eq (take 1 name) (codes "_")

-- a new snapshot's name is a new entry's, without a `_` in front
abbrev pub is_new_snap : List ℕ → Bool
is_new_snap name = is_new name && not (begins_with_underscore name)
