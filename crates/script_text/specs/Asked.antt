-- What a client's line asks.
use Rattle.std.specs.Prelude.{ℕ, List, [], ◌∷◌, bytes_eq, codes, if◌then◌else◌, Bool, true, false, Option, None, Some}
use Rattle.std.specs.Option.{option_map, option_zip}
use Rattle.snap_ids.specs.Path.{path_of}
use Rattle.plain_types.specs.declared.script.Line.{Line}
use Rattle.plain_types.specs.declared.script.Line.TheVariants as line
use Rattle.script_text.specs.Lines.{number_of, within, small_of, mode_of, bytes_of}

-- a handle: a number from 1 to 64
abbrev pub handle_of : List ℕ → Option ℕ
handle_of word = within 1 64 (number_of word)

-- whether a file is opened to be changed: `w`, or `r` to be read alone
abbrev pub access_of : List ℕ → Option Bool
access_of word =
    if bytes_eq word (codes "w") then Some true
    else (if bytes_eq word (codes "r") then Some false
    else None)

-- a verb alone
abbrev pub bare_line : List ℕ → Option Line
bare_line verb =
    if bytes_eq verb (codes "barrier") then Some line.Barrier
    else (if bytes_eq verb (codes "break") then Some line.Break
    else None)

-- a verb and a path, or a verb and a handle
abbrev pub short_line : List ℕ → List ℕ → Option Line
short_line verb word =
    if bytes_eq verb (codes "mkdir") then option_map line.Mkdir (path_of word)
    else (if bytes_eq verb (codes "rmdir") then option_map line.Rmdir (path_of word)
    else (if bytes_eq verb (codes "unlink") then option_map line.Unlink (path_of word)
    else (if bytes_eq verb (codes "cat") then option_map line.Cat (path_of word)
    else (if bytes_eq verb (codes "stat") then option_map line.Stat (path_of word)
    else (if bytes_eq verb (codes "ls") then option_map line.List (path_of word)
    else (if bytes_eq verb (codes "realm") then option_map line.Realm (path_of word)
    else (if bytes_eq verb (codes "close") then option_map line.Close (handle_of word)
    else (if bytes_eq verb (codes "read") then option_map line.Read (handle_of word)
    else None))))))))

-- a verb and two words
abbrev pub paired_line : List ℕ → List ℕ → List ℕ → Option Line
paired_line verb a b =
    if bytes_eq verb (codes "create") then option_map (λ (path, mode). line.Create path mode) (option_zip (path_of a) (mode_of b))
    else (if bytes_eq verb (codes "chmod") then option_map (λ (path, mode). line.Chmod path mode) (option_zip (path_of a) (mode_of b))
    else (if bytes_eq verb (codes "link") then option_map (λ (path, target). line.Link path target) (option_zip (path_of a) (path_of b))
    else (if bytes_eq verb (codes "rename") then option_map (λ (path, target). line.Rename path target) (option_zip (path_of a) (path_of b))
    else (if bytes_eq verb (codes "clones") then option_map (λ (path, index). line.Clones path index) (option_zip (path_of a) (small_of b))
    else (if bytes_eq verb (codes "truncate") then option_map (λ (handle, size). line.Truncate handle size) (option_zip (handle_of a) (small_of b))
    else None)))))

-- a verb and three words
abbrev pub long_line : List ℕ → List ℕ → List ℕ → List ℕ → Option Line
long_line verb a b c =
    if bytes_eq verb (codes "open") then option_map (λ ((handle, path), writable). line.Open handle path writable) (option_zip (option_zip (handle_of a) (path_of b)) (access_of c))
    else (if bytes_eq verb (codes "write") then option_map (λ ((handle, offset), bytes). line.Write handle offset bytes) (option_zip (option_zip (handle_of a) (small_of b)) (bytes_of c))
    else None)

-- what the words behind the client ask, if anything
abbrev pub asked : List (List ℕ) → Option Line
asked (verb ∷ []) = bare_line verb
asked (verb ∷ a ∷ []) = short_line verb a
asked (verb ∷ a ∷ b ∷ []) = paired_line verb a b
asked (verb ∷ a ∷ b ∷ c ∷ []) = long_line verb a b c
asked words = None
