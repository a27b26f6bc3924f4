-- The handles under which clients have files open.
use Rattle.std.specs.Prelude.{◌≡◌, ℕ, Bool, not, ◌==◌, List, [], ◌∷◌, filter, None}
use Rattle.std.specs.List.{list_any}
use Rattle.plain_tree.specs.State.{Handle}
use Rattle.plain_tree.specs.Change.{is_handle, open_of}
use Rattle.file_uses.specs.declared.handles.Opened.{Opened}

-- what a client has open under a handle
abbrev pub opened_of : Handle → Opened
opened_of opened = record { ino = opened.ino; writable = opened.writable }

-- a handle holds the file open
abbrev pub is_open : List Handle → ℕ → Bool
is_open handles ino = list_any (λ (opened : Handle). opened.ino.0 == ino) handles

-- the handles without one of a client
abbrev pub without_handle : ℕ → ℕ → List Handle → List Handle
without_handle client handle handles = filter (λ opened. not (is_handle client handle opened)) handles

-- no client has a handle twice
abbrev pub AreApart : List Handle → Type 0
AreApart [] = Unit {0}
AreApart (opened ∷ handles) = (open_of handles opened.client opened.handle ≡ None) × AreApart handles
