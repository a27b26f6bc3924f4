-- What a client has open, by its effects in the journal.
use Rattle.std.specs.Prelude.{◌≡◌, ℕ, Bool, false, not, ◌&&◌, ◌==◌, List, [], ◌∷◌, ◌++◌, filter, if◌then◌else◌, Option, None, Some}
use Rattle.plain_types.specs.declared.change.Change.{Change}
use Rattle.plain_types.specs.declared.change.Change.TheVariants as change
use Rattle.plain_types.specs.declared.entry.Entry.{Entry}
use Rattle.plain_types.specs.declared.request.Request.{Request}
use Rattle.plain_tree.specs.State.{Handle}
use Rattle.plain_tree.specs.Change.{is_handle}
use Rattle.plain_journal.specs.Entries.{change_in}
use Rattle.step_table.specs.ClientState.{open_request}
use Rattle.run_laws.specs.Links.{View}
use Rattle.run_laws.specs.Requests.{is_of}

-- a client's handles after one more of its changes
abbrev pub opens_by : ℕ → Change → List Handle → List Handle
opens_by n (change.OpenFile handle ino writable) before = before ++ record { client = n; handle = handle; ino = ino; writable = writable } ∷ []
opens_by n (change.CloseFile handle) before = filter (λ opened. not (is_handle n handle opened)) before
opens_by n made before = before

abbrev pub opens_after : ℕ → Option Change → List Handle → List Handle
opens_after n None before = before
opens_after n (Some made) before = opens_by n made before

-- this is the number of what the client has asked and holds open
abbrev pub is_open : Option (ℕ × Request) → ℕ → Bool
is_open None number = false
is_open (Some r) number = number == r.0

-- its handles after its effects among entries, all but that of its open request
abbrev pub left_open : ℕ → Option (ℕ × Request) → List Handle → List Entry → List Handle
left_open n o before [] = before
left_open n o before (e ∷ entries) =
    left_open n o (if is_of n e && not (is_open o e.number) then opens_after n (change_in e.what) before else before) entries

-- What a client has open is what its effects in the journal leave open, but for the effect of its open request: the answer
-- to that one it hasn't taken.
abbrev pub HasOpen : View
HasOpen n c up down s = c.handles ≡ left_open n (open_request c.under) [] s.entries
