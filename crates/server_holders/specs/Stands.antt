-- What a table of holdings says of the holders in the protocol's table.
use Rattle.std.specs.Prelude.{◌≡◌, ℕ, Bool, not, ◌||◌, ◌&&◌, ◌==◌, List, if◌then◌else◌}
use Rattle.std.specs.List.{list_any}
use Rattle.snap_ids.specs.declared.id.Ino.{Ino}
use Rattle.snap_ids.specs.declared.values.Mode.{Mode}
use Rattle.plain_tree.specs.State.{same_ino}
use Rattle.cap_state.specs.Table.{Holding, mode_of, suffices}
use Rattle.step_table.specs.ServerState.{Holder}

-- the holding of a holder
abbrev pub as_holding : Holder → Holding
as_holding h = (h.client, record { ino = h.ino; mode = h.mode; settled = h.settled })

-- Which client was asked to give which file back. A table of holdings doesn't have this, so it is kept beside it.
abbrev pub Marks : Type 0
Marks = ℕ → Ino → Bool

-- Holdings and marks stand for holders: whatever is asked of a holding and its mark, one passes exactly where a holder
-- with its recall does. The holders stand in the order of their arrival, and the holdings by inode and client.
abbrev pub HoldersStand : List Holding → Marks → List Holder → Type 0
HoldersStand held marks holders =
    (p : Holding → Bool → Bool)
    → list_any (λ (h : Holding). p h (marks h.0 h.1.ino)) held ≡ list_any (λ (h : Holder). p (as_holding h) h.recalled) holders

-- a client is asked to give a file back
abbrev pub marked : ℕ → Ino → Marks → Marks
marked client ino marks = λ c i. marks c i || (c == client && same_ino i ino)

-- a client holds a file anew, or gave it back
abbrev pub unmarked : ℕ → Ino → Marks → Marks
unmarked client ino marks = λ c i. not (c == client && same_ino i ino) && marks c i

-- a client has gone
abbrev pub none_marked : ℕ → Marks → Marks
none_marked client marks = λ c i. not (c == client) && marks c i

-- the marks after a grant: what suffices is held on, and else held anew
abbrev pub marks_after : ℕ → Ino → Mode → List Holding → Marks → Marks
marks_after client ino mode held marks =
    if suffices (mode_of client ino held) mode then marks else unmarked client ino marks
