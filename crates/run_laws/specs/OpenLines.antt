-- The line of a client to which its open request for a capability belongs.
use Rattle.std.specs.Prelude.{◌≡◌, true, Option, None, Some}
use Rattle.snap_ids.specs.declared.id.Ino.{Ino}
use Rattle.snap_ids.specs.declared.values.Mode.TheVariants.{Read, Write}
use Rattle.plain_types.specs.declared.request.Request.{Request}
use Rattle.plain_types.specs.declared.request.Request.TheVariants.{Cap}
use Rattle.plain_types.specs.declared.script.Line.{Line}
use Rattle.plain_types.specs.declared.script.Line.TheVariants as line
use Rattle.plain_tree.specs.State.{Handle}
use Rattle.step_table.specs.ClientState.{Client, Under, Idle, Open, AtStore, Edit, edit_of}
use Rattle.step_table.specs.ClientLines.{opened}
use Rattle.run_laws.specs.Links.{View}

-- a handle of a file, and one through which the file can be written
abbrev pub IsOf : Ino → Option Handle → Type 0
IsOf ino None = ⊥
IsOf ino (Some handle) = handle.ino ≡ ino

abbrev pub Writes : Ino → Option Handle → Type 0
Writes ino None = ⊥
Writes ino (Some handle) = (handle.ino ≡ ino) × (handle.writable ≡ true)

-- the line changes the file's bytes, or reads them, through a handle that the client has open
abbrev pub EditsFile : Client → Ino → Option Edit → Type 0
EditsFile c ino None = ⊥
EditsFile c ino (Some e) = Writes ino (opened c e.handle)

abbrev pub ReadsFile : Client → Ino → Line → Type 0
ReadsFile c ino (line.Read handle) = IsOf ino (opened c handle)
ReadsFile c ino text = ⊥

abbrev pub BelongsTo : Client → Line → Request → Type 0
BelongsTo c text (Cap ino Write) = EditsFile c ino (edit_of text)
BelongsTo c text (Cap ino Read) = ReadsFile c ino text
BelongsTo c text asked = Unit {0}

abbrev pub BelongsUnder : Client → Under → Type 0
BelongsUnder c (Open number tid text asked let_go) = BelongsTo c text asked
BelongsUnder c Idle = Unit {0}
BelongsUnder c (AtStore number entry ino head) = Unit {0}

-- An open request to write a file is of a `write` or a `truncate` of it through a writable handle that the client has open,
-- and one to read it of a `read` through a handle of it.
abbrev pub OfItsLine : View
OfItsLine n c up down s = BelongsUnder c c.under
