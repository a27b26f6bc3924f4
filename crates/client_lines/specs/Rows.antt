-- The rows of a client's own steps, by what decides them.
use Rattle.std.specs.Prelude.{ℕ, Bool, true, false, not, if◌then◌else◌, Option, None, Some, Result, Ok, Err}
use Rattle.snap_ids.specs.declared.id.Ino.{Ino}
use Rattle.snap_ids.specs.declared.values.Mode.TheVariants.{Write}
use Rattle.plain_types.specs.declared.answer.Refusal.{Refusal}
use Rattle.plain_types.specs.declared.answer.Refusal.TheVariants.{BadHandle, ReadOnly, TooLarge}
use Rattle.plain_types.specs.declared.message.ToStore.{ToStore}
use Rattle.plain_types.specs.declared.request.Request.TheVariants as request
use Rattle.plain_types.specs.declared.script.Line.{Line}
use Rattle.plain_tree.specs.State.{Handle}
use Rattle.held_files.specs.declared.due.Due.{Due}
use Rattle.held_files.specs.Due.{sent}
use Rattle.held_files.specs.Files.{file_of, is_writer}
use Rattle.step_table.specs.Row.{Row}
use Rattle.step_table.specs.Messages.{is_size}
use Rattle.step_table.specs.ClientState.{Client, Edit, edits, asks, refuses, stays, asks_store}
use Rattle.step_table.specs.ClientLines.{unsent_in, file_due, send_due}
use Rattle.client_lines.specs.declared.edit.Reach.{Reach}

-- the handle by which a change of bytes is made, and whether it ends within the largest file
abbrev pub reach_of : Option Edit → Option Reach
reach_of None = None
reach_of (Some e) = Some (record { handle = e.handle; fits = is_size e.ends })

-- the file whose bytes may be changed, or why they can't be
abbrev pub file_to_edit : Option Handle → Bool → Result Ino Refusal
file_to_edit None fits = Err BadHandle
file_to_edit (Some opened) fits =
    if not opened.writable then Err ReadOnly
    else (if fits then Ok opened.ino
    else Err TooLarge)

-- a change of bytes ends within the largest file
abbrev pub edit_fits : Option Edit → Bool
edit_fits None = false
edit_fits (Some e) = is_size e.ends

-- what becomes of a change of bytes that is allowed for this file
abbrev pub edits_file : Client → ℕ → Line → Ino → Option Edit → Row Client
edits_file c number text ino None = stays c
edits_file c number text ino (Some e) =
    if is_writer ino c.files then edits c number ino e else asks c number text (request.Cap ino Write)

-- what becomes of a change of bytes
abbrev pub edits_allowed : Client → ℕ → Line → Option Edit → Result Ino Refusal → Row Client
edits_allowed c number text e (Err refusal) = refuses c number refusal
edits_allowed c number text e (Ok ino) = edits_file c number text ino e

-- the store is sent a piece, if there is one
abbrev pub orders : Client → Option ToStore → Row Client
orders c None = stays c
orders c (Some order) = asks_store c order

-- what is due is sent, and counts as sent
abbrev pub sends_item : Client → Due → Row Client
sends_item c item = send_due (record c { files = sent item c.files }) (unsent_in (file_of (file_due item) c.files)) item
