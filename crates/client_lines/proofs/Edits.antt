-- A line that changes bytes, in the words of the table.
use Rattle.std.proofs.Common.{◌≡◌, ℕ, Bool, true, false, not, ◌∙◌, Option, None, Some, Ok, Err, if◌then◌else◌, sym, refl, subst}
use Rattle.snap_ids.specs.declared.id.Ino.{Ino}
use Rattle.snap_ids.specs.declared.values.Mode.TheVariants.{Write}
use Rattle.plain_types.specs.declared.answer.Refusal.TheVariants.{ReadOnly, TooLarge}
use Rattle.plain_types.specs.declared.request.Request.TheVariants as request
use Rattle.plain_types.specs.declared.script.Line.{Line}
use Rattle.plain_tree.specs.State.{Handle}
use Rattle.plain_tree.specs.Change.{is_too_large}
use Rattle.held_files.specs.Files.{is_writer}
use Rattle.step_table.specs.Row.{Row}
use Rattle.step_table.specs.Messages.{is_size}
use Rattle.step_table.specs.ClientState.{Client, Edit, edits, asks}
use Rattle.step_table.specs.ClientLines.{opened, edit_file, edit_line, begin_with}
use Rattle.client_lines.specs.declared.edit.Reach.{Reach}
use Rattle.client_lines.specs.Rows.{reach_of, file_to_edit, edit_fits, edits_file, edits_allowed}

-- a test decides
chosen : {A : Type 0} (b : Bool) (x y : A) → b ≡ true → (if b then x else y) ≡ x
chosen true x y is = refl
chosen false x y is = cc

-- the tests of a change of bytes, in their order
by_tests : (c : Client) (number : ℕ) (text : Line) (e : Edit) (opened : Handle) (reads large : Bool)
    → edits_allowed c number text (Some e) (if reads then Err ReadOnly else (if not large then Ok opened.ino else Err TooLarge))
    ≡ edit_file c number text e opened.ino (if reads then Err ReadOnly else (if large then Err TooLarge else Ok e.change))
by_tests c number text e opened true large = refl
by_tests c number text e opened false true = refl
by_tests c number text e opened false false = refl

edit_is : (c : Client) (number : ℕ) (text : Line) (e : Edit) (o : Option Handle)
    → edits_allowed c number text (Some e) (file_to_edit o (is_size e.ends)) ≡ edit_line c number text e o
edit_is c number text e None = refl
edit_is c number text e (Some opened) = by_tests c number text e opened (not opened.writable) (is_too_large e.ends)

-- a line that changes bytes begins by its handle and its end
pub begins_edit : (c : Client) (number : ℕ) (text : Line) (o : Option Edit) (reach : Reach) → reach_of o ≡ Some reach
    → edits_allowed c number text o (file_to_edit (opened c reach.handle) reach.fits) ≡ begin_with c number text o
begins_edit c number text None reach is = cc
begins_edit c number text (Some e) reach is =
    let same : record { handle = e.handle; fits = is_size e.ends } ≡ reach = cc in
    subst (λ (r : Reach). edits_allowed c number text (Some e) (file_to_edit (opened c r.handle) r.fits)
    ≡ edit_line c number text e (opened c e.handle)) same (edit_is c number text e (opened c e.handle))

-- it takes effect at once where the file is held for Write
pub edited : (c : Client) (number : ℕ) (text : Line) (ino : Ino) (o : Option Edit) (row : Row Client) → edit_fits o ≡ true
    → is_writer ino c.files ≡ true → ((e : Edit) → o ≡ Some e → row ≡ edits c number ino e) → row ≡ edits_file c number text ino o
edited c number text ino None row fit writes each = cc
edited c number text ino (Some e) row fit writes each =
    each e refl ∙ sym (chosen (is_writer ino c.files) (edits c number ino e) (asks c number text (request.Cap ino Write)) writes)
