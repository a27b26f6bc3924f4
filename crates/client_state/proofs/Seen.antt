-- What is read off a client's state c, which the fields v are seen as.
use Rattle.std.proofs.Common.{◌≡◌, ℕ, ◌<◌, Bool, true, false, not, ◌&&◌, List, [], ◌∷◌, length, Option, None, Some, is_some, slice_get, slice_index_or, refl, ap, ◌∙◌, arith}
use Rattle.std.specs.Option.{option_map}
use Rattle.snap_ids.specs.declared.id.Ino.{Ino}
use Rattle.plain_types.specs.declared.script.Line.{Line}
use Rattle.held_files.specs.declared.piece.Piece.{Piece}
use Rattle.held_files.specs.Buffer.{Buffer}
use Rattle.held_files.specs.Files.{Item, OfPiece, OfMark, HeldFile, file_of, is_held, buffer_of}
use Rattle.cap_snap.specs.Woven.{leading_piece, leading_in}
use Rattle.step_table.specs.ClientState.{Client, size_in}
use Rattle.step_table.specs.ClientLines.{may_begin, order_of, unsent_in}
use Rattle.client_state.specs.Acts.{ready_in, is_ready, order_in, size_kept}

pub front_some : (lines : List Line) (text : Line) → text ≡ slice_index_or lines 0 text → 0 < length lines → Some text ≡ slice_get lines 0
front_some [] text e h = absurd (omega arith)
front_some (t ∷ ts) text e h = ap (λ (x : Line). Some x) e

pub front_none : (lines : List Line) → (0 < length lines → false ≡ true) → None ≡ slice_get lines 0
front_none [] h = refl
front_none (t ∷ ts) h = let never : false ≡ true = h (omega arith) in absurd (cc)

ready_by : (c : Client) (lines : List Line) (text : Line) → Some text ≡ slice_get lines 0 → not c.frozen && may_begin c.under text ≡ ready_in c lines
ready_by c [] text h = absurd (cc)
ready_by c (t ∷ ts) text h = let same : text ≡ t = cc in ap (λ (x : Line). not c.frozen && may_begin c.under x) same

idle_by : (c : Client) (lines : List Line) → None ≡ slice_get lines 0 → false ≡ ready_in c lines
idle_by c [] h = refl
idle_by c (t ∷ ts) h = absurd (cc)

pub ready : (v c : Client) → v ≡ c → (text : Line) (b : Bool) → b ≡ not v.frozen && may_begin v.under text → Some text ≡ slice_get v.lines 0 → b ≡ is_ready c
ready v c is text b e h = e ∙ ready_by v v.lines text h ∙ ap is_ready is

pub not_ready : (v c : Client) → v ≡ c → None ≡ slice_get v.lines 0 → false ≡ is_ready c
not_ready v c is h = idle_by v v.lines h ∙ ap is_ready is

held_by : (o : Option HeldFile) (b : Buffer) → Some b ≡ option_map buffer_of o → true ≡ is_some o
held_by None b h = absurd (cc)
held_by (Some file) b h = refl

not_held_by : (o : Option HeldFile) → None ≡ option_map buffer_of o → false ≡ is_some o
not_held_by None h = refl
not_held_by (Some file) h = absurd (cc)

pub held : (ino : Ino) (v c : Client) → v ≡ c → (b : Buffer) → Some b ≡ option_map buffer_of (file_of ino v.files) → true ≡ is_held ino c.files
held ino v c is b h = held_by (file_of ino v.files) b h ∙ ap (λ (s : Client). is_held ino s.files) is

pub not_held : (ino : Ino) (v c : Client) → v ≡ c → None ≡ option_map buffer_of (file_of ino v.files) → false ≡ is_held ino c.files
not_held ino v c is h = not_held_by (file_of ino v.files) h ∙ ap (λ (s : Client). is_held ino s.files) is

kept_size : (o : Option HeldFile) → size_kept (option_map buffer_of o) ≡ size_in o
kept_size None = refl
kept_size (Some file) = refl

pub size_is : (ino : Ino) (v c : Client) → v ≡ c → (size : ℕ) (o : Option Buffer) → size ≡ size_kept o → o ≡ option_map buffer_of (file_of ino v.files)
    → size ≡ size_in (file_of ino c.files)
size_is ino v c is size o e h = e ∙ ap size_kept h ∙ kept_size (file_of ino v.files) ∙ ap (λ (s : Client). size_in (file_of ino s.files)) is

order_items : (ino : Ino) (items : List Item) (p : Piece) → Some p ≡ leading_piece items → Some (order_of ino p) ≡ order_in ino items
order_items ino [] p h = absurd (cc)
order_items ino (OfPiece q ∷ items) p h = let same : p ≡ q = cc in ap (λ (x : Piece). Some (order_of ino x)) same
order_items ino (OfMark m ∷ items) p h = absurd (cc)

no_items : (ino : Ino) (items : List Item) → None ≡ leading_piece items → None ≡ order_in ino items
no_items ino [] h = refl
no_items ino (OfPiece q ∷ items) h = absurd (cc)
no_items ino (OfMark m ∷ items) h = refl

pub order_some : (ino : Ino) (o : Option HeldFile) (p : Piece) → Some p ≡ leading_in o → Some (order_of ino p) ≡ order_in ino (unsent_in o)
order_some ino None p h = absurd (cc)
order_some ino (Some file) p h = order_items ino file.unsent p h

pub order_none : (ino : Ino) (o : Option HeldFile) → None ≡ leading_in o → None ≡ order_in ino (unsent_in o)
order_none ino None h = refl
order_none ino (Some file) h = no_items ino file.unsent h
