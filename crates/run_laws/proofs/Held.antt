-- What a client holds is known, and its numbers can be: files, marks that wait, contexts, and the bytes that an open line is
-- to change.
use Rattle.std.proofs.Common.{◌≡◌, ℕ, ◌+◌, List, [], ◌∷◌, ◌++◌, fold, Bool, true, false, true≢false, not, cond, Option, None, Some, refl, sym, IfSome, arith}
use Rattle.std.proofs.lemmas.Bool.Decides.{nat_tests}
use Rattle.std.specs.Prelude.{max, ◌&&◌, nat_lt, nat_le, length}
use Rattle.std.specs.List.{list_all}
use Rattle.snap_ids.specs.declared.id.Ino.{Ino}
use Rattle.snap_ids.specs.declared.id.SnapId.{SnapId}
use Rattle.snap_ids.specs.declared.id.TheConstants.{NOSNAP}
use Rattle.snap_ids.specs.declared.values.Mode.{Mode}
use Rattle.snap_ids.specs.declared.values.Mode.TheVariants.{Read, Write}
use Rattle.snap_ids.specs.declared.values.RealmInfo.{RealmInfo}
use Rattle.snap_ids.specs.Context.{Context}
use Rattle.snap_ids.specs.Traces.{if_from, seq_of}
use Rattle.plain_types.specs.declared.entry.Entry.{Entry}
use Rattle.plain_types.specs.declared.message.FileTrace.{FileTrace}
use Rattle.plain_types.specs.declared.message.FlushMsg.{FlushMsg}
use Rattle.plain_types.specs.declared.script.Line.{Line}
use Rattle.plain_types.specs.declared.script.Line.TheVariants as line
use Rattle.held_files.specs.declared.due.Due.{Due}
use Rattle.held_files.specs.declared.due.Due.TheVariants as due
use Rattle.held_files.specs.declared.piece.Piece.{Piece}
use Rattle.held_files.specs.Buffer.{size_after}
use Rattle.held_files.specs.Due.{is_read, given_back, due_of, due as due_in, or_else, first_due, sent}
use Rattle.held_files.specs.Files.{Item, OfPiece, OfMark, HeldFile, HeldFiles, is_ino, is_empty, with_file, without, held_again, hold, with_piece, with_mark, settled_to, first_sent, item_sent}
use Rattle.step_table.specs.Messages.{is_id, is_size, realm_fits, trace_fits, context_by}
use Rattle.step_table.specs.ClientState.{Under, Idle, Open, AtStore, Edit, edit_of, context_in, without_context, with_context, sent_again}
use Rattle.step_table.specs.ClientLines.{with_let_go}
use Rattle.step_table.specs.ClientTakes.{marked, settled_by}
use Rattle.run_laws.proofs.Known.{Known, known_more}

abbrev pub ItemFits : Item → Type 0
ItemFits (OfPiece piece) = Unit {0}
ItemFits (OfMark mark) = (is_id mark.follows ≡ true) × (is_id mark.upto ≡ true) × (is_size mark.size ≡ true)

abbrev pub ItemsFit : List Item → Type 0
ItemsFit [] = Unit {0}
ItemsFit (item ∷ items) = ItemFits item × ItemsFit items

abbrev pub FileFits : HeldFile → Type 0
FileFits file = (is_size file.size ≡ true) × ItemsFit file.unsent

abbrev pub AllHeld : List Entry → HeldFiles → Type 0
AllHeld entries [] = Unit {0}
AllHeld entries (f ∷ files) = (Known entries f.0 × FileFits f.1) × AllHeld entries files

abbrev pub ContextsFit : List (Ino × Context) → Type 0
ContextsFit [] = Unit {0}
ContextsFit (known ∷ contexts) = (is_id known.1.seq ≡ true) × ContextsFit contexts

abbrev pub EditFits : Option Edit → Type 0
EditFits None = Unit {0}
EditFits (Some e) = is_size e.ends ≡ true

abbrev pub UnderFits : Under → Type 0
UnderFits (Open number tid text asked let_go) = EditFits (edit_of text)
UnderFits under = Unit {0}

pub record Holding (entries : List Entry) (held : HeldFiles) (known : List (Ino × Context)) (line : Under) : Type 0 where
  pub files : AllHeld entries held
  pub contexts : ContextsFit known
  pub under : UnderFits line

-- with more entries
held_more : (entries more : List Entry) (files : HeldFiles) → AllHeld entries files → AllHeld (entries ++ more) files
held_more entries more [] all = tt
held_more entries more (f ∷ files) all = ((known_more entries more f.0 all.0.0, all.0.1), held_more entries more files all.1)

pub holding_more : (files : HeldFiles) (contexts : List (Ino × Context)) (under : Under) (entries more : List Entry) → Holding entries files contexts under → Holding (entries ++ more) files contexts under
holding_more files contexts under entries more h = record { files = held_more entries more files h.files; contexts = h.contexts; under = h.under }

-- numbers
size_max : (a b : ℕ) → is_size a ≡ true → is_size b ≡ true → is_size (max a b) ≡ true
size_max a b one other = grind (arith, nat_tests, one, other)

-- changes of a file
items_end : (items : List Item) (item : Item) → ItemsFit items → ItemFits item → ItemsFit (items ++ item ∷ [])
items_end [] item all fits = (fits, tt)
items_end (x ∷ items) item all fits = (all.0, items_end items item all.1 fits)

pub piece_fits : (piece : Piece) (file : HeldFile) → is_size (size_after file.size piece) ≡ true → FileFits file → FileFits (with_piece piece file)
piece_fits piece file size fits = (size, items_end file.unsent (OfPiece piece) fits.1 tt)

sent_fits : (file : HeldFile) → FileFits file → FileFits (item_sent file)
sent_fits file fits = by_items file.unsent fits.1
  where
    by_items : (items : List Item) → ItemsFit items → FileFits (first_sent file items)
    by_items [] all = fits
    by_items (OfPiece piece ∷ items) all = (fits.0, all.1)
    by_items (OfMark mark ∷ items) all = (fits.0, all.1)

pub marked_fits : (old new : Context) (file : HeldFile) → is_id old.seq ≡ true → is_id new.seq ≡ true → FileFits file → FileFits (marked old new file)
marked_fits old new file was is fits = by_test (nat_lt old.seq.0 new.seq.0)
  where
    by_test : (b : Bool) → FileFits (cond b (with_mark (record { follows = old.seq; upto = new.seq; size = file.size }) file) file)
    by_test true = (fits.0, items_end file.unsent (OfMark (record { follows = old.seq; upto = new.seq; size = file.size })) fits.1 (was, is, fits.0))
    by_test false = fits

-- changes of the files
pub held_with : (entries : List Entry) (ino : Ino) (change : HeldFile → HeldFile) → ((file : HeldFile) → FileFits file → FileFits (change file)) → (files : HeldFiles) → AllHeld entries files → AllHeld entries (with_file ino change files)
held_with entries ino change keeps [] all = tt
held_with entries ino change keeps (f ∷ files) all = by_test (is_ino ino f.0) (held_with entries ino change keeps files all.1)
  where
    by_test : (b : Bool) → AllHeld entries (with_file ino change files) → AllHeld entries (cond b ((f.0, change f.1) ∷ files) (f ∷ with_file ino change files))
    by_test true rest = ((all.0.0, keeps f.1 all.0.1), all.1)
    by_test false rest = (all.0, rest)

held_without : (entries : List Entry) (ino : Ino) (files : HeldFiles) → AllHeld entries files → AllHeld entries (without ino files)
held_without entries ino [] all = tt
held_without entries ino (f ∷ files) all = by_test (is_ino ino f.0) (held_without entries ino files all.1)
  where
    by_test : (b : Bool) → AllHeld entries (without ino files) → AllHeld entries (cond b files (f ∷ without ino files))
    by_test true rest = all.1
    by_test false rest = (all.0, rest)

pub held_hold : (entries : List Entry) (ino : Ino) (mode : Mode) (size : ℕ) (settled : SnapId) → Known entries ino → is_size size ≡ true → (files : HeldFiles) → AllHeld entries files → AllHeld entries (hold ino mode size settled files)
held_hold entries ino mode size settled known fits [] all = ((known, (fits, tt)), tt)
held_hold entries ino mode size settled known fits (f ∷ files) all = by_test (is_ino ino f.0) (held_hold entries ino mode size settled known fits files all.1)
  where
    by_test : (b : Bool) → AllHeld entries (hold ino mode size settled files) → AllHeld entries (cond b ((f.0, held_again mode size settled f.1) ∷ files) (f ∷ hold ino mode size settled files))
    by_test true rest = ((all.0.0, (fits, all.0.1.1)), all.1)
    by_test false rest = (all.0, rest)

pub held_settled : (entries : List Entry) (flushes : List FlushMsg) (files : HeldFiles) → AllHeld entries files → AllHeld entries (fold settled_by files flushes)
held_settled entries [] files all = all
held_settled entries (f ∷ flushes) files all = held_settled entries flushes (settled_by files f) (by_test f.release)
  where
    by_test : (b : Bool) → AllHeld entries (cond b files (with_file f.ino (settled_to f.upto) files))
    by_test true = all
    by_test false = held_with entries f.ino (settled_to f.upto) (λ file fits. fits) files all

-- contexts
pub context_fits_in : (contexts : List (Ino × Context)) (ino : Ino) → ContextsFit contexts → is_id (context_in contexts ino).seq ≡ true
context_fits_in [] ino all = refl
context_fits_in (known ∷ contexts) ino all = by_test (is_ino ino known.0) (context_fits_in contexts ino all.1)
  where
    by_test : (b : Bool) → is_id (context_in contexts ino).seq ≡ true → is_id (cond b known.1 (context_in contexts ino)).seq ≡ true
    by_test true rest = all.0
    by_test false rest = rest

pub contexts_without : (ino : Ino) (contexts : List (Ino × Context)) → ContextsFit contexts → ContextsFit (without_context ino contexts)
contexts_without ino [] all = tt
contexts_without ino (known ∷ contexts) all = by_test (is_ino ino known.0) (contexts_without ino contexts all.1)
  where
    by_test : (b : Bool) → ContextsFit (without_context ino contexts) → ContextsFit (cond (not b) (known ∷ without_context ino contexts) (without_context ino contexts))
    by_test true rest = rest
    by_test false rest = (all.0, rest)

contexts_end : (contexts : List (Ino × Context)) (ino : Ino) (context : Context) → is_id context.seq ≡ true → ContextsFit contexts → ContextsFit (contexts ++ (ino, context) ∷ [])
contexts_end [] ino context fits all = (fits, tt)
contexts_end (known ∷ contexts) ino context fits all = (all.0, contexts_end contexts ino context fits all.1)

pub contexts_with : (ino : Ino) (context : Context) (contexts : List (Ino × Context)) → is_id context.seq ≡ true → ContextsFit contexts → ContextsFit (with_context ino context contexts)
contexts_with ino context contexts fits all = contexts_end (without_context ino contexts) ino context fits (contexts_without ino contexts all)

and_true : (a b : Bool) → (a && b) ≡ true → (a ≡ true) × (b ≡ true)
and_true true b is = (refl, is)
and_true false b is = absurd (true≢false (sym is))

-- a trace of realms whose numbers can be gives a context whose number can be
max_id : (a b : ℕ) → nat_lt a NOSNAP.0 ≡ true → nat_lt b NOSNAP.0 ≡ true → nat_lt (max a b) NOSNAP.0 ≡ true
max_id a b = below NOSNAP.0
  where
    below : (top : ℕ) → nat_lt a top ≡ true → nat_lt b top ≡ true → nat_lt (max a b) top ≡ true
    below top one other = grind (arith, nat_tests, one, other)

from_fits : (first : SnapId) (n other : ℕ) → nat_lt n NOSNAP.0 ≡ true → nat_lt other NOSNAP.0 ≡ true → nat_lt (if_from first n other) NOSNAP.0 ≡ true
from_fits first n other one two = by_test (nat_le first.0 n)
  where
    by_test : (b : Bool) → nat_lt (cond b n other) NOSNAP.0 ≡ true
    by_test true = one
    by_test false = two

seq_fits : (trace : List RealmInfo) → list_all realm_fits trace ≡ true → nat_lt (seq_of trace) NOSNAP.0 ≡ true
seq_fits [] all = refl
seq_fits (realm ∷ above) all =
    let parts = and_true (realm_fits realm) (list_all realm_fits above) all in
    max_id realm.seq.0 (if_from realm.since (seq_of above) 0)
    (first realm parts.0)
    (from_fits realm.since (seq_of above) 0 (seq_fits above parts.1) refl)
  where
    first : (r : RealmInfo) → realm_fits r ≡ true → nat_lt r.seq.0 NOSNAP.0 ≡ true
    first r is =
        let a = is_id r.seq in let b = is_id r.since in let d = list_all is_id r.own in
        (and_true a b (and_true (a && b) d (and_true (a && b && d) (list_all is_id r.past) is).0).0).0

pub trace_seq : (file : FileTrace) → trace_fits file ≡ true → is_id (context_by file).seq ≡ true
trace_seq file is = by_trace file.trace (and_true (is_id file.birth) (list_all realm_fits file.trace) is).1
  where
    by_trace : (trace : List RealmInfo) → list_all realm_fits trace ≡ true → is_id (context_by (record file { trace = trace })).seq ≡ true
    by_trace [] all = refl
    by_trace (realm ∷ above) all = from_fits file.birth (seq_of (realm ∷ above)) 1 (seq_fits (realm ∷ above) all) refl

-- the line under way
pub again_fits : (under : Under) → UnderFits under → UnderFits (sent_again under)
again_fits Idle fits = tt
again_fits (Open number tid text asked let_go) fits = fits
again_fits (AtStore number entry ino head) fits = tt

pub let_go_fits : (ino : Ino) (under : Under) → UnderFits under → UnderFits (with_let_go ino under)
let_go_fits ino Idle fits = tt
let_go_fits ino (Open number tid text asked let_go) fits = fits
let_go_fits ino (AtStore number entry file head) fits = tt

-- the piece that a line makes ends where the line says
abbrev pub MakesPiece : Edit → Type 0
MakesPiece e = (context : Context) (size : ℕ) → is_size size ≡ true → is_size e.ends ≡ true → is_size (size_after size (e.piece context)) ≡ true

pub makes_piece : (text : Line) → IfSome (edit_of text) MakesPiece
makes_piece (line.Write handle offset bytes) = λ context size fits ends. size_max size (offset + length bytes) fits ends
makes_piece (line.Truncate handle size) = λ context old fits ends. ends
makes_piece text = tt

-- what is due
abbrev pub DueFits : List Entry → Due → Type 0
DueFits entries (due.Piece ino) = Unit {0}
DueFits entries (due.Mark ino follows upto size) = Known entries ino × (is_id follows ≡ true) × (is_id upto ≡ true) × (is_size size ≡ true)
DueFits entries (due.Release ino size) = Known entries ino × (is_size size ≡ true)
DueFits entries (due.DropRead ino) = Unit {0}

pub due_fits : (entries : List Entry) (reading : Option Ino) (files : HeldFiles) → AllHeld entries files → IfSome (first_due reading files) (DueFits entries)
due_fits entries reading [] all = tt
due_fits entries reading (f ∷ files) all = both (due_in reading f) (first_due reading files) (one f.1.unsent all.0.1.1) (due_fits entries reading files all.1)
  where
    both : (a b : Option Due) → IfSome a (DueFits entries) → IfSome b (DueFits entries) → IfSome (or_else a b) (DueFits entries)
    both None b one other = other
    both (Some item) b one other = one

    back : (mode : Mode) → DueFits entries (given_back f.0 f.1.size mode)
    back Write = (all.0.0, all.0.1.0)
    back Read = tt

    if_due : (b : Bool) (item : Due) → DueFits entries item → IfSome (cond b (Some item) None) (DueFits entries)
    if_due true item fits = fits
    if_due false item fits = tt

    one : (items : List Item) → ItemsFit items → IfSome (due_of reading f.0 f.1 items) (DueFits entries)
    one [] fits = if_due (f.1.recalled && is_empty f.1.unacked && not (is_read reading f.0)) (given_back f.0 f.1.size f.1.mode) (back f.1.mode)
    one (OfPiece piece ∷ items) fits = tt
    one (OfMark mark ∷ items) fits = if_due (is_empty f.1.unacked) (due.Mark f.0 mark.follows mark.upto mark.size) (all.0.0, fits.0.0, fits.0.1, fits.0.2)

pub held_sent : (entries : List Entry) (item : Due) (files : HeldFiles) → AllHeld entries files → AllHeld entries (sent item files)
held_sent entries (due.Piece ino) files all = held_with entries ino item_sent sent_fits files all
held_sent entries (due.Mark ino follows upto size) files all = held_with entries ino item_sent sent_fits files all
held_sent entries (due.Release ino size) files all = held_without entries ino files all
held_sent entries (due.DropRead ino) files all = held_without entries ino files all
