-- What a client keeps names no id above a last one, after each change of it.
use Rattle.std.proofs.Common.{◌≡◌, ◌≤◌, ℕ, List, [], ◌∷◌, fold, Bool, true, false, not, cond, Option, None, Some, refl, IfSome, arith}
use Rattle.std.specs.Prelude.{◌&&◌, nat_lt}
use Rattle.std.specs.List.{AllByRecursion}
use Rattle.snap_ids.specs.declared.id.Ino.{Ino}
use Rattle.snap_ids.specs.declared.id.SnapId.{SnapId}
use Rattle.snap_ids.specs.declared.values.Mode.{Mode}
use Rattle.snap_ids.specs.declared.values.Mode.TheVariants.{Read, Write}
use Rattle.snap_ids.specs.Context.{Context}
use Rattle.plain_types.specs.declared.message.FileTrace.{FileTrace}
use Rattle.plain_types.specs.declared.message.FlushMsg.{FlushMsg}
use Rattle.plain_types.specs.declared.message.ToClient.{ToClient}
use Rattle.plain_types.specs.declared.message.ToClient.TheVariants.{Grant, Notice, Welcome}
use Rattle.plain_types.specs.declared.message.ToServer.{ToServer}
use Rattle.plain_types.specs.declared.message.ToServer.TheVariants.{Connect, Flush}
use Rattle.plain_types.specs.declared.message.Claim.{Claim}
use Rattle.held_files.specs.declared.due.Due.{Due}
use Rattle.held_files.specs.declared.due.Due.TheVariants as due
use Rattle.held_files.specs.declared.piece.Piece.{Piece}
use Rattle.held_files.specs.Due.{is_read, given_back, due_of, due as due_in, or_else, first_due, sent}
use Rattle.held_files.specs.Files.{Item, OfPiece, OfMark, HeldFile, HeldFiles, is_ino, is_empty, with_file, without, held_again, hold, with_piece, with_mark, settled_to, first_sent, item_sent, claims}
use Rattle.step_table.specs.ClientState.{Client, context_in, without_context, with_context}
use Rattle.step_table.specs.ClientTakes.{marked, settled_by}
use Rattle.id_laws.specs.Upto.{ContextUpto, TraceUpto, ToldUpto, FlushUpto, ClaimUpto, SaidUpto, ItemUpto, FileUpto, Every, KeepsUpto}
use Rattle.id_laws.proofs.Lists.{all_append, all_weaker, all_filter}

-- below a greater last id
pub joined : (a b c : ℕ) → a ≤ b → b ≤ c → a ≤ c
joined a b c one two = omega (arith, one, two)

pub context_weaker : (low high : ℕ) → low ≤ high → (c : Context) → ContextUpto low c → ContextUpto high c
context_weaker low high less c is = (joined c.seq.0 low high is.0 less, all_weaker _ _ (λ (id : SnapId) one. joined id.0 low high one less) c.ids is.1)

trace_weaker : (low high : ℕ) → low ≤ high → (file : FileTrace) → TraceUpto low file → TraceUpto high file
trace_weaker low high less file is = context_weaker low high less _ is

pub told_weaker : (low high : ℕ) → low ≤ high → (m : ToClient) → ToldUpto low m → ToldUpto high m
told_weaker low high less (Grant conn tid stamp ino mode size file) is = trace_weaker low high less file is
told_weaker low high less (Notice conn stamp update) is = all_weaker _ _ (trace_weaker low high less) update is
told_weaker low high less (Welcome conn stamp flushed update) is = all_weaker _ _ (trace_weaker low high less) update is
told_weaker low high less m is = tt

pub flush_weaker : (low high : ℕ) → low ≤ high → (f : FlushMsg) → FlushUpto low f → FlushUpto high f
flush_weaker low high less f is = (joined f.follows.0 low high is.0 less, λ no. joined f.upto.0 low high (is.1 no) less)

claim_weaker : (low high : ℕ) → low ≤ high → (k : Claim) → ClaimUpto low k → ClaimUpto high k
claim_weaker low high less k is = joined k.settled.0 low high is less

pub said_weaker : (low high : ℕ) → low ≤ high → (m : ToServer) → SaidUpto low m → SaidUpto high m
said_weaker low high less (Connect conn said flushes asked) is = (all_weaker _ _ (claim_weaker low high less) said is.0, all_weaker _ _ (flush_weaker low high less) flushes is.1)
said_weaker low high less (Flush conn f) is = flush_weaker low high less f is
said_weaker low high less m is = tt

item_weaker : (low high : ℕ) → low ≤ high → (item : Item) → ItemUpto low item → ItemUpto high item
item_weaker low high less (OfPiece piece) is = tt
item_weaker low high less (OfMark mark) is = (joined mark.follows.0 low high is.0 less, joined mark.upto.0 low high is.1 less)

file_weaker : (low high : ℕ) → low ≤ high → (file : HeldFile) → FileUpto low file → FileUpto high file
file_weaker low high less file is = (joined file.settled.0 low high is.0 less, all_weaker _ _ (item_weaker low high less) file.unsent is.1)

pub every_weaker : {K A : Type 0} (P Q : A → Type 0) → ((x : A) → P x → Q x) → (pairs : List (K × A)) → Every P pairs → Every Q pairs
every_weaker {K} {A} P Q go pairs all = all_weaker (λ (x : K × A). P x.1) (λ (x : K × A). Q x.1) (λ x is. go x.1 is) pairs all

pub keeps_weaker : (low high : ℕ) → low ≤ high → (c : Client) → KeepsUpto low c → KeepsUpto high c
keeps_weaker low high less c k = record {
  contexts = every_weaker (ContextUpto low) (ContextUpto high) (context_weaker low high less) c.contexts k.contexts;
  files = every_weaker (FileUpto low) (FileUpto high) (file_weaker low high less) c.files k.files;
  flushes = all_weaker _ _ (flush_weaker low high less) c.unacked k.flushes;
}

-- one file
pub piece_upto : (last : ℕ) (p : Piece) (file : HeldFile) → FileUpto last file → FileUpto last (with_piece p file)
piece_upto last p file is = (is.0, all_append (ItemUpto last) file.unsent (OfPiece p ∷ []) is.1 (tt, tt))

pub marked_upto : (last : ℕ) (old new : Context) → old.seq.0 ≤ last → new.seq.0 ≤ last → (file : HeldFile) → FileUpto last file → FileUpto last (marked old new file)
marked_upto last old new was now file is = by_test (nat_lt old.seq.0 new.seq.0)
  where
    by_test : (b : Bool) → FileUpto last (cond b (with_mark (record { follows = old.seq; upto = new.seq; size = file.size }) file) file)
    by_test true = (is.0, all_append (ItemUpto last) file.unsent (OfMark (record { follows = old.seq; upto = new.seq; size = file.size }) ∷ []) is.1 ((was, now), tt))
    by_test false = is

sent_upto : (last : ℕ) (file : HeldFile) → FileUpto last file → FileUpto last (item_sent file)
sent_upto last file is = by_items file.unsent is.1
  where
    by_items : (items : List Item) → AllByRecursion (ItemUpto last) items → FileUpto last (first_sent file items)
    by_items [] all = is
    by_items (OfPiece piece ∷ items) all = (is.0, all.1)
    by_items (OfMark mark ∷ items) all = (is.0, all.1)

settled_upto : (last : ℕ) (upto : SnapId) → upto.0 ≤ last → (file : HeldFile) → FileUpto last file → FileUpto last (settled_to upto file)
settled_upto last upto less file is = (let one = is.0 in omega (arith, less, one), is.1)

-- the files
pub files_with : (last : ℕ) (ino : Ino) (change : HeldFile → HeldFile) → ((file : HeldFile) → FileUpto last file → FileUpto last (change file)) → (files : HeldFiles) → Every (FileUpto last) files → Every (FileUpto last) (with_file ino change files)
files_with last ino change keeps [] all = tt
files_with last ino change keeps (f ∷ files) all = by_test (is_ino ino f.0) (files_with last ino change keeps files all.1)
  where
    by_test : (b : Bool) → Every (FileUpto last) (with_file ino change files) → Every (FileUpto last) (cond b ((f.0, change f.1) ∷ files) (f ∷ with_file ino change files))
    by_test true rest = (keeps f.1 all.0, all.1)
    by_test false rest = (all.0, rest)

files_without : (last : ℕ) (ino : Ino) (files : HeldFiles) → Every (FileUpto last) files → Every (FileUpto last) (without ino files)
files_without last ino [] all = tt
files_without last ino (f ∷ files) all = by_test (is_ino ino f.0) (files_without last ino files all.1)
  where
    by_test : (b : Bool) → Every (FileUpto last) (without ino files) → Every (FileUpto last) (cond b files (f ∷ without ino files))
    by_test true rest = all.1
    by_test false rest = (all.0, rest)

pub files_hold : (last : ℕ) (ino : Ino) (mode : Mode) (size : ℕ) (settled : SnapId) → settled.0 ≤ last → (files : HeldFiles) → Every (FileUpto last) files → Every (FileUpto last) (hold ino mode size settled files)
files_hold last ino mode size settled less [] all = ((less, tt), tt)
files_hold last ino mode size settled less (f ∷ files) all = by_test (is_ino ino f.0) (files_hold last ino mode size settled less files all.1)
  where
    by_test : (b : Bool) → Every (FileUpto last) (hold ino mode size settled files) → Every (FileUpto last) (cond b ((f.0, held_again mode size settled f.1) ∷ files) (f ∷ hold ino mode size settled files))
    by_test true rest = ((less, all.0.1), all.1)
    by_test false rest = (all.0, rest)

pub files_settled : (last : ℕ) (flushes : List FlushMsg) (files : HeldFiles) → AllByRecursion (FlushUpto last) flushes → Every (FileUpto last) files → Every (FileUpto last) (fold settled_by files flushes)
files_settled last [] files upto all = all
files_settled last (f ∷ flushes) files upto all = files_settled last flushes (settled_by files f) upto.1 (by_test f.release refl)
  where
    by_test : (b : Bool) → f.release ≡ b → Every (FileUpto last) (cond b files (with_file f.ino (settled_to f.upto) files))
    by_test true is = all
    by_test false is = files_with last f.ino (settled_to f.upto) (settled_upto last f.upto (upto.0.1 is)) files all

pub claims_upto : (last : ℕ) (files : HeldFiles) → Every (FileUpto last) files → AllByRecursion (ClaimUpto last) (claims files)
claims_upto last [] all = tt
claims_upto last (f ∷ files) all = (all.0.0, claims_upto last files all.1)

-- the contexts
pub context_in_upto : (last : ℕ) → 1 ≤ last → (contexts : List (Ino × Context)) (ino : Ino) → Every (ContextUpto last) contexts → (context_in contexts ino).seq.0 ≤ last
context_in_upto last low [] ino all = low
context_in_upto last low (known ∷ contexts) ino all = by_test (is_ino ino known.0) (context_in_upto last low contexts ino all.1)
  where
    by_test : (b : Bool) → (context_in contexts ino).seq.0 ≤ last → (cond b known.1 (context_in contexts ino)).seq.0 ≤ last
    by_test true rest = all.0.0
    by_test false rest = rest

pub contexts_without : (last : ℕ) (ino : Ino) (contexts : List (Ino × Context)) → Every (ContextUpto last) contexts → Every (ContextUpto last) (without_context ino contexts)
contexts_without last ino contexts all = all_filter (λ (known : Ino × Context). ContextUpto last known.1) (λ (known : Ino × Context). not (is_ino ino known.0)) contexts all

pub contexts_with : (last : ℕ) (ino : Ino) (new : Context) → ContextUpto last new → (contexts : List (Ino × Context)) → Every (ContextUpto last) contexts → Every (ContextUpto last) (with_context ino new contexts)
contexts_with last ino new is contexts all = all_append (λ (known : Ino × Context). ContextUpto last known.1) (without_context ino contexts) ((ino, new) ∷ []) (contexts_without last ino contexts all) (is, tt)

-- what is due
abbrev pub DueUpto : ℕ → Due → Type 0
DueUpto last (due.Mark ino follows upto size) = (follows.0 ≤ last) × (upto.0 ≤ last)
DueUpto last item = Unit {0}

pub due_upto : (last : ℕ) (reading : Option Ino) (files : HeldFiles) → Every (FileUpto last) files → IfSome (first_due reading files) (DueUpto last)
due_upto last reading [] all = tt
due_upto last reading (f ∷ files) all = both (due_in reading f) (first_due reading files) (one f.1.unsent all.0.1) (due_upto last reading files all.1)
  where
    both : (a b : Option Due) → IfSome a (DueUpto last) → IfSome b (DueUpto last) → IfSome (or_else a b) (DueUpto last)
    both None b one other = other
    both (Some item) b one other = one

    back : (mode : Mode) → DueUpto last (given_back f.0 f.1.size mode)
    back Write = tt
    back Read = tt

    if_due : (b : Bool) (item : Due) → DueUpto last item → IfSome (cond b (Some item) None) (DueUpto last)
    if_due true item fits = fits
    if_due false item fits = tt

    one : (items : List Item) → AllByRecursion (ItemUpto last) items → IfSome (due_of reading f.0 f.1 items) (DueUpto last)
    one [] fits = if_due (f.1.recalled && is_empty f.1.unacked && not (is_read reading f.0)) (given_back f.0 f.1.size f.1.mode) (back f.1.mode)
    one (OfPiece piece ∷ items) fits = tt
    one (OfMark mark ∷ items) fits = if_due (is_empty f.1.unacked) (due.Mark f.0 mark.follows mark.upto mark.size) fits.0

pub files_sent : (last : ℕ) (item : Due) (files : HeldFiles) → Every (FileUpto last) files → Every (FileUpto last) (sent item files)
files_sent last (due.Piece ino) files all = files_with last ino item_sent (sent_upto last) files all
files_sent last (due.Mark ino follows upto size) files all = files_with last ino item_sent (sent_upto last) files all
files_sent last (due.Release ino size) files all = files_without last ino files all
files_sent last (due.DropRead ino) files all = files_without last ino files all
