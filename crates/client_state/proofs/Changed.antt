-- What files, contexts and flushes make of a client's state c, which the fields v are seen as.
use Rattle.std.proofs.Common.{◌≡◌, ℕ, Bool, true, false, List, [], ◌∷◌, if◌then◌else◌, nat_lt, sym, ap, ◌∙◌}
use Rattle.snap_ids.specs.declared.id.Ino.{Ino}
use Rattle.snap_ids.specs.declared.id.SnapId.{SnapId}
use Rattle.snap_ids.specs.declared.values.Mode.{Mode}
use Rattle.snap_ids.specs.declared.values.Mode.TheVariants.{Write}
use Rattle.snap_ids.specs.Context.{Context}
use Rattle.plain_types.specs.declared.message.FileTrace.{FileTrace}
use Rattle.plain_types.specs.declared.message.ToClient.{ToClient}
use Rattle.plain_types.specs.declared.message.Stamp.{Stamp}
use Rattle.plain_tree.specs.History.{stamp_of}
use Rattle.held_files.specs.declared.due.Due.{Due}
use Rattle.held_files.specs.Files.{HeldFile, HeldFiles, is_writer, is_write, with_file, with_mark, hold}
use Rattle.held_files.specs.Due.{sent}
use Rattle.step_table.specs.Messages.{context_by}
use Rattle.step_table.specs.ClientState.{Client, Under, Idle, on_file, size_of, context_in, with_context, without_context}
use Rattle.step_table.specs.ClientLines.{lets_go, with_let_go}
use Rattle.step_table.specs.ClientTakes.{marked, renewed, updated, granted, is_own, having_heard}
use Rattle.client_state.proofs.Marks.{written, mark_kept, no_mark}

-- one held file was changed
pub file_changed : (v c : Client) → v ≡ c → (ino : Ino) (change : HeldFile → HeldFile) (files : HeldFiles) → files ≡ with_file ino change v.files
    → record v { files = files } ≡ on_file c ino change
file_changed v c is ino change files e = (λ i. record v { files = e i }) ∙ ap (λ (s : Client). on_file s ino change) is

pub counted : (v c : Client) → v ≡ c → (due : Due) (files : HeldFiles) → files ≡ sent due v.files
    → record v { files = files } ≡ record c { files = sent due c.files }
counted v c is due files e = (λ i. record v { files = e i }) ∙ ap (λ (s : Client). record s { files = sent due s.files }) is

-- a mark was kept of a file whose context grows, and of another none
pub kept_mark : (v c : Client) → v ≡ c → (ino : Ino) (context : Context) (old new : SnapId) (size : ℕ) (files : HeldFiles)
    → old ≡ (context_in c.contexts ino).seq → new ≡ context.seq → size ≡ size_of c ino → nat_lt old.0 new.0 ≡ true
    → files ≡ with_file ino (with_mark (record { follows = old; upto = new; size = size })) v.files
    → record v { files = files } ≡ on_file c ino (marked (context_in c.contexts ino) context)
kept_mark v c is ino context old new size files o n s grows e =
    let before = context_in c.contexts ino in
    file_changed v c is ino (with_mark (record { follows = old; upto = new; size = size })) files e
    ∙ (λ i. on_file c ino (with_mark (record { follows = o i; upto = n i; size = size })))
    ∙ ap (λ (f : HeldFiles). record c { files = f }) (mark_kept ino before context c.files size s ((λ i. nat_lt (sym o i).0 (sym n i).0) ∙ grows))

pub kept_none : (c : Client) (ino : Ino) (context : Context) (old new : SnapId) → old ≡ (context_in c.contexts ino).seq → new ≡ context.seq
    → nat_lt old.0 new.0 ≡ false → c ≡ on_file c ino (marked (context_in c.contexts ino) context)
kept_none c ino context old new o n same =
    ap (λ (f : HeldFiles). record c { files = f })
    (no_mark ino (context_in c.contexts ino) context c.files ((λ i. nat_lt (sym o i).0 (sym n i).0) ∙ same))

-- a mark was kept, and the new context taken
pub context_taken : (v mid c : Client) → v ≡ mid → (ino : Ino) (context : Context) (contexts : List (Ino × Context))
    → mid ≡ on_file c ino (marked (context_in c.contexts ino) context) → contexts ≡ with_context ino context v.contexts
    → record v { contexts = contexts } ≡ renewed c ino context
context_taken v mid c is ino context contexts m e =
    (λ i. record v { contexts = e i }) ∙ ap (λ (s : Client). record s { contexts = with_context ino context s.contexts }) (is ∙ m)

pub passed_over : (c : Client) (file : FileTrace) (writes : Bool) → writes ≡ is_writer file.ino c.files → writes ≡ false → c ≡ updated c (file ∷ [])
passed_over c file writes e not_so = ap (λ b. if b then renewed c file.ino (context_by file) else c) (sym not_so ∙ e)

pub taken : (c new : Client) (file : FileTrace) (context : Context) (writes : Bool) → writes ≡ is_writer file.ino c.files → writes ≡ true
    → context ≡ context_by file → new ≡ renewed c file.ino context → new ≡ updated c (file ∷ [])
taken c new file context writes e so is h =
    h ∙ ap (renewed c file.ino) is ∙ ap (λ b. if b then renewed c file.ino (context_by file) else c) (sym so ∙ e)

-- a file was granted
pub is_granted : (v c : Client) → v ≡ c → (ino : Ino) (mode : Mode) (size : ℕ) (settled : SnapId) (file : FileTrace) (files : HeldFiles)
    (contexts : List (Ino × Context)) → files ≡ hold ino mode size settled v.files
    → contexts ≡ (if is_write mode then with_context ino (context_by file) v.contexts else v.contexts)
    → record v { under = Idle; files = files; contexts = contexts } ≡ granted c ino mode size settled file
is_granted v c is ino mode size settled file files contexts f k =
    (λ i. record v { under = Idle; files = f i; contexts = k i }) ∙ ap (λ (s : Client). granted s ino mode size settled file) is

pub now_written : (ino : Ino) (mode : Mode) (size : ℕ) (settled : SnapId) (old files : HeldFiles) → files ≡ hold ino mode size settled old → mode ≡ Write
    → is_writer ino files ≡ true
now_written ino mode size settled old files f w = ap (is_writer ino) f ∙ written ino mode size settled old w

-- a file was let go
pub is_let_go : (v c : Client) → v ≡ c → (ino : Ino) (under : Under) (contexts : List (Ino × Context)) → under ≡ with_let_go ino v.under
    → contexts ≡ without_context ino v.contexts → record v { under = under; contexts = contexts } ≡ lets_go c ino
is_let_go v c is ino under contexts u k = (λ i. record v { under = u i; contexts = k i }) ∙ ap (λ (s : Client). lets_go s ino) is

-- a message was heard
pub is_heard : (v c : Client) → v ≡ c → (said : ToClient) (stamp : Stamp) (own : Bool) (mine : ℕ) → stamp ≡ stamp_of said → own ≡ is_own c said
    → mine ≡ (if own then stamp.entry else v.heard.own)
    → record v { heard = record { any = stamp.entry; own = mine } } ≡ having_heard c said
is_heard v c is said stamp own mine e o m =
    (λ i. record v { heard = record { any = stamp.entry; own = m i } })
    ∙ (λ i. record (is i) { heard = record { any = (e i).entry; own = if o i then (e i).entry else (is i).heard.own } })
