-- A client keeps nothing back of a file that it holds for Read, along each run.
use Rattle.std.proofs.Common.{◌≡◌, ℕ, ◌+◌, List, [], ◌∷◌, drop, filter, fold, Bool, true, false, true≢false, not, cond, Option, None, Some, refl, sym, ap, ◌∙◌, subst, IfSome, arith}
use Rattle.std.proofs.lemmas.Bool.Decides.{nat_tests}
use Rattle.std.specs.Prelude.{◌==◌, ◌&&◌, ◌||◌, nat_lt, nat_le, Result, Ok, Err}
use Rattle.std.specs.List.{list_any}
use Rattle.snap_ids.specs.Context.{Context}
use Rattle.snap_ids.specs.declared.id.Ino.{Ino}
use Rattle.snap_ids.specs.declared.id.SnapId.{SnapId}
use Rattle.snap_ids.specs.declared.values.Mode.{Mode}
use Rattle.snap_ids.specs.declared.values.Mode.TheVariants.{Read, Write}
use Rattle.plain_types.specs.declared.answer.Answer.{Answer}
use Rattle.plain_types.specs.declared.answer.Answer.TheVariants as answer
use Rattle.plain_types.specs.declared.answer.Refusal.{Refusal}
use Rattle.plain_types.specs.declared.change.Change.{Change}
use Rattle.plain_types.specs.declared.history.Event.{Event}
use Rattle.plain_types.specs.declared.message.FileTrace.{FileTrace}
use Rattle.plain_types.specs.declared.message.FlushMsg.{FlushMsg}
use Rattle.plain_types.specs.declared.message.FromStore.{FromStore}
use Rattle.plain_types.specs.declared.message.FromStore.TheVariants.{Got, NotThere, CloneListIs, Stored}
use Rattle.plain_types.specs.declared.message.Stamp.{Stamp}
use Rattle.plain_types.specs.declared.message.ToClient.{ToClient}
use Rattle.plain_types.specs.declared.message.ToClient.TheVariants.{Reply, Grant, Recall, Notice, FlushAck, Welcome, Restarted}
use Rattle.plain_types.specs.declared.request.Request.{Request}
use Rattle.plain_types.specs.declared.request.Request.TheVariants as request
use Rattle.plain_types.specs.declared.script.Line.{Line}
use Rattle.plain_types.specs.declared.script.Line.TheVariants as line
use Rattle.plain_types.specs.declared.script.Script.{Script}
use Rattle.plain_tree.specs.State.{Handle}
use Rattle.plain_tree.specs.Line.{request_of, data_change}
use Rattle.held_files.specs.declared.due.Due.{Due}
use Rattle.held_files.specs.declared.due.Due.TheVariants as due
use Rattle.held_files.specs.declared.piece.Piece.{Piece}
use Rattle.held_files.specs.Due.{first_due, sent, due_of, given_back, is_read, or_else}
use Rattle.held_files.specs.Files.{HeldFile, HeldFiles, Item, OfPiece, OfMark, file_of, with_file, without, hold, held_newly, held_again, with_piece, with_mark, recalled, stored, settled_to, first_sent, item_sent, is_ino, is_held, is_write, may_write, is_writer, is_empty}
use Rattle.step_table.specs.Messages.{to_client_fits, from_store_fits, context_by}
use Rattle.step_table.specs.Row.{Row}
use Rattle.step_table.specs.ClientState.{Client, Under, Idle, Open, AtStore, Edit, edit_of, stays, asks, edits, reads_head, replies, size_of, context_in}
use Rattle.step_table.specs.ClientLines.{edit_file, edit_line, read_line, opened, begin_asked, begin_other, begin_with, begin, may_begin, op_of, on_flush, send_item, send_due, sends_due, unsent_in, file_due, reading, mark_flush, release_flush}
use Rattle.step_table.specs.ClientTakes.{marked, renewed, updated, settled_by, acked, goes_on, granted, asks_for, take_grant, with_found, found, asks_anew, wants_bytes, take_answer, takes_answer, take_reply, take_own, having_heard, may_take, on_told, key_of, is_key, store_answer, take_read, take_stored, on_stored}
use Rattle.step_table.specs.World.{start, to_server as for_server}
use Rattle.plain_types.specs.declared.message.ToServer.TheVariants.{Flush, DropRead}
use Rattle.run_laws.proofs.Files.{file_same, not_held}
use Rattle.run_laws.specs.Links.{View, EachClient}
use Rattle.run_laws.specs.Moments.{steps_of, world_after}
use Rattle.run_laws.specs.OpenLines.{BelongsTo, BelongsUnder, ReadsFile, OfItsLine}
use Rattle.run_laws.specs.Tenures.{ReaderIsClean, AllClean, ReadersKeepNothing, Distinct}
use Rattle.run_laws.proofs.Belonging.{of_its_line}
use Rattle.run_laws.proofs.Linked.{at_start, each_part}
use Rattle.run_laws.proofs.Shares.{both_true, rank, rank_in, has}
use Rattle.run_laws.proofs.Views.{run_keeps, KeptByRows}
use Rattle.run_laws.proofs.ViewActs.{AnyOf, KeptViews, all_fit, both, given, rows_of_acts}

-- changes of the files
clean_with : (ino : Ino) (change : HeldFile → HeldFile) → ((file : HeldFile) → ReaderIsClean file → ReaderIsClean (change file)) → (files : HeldFiles) → AllClean files → AllClean (with_file ino change files)
clean_with ino change keeps [] all = tt
clean_with ino change keeps (f ∷ files) all = by_test (is_ino ino f.0) (clean_with ino change keeps files all.1)
  where
    by_test : (b : Bool) → AllClean (with_file ino change files) → AllClean (cond b ((f.0, change f.1) ∷ files) (f ∷ with_file ino change files))
    by_test true rest = (keeps f.1 all.0, all.1)
    by_test false rest = (all.0, rest)

-- a file that is written goes on being written
writes_on : (mode : Mode) (clean : Type 0) → is_write mode ≡ true → is_write mode ≡ false → clean
writes_on mode clean is isnt = absurd (true≢false (sym is ∙ isnt))

clean_writer : (ino : Ino) (change : HeldFile → HeldFile) → ((file : HeldFile) → (change file).mode ≡ file.mode) → (files : HeldFiles) → is_writer ino files ≡ true → AllClean files → AllClean (with_file ino change files)
clean_writer ino change same [] writes all = tt
clean_writer ino change same (f ∷ files) writes all = by_test (is_ino ino f.0) writes (clean_writer ino change same files)
  where
    by_test : (b : Bool) → may_write (cond b (Some f.1) (file_of ino files)) ≡ true → (is_writer ino files ≡ true → AllClean files → AllClean (with_file ino change files)) → AllClean (cond b ((f.0, change f.1) ∷ files) (f ∷ with_file ino change files))
    by_test true writes go = ((λ isnt. absurd (true≢false (sym writes ∙ (sym (ap is_write (same f.1)) ∙ isnt)))), all.1)
    by_test false writes go = (all.0, go writes all.1)

clean_without : (ino : Ino) (files : HeldFiles) → AllClean files → AllClean (without ino files)
clean_without ino [] all = tt
clean_without ino (f ∷ files) all = by_test (is_ino ino f.0) (clean_without ino files all.1)
  where
    by_test : (b : Bool) → AllClean (without ino files) → AllClean (cond b files (f ∷ without ino files))
    by_test true rest = all.1
    by_test false rest = (all.0, rest)

not_writer : (mode : Mode) → is_write mode ≡ false → is_write mode ≡ false
not_writer mode isnt = isnt

clean_hold : (ino : Ino) (mode : Mode) (size : ℕ) (settled : SnapId) (files : HeldFiles) → is_writer ino files ≡ false → AllClean files → AllClean (hold ino mode size settled files)
clean_hold ino mode size settled [] isnt all = ((λ reads. (refl, refl)), tt)
clean_hold ino mode size settled (f ∷ files) isnt all = by_test (is_ino ino f.0) isnt (clean_hold ino mode size settled files)
  where
    by_test : (b : Bool) → may_write (cond b (Some f.1) (file_of ino files)) ≡ false → (is_writer ino files ≡ false → AllClean files → AllClean (hold ino mode size settled files)) → AllClean (cond b ((f.0, held_again mode size settled f.1) ∷ files) (f ∷ hold ino mode size settled files))
    by_test true isnt go = ((λ reads. all.0 isnt), all.1)
    by_test false isnt go = (all.0, go isnt all.1)

hold_writer : (ino : Ino) (size : ℕ) (settled : SnapId) (files : HeldFiles) → is_writer ino (hold ino Write size settled files) ≡ true
hold_writer ino size settled [] = itself (is_ino ino ino) (grind (arith, nat_tests))
  where
    itself : (b : Bool) → b ≡ true → may_write (cond b (Some (held_newly Write size settled)) None) ≡ true
    itself true is = refl
    itself false is = absurd (true≢false (sym is))
hold_writer ino size settled (f ∷ files) = by_test (is_ino ino f.0) refl (hold_writer ino size settled files)
  where
    by_test : (b : Bool) → is_ino ino f.0 ≡ b → is_writer ino (hold ino Write size settled files) ≡ true → is_writer ino (cond b ((f.0, held_again Write size settled f.1) ∷ files) (f ∷ hold ino Write size settled files)) ≡ true
    by_test true is rest = rw is refl
    by_test false is rest = rw is rest

-- what is sent
clean_sent : (file : HeldFile) → ReaderIsClean file → ReaderIsClean (item_sent file)
clean_sent file clean = by_items file.unsent refl
  where
    some_none : (item : Item) (items : List Item) → item ∷ items ≡ [] → ⊥
    some_none item items is = cc

    by_items : (items : List Item) → file.unsent ≡ items → ReaderIsClean (first_sent file items)
    by_items [] is = clean
    by_items (OfPiece piece ∷ items) is = λ reads. absurd (some_none (OfPiece piece) items (sym is ∙ (clean reads).1))
    by_items (OfMark mark ∷ items) is = λ reads. absurd (some_none (OfMark mark) items (sym is ∙ (clean reads).1))

clean_settled : (flushes : List FlushMsg) (files : HeldFiles) → AllClean files → AllClean (fold settled_by files flushes)
clean_settled [] files all = all
clean_settled (f ∷ flushes) files all = clean_settled flushes (settled_by files f) (by_test f.release)
  where
    by_test : (b : Bool) → AllClean (cond b files (with_file f.ino (settled_to f.upto) files))
    by_test true = all
    by_test false = clean_with f.ino (settled_to f.upto) (λ file clean. clean) files all

-- a client's rows
abbrev Clean : Client → Type 0
Clean c = AllClean c.files

clean_if : (b : Bool) (x y : Row Client) → (b ≡ true → Clean x.state) → (b ≡ false → Clean y.state) → Clean (cond b x y).state
clean_if true x y here other = here refl
clean_if false x y here other = other refl

edits_clean : (c : Client) (number : ℕ) (ino : Ino) (e : Edit) → is_writer ino c.files ≡ true → Clean c → Clean (edits c number ino e).state
edits_clean c number ino e writes all = clean_writer ino (with_piece (e.piece (context_in c.contexts ino))) (λ file. refl) c.files writes all

edit_clean : (c : Client) (number : ℕ) (text : Line) (e : Edit) (ino : Ino) (o : Result Change Refusal) → Clean c → Clean (edit_file c number text e ino o).state
edit_clean c number text e ino (Err refusal) all = all
edit_clean c number text e ino (Ok made) all = clean_if (is_writer ino c.files) (edits c number ino e) (asks c number text (request.Cap ino Write)) (λ writes. edits_clean c number ino e writes all) (λ isnt. all)

edit_line_clean : (c : Client) (number : ℕ) (text : Line) (e : Edit) (o : Option Handle) → Clean c → Clean (edit_line c number text e o).state
edit_line_clean c number text e None all = all
edit_line_clean c number text e (Some h) all = edit_clean c number text e h.ino (data_change (Some h) e.ends e.change) all

read_clean : (c : Client) (number : ℕ) (text : Line) (o : Option Handle) → Clean c → Clean (read_line c number text o).state
read_clean c number text None all = all
read_clean c number text (Some h) all = clean_if (is_held h.ino c.files) (reads_head c number 0 h.ino) (asks c number text (request.Cap h.ino Read)) (λ is. all) (λ isnt. all)

asked_clean : (c : Client) (number : ℕ) (text : Line) (o : Option Request) → Clean c → Clean (begin_asked c number text o).state
asked_clean c number text None all = all
asked_clean c number text (Some asked) all = all

other_clean : (c : Client) (number : ℕ) (text : Line) → Clean c → Clean (begin_other c number text).state
other_clean c number (line.Read handle) all = read_clean c number (line.Read handle) (opened c handle) all
other_clean c number line.Barrier all = all
other_clean c number line.Break all = all
other_clean c number text all = asked_clean c number text (request_of text) all

with_clean : (c : Client) (number : ℕ) (text : Line) (o : Option Edit) → Clean c → Clean (begin_with c number text o).state
with_clean c number text (Some e) all = edit_line_clean c number text e (opened c e.handle) all
with_clean c number text None all = other_clean c number text all

op_clean : (c : Client) (lines : List Line) → Clean c → IfSome (op_of c lines) (λ r. Clean r.state)
op_clean c [] all = tt
op_clean c (text ∷ rest) all = by_test (not c.frozen && may_begin c.under text)
  where
    by_test : (b : Bool) → IfSome (cond b (Some (begin (record c { lines = rest; begun = c.begun + 1 }) (c.begun + 1) text)) None) (λ r. Clean r.state)
    by_test true = with_clean (record c { lines = rest; begun = c.begun + 1 }) (c.begun + 1) text (edit_of text) all
    by_test false = tt

item_clean : (c : Client) (ino : Ino) (items : List Item) → Clean c → Clean (send_item c ino items).state
item_clean c ino [] all = all
item_clean c ino (OfPiece p ∷ items) all = all
item_clean c ino (OfMark m ∷ items) all = all

due_clean : (c : Client) (unsent : List Item) (item : Due) → Clean c → Clean (send_due c unsent item).state
due_clean c unsent (due.Piece ino) all = item_clean c ino unsent all
due_clean c unsent (due.Mark ino follows upto size) all = all
due_clean c unsent (due.Release ino size) all = all
due_clean c unsent (due.DropRead ino) all = all

sent_clean : (item : Due) (files : HeldFiles) → AllClean files → AllClean (sent item files)
sent_clean (due.Piece ino) files all = clean_with ino item_sent clean_sent files all
sent_clean (due.Mark ino follows upto size) files all = clean_with ino item_sent clean_sent files all
sent_clean (due.Release ino size) files all = clean_without ino files all
sent_clean (due.DropRead ino) files all = clean_without ino files all

flush_clean : (c : Client) → Clean c → IfSome (on_flush c) (λ r. Clean r.state)
flush_clean c all = by_test c.frozen
  where
    by_due : (o : Option Due) → IfSome (sends_due c o) (λ r. Clean r.state)
    by_due None = tt
    by_due (Some item) = due_clean (record c { files = sent item c.files }) (unsent_in (file_of (file_due item) c.files)) item (sent_clean item c.files all)

    by_test : (b : Bool) → IfSome (cond b None (sends_due c (first_due (reading c.under) c.files))) (λ r. Clean r.state)
    by_test true = tt
    by_test false = by_due (first_due (reading c.under) c.files)

-- an answer is taken
is_false : (b : Bool) → not b ≡ true → b ≡ false
is_false true is = absurd (true≢false (sym is))
is_false false is = refl

found_clean : (c : Client) (ino : Ino) (size : ℕ) (settled : SnapId) (write_held : Bool) → (write_held || not (is_writer ino c.files)) ≡ true → Clean c → Clean (found c ino size settled write_held)
found_clean c ino size settled true may all = all
found_clean c ino size settled false may all = clean_hold ino Read size settled c.files (is_false (is_writer ino c.files) may) all

answer_clean : (c : Client) (number : ℕ) (text : Line) (asked : Request) (let_go : List Ino) (stamp : Stamp) (said : Answer) → takes_answer c said ≡ true → Clean c → Clean (take_answer c number text asked let_go stamp said).state
answer_clean c number text asked let_go stamp (answer.FoundLive ino perm size write_held) may all =
    clean_if (list_any (is_ino ino) let_go) (asks_anew c number text asked ino) (with_found (found c ino size stamp.snap write_held) number asked stamp.entry ino perm) (λ is. all) (λ isnt. by_wants (wants_bytes asked))
  where
    now : Clean (found c ino size stamp.snap write_held)
    now = found_clean c ino size stamp.snap write_held may all

    by_wants : (b : Bool) → Clean (cond b (reads_head (found c ino size stamp.snap write_held) number stamp.entry ino) (replies (record (found c ino size stamp.snap write_held) { under = Idle }) number false stamp.entry (answer.StatFile perm (size_of (found c ino size stamp.snap write_held) ino)))).state
    by_wants true = now
    by_wants false = now
answer_clean c number text asked let_go stamp (answer.FoundSnap ino snap size) may all = all
answer_clean c number text asked let_go stamp (answer.FoundObject ino index) may all = all
answer_clean c number text asked let_go stamp said may all = all

reply_clean : (c : Client) (tid : ℕ) (stamp : Stamp) (said : Answer) (under : Under) → Clean c → Clean (take_reply c tid stamp said under).state
reply_clean c tid stamp said Idle all = all
reply_clean c tid stamp said (AtStore number entry ino head) all = all
reply_clean c tid stamp said (Open number open_tid text asked let_go) all =
    clean_if (open_tid == tid && takes_answer c said) (take_answer c number text asked let_go stamp said) (stays c) (λ is. answer_clean c number text asked let_go stamp said (both_true (open_tid == tid) (takes_answer c said) is).1 all) (λ isnt. all)

-- a capability to read is no line's that writes
write_edits : (c : Client) (text : Line) (asked : Request) (ino : Ino) (mode : Mode) (e : Edit) → edit_of text ≡ Some e → asks_for asked ino mode ≡ true → BelongsTo c text asked → mode ≡ Write
write_edits c text (request.Cap file Write) ino Write e is asks belongs = refl
write_edits c text (request.Cap file Write) ino Read e is asks belongs = absurd (true≢false (sym (both_true (is_ino ino file) false asks).1))
write_edits c text (request.Cap file Read) ino mode e is asks belongs = absurd (no_edit text is belongs)
  where
    no_edit : (text : Line) → edit_of text ≡ Some e → ReadsFile c file text → ⊥
    no_edit (line.Read handle) is belongs = none_some is
      where
        none_some : None ≡ Some e → ⊥
        none_some is = cc
    no_edit text is belongs = belongs
write_edits c text asked ino mode e is asks belongs = absurd (true≢false (sym asks))

grant_clean : (c : Client) (tid : ℕ) (stamp : Stamp) (ino : Ino) (mode : Mode) (size : ℕ) (file : FileTrace) (under : Under) → BelongsUnder c under → Clean c → Clean (take_grant c tid stamp ino mode size file under).state
grant_clean c tid stamp ino mode size file Idle belongs all = all
grant_clean c tid stamp ino mode size file (AtStore number entry other head) belongs all = all
grant_clean c tid stamp ino mode size file (Open number open_tid text asked let_go) belongs all =
    clean_if (open_tid == tid && asks_for asked ino mode && not (is_writer ino c.files)) (goes_on (granted c ino mode size stamp.snap file) number ino (edit_of text)) (stays c)
    (λ is. let parts = both_true (open_tid == tid && asks_for asked ino mode) (not (is_writer ino c.files)) is in
    by_edit (clean_hold ino mode size stamp.snap c.files (is_false (is_writer ino c.files) parts.1) all) (both_true (open_tid == tid) (asks_for asked ino mode) parts.0).1 (edit_of text) refl)
    (λ isnt. all)
  where
    by_edit : AllClean (hold ino mode size stamp.snap c.files) → asks_for asked ino mode ≡ true → (o : Option Edit) → edit_of text ≡ o → Clean (goes_on (granted c ino mode size stamp.snap file) number ino o).state
    by_edit now asks None is = now
    by_edit now asks (Some e) is = edits_clean (granted c ino mode size stamp.snap file) number ino e
        (subst (λ (m : Mode). is_writer ino (hold ino m size stamp.snap c.files) ≡ true) (sym (write_edits c text asked ino mode e is asks belongs)) (hold_writer ino size stamp.snap c.files)) now

updated_clean : (update : List FileTrace) (c : Client) → Clean c → Clean (updated c update)
updated_clean [] c all = all
updated_clean (file ∷ update) c all = updated_clean update (cond (is_writer file.ino c.files) (renewed c file.ino (context_by file)) c) (by_test (is_writer file.ino c.files) refl)
  where
    mode_kept : (old new : Context) (held : HeldFile) → (marked old new held).mode ≡ held.mode
    mode_kept old new held = by_less (nat_lt old.seq.0 new.seq.0)
      where
        by_less : (b : Bool) → (cond b (with_mark (record { follows = old.seq; upto = new.seq; size = held.size }) held) held).mode ≡ held.mode
        by_less true = refl
        by_less false = refl

    by_test : (b : Bool) → is_writer file.ino c.files ≡ b → Clean (cond b (renewed c file.ino (context_by file)) c)
    by_test true writes = clean_writer file.ino (marked (context_in c.contexts file.ino) (context_by file)) (λ held. mode_kept (context_in c.contexts file.ino) (context_by file) held) c.files writes all
    by_test false isnt = all

own_clean : (c : Client) (m : ToClient) → BelongsUnder c c.under → Clean c → Clean (take_own c m).state
own_clean c (Restarted stamp) belongs all = all
own_clean c (Reply conn tid stamp said) belongs all = reply_clean c tid stamp said c.under all
own_clean c (Grant conn tid stamp ino mode size file) belongs all = grant_clean c tid stamp ino mode size file c.under belongs all
own_clean c (Recall conn stamp ino) belongs all = clean_with ino recalled (λ file clean. clean) c.files all
own_clean c (Notice conn stamp update) belongs all = updated_clean update c all
own_clean c (FlushAck conn stamp number) belongs all = clean_settled (filter (λ (f : FlushMsg). f.number == number) c.unacked) c.files all
own_clean c (Welcome conn stamp last update) belongs all = updated_clean update (acked (record c { frozen = false }) (λ n. nat_le n last)) (clean_settled (filter (λ (f : FlushMsg). nat_le f.number last) c.unacked) c.files all)

told_clean : (c : Client) (m : ToClient) → BelongsUnder c c.under → Clean c → Clean (on_told c m).state
told_clean c m belongs all = clean_if (may_take c m && to_client_fits m) (take_own (having_heard c m) m) (stays (having_heard c m)) (λ is. own_clean (having_heard c m) m (heard c.under belongs) all) (λ isnt. all)
  where
    heard : (under : Under) → BelongsUnder c under → BelongsUnder (having_heard c m) under
    heard Idle is = tt
    heard (Open number tid text asked let_go) is = by_request text asked is
      where
        by_request : (text : Line) (asked : Request) → BelongsTo c text asked → BelongsTo (having_heard c m) text asked
        by_request text (request.Cap ino Write) is = is
        by_request text (request.Cap ino Read) is = by_line text is
          where
            by_line : (text : Line) → ReadsFile c ino text → ReadsFile (having_heard c m) ino text
            by_line (line.Read handle) is = is
            by_line text is = absurd is
        by_request text asked is = tt
    heard (AtStore number entry ino head) is = tt

-- the store's answer
stored_clean : (c : Client) (said : FromStore) → Clean c → Clean (on_stored c said).state
stored_clean c said all = clean_if (from_store_fits said) (take_stored c said) (stays c) (λ is. by_said said) (λ isnt. all)
  where
    one_less : (file : HeldFile) → ReaderIsClean file → ReaderIsClean (stored file)
    one_less file clean = λ reads. (ap (λ (l : List Piece). drop 1 l) (clean reads).0, (clean reads).1)

    read : (said : FromStore) (under : Under) → Clean (take_read c said under).state
    read said Idle = all
    read said (Open number tid text asked let_go) = all
    read said (AtStore number entry ino head) = clean_if (is_key number (key_of said)) (replies (record c { under = Idle }) number false entry (store_answer c ino head said)) (stays c) (λ is. all) (λ isnt. all)

    by_said : (said : FromStore) → Clean (take_stored c said).state
    by_said (Stored ino) = clean_with ino stored one_less c.files all
    by_said (Got key bytes) = read (Got key bytes) c.under
    by_said (NotThere key) = read (NotThere key) c.under
    by_said (CloneListIs key list) = read (CloneListIs key list) c.under

-- a flush is sent of a file that is written
abbrev DueWrites : HeldFiles → Due → Type 0
DueWrites files (due.Mark ino follows upto size) = has ino files ≡ 2
DueWrites files (due.Release ino size) = has ino files ≡ 2
DueWrites files item = Unit {0}

first_writes : (f : Ino × HeldFile) (files : HeldFiles) → f.1.mode ≡ Write → has f.0 (f ∷ files) ≡ 2
first_writes f files is = rw itself (ap rank is)
  where
    itself : is_ino f.0 f.0 ≡ true
    itself = grind (arith, nat_tests)

one_writes : (reading : Option Ino) (f : Ino × HeldFile) (files : HeldFiles) → ReaderIsClean f.1 → IfSome (due_of reading f.0 f.1 f.1.unsent) (DueWrites (f ∷ files))
one_writes reading f files clean = by_items f.1.unsent refl
  where
    writes : (item : Item) (items : List Item) → f.1.unsent ≡ item ∷ items → (m : Mode) → f.1.mode ≡ m → m ≡ Write
    writes item items is Write at = refl
    writes item items is Read at = absurd (some_none (sym is ∙ (clean (ap is_write at)).1))
      where
        some_none : item ∷ items ≡ [] → ⊥
        some_none is = cc

    back : (m : Mode) → f.1.mode ≡ m → DueWrites (f ∷ files) (given_back f.0 f.1.size m)
    back Write is = first_writes f files is
    back Read is = tt

    if_due : (b : Bool) (item : Due) → DueWrites (f ∷ files) item → IfSome (cond b (Some item) None) (DueWrites (f ∷ files))
    if_due true item is = is
    if_due false item is = tt

    by_items : (items : List Item) → f.1.unsent ≡ items → IfSome (due_of reading f.0 f.1 items) (DueWrites (f ∷ files))
    by_items [] is = if_due (f.1.recalled && is_empty f.1.unacked && not (is_read reading f.0)) (given_back f.0 f.1.size f.1.mode) (back f.1.mode refl)
    by_items (OfPiece piece ∷ items) is = tt
    by_items (OfMark mark ∷ items) is = if_due (is_empty f.1.unacked) (due.Mark f.0 mark.follows mark.upto mark.size) (first_writes f files (writes (OfMark mark) items is f.1.mode refl))

later_has : (f : Ino × HeldFile) (files : HeldFiles) (ino : Ino) → is_held f.0 files ≡ false → has ino files ≡ 2 → has ino (f ∷ files) ≡ 2
later_has f files ino none is = by_test (is_ino ino f.0) refl
  where
    by_test : (b : Bool) → is_ino ino f.0 ≡ b → rank_in (cond b (Some f.1) (file_of ino files)) ≡ 2
    by_test true at = let low : has ino files ≡ 0 = ap rank_in (file_same ino f.0 files at) ∙ not_held f.0 files none in absurd (omega (arith, low, is))
    by_test false at = is

later_writes : (f : Ino × HeldFile) (files : HeldFiles) (item : Due) → is_held f.0 files ≡ false → DueWrites files item → DueWrites (f ∷ files) item
later_writes f files (due.Piece ino) none is = tt
later_writes f files (due.Mark ino follows upto size) none is = later_has f files ino none is
later_writes f files (due.Release ino size) none is = later_has f files ino none is
later_writes f files (due.DropRead ino) none is = tt

due_writes : (reading : Option Ino) (files : HeldFiles) → Distinct files → AllClean files → IfSome (first_due reading files) (DueWrites files)
due_writes reading [] once all = tt
due_writes reading (f ∷ files) once all = by_first (due_of reading f.0 f.1 f.1.unsent) (one_writes reading f files all.0) (first_due reading files) (due_writes reading files once.1 all.1)
  where
    by_first : (o : Option Due) → IfSome o (DueWrites (f ∷ files)) → (p : Option Due) → IfSome p (DueWrites files) → IfSome (or_else o p) (DueWrites (f ∷ files))
    by_first (Some item) is p then = is
    by_first None is None then = tt
    by_first None is (Some item) then = later_writes f files item once.0 then

abbrev pub FlushesWritten : Client → Row Client → Type 0
FlushesWritten c r = (f : FlushMsg) → for_server r.sent ≡ Flush c.conn f ∷ [] → has f.ino c.files ≡ 2

none_flushed : {R : Type 0} (conn : ℕ) (f : FlushMsg) → [] ≡ Flush conn f ∷ [] → R
none_flushed conn f is = absurd (never is)
  where
    never : [] ≡ Flush conn f ∷ [] → ⊥
    never is = cc

same_flush : (conn : ℕ) (f g : FlushMsg) → Flush conn f ∷ [] ≡ Flush conn g ∷ [] → f ≡ g
same_flush conn f g is = cc

item_writes : (c d : Client) (ino : Ino) (items : List Item) (f : FlushMsg) → for_server (send_item d ino items).sent ≡ Flush c.conn f ∷ [] → has f.ino c.files ≡ 2
item_writes c d ino [] f is = none_flushed c.conn f is
item_writes c d ino (OfPiece p ∷ items) f is = none_flushed c.conn f is
item_writes c d ino (OfMark m ∷ items) f is = none_flushed c.conn f is

due_row : (c : Client) (unsent : List Item) (item : Due) → DueWrites c.files item → FlushesWritten c (send_due (record c { files = sent item c.files }) unsent item)
due_row c unsent (due.Piece ino) writes = λ f is. item_writes c (record c { files = sent (due.Piece ino) c.files }) ino unsent f is
due_row c unsent (due.Mark ino follows upto size) writes = λ f is. ap (λ (g : FlushMsg). has g.ino c.files) (sym (same_flush c.conn (mark_flush c ino follows upto size) f is)) ∙ writes
due_row c unsent (due.Release ino size) writes = λ f is. ap (λ (g : FlushMsg). has g.ino c.files) (sym (same_flush c.conn (release_flush c ino size) f is)) ∙ writes
due_row c unsent (due.DropRead ino) writes = λ f is. absurd (never f is)
  where
    never : (f : FlushMsg) → DropRead c.conn ino ∷ [] ≡ Flush c.conn f ∷ [] → ⊥
    never f is = cc

pub flush_writes : (c : Client) → Distinct c.files → AllClean c.files → IfSome (on_flush c) (FlushesWritten c)
flush_writes c once all = by_test c.frozen
  where
    by_due : (o : Option Due) → IfSome o (DueWrites c.files) → IfSome (sends_due c o) (FlushesWritten c)
    by_due None is = tt
    by_due (Some item) is = due_row c (unsent_in (file_of (file_due item) c.files)) item is

    by_test : (b : Bool) → IfSome (cond b None (sends_due c (first_due (reading c.under) c.files))) (FlushesWritten c)
    by_test true = tt
    by_test false = by_due (first_due (reading c.under) c.files) (due_writes (reading c.under) c.files once all)

-- with the line of what is open
abbrev pub Tidy : View
Tidy n c up down s = OfItsLine n c up down s × ReadersKeepNothing n c up down s

pub tidy : KeptViews AnyOf Tidy Tidy
tidy = both (given (λ n c up down s all. all.0) (λ n c s a fit. fit) of_its_line) (record {
  op = λ n c up down s all. op_clean c c.lines all.1;
  flush = λ n c up down s all. flush_clean c all.1;
  told = λ n c up m down s all. told_clean c m all.0 all.1;
  stored = λ n c m up down s all. stored_clean c m all.1;
  one = λ n c up down s a fit all. all.1;
  pops = λ n c m up down s all. all.1;
  accepts = λ n c conn said flushes asked up down s all. all.1;
  accepts_other = λ n x c conn asked up down s other all. all.1;
  asks = λ n c conn tid asked up down s is all. all.1;
  asks_other = λ n x c tid asked up down s other all. all.1;
  hands = λ n c up down s all. all.1;
  durable = λ n c up down s all. all.1;
  survives = λ n c up down s k fits all. all.1;
})

pub tidy_rows : KeptByRows Tidy
tidy_rows = rows_of_acts Tidy tidy (all_fit Tidy)

pub clean_law : (script : Script) (history : List Event) → EachClient ReadersKeepNothing (world_after script history)
clean_law script history = each_part Tidy ReadersKeepNothing (world_after script history) (λ n c up down s all. all.1)
    (run_keeps Tidy tidy_rows (start script) (steps_of history) (at_start Tidy script (λ n is. (tt, tt))))
