-- Each row of a client keeps and says nothing above a last id, where it was told nothing above it.
use Rattle.std.proofs.Common.{◌≤◌, ℕ, ◌+◌, List, [], ◌∷◌, filter, Bool, true, false, true≢false, not, cond, Option, None, Some, IfSome}
use Rattle.std.specs.Prelude.{◌&&◌, ◌==◌, nat_le, Result, Ok, Err}
use Rattle.std.specs.List.{list_any, AllByRecursion}
use Rattle.snap_ids.specs.declared.id.Ino.{Ino}
use Rattle.snap_ids.specs.declared.id.SnapId.{SnapId}
use Rattle.snap_ids.specs.declared.values.Mode.{Mode}
use Rattle.snap_ids.specs.declared.values.Mode.TheVariants.{Read}
use Rattle.plain_types.specs.declared.answer.Answer.{Answer}
use Rattle.plain_types.specs.declared.answer.Answer.TheVariants as answer
use Rattle.plain_types.specs.declared.answer.Refusal.{Refusal}
use Rattle.plain_types.specs.declared.change.Change.{Change}
use Rattle.plain_types.specs.declared.message.FileTrace.{FileTrace}
use Rattle.plain_types.specs.declared.message.FlushMsg.{FlushMsg}
use Rattle.plain_types.specs.declared.message.FromStore.{FromStore}
use Rattle.plain_types.specs.declared.message.FromStore.TheVariants.{Stored, Got, NotThere, CloneListIs}
use Rattle.plain_types.specs.declared.message.Stamp.{Stamp}
use Rattle.plain_types.specs.declared.message.ToClient.{ToClient}
use Rattle.plain_types.specs.declared.message.ToClient.TheVariants.{Reply, Grant, Recall, Notice, FlushAck, Welcome, Restarted}
use Rattle.plain_types.specs.declared.request.Request.{Request}
use Rattle.plain_types.specs.declared.script.Line.{Line}
use Rattle.plain_types.specs.declared.script.Line.TheVariants as line
use Rattle.plain_tree.specs.History.{stamp_of}
use Rattle.plain_tree.specs.Line.{request_of, data_change}
use Rattle.plain_tree.specs.State.{Handle}
use Rattle.held_files.specs.declared.due.Due.{Due}
use Rattle.held_files.specs.declared.due.Due.TheVariants as due
use Rattle.held_files.specs.Due.{first_due, sent}
use Rattle.held_files.specs.Files.{Item, OfPiece, OfMark, is_ino, is_write, is_held, is_writer, file_of, hold, with_piece, recalled, stored}
use Rattle.step_table.specs.Messages.{to_client_fits, from_store_fits, context_by}
use Rattle.step_table.specs.Row.{Row}
use Rattle.step_table.specs.ClientState.{Under, Idle, Open, AtStore, Client, Edit, edit_of, context_in, with_context, connects, stays, edits}
use Rattle.step_table.specs.ClientLines.{edit_file, edit_line, read_line, opened, begin_asked, begin_other, begin_with, begin, may_begin, op_of, on_op, reading, mark_flush, release_flush, send_item, send_due, sends_due, unsent_in, file_due, on_flush}
use Rattle.step_table.specs.ClientTakes.{marked, renewed, updated, acked, goes_on, granted, asks_for, take_grant, wants_bytes, with_found, found, take_answer, takes_answer, take_reply, may_take, take_own, having_heard, on_told, is_key, key_of, take_read, take_stored, on_stored}
use Rattle.step_table.specs.World.{to_server as for_server}
use Rattle.id_laws.specs.Upto.{ContextUpto, TraceUpto, ToldUpto, FlushUpto, SaidUpto, FileUpto, Every, KeepsUpto}
use Rattle.id_laws.proofs.Keeps.{piece_upto, marked_upto, files_with, files_hold, files_settled, files_sent, claims_upto, context_in_upto, contexts_without, contexts_with, DueUpto, due_upto}
use Rattle.id_laws.proofs.Lists.{all_append, all_filter}

-- what a row leaves and says
pub record RowUpto (last : ℕ) (r : Row Client) : Type 0 where
  pub keeps : KeepsUpto last r.state
  pub says : AllByRecursion (SaidUpto last) (for_server r.sent)

row_if : (last : ℕ) (b : Bool) (x y : Row Client) → RowUpto last x → RowUpto last y → RowUpto last (cond b x y)
row_if last true x y here other = here
row_if last false x y here other = other

still : (last : ℕ) (c : Client) → KeepsUpto last c → RowUpto last (stays c)
still last c k = record { keeps = k; says = tt }

renews : (last : ℕ) (c : Client) → KeepsUpto last c → RowUpto last (connects c)
renews last c k = record {
  keeps = record { contexts = k.contexts; files = k.files; flushes = k.flushes };
  says = ((claims_upto last c.files k.files, k.flushes), tt);
}

-- a line is begun
edits_upto : (last : ℕ) (c : Client) (number : ℕ) (ino : Ino) (e : Edit) → KeepsUpto last c → RowUpto last (edits c number ino e)
edits_upto last c number ino e k = record {
  keeps = record { contexts = k.contexts; files = files_with last ino (with_piece (e.piece (context_in c.contexts ino))) (piece_upto last (e.piece (context_in c.contexts ino))) c.files k.files; flushes = k.flushes };
  says = tt;
}

edit_upto : (last : ℕ) (c : Client) (number : ℕ) (text : Line) (e : Edit) (ino : Ino) (o : Result Change Refusal) → KeepsUpto last c → RowUpto last (edit_file c number text e ino o)
edit_upto last c number text e ino (Err refusal) k = record { keeps = k; says = tt }
edit_upto last c number text e ino (Ok made) k = row_if last (is_writer ino c.files) _ _ (edits_upto last c number ino e k)
    (record { keeps = record { contexts = k.contexts; files = k.files; flushes = k.flushes }; says = (tt, tt) })

edit_line_upto : (last : ℕ) (c : Client) (number : ℕ) (text : Line) (e : Edit) (o : Option Handle) → KeepsUpto last c → RowUpto last (edit_line c number text e o)
edit_line_upto last c number text e None k = record { keeps = k; says = tt }
edit_line_upto last c number text e (Some h) k = edit_upto last c number text e h.ino (data_change (Some h) e.ends e.change) k

read_upto : (last : ℕ) (c : Client) (number : ℕ) (text : Line) (o : Option Handle) → KeepsUpto last c → RowUpto last (read_line c number text o)
read_upto last c number text None k = record { keeps = k; says = tt }
read_upto last c number text (Some h) k = row_if last (is_held h.ino c.files) _ _
    (record { keeps = record { contexts = k.contexts; files = k.files; flushes = k.flushes }; says = tt })
    (record { keeps = record { contexts = k.contexts; files = k.files; flushes = k.flushes }; says = (tt, tt) })

asked_upto : (last : ℕ) (c : Client) (number : ℕ) (text : Line) (o : Option Request) → KeepsUpto last c → RowUpto last (begin_asked c number text o)
asked_upto last c number text None k = still last c k
asked_upto last c number text (Some asked) k = record { keeps = record { contexts = k.contexts; files = k.files; flushes = k.flushes }; says = (tt, tt) }

other_upto : (last : ℕ) (c : Client) (number : ℕ) (text : Line) → KeepsUpto last c → RowUpto last (begin_other c number text)
other_upto last c number (line.Read handle) k = read_upto last c number (line.Read handle) (opened c handle) k
other_upto last c number line.Barrier k = record { keeps = record { contexts = k.contexts; files = k.files; flushes = k.flushes }; says = (tt, tt) }
other_upto last c number line.Break k = let r = renews last c k in record { keeps = r.keeps; says = r.says }
other_upto last c number text k = asked_upto last c number text (request_of text) k

begin_upto : (last : ℕ) (c : Client) (number : ℕ) (text : Line) (o : Option Edit) → KeepsUpto last c → RowUpto last (begin_with c number text o)
begin_upto last c number text (Some e) k = edit_line_upto last c number text e (opened c e.handle) k
begin_upto last c number text None k = other_upto last c number text k

lines_upto : (last : ℕ) (c : Client) (lines : List Line) → KeepsUpto last c → IfSome (op_of c lines) (RowUpto last)
lines_upto last c [] k = tt
lines_upto last c (text ∷ rest) k = by_test (not c.frozen && may_begin c.under text)
  where
    by_test : (b : Bool) → IfSome (cond b (Some (begin (record c { lines = rest; begun = c.begun + 1 }) (c.begun + 1) text)) None) (RowUpto last)
    by_test true = begin_upto last (record c { lines = rest; begun = c.begun + 1 }) (c.begun + 1) text (edit_of text) (record { contexts = k.contexts; files = k.files; flushes = k.flushes })
    by_test false = tt

pub op_upto : (last : ℕ) (c : Client) → KeepsUpto last c → IfSome (on_op c) (RowUpto last)
op_upto last c k = lines_upto last c c.lines k

-- what is due is sent
item_upto : (last : ℕ) (c : Client) (ino : Ino) (items : List Item) → KeepsUpto last c → RowUpto last (send_item c ino items)
item_upto last c ino [] k = still last c k
item_upto last c ino (OfPiece p ∷ items) k = record { keeps = k; says = tt }
item_upto last c ino (OfMark m ∷ items) k = still last c k

sends_upto : (last : ℕ) → 1 ≤ last → (c : Client) (unsent : List Item) (item : Due) → DueUpto last item → KeepsUpto last c → RowUpto last (send_due c unsent item)
sends_upto last low c unsent (due.Piece ino) is k = item_upto last c ino unsent k
sends_upto last low c unsent (due.Mark ino follows upto size) is k = record {
  keeps = record { contexts = k.contexts; files = k.files; flushes = all_append (FlushUpto last) c.unacked (mark_flush c ino follows upto size ∷ []) k.flushes ((is.0, λ no. is.1), tt) };
  says = ((is.0, λ no. is.1), tt);
}
sends_upto last low c unsent (due.Release ino size) is k = record {
  keeps = record { contexts = contexts_without last ino c.contexts k.contexts; files = k.files; flushes = all_append (FlushUpto last) c.unacked (release_flush c ino size ∷ []) k.flushes (released, tt) };
  says = (released, tt);
}
  where
    released : FlushUpto last (release_flush c ino size)
    released = (context_in_upto last low c.contexts ino k.contexts, λ no. absurd (true≢false no))
sends_upto last low c unsent (due.DropRead ino) is k = record {
  keeps = record { contexts = contexts_without last ino c.contexts k.contexts; files = k.files; flushes = k.flushes };
  says = (tt, tt);
}

pub flush_upto : (last : ℕ) → 1 ≤ last → (c : Client) → KeepsUpto last c → IfSome (on_flush c) (RowUpto last)
flush_upto last low c k = by_test c.frozen
  where
    by_due : (o : Option Due) → IfSome o (DueUpto last) → IfSome (sends_due c o) (RowUpto last)
    by_due None is = tt
    by_due (Some item) is = sends_upto last low (record c { files = sent item c.files }) (unsent_in (file_of (file_due item) c.files)) item is (record { contexts = k.contexts; files = files_sent last item c.files k.files; flushes = k.flushes })

    by_test : (b : Bool) → IfSome (cond b None (sends_due c (first_due (reading c.under) c.files))) (RowUpto last)
    by_test true = tt
    by_test false = by_due (first_due (reading c.under) c.files) (due_upto last (reading c.under) c.files k.files)

-- an answer is taken
found_upto : (last : ℕ) (c : Client) (number : ℕ) (asked : Request) (entry : ℕ) (ino : Ino) (perm size : ℕ) (settled : SnapId) (write_held : Bool) → settled.0 ≤ last → KeepsUpto last c → RowUpto last (with_found (found c ino size settled write_held) number asked entry ino perm)
found_upto last c number asked entry ino perm size settled write_held less k = row_if last (wants_bytes asked) _ _
    (record { keeps = record { contexts = k.contexts; files = now write_held; flushes = k.flushes }; says = tt })
    (record { keeps = record { contexts = k.contexts; files = now write_held; flushes = k.flushes }; says = tt })
  where
    now : (b : Bool) → Every (FileUpto last) (cond b c.files (hold ino Read size settled c.files))
    now true = k.files
    now false = files_hold last ino Read size settled less c.files k.files

answer_upto : (last : ℕ) (c : Client) (number : ℕ) (text : Line) (asked : Request) (let_go : List Ino) (stamp : Stamp) (said : Answer) → stamp.snap.0 ≤ last → KeepsUpto last c → RowUpto last (take_answer c number text asked let_go stamp said)
answer_upto last c number text asked let_go stamp (answer.FoundLive ino perm size write_held) less k = row_if last (list_any (is_ino ino) let_go) _ _
    (record { keeps = record { contexts = k.contexts; files = k.files; flushes = k.flushes }; says = (tt, (tt, tt)) })
    (found_upto last c number asked stamp.entry ino perm size stamp.snap write_held less k)
answer_upto last c number text asked let_go stamp (answer.FoundSnap ino snap size) less k = record { keeps = record { contexts = k.contexts; files = k.files; flushes = k.flushes }; says = tt }
answer_upto last c number text asked let_go stamp (answer.FoundObject ino index) less k = record { keeps = record { contexts = k.contexts; files = k.files; flushes = k.flushes }; says = tt }
answer_upto last c number text asked let_go stamp said less k = record { keeps = record { contexts = k.contexts; files = k.files; flushes = k.flushes }; says = tt }

reply_upto : (last : ℕ) (c : Client) (tid : ℕ) (stamp : Stamp) (said : Answer) (under : Under) → stamp.snap.0 ≤ last → KeepsUpto last c → RowUpto last (take_reply c tid stamp said under)
reply_upto last c tid stamp said Idle less k = still last c k
reply_upto last c tid stamp said (AtStore number entry ino head) less k = still last c k
reply_upto last c tid stamp said (Open number open_tid text asked let_go) less k = row_if last (open_tid == tid && takes_answer c said) _ (stays c) (answer_upto last c number text asked let_go stamp said less k) (still last c k)

-- a capability is taken
goes_on_upto : (last : ℕ) (c : Client) (number : ℕ) (ino : Ino) (o : Option Edit) → KeepsUpto last c → RowUpto last (goes_on c number ino o)
goes_on_upto last c number ino (Some e) k = edits_upto last c number ino e k
goes_on_upto last c number ino None k = record { keeps = record { contexts = k.contexts; files = k.files; flushes = k.flushes }; says = tt }

grant_upto : (last : ℕ) (c : Client) (tid : ℕ) (stamp : Stamp) (ino : Ino) (mode : Mode) (size : ℕ) (file : FileTrace) (under : Under) → stamp.snap.0 ≤ last → TraceUpto last file → KeepsUpto last c → RowUpto last (take_grant c tid stamp ino mode size file under)
grant_upto last c tid stamp ino mode size file Idle less is k = still last c k
grant_upto last c tid stamp ino mode size file (AtStore number entry other head) less is k = still last c k
grant_upto last c tid stamp ino mode size file (Open number open_tid text asked let_go) less is k =
    row_if last (open_tid == tid && asks_for asked ino mode && not (is_writer ino c.files)) _ (stays c)
    (goes_on_upto last (granted c ino mode size stamp.snap file) number ino (edit_of text) (record { contexts = by_mode (is_write mode); files = files_hold last ino mode size stamp.snap less c.files k.files; flushes = k.flushes }))
    (still last c k)
  where
    by_mode : (b : Bool) → Every (ContextUpto last) (cond b (with_context ino (context_by file) c.contexts) c.contexts)
    by_mode true = contexts_with last ino (context_by file) is c.contexts k.contexts
    by_mode false = k.contexts

-- an update is taken
updated_upto : (last : ℕ) → 1 ≤ last → (update : List FileTrace) (c : Client) → AllByRecursion (TraceUpto last) update → KeepsUpto last c → KeepsUpto last (updated c update)
updated_upto last low [] c all k = k
updated_upto last low (file ∷ update) c all k = updated_upto last low update (cond (is_writer file.ino c.files) (renewed c file.ino (context_by file)) c) all.1 (by_test (is_writer file.ino c.files))
  where
    by_test : (b : Bool) → KeepsUpto last (cond b (renewed c file.ino (context_by file)) c)
    by_test true = record {
      contexts = contexts_with last file.ino (context_by file) all.0 c.contexts k.contexts;
      files = files_with last file.ino (marked (context_in c.contexts file.ino) (context_by file)) (marked_upto last (context_in c.contexts file.ino) (context_by file) (context_in_upto last low c.contexts file.ino k.contexts) all.0.0) c.files k.files;
      flushes = k.flushes;
    }
    by_test false = k

acked_upto : (last : ℕ) (c : Client) (which : ℕ → Bool) → KeepsUpto last c → KeepsUpto last (acked c which)
acked_upto last c which k = record {
  contexts = k.contexts;
  files = files_settled last (filter (λ (f : FlushMsg). which f.number) c.unacked) c.files (all_filter (FlushUpto last) (λ (f : FlushMsg). which f.number) c.unacked k.flushes) k.files;
  flushes = all_filter (FlushUpto last) (λ (f : FlushMsg). not (which f.number)) c.unacked k.flushes;
}

own_upto : (last : ℕ) → 1 ≤ last → (c : Client) (m : ToClient) → (stamp_of m).snap.0 ≤ last → ToldUpto last m → KeepsUpto last c → RowUpto last (take_own c m)
own_upto last low c (Restarted st) less is k = renews last c k
own_upto last low c (Reply conn tid st said) less is k = reply_upto last c tid st said c.under less k
own_upto last low c (Grant conn tid st ino mode size file) less is k = grant_upto last c tid st ino mode size file c.under less is k
own_upto last low c (Recall conn st ino) less is k = record { keeps = record { contexts = k.contexts; files = files_with last ino recalled (λ file so. so) c.files k.files; flushes = k.flushes }; says = tt }
own_upto last low c (Notice conn st update) less is k = record { keeps = updated_upto last low update c is k; says = tt }
own_upto last low c (FlushAck conn st number) less is k = record { keeps = acked_upto last c (λ i. i == number) k; says = tt }
own_upto last low c (Welcome conn st flushed update) less is k = record {
  keeps = updated_upto last low update (acked (record c { frozen = false }) (λ i. nat_le i flushed)) is (acked_upto last (record c { frozen = false }) (λ i. nat_le i flushed) (record { contexts = k.contexts; files = k.files; flushes = k.flushes }));
  says = tt;
}

pub told_upto : (last : ℕ) → 1 ≤ last → (c : Client) (m : ToClient) → (stamp_of m).snap.0 ≤ last → ToldUpto last m → KeepsUpto last c → RowUpto last (on_told c m)
told_upto last low c m less is k = row_if last (may_take c m && to_client_fits m) _ _ (own_upto last low (having_heard c m) m less is now) (still last (having_heard c m) now)
  where
    now : KeepsUpto last (having_heard c m)
    now = record { contexts = k.contexts; files = k.files; flushes = k.flushes }

-- the store's answers
read_taken : (last : ℕ) (c : Client) (said : FromStore) (under : Under) → KeepsUpto last c → RowUpto last (take_read c said under)
read_taken last c said Idle k = still last c k
read_taken last c said (Open number tid text asked let_go) k = still last c k
read_taken last c said (AtStore number entry ino head) k = row_if last (is_key number (key_of said)) _ (stays c)
    (record { keeps = record { contexts = k.contexts; files = k.files; flushes = k.flushes }; says = tt }) (still last c k)

pub stored_upto : (last : ℕ) (c : Client) (said : FromStore) → KeepsUpto last c → RowUpto last (on_stored c said)
stored_upto last c said k = row_if last (from_store_fits said) (take_stored c said) (stays c) (by_said said) (still last c k)
  where
    by_said : (said : FromStore) → RowUpto last (take_stored c said)
    by_said (Stored ino) = record { keeps = record { contexts = k.contexts; files = files_with last ino stored (λ file so. so) c.files k.files; flushes = k.flushes }; says = tt }
    by_said (Got key bytes) = read_taken last c (Got key bytes) c.under k
    by_said (NotThere key) = read_taken last c (NotThere key) c.under k
    by_said (CloneListIs key list) = read_taken last c (CloneListIs key list) c.under k
