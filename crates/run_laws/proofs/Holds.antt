-- What each row of a client keeps of what it holds, and what it does to its flushes.
use Rattle.std.proofs.Common.{◌≡◌, ◌≤◌, ℕ, ◌+◌, List, [], ◌∷◌, ◌++◌, filter, Bool, true, false, true≢false, not, cond, Option, None, Some, refl, sym, subst, IfSome, arith, ◌⊎◌, inl, inr}
use Rattle.std.proofs.lemmas.Bool.Decides.{nat_tests}
use Rattle.std.specs.Prelude.{◌&&◌, ◌==◌, nat_le, Result, Ok, Err}
use Rattle.std.specs.List.{list_any, list_all}
use Rattle.snap_ids.specs.declared.id.Ino.{Ino}
use Rattle.snap_ids.specs.declared.id.SnapId.{SnapId}
use Rattle.snap_ids.specs.declared.values.Mode.{Mode}
use Rattle.snap_ids.specs.declared.values.Mode.TheVariants.{Read}
use Rattle.snap_ids.specs.Context.{Context}
use Rattle.plain_types.specs.declared.answer.Answer.{Answer}
use Rattle.plain_types.specs.declared.answer.Answer.TheVariants as answer
use Rattle.plain_types.specs.declared.answer.Refusal.{Refusal}
use Rattle.plain_types.specs.declared.answer.Refusal.TheVariants.{ReadOnly, TooLarge}
use Rattle.plain_types.specs.declared.change.Change.{Change}
use Rattle.plain_types.specs.declared.entry.Entry.{Entry}
use Rattle.plain_types.specs.declared.message.FileTrace.{FileTrace}
use Rattle.plain_types.specs.declared.message.FlushMsg.{FlushMsg}
use Rattle.plain_types.specs.declared.message.FromStore.{FromStore}
use Rattle.plain_types.specs.declared.message.FromStore.TheVariants.{Stored, Got, NotThere, CloneListIs}
use Rattle.plain_types.specs.declared.message.Stamp.{Stamp}
use Rattle.plain_types.specs.declared.message.ToClient.{ToClient}
use Rattle.plain_types.specs.declared.message.ToClient.TheVariants.{Reply, Grant, Recall, Notice, FlushAck, Welcome, Restarted}
use Rattle.plain_types.specs.declared.message.ToServer.{ToServer}
use Rattle.plain_types.specs.declared.message.ToServer.TheVariants.{Flush}
use Rattle.plain_types.specs.declared.request.Request.{Request}
use Rattle.plain_types.specs.declared.script.Line.{Line}
use Rattle.plain_types.specs.declared.script.Line.TheVariants as line
use Rattle.plain_tree.specs.Change.{is_too_large}
use Rattle.plain_tree.specs.History.{stamp_of}
use Rattle.plain_tree.specs.Line.{request_of, data_change}
use Rattle.plain_tree.specs.State.{Handle}
use Rattle.held_files.specs.declared.due.Due.{Due}
use Rattle.held_files.specs.declared.due.Due.TheVariants as due
use Rattle.held_files.specs.Due.{first_due, sent}
use Rattle.held_files.specs.Files.{Item, OfPiece, OfMark, HeldFiles, is_ino, is_write, is_held, is_writer, file_of, with_file, hold, with_piece, recalled, stored}
use Rattle.step_table.specs.Messages.{is_id, is_size, trace_fits, flush_fits, answer_fits, told_fits, from_store_fits, context_by}
use Rattle.step_table.specs.Row.{Row}
use Rattle.step_table.specs.ClientState.{Under, Idle, Open, AtStore, Client, Edit, edit_of, context_in, without_context, with_context, connects, stays}
use Rattle.step_table.specs.ClientLines.{edit_file, edit_line, read_line, opened, begin_asked, begin_other, begin_with, begin, may_begin, op_of, reading, mark_flush, release_flush, with_let_go, send_item, send_due, sends_due, unsent_in, file_due, on_flush}
use Rattle.step_table.specs.ClientTakes.{marked, renewed, updated, acked, goes_on, granted, asks_for, take_grant, wants_bytes, with_found, found, take_answer, takes_answer, take_reply, may_take, take_own, having_heard, on_told, is_key, key_of, take_read, take_stored, on_stored}
use Rattle.step_table.specs.World.{to_server as for_server}
use Rattle.run_laws.proofs.Clients.{updated_same}
use Rattle.run_laws.proofs.Held.{EditFits, UnderFits, ContextsFit, AllHeld, Holding, MakesPiece, makes_piece, piece_fits, marked_fits, held_with, held_hold, held_settled, held_sent, due_fits, DueFits, context_fits_in, contexts_without, contexts_with, trace_seq, again_fits, let_go_fits}
use Rattle.run_laws.proofs.Known.{Known}
use Rattle.run_laws.proofs.Ruled.{SaysKnown}

abbrev pub HoldsIn : List Entry → Client → Type 0
HoldsIn entries c = Holding entries c.files c.contexts c.under

-- no message is a flush
abbrev pub NoFlushAt : ToServer → Type 0 → Type 0
NoFlushAt (Flush conn f) Rest = ⊥
NoFlushAt message Rest = Rest

abbrev pub NoFlush : List ToServer → Type 0
NoFlush [] = Unit {0}
NoFlush (m ∷ up) = NoFlushAt m (NoFlush up)

-- a row that sends no flush, and keeps those that aren't acknowledged
pub record Stays (entries : List Entry) (c : Client) (r : Row Client) : Type 0 where
  pub holds : HoldsIn entries r.state
  pub unacked : r.state.unacked ≡ c.unacked
  pub flushes : r.state.flushes ≡ c.flushes
  pub none : NoFlush (for_server r.sent)

-- one that sends a flush
pub record Flushed (entries : List Entry) (c : Client) (r : Row Client) : Type 0 where
  pub flush : FlushMsg
  pub holds : HoldsIn entries r.state
  pub unacked : r.state.unacked ≡ c.unacked ++ flush ∷ []
  pub flushes : r.state.flushes ≡ c.flushes + 1
  pub number : flush.number ≡ c.flushes + 1
  pub known : Known entries flush.ino
  pub fits : flush_fits flush ≡ true
  pub sent : for_server r.sent ≡ Flush c.conn flush ∷ []

-- the flushes that a message acknowledges
abbrev pub AckedBy : ToClient → ℕ → Type 0
AckedBy (FlushAck conn stamp number) i = i ≡ number
AckedBy (Welcome conn stamp flushed update) i = i ≤ flushed
AckedBy message i = ⊥

-- one that takes acknowledgements
pub record Settles (entries : List Entry) (c : Client) (m : ToClient) (r : Row Client) : Type 0 where
  pub which : ℕ → Bool
  pub by : (i : ℕ) → which i ≡ true → AckedBy m i
  pub holds : HoldsIn entries r.state
  pub unacked : r.state.unacked ≡ filter (λ (f : FlushMsg). not (which f.number)) c.unacked
  pub flushes : r.state.flushes ≡ c.flushes
  pub sent : for_server r.sent ≡ []

stays_if : (entries : List Entry) (c : Client) (b : Bool) (x y : Row Client) → Stays entries c x → Stays entries c y → Stays entries c (cond b x y)
stays_if entries c true x y here other = here
stays_if entries c false x y here other = other

still : (entries : List Entry) (c : Client) → HoldsIn entries c → Stays entries c (stays c)
still entries c h = record { holds = h; unacked = refl; flushes = refl; none = tt }

-- the same files and contexts, with another line under way
under_now : (entries : List Entry) (c : Client) (under : Under) → UnderFits under → HoldsIn entries c → Holding entries c.files c.contexts under
under_now entries c under fits h = record { files = h.files; contexts = h.contexts; under = fits }

renews : (entries : List Entry) (c : Client) → HoldsIn entries c → Stays entries c (connects c)
renews entries c h = record { holds = under_now entries c _ (again_fits c.under h.under) h; unacked = refl; flushes = refl; none = tt }

-- a line is begun
change_fits : (h : Handle) (e : Edit) (made : Change) → data_change (Some h) e.ends e.change ≡ Ok made → is_size e.ends ≡ true
change_fits h e made is = by_test (not h.writable) (is_too_large e.ends) is
  where
    by_test : (b d : Bool) → cond b (Err ReadOnly) (cond d (Err TooLarge) (Ok e.change)) ≡ Ok made → not d ≡ true
    by_test true d is = cc
    by_test false true is = cc
    by_test false false is = refl

edits_files : (entries : List Entry) (text : Line) (e : Edit) (context : Context) (ino : Ino) (files : HeldFiles) → edit_of text ≡ Some e → is_size e.ends ≡ true → AllHeld entries files → AllHeld entries (with_file ino (with_piece (e.piece context)) files)
edits_files entries text e context ino files is ends all = held_with entries ino (with_piece (e.piece context)) (λ file fits. piece_fits (e.piece context) file (makes context file.size fits.0 ends) fits) files all
  where
    makes : MakesPiece e
    makes = subst (λ (o : Option Edit). IfSome o MakesPiece) is (makes_piece text)

edit_stays : (entries : List Entry) (c : Client) (number : ℕ) (text : Line) (e : Edit) (h : Handle) (o : Result Change Refusal) → edit_of text ≡ Some e → data_change (Some h) e.ends e.change ≡ o → HoldsIn entries c → Stays entries c (edit_file c number text e h.ino o)
edit_stays entries c number text e h (Err refusal) is made holds = record { holds = holds; unacked = refl; flushes = refl; none = tt }
edit_stays entries c number text e h (Ok change) is made holds = stays_if entries c (is_writer h.ino c.files) _ _
    (record { holds = record { files = edits_files entries text e (context_in c.contexts h.ino) h.ino c.files is ends holds.files; contexts = holds.contexts; under = tt }; unacked = refl; flushes = refl; none = tt })
    (record { holds = under_now entries c _ (subst EditFits (sym is) ends) holds; unacked = refl; flushes = refl; none = tt })
  where
    ends : is_size e.ends ≡ true
    ends = change_fits h e change made

edit_line_stays : (entries : List Entry) (c : Client) (number : ℕ) (text : Line) (e : Edit) (o : Option Handle) → edit_of text ≡ Some e → HoldsIn entries c → Stays entries c (edit_line c number text e o)
edit_line_stays entries c number text e None is holds = record { holds = holds; unacked = refl; flushes = refl; none = tt }
edit_line_stays entries c number text e (Some h) is holds = edit_stays entries c number text e h (data_change (Some h) e.ends e.change) is refl holds

read_stays : (entries : List Entry) (c : Client) (number : ℕ) (handle : ℕ) (o : Option Handle) → HoldsIn entries c → Stays entries c (read_line c number (line.Read handle) o)
read_stays entries c number handle None holds = record { holds = holds; unacked = refl; flushes = refl; none = tt }
read_stays entries c number handle (Some h) holds = stays_if entries c (is_held h.ino c.files) _ _
    (record { holds = under_now entries c _ tt holds; unacked = refl; flushes = refl; none = tt })
    (record { holds = under_now entries c _ tt holds; unacked = refl; flushes = refl; none = tt })

asked_stays : (entries : List Entry) (c : Client) (number : ℕ) (text : Line) (o : Option Request) → edit_of text ≡ None → HoldsIn entries c → Stays entries c (begin_asked c number text o)
asked_stays entries c number text None is holds = still entries c holds
asked_stays entries c number text (Some asked) is holds = record { holds = under_now entries c _ (subst EditFits (sym is) tt) holds; unacked = refl; flushes = refl; none = tt }

other_stays : (entries : List Entry) (c : Client) (number : ℕ) (text : Line) → edit_of text ≡ None → HoldsIn entries c → Stays entries c (begin_other c number text)
other_stays entries c number (line.Read handle) is holds = read_stays entries c number handle (opened c handle) holds
other_stays entries c number line.Barrier is holds = record { holds = under_now entries c _ tt holds; unacked = refl; flushes = refl; none = tt }
other_stays entries c number line.Break is holds = let r = renews entries c holds in record { holds = r.holds; unacked = refl; flushes = refl; none = tt }
other_stays entries c number text is holds = asked_stays entries c number text (request_of text) is holds

begin_stays : (entries : List Entry) (c : Client) (number : ℕ) (text : Line) (o : Option Edit) → edit_of text ≡ o → HoldsIn entries c → Stays entries c (begin_with c number text o)
begin_stays entries c number text (Some e) is holds = edit_line_stays entries c number text e (opened c e.handle) is holds
begin_stays entries c number text None is holds = other_stays entries c number text is holds

pub op_stays : (entries : List Entry) (c : Client) (lines : List Line) → HoldsIn entries c → IfSome (op_of c lines) (Stays entries c)
op_stays entries c [] holds = tt
op_stays entries c (text ∷ rest) holds = by_test (not c.frozen && may_begin c.under text)
  where
    by_test : (b : Bool) → IfSome (cond b (Some (begin (record c { lines = rest; begun = c.begun + 1 }) (c.begun + 1) text)) None) (Stays entries c)
    by_test true = let r = begin_stays entries (record c { lines = rest; begun = c.begun + 1 }) (c.begun + 1) text (edit_of text) refl (record { files = holds.files; contexts = holds.contexts; under = holds.under }) in
        record { holds = r.holds; unacked = r.unacked; flushes = r.flushes; none = r.none }
    by_test false = tt

-- what is due is sent
abbrev pub Sends : List Entry → Client → Row Client → Type 0
Sends entries c r = Stays entries c r ⊎ Flushed entries c r

item_stays : (entries : List Entry) (c : Client) (ino : Ino) (items : List Item) → HoldsIn entries c → Stays entries c (send_item c ino items)
item_stays entries c ino [] holds = still entries c holds
item_stays entries c ino (OfPiece p ∷ items) holds = record { holds = holds; unacked = refl; flushes = refl; none = tt }
item_stays entries c ino (OfMark m ∷ items) holds = still entries c holds

lets_it_go : (entries : List Entry) (c : Client) (ino : Ino) → HoldsIn entries c → Holding entries c.files (without_context ino c.contexts) (with_let_go ino c.under)
lets_it_go entries c ino holds = record { files = holds.files; contexts = contexts_without ino c.contexts holds.contexts; under = let_go_fits ino c.under holds.under }

due_sends : (entries : List Entry) (c : Client) (unsent : List Item) (item : Due) → DueFits entries item → HoldsIn entries c → Sends entries c (send_due c unsent item)
due_sends entries c unsent (due.Piece ino) fits holds = inl (item_stays entries c ino unsent holds)
due_sends entries c unsent (due.Mark ino follows upto size) fits holds = inr (record {
  flush = mark_flush c ino follows upto size;
  holds = record { files = holds.files; contexts = holds.contexts; under = holds.under };
  unacked = refl;
  flushes = refl;
  number = refl;
  known = fits.0;
  fits = rw (fits.1, fits.2, fits.3) refl;
  sent = refl;
})
due_sends entries c unsent (due.Release ino size) fits holds = inr (record {
  flush = release_flush c ino size;
  holds = lets_it_go entries c ino holds;
  unacked = refl;
  flushes = refl;
  number = refl;
  known = fits.0;
  fits = rw (context_fits_in c.contexts ino holds.contexts, fits.1) refl;
  sent = refl;
})
due_sends entries c unsent (due.DropRead ino) fits holds = inl (record { holds = lets_it_go entries c ino holds; unacked = refl; flushes = refl; none = tt })

pub flush_sends : (entries : List Entry) (c : Client) → HoldsIn entries c → IfSome (on_flush c) (λ r. (c.frozen ≡ false) × Sends entries c r)
flush_sends entries c holds = by_test c.frozen refl
  where
    widen : (item : Due) (r : Row Client) → Sends entries (record c { files = sent item c.files }) r → Sends entries c r
    widen item r (inl s) = inl (record { holds = s.holds; unacked = s.unacked; flushes = s.flushes; none = s.none })
    widen item r (inr s) = inr (record { flush = s.flush; holds = s.holds; unacked = s.unacked; flushes = s.flushes; number = s.number; known = s.known; fits = s.fits; sent = s.sent })

    by_due : c.frozen ≡ false → (o : Option Due) → IfSome o (DueFits entries) → IfSome (sends_due c o) (λ r. (c.frozen ≡ false) × Sends entries c r)
    by_due is None fits = tt
    by_due is (Some item) fits = (is, widen item _ (due_sends entries (record c { files = sent item c.files }) (unsent_in (file_of (file_due item) c.files)) item fits (record { files = held_sent entries item c.files holds.files; contexts = holds.contexts; under = holds.under })))

    by_test : (b : Bool) → c.frozen ≡ b → IfSome (cond b None (sends_due c (first_due (reading c.under) c.files))) (λ r. (c.frozen ≡ false) × Sends entries c r)
    by_test true is = tt
    by_test false is = by_due is (first_due (reading c.under) c.files) (due_fits entries (reading c.under) c.files holds.files)

-- an answer is taken
found_stays : (entries : List Entry) (c : Client) (number : ℕ) (asked : Request) (entry : ℕ) (ino : Ino) (perm size : ℕ) (settled : SnapId) (write_held : Bool) → Known entries ino → is_size size ≡ true → HoldsIn entries c → Stays entries c (with_found (found c ino size settled write_held) number asked entry ino perm)
found_stays entries c number asked entry ino perm size settled write_held known fits holds = stays_if entries c (wants_bytes asked) _ _
    (record { holds = record { files = now write_held; contexts = holds.contexts; under = tt }; unacked = refl; flushes = refl; none = tt })
    (record { holds = record { files = now write_held; contexts = holds.contexts; under = tt }; unacked = refl; flushes = refl; none = tt })
  where
    now : (b : Bool) → AllHeld entries (cond b c.files (hold ino Read size settled c.files))
    now true = holds.files
    now false = held_hold entries ino Read size settled known fits c.files holds.files

answer_stays : (entries : List Entry) (c : Client) (number : ℕ) (text : Line) (asked : Request) (let_go : List Ino) (stamp : Stamp) (said : Answer) → EditFits (edit_of text) → SaysKnown entries said → answer_fits said ≡ true → HoldsIn entries c → Stays entries c (take_answer c number text asked let_go stamp said)
answer_stays entries c number text asked let_go stamp (answer.FoundLive ino perm size write_held) edit known fits holds = stays_if entries c (list_any (is_ino ino) let_go) _ _
    (record { holds = under_now entries c _ edit holds; unacked = refl; flushes = refl; none = tt })
    (found_stays entries c number asked stamp.entry ino perm size stamp.snap write_held known fits holds)
answer_stays entries c number text asked let_go stamp (answer.FoundSnap ino snap size) edit known fits holds = record { holds = under_now entries c _ tt holds; unacked = refl; flushes = refl; none = tt }
answer_stays entries c number text asked let_go stamp (answer.FoundObject ino index) edit known fits holds = record { holds = under_now entries c _ tt holds; unacked = refl; flushes = refl; none = tt }
answer_stays entries c number text asked let_go stamp said edit known fits holds = record { holds = under_now entries c _ tt holds; unacked = refl; flushes = refl; none = tt }

reply_stays : (entries : List Entry) (c : Client) (tid : ℕ) (stamp : Stamp) (said : Answer) (under : Under) → UnderFits under → SaysKnown entries said → answer_fits said ≡ true → HoldsIn entries c → Stays entries c (take_reply c tid stamp said under)
reply_stays entries c tid stamp said Idle edit known fits holds = still entries c holds
reply_stays entries c tid stamp said (AtStore number entry ino head) edit known fits holds = still entries c holds
reply_stays entries c tid stamp said (Open number open_tid text asked let_go) edit known fits holds = stays_if entries c (open_tid == tid && takes_answer c said) _ (stays c) (answer_stays entries c number text asked let_go stamp said edit known fits holds) (still entries c holds)

-- a capability is taken
goes_on_stays : (entries : List Entry) (c : Client) (number : ℕ) (text : Line) (ino : Ino) (o : Option Edit) → edit_of text ≡ o → EditFits o → HoldsIn entries c → Stays entries c (goes_on c number ino o)
goes_on_stays entries c number text ino (Some e) is ends holds = record { holds = record { files = edits_files entries text e (context_in c.contexts ino) ino c.files is ends holds.files; contexts = holds.contexts; under = tt }; unacked = refl; flushes = refl; none = tt }
goes_on_stays entries c number text ino None is ends holds = record { holds = under_now entries c _ tt holds; unacked = refl; flushes = refl; none = tt }

grant_stays : (entries : List Entry) (c : Client) (tid : ℕ) (stamp : Stamp) (ino : Ino) (mode : Mode) (size : ℕ) (file : FileTrace) (under : Under) → UnderFits under → Known entries ino → is_size size ≡ true → trace_fits file ≡ true → HoldsIn entries c → Stays entries c (take_grant c tid stamp ino mode size file under)
grant_stays entries c tid stamp ino mode size file Idle edit known fits traced holds = still entries c holds
grant_stays entries c tid stamp ino mode size file (AtStore number entry other head) edit known fits traced holds = still entries c holds
grant_stays entries c tid stamp ino mode size file (Open number open_tid text asked let_go) edit known fits traced holds =
    stays_if entries c (open_tid == tid && asks_for asked ino mode && not (is_writer ino c.files)) _ (stays c)
    (let r = goes_on_stays entries (granted c ino mode size stamp.snap file) number text ino (edit_of text) refl edit (record { files = held_hold entries ino mode size stamp.snap known fits c.files holds.files; contexts = by_mode (is_write mode); under = tt }) in record { holds = r.holds; unacked = r.unacked; flushes = r.flushes; none = r.none })
    (still entries c holds)
  where
    by_mode : (b : Bool) → ContextsFit (cond b (with_context ino (context_by file) c.contexts) c.contexts)
    by_mode true = contexts_with ino (context_by file) c.contexts (trace_seq file traced) holds.contexts
    by_mode false = holds.contexts

-- an update is taken
and_true : (a b : Bool) → (a && b) ≡ true → (a ≡ true) × (b ≡ true)
and_true true b is = (refl, is)
and_true false b is = absurd (true≢false (sym is))

updated_holds : (entries : List Entry) (update : List FileTrace) (c : Client) → list_all trace_fits update ≡ true → HoldsIn entries c → HoldsIn entries (updated c update)
updated_holds entries [] c fits holds = holds
updated_holds entries (file ∷ update) c fits holds =
    let parts = and_true (trace_fits file) (list_all trace_fits update) fits in
    updated_holds entries update (cond (is_writer file.ino c.files) (renewed c file.ino (context_by file)) c) parts.1 (by_test (is_writer file.ino c.files) parts.0)
  where
    by_test : (b : Bool) → trace_fits file ≡ true → HoldsIn entries (cond b (renewed c file.ino (context_by file)) c)
    by_test true traced =
        let seq = trace_seq file traced in
        record {
          files = held_with entries file.ino (marked (context_in c.contexts file.ino) (context_by file)) (λ held fits. marked_fits (context_in c.contexts file.ino) (context_by file) held (context_fits_in c.contexts file.ino holds.contexts) seq fits) c.files holds.files;
          contexts = contexts_with file.ino (context_by file) c.contexts seq holds.contexts;
          under = holds.under;
        }
    by_test false traced = holds

acked_holds : (entries : List Entry) (c : Client) (which : ℕ → Bool) → HoldsIn entries c → HoldsIn entries (acked c which)
acked_holds entries c which holds = record { files = held_settled entries (filter (λ (f : FlushMsg). which f.number) c.unacked) c.files holds.files; contexts = holds.contexts; under = holds.under }

-- a message of the server names files that are known
abbrev pub NamesKnown : List Entry → ToClient → Type 0
NamesKnown entries (Grant conn tid stamp ino mode size file) = Known entries ino
NamesKnown entries (Reply conn tid stamp said) = SaysKnown entries said
NamesKnown entries message = Unit {0}

abbrev pub Takes : List Entry → Client → ToClient → Row Client → Type 0
Takes entries c m r = Stays entries c r ⊎ Settles entries c m r

own_takes : (entries : List Entry) (c : Client) (m : ToClient) → told_fits m ≡ true → NamesKnown entries m → HoldsIn entries c → Takes entries c m (take_own (having_heard c m) m)
own_takes entries c (Restarted st) fits known holds = let r = renews entries (having_heard c (Restarted st)) (record { files = holds.files; contexts = holds.contexts; under = holds.under }) in inl (record { holds = r.holds; unacked = refl; flushes = refl; none = tt })
own_takes entries c (Reply conn tid st said) fits known holds = let r = reply_stays entries (having_heard c (Reply conn tid st said)) tid st said c.under holds.under known fits (record { files = holds.files; contexts = holds.contexts; under = holds.under }) in inl (record { holds = r.holds; unacked = r.unacked; flushes = r.flushes; none = r.none })
own_takes entries c (Grant conn tid st ino mode size file) fits known holds =
    let parts = and_true (is_size size) (trace_fits file) fits in
    let r = grant_stays entries (having_heard c (Grant conn tid st ino mode size file)) tid st ino mode size file c.under holds.under known parts.0 parts.1 (record { files = holds.files; contexts = holds.contexts; under = holds.under }) in
    inl (record { holds = r.holds; unacked = r.unacked; flushes = r.flushes; none = r.none })
own_takes entries c (Recall conn st ino) fits known holds = inl (record { holds = record { files = held_with entries ino recalled (λ file is. is) c.files holds.files; contexts = holds.contexts; under = holds.under }; unacked = refl; flushes = refl; none = tt })
own_takes entries c (Notice conn st update) fits known holds = let h = having_heard c (Notice conn st update) in
    inl (record {
      holds = updated_holds entries update h fits (record { files = holds.files; contexts = holds.contexts; under = holds.under });
      unacked = updated_same (λ (v : Client). v.unacked) (λ v ino new. refl) update h;
      flushes = updated_same (λ (v : Client). v.flushes) (λ v ino new. refl) update h;
      none = tt;
    })
own_takes entries c (FlushAck conn st number) fits known holds = let h = having_heard c (FlushAck conn st number) in
    inr (record {
      which = λ i. i == number;
      by = λ i is. grind (arith, nat_tests, is);
      holds = acked_holds entries h (λ i. i == number) (record { files = holds.files; contexts = holds.contexts; under = holds.under });
      unacked = refl;
      flushes = refl;
      sent = refl;
    })
own_takes entries c (Welcome conn st last update) fits known holds = let h = record (having_heard c (Welcome conn st last update)) { frozen = false } in let v = acked h (λ i. nat_le i last) in
    inr (record {
      which = λ i. nat_le i last;
      by = λ i is. grind (arith, nat_tests, is);
      holds = updated_holds entries update v fits (acked_holds entries h (λ i. nat_le i last) (record { files = holds.files; contexts = holds.contexts; under = holds.under }));
      unacked = updated_same (λ (x : Client). x.unacked) (λ x ino new. refl) update v;
      flushes = updated_same (λ (x : Client). x.flushes) (λ x ino new. refl) update v;
      sent = refl;
    })

pub told_takes : (entries : List Entry) (c : Client) (m : ToClient) → NamesKnown entries m → HoldsIn entries c → Takes entries c m (on_told c m)
told_takes entries c m known holds = by_test (may_take c m) (is_id (stamp_of m).snap) (told_fits m) refl
  where
    heard : Takes entries c m (stays (having_heard c m))
    heard = inl (record { holds = record { files = holds.files; contexts = holds.contexts; under = holds.under }; unacked = refl; flushes = refl; none = tt })

    by_test : (a b d : Bool) → told_fits m ≡ d → Takes entries c m (cond (a && (b && d)) (take_own (having_heard c m) m) (stays (having_heard c m)))
    by_test true true true is = own_takes entries c m is known holds
    by_test true true false is = heard
    by_test true false d is = heard
    by_test false b d is = heard

-- the store's answers
stored_files : (entries : List Entry) (c : Client) (ino : Ino) → HoldsIn entries c → AllHeld entries (with_file ino stored c.files)
stored_files entries c ino holds = held_with entries ino stored (λ file fits. fits) c.files holds.files

read_taken : (entries : List Entry) (c : Client) (said : FromStore) (under : Under) → HoldsIn entries c → Stays entries c (take_read c said under)
read_taken entries c said Idle holds = still entries c holds
read_taken entries c said (Open number tid text asked let_go) holds = still entries c holds
read_taken entries c said (AtStore number entry ino head) holds = stays_if entries c (is_key number (key_of said)) _ (stays c)
    (record { holds = under_now entries c _ tt holds; unacked = refl; flushes = refl; none = tt }) (still entries c holds)

pub stored_stays : (entries : List Entry) (c : Client) (said : FromStore) → HoldsIn entries c → Stays entries c (on_stored c said)
stored_stays entries c said holds = stays_if entries c (from_store_fits said) (take_stored c said) (stays c) (by_said said) (still entries c holds)
  where
    by_said : (said : FromStore) → Stays entries c (take_stored c said)
    by_said (Stored ino) = record { holds = record { files = stored_files entries c ino holds; contexts = holds.contexts; under = holds.under }; unacked = refl; flushes = refl; none = tt }
    by_said (Got key bytes) = read_taken entries c (Got key bytes) c.under holds
    by_said (NotThere key) = read_taken entries c (NotThere key) c.under holds
    by_said (CloneListIs key list) = read_taken entries c (CloneListIs key list) c.under holds
