-- What a request can make, and when a client's request is a new one.
use Rattle.std.proofs.Common.{◌≡◌, ◌<◌, ℕ, ◌+◌, List, [], ◌∷◌, Bool, true, false, cond, Option, None, Some, refl, ap, subst, IfSome, arith, ◌⊎◌, inl, inr}
use Rattle.std.specs.Prelude.{◌==◌, ◌&&◌, not, is_some, Result, Ok, Err}
use Rattle.std.specs.List.{list_any}
use Rattle.snap_ids.specs.declared.id.Ino.{Ino}
use Rattle.snap_ids.specs.declared.id.SnapId.{SnapId}
use Rattle.snap_ids.specs.declared.values.Mode.{Mode}
use Rattle.snap_ids.specs.declared.values.Mode.TheVariants.{Read, Write}
use Rattle.snap_ids.specs.Name.{is_new_snap}
use Rattle.snap_ids.specs.Path.{Place, Live, Snaps, InSnap, place_of}
use Rattle.plain_types.specs.declared.answer.Answer.{Answer}
use Rattle.plain_types.specs.declared.answer.Answer.TheVariants as answer
use Rattle.plain_types.specs.declared.answer.Refusal.{Refusal}
use Rattle.plain_types.specs.declared.answer.Refusal.TheVariants.{BadName, Exists, TooManySnaps, TooManyLive, BadHandle}
use Rattle.plain_types.specs.declared.change.Change.{Change}
use Rattle.plain_types.specs.declared.change.Change.TheVariants as change
use Rattle.plain_types.specs.declared.message.FileTrace.{FileTrace}
use Rattle.plain_types.specs.declared.message.Stamp.{Stamp}
use Rattle.plain_types.specs.declared.message.ToClient.{ToClient}
use Rattle.plain_types.specs.declared.message.ToClient.TheVariants.{Reply, Grant, Recall, Notice, FlushAck, Welcome, Restarted}
use Rattle.plain_types.specs.declared.request.Request.{Request}
use Rattle.plain_types.specs.declared.request.Request.TheVariants as request
use Rattle.plain_types.specs.declared.script.Line.{Line}
use Rattle.plain_types.specs.declared.script.Line.TheVariants as line
use Rattle.plain_tree.specs.State.{State, Snapshot, Handle, kind_in, next_ino}
use Rattle.plain_tree.specs.Change.{own_snap, has_all_snaps, are_all_live, open_of}
use Rattle.plain_tree.specs.Line.{request_of, data_change}
use Rattle.plain_tree.specs.Request.{tree_of, walk_live, new_entry, to_unlink, to_remove, to_link, to_move, new_snap, mkdir, remove_snap, roots_snap, rmdir, create, unlink, link, rename, open_file, change_asked}
use Rattle.plain_journal.specs.Entries.{change_in}
use Rattle.held_files.specs.Files.{is_writer, is_held, is_ino}
use Rattle.step_table.specs.Messages.{to_client_fits}
use Rattle.step_table.specs.Row.{Row}
use Rattle.step_table.specs.Acts.{written_down}
use Rattle.step_table.specs.ClientState.{Client, Under, Idle, Open, AtStore, Edit, edit_of, open_request, stays, asks, edits, reads_head}
use Rattle.step_table.specs.ClientLines.{edit_file, edit_line, read_line, opened, begin_asked, begin_other, begin_with, begin, may_begin, op_of}
use Rattle.step_table.specs.ClientTakes.{having_heard, may_take, goes_on, granted, asks_for, take_grant, with_found, found, asks_anew, take_answer, takes_answer, take_reply, wants_bytes, on_told}
use Rattle.run_laws.specs.Links.{Offer}
use Rattle.run_laws.specs.Requests.{answer_to_tid, answer_at}
use Rattle.run_laws.specs.Answered.{CanMake}
use Rattle.run_laws.proofs.Clients.{Keeps, Begins, renews}
use Rattle.run_laws.proofs.Fitting.{OkIs, then_ok, directory_ok, file_ok, unless_ok, if_ok, live_ok}
use Rattle.run_laws.proofs.Told.{ToldRow, IsAnswer}

mkdir_makes : (state : State) (id : SnapId) (path : _) (p : Place) → OkIs (mkdir state id p) (CanMake (request.Mkdir path))
mkdir_makes state id path (Live way) = then_ok (new_entry (tree_of state) (next_ino state) way) (λ new. Ok (change.Mkdir new.dir new.name new.ino)) (CanMake (request.Mkdir path)) (λ new. tt)
mkdir_makes state id path (Snaps dir) = tt
mkdir_makes state id path (InSnap dir name (below ∷ rest)) = tt
mkdir_makes state id path (InSnap dir name []) = let asked = request.Mkdir path in then_ok (walk_live (tree_of state) dir) (new_snap state id name) (CanMake asked) (λ at. directory_ok (kind_in state.inodes at) _ (CanMake asked)
    (unless_ok (not (is_new_snap name)) BadName _ (CanMake asked)
    (unless_ok (is_some (own_snap state.snaps at name)) Exists _ (CanMake asked)
    (unless_ok (has_all_snaps state.snaps at) TooManySnaps _ (CanMake asked)
    (unless_ok (are_all_live state.snaps) TooManyLive (Ok (change.Mksnap id at name)) (CanMake asked) tt)))))

rmdir_makes : (state : State) (asked : _) (p : Place) → OkIs (rmdir state p) (CanMake (request.Rmdir asked))
rmdir_makes state asked (Live path) = then_ok (to_remove (roots_snap state.snaps) (tree_of state) path) (λ old. Ok (change.Rmdir old.dir old.name)) (CanMake (request.Rmdir asked)) (λ old. tt)
rmdir_makes state asked (Snaps dir) = tt
rmdir_makes state asked (InSnap dir name (below ∷ rest)) = tt
rmdir_makes state asked (InSnap path name []) = then_ok (walk_live (tree_of state) path) _ (CanMake (request.Rmdir asked)) (λ dir. directory_ok (kind_in state.inodes dir) (remove_snap (own_snap state.snaps dir name)) (CanMake (request.Rmdir asked)) (removed (own_snap state.snaps dir name)))
  where
    removed : (o : Option Snapshot) → OkIs (remove_snap o) (CanMake (request.Rmdir asked))
    removed None = tt
    removed (Some snap) = tt

pub can_come : (state : State) (client : ℕ) (id : SnapId) (asked : Request) → IfSome (change_asked state client id asked) (λ (r : Result Change Refusal). OkIs r (CanMake asked))
can_come state client id (request.Mkdir path) = mkdir_makes state id path (place_of path)
can_come state client id (request.Rmdir path) = rmdir_makes state path (place_of path)
can_come state client id (request.Create path mode) = let asked = request.Create path mode in live_ok (place_of path) (create state mode) (CanMake asked) (λ p. then_ok (new_entry (tree_of state) (next_ino state) p) _ (CanMake asked) (λ new. refl))
can_come state client id (request.Unlink path) = let asked = request.Unlink path in live_ok (place_of path) (unlink state) (CanMake asked) (λ p. then_ok (to_unlink (tree_of state) p) _ (CanMake asked) (λ old. tt))
can_come state client id (request.Link path target) = let asked = request.Link path target in live_ok (place_of path) _ (CanMake asked) (λ from. live_ok (place_of target) (link state from) (CanMake asked) (λ p. then_ok (to_link (tree_of state) from p) _ (CanMake asked) (λ new. tt)))
can_come state client id (request.Rename path target) = let asked = request.Rename path target in live_ok (place_of path) _ (CanMake asked) (λ from. live_ok (place_of target) (rename state from) (CanMake asked) (λ p. then_ok (to_move (tree_of state) from p) _ (CanMake asked) (λ both. tt)))
can_come state client id (request.Chmod path mode) = let asked = request.Chmod path mode in live_ok (place_of path) _ (CanMake asked) (λ p. then_ok (walk_live (tree_of state) p) _ (CanMake asked) (λ ino. refl))
can_come state client id (request.Open handle path writable) = let asked = request.Open handle path writable in live_ok (place_of path) (open_file state client handle writable) (CanMake asked) (λ p. unless_ok (is_some (open_of state.handles client handle)) BadHandle _ (CanMake asked) (then_ok (walk_live (tree_of state) p) _ (CanMake asked) (λ ino. file_ok (kind_in state.inodes ino) (Ok (change.OpenFile handle ino writable)) (CanMake asked) (refl, refl))))
can_come state client id (request.Close handle) = if_ok (is_some (open_of state.handles client handle)) (Ok (change.CloseFile handle)) (Err BadHandle) (CanMake (request.Close handle)) refl tt
can_come state client id asked = tt

-- an entry that is written down says its change
pub written_in : (made : Change) → IfSome (written_down made) (λ said. change_in said ≡ Some made)
written_in made = by_change made
  where
    by_change : (made : Change) → IfSome (written_down made) (λ said. change_in said ≡ Some made)
    by_change (change.WriteFile handle offset bytes) = tt
    by_change (change.Truncate handle size) = tt
    by_change made = refl

-- What is open after a row is what was, or has a greater number than each before it.
abbrev pub IsNew : ℕ → Option (ℕ × Request) → Option (ℕ × Request) → Type 0
IsNew least before after = (after ≡ before) ⊎ IfSome after (λ r. least < r.0)

abbrev New : Client → Row Client → Type 0
New c r = IsNew c.tid (open_request c.under) (open_request r.state.under)

new_if : (c : Client) (b : Bool) (x y : Row Client) → New c x → New c y → New c (cond b x y)
new_if c true x y here other = here
new_if c false x y here other = other

edit_new : (c : Client) (number : ℕ) (text : Line) (e : Edit) (ino : Ino) (o : Result Change Refusal) → New c (edit_file c number text e ino o)
edit_new c number text e ino (Err refusal) = inl refl
edit_new c number text e ino (Ok made) = new_if c (is_writer ino c.files) (edits c number ino e) (asks c number text (request.Cap ino Write)) (inr tt) (inr (omega arith))

edit_line_new : (c : Client) (number : ℕ) (text : Line) (e : Edit) (o : Option Handle) → New c (edit_line c number text e o)
edit_line_new c number text e None = inl refl
edit_line_new c number text e (Some h) = edit_new c number text e h.ino (data_change (Some h) e.ends e.change)

read_new : (c : Client) (number : ℕ) (text : Line) (o : Option Handle) → New c (read_line c number text o)
read_new c number text None = inl refl
read_new c number text (Some h) = new_if c (is_held h.ino c.files) (reads_head c number 0 h.ino) (asks c number text (request.Cap h.ino Read)) (inr tt) (inr (omega arith))

asked_new : (c : Client) (number : ℕ) (text : Line) (o : Option Request) → New c (begin_asked c number text o)
asked_new c number text None = inl refl
asked_new c number text (Some asked) = inr (omega arith)

other_new : (c : Client) (number : ℕ) (text : Line) → New c (begin_other c number text)
other_new c number (line.Read handle) = read_new c number (line.Read handle) (opened c handle)
other_new c number line.Barrier = inr (omega arith)
other_new c number line.Break = inl (ap (λ (o : Offer). o.asked) (renews c).state)
other_new c number text = asked_new c number text (request_of text)

with_new : (c : Client) (number : ℕ) (text : Line) (o : Option Edit) → New c (begin_with c number text o)
with_new c number text (Some e) = edit_line_new c number text e (opened c e.handle)
with_new c number text None = other_new c number text

pub op_new : (c : Client) (lines : List Line) → IfSome (op_of c lines) (New c)
op_new c [] = tt
op_new c (text ∷ rest) = by_test (not c.frozen && may_begin c.under text)
  where
    by_test : (b : Bool) → IfSome (cond b (Some (begin (record c { lines = rest; begun = c.begun + 1 }) (c.begun + 1) text)) None) (New c)
    by_test true = with_new (record c { lines = rest; begun = c.begun + 1 }) (c.begun + 1) text (edit_of text)
    by_test false = tt

-- an answer is taken
goes_on_new : (c : Client) (before : Option (ℕ × Request)) (least number : ℕ) (ino : Ino) (o : Option Edit) → IsNew least before (open_request (goes_on c number ino o).state.under)
goes_on_new c before least number ino (Some e) = inr tt
goes_on_new c before least number ino None = inr tt

grant_new : (c : Client) (tid : ℕ) (stamp : Stamp) (ino : Ino) (mode : Mode) (size : ℕ) (file : FileTrace) (under : Under) → New c (take_grant c tid stamp ino mode size file under)
grant_new c tid stamp ino mode size file Idle = inl refl
grant_new c tid stamp ino mode size file (AtStore number entry other head) = inl refl
grant_new c tid stamp ino mode size file (Open number open_tid text asked let_go) =
    new_if c (open_tid == tid && asks_for asked ino mode && not (is_writer ino c.files)) (goes_on (granted c ino mode size stamp.snap file) number ino (edit_of text)) (stays c)
    (goes_on_new (granted c ino mode size stamp.snap file) (open_request c.under) c.tid number ino (edit_of text)) (inl refl)

answer_new : (c : Client) (number : ℕ) (text : Line) (asked : Request) (let_go : List Ino) (stamp : Stamp) (said : Answer) → New c (take_answer c number text asked let_go stamp said)
answer_new c number text asked let_go stamp (answer.FoundLive ino perm size write_held) = new_if c (list_any (is_ino ino) let_go) (asks_anew c number text asked ino) (with_found (found c ino size stamp.snap write_held) number asked stamp.entry ino perm)
    (inr (omega arith))
    (by_wants (wants_bytes asked) refl)
  where
    by_wants : (b : Bool) → wants_bytes asked ≡ b → New c (with_found (found c ino size stamp.snap write_held) number asked stamp.entry ino perm)
    by_wants true is = rw is (inr tt)
    by_wants false is = rw is (inr tt)
answer_new c number text asked let_go stamp (answer.FoundSnap ino snap size) = inr tt
answer_new c number text asked let_go stamp (answer.FoundObject ino index) = inr tt
answer_new c number text asked let_go stamp said = inr tt

reply_new : (c : Client) (tid : ℕ) (stamp : Stamp) (said : Answer) (under : Under) → New c (take_reply c tid stamp said under)
reply_new c tid stamp said Idle = inl refl
reply_new c tid stamp said (AtStore number entry ino head) = inl refl
reply_new c tid stamp said (Open number open_tid text asked let_go) = new_if c (open_tid == tid && takes_answer c said) (take_answer c number text asked let_go stamp said) (stays c) (answer_new c number text asked let_go stamp said) (inl refl)

-- a message that is no answer
quiet_new : (c : Client) (m : ToClient) (r : Row Client) → answer_to_tid m ≡ None → ToldRow c m r → New c r
quiet_new c m r none (inl here) = by_row here.1
  where
    by_row : (Begins c r × IsAnswer c m) ⊎ Keeps c r → New c r
    by_row (inl begin) = absurd (one_more (subst (λ (a : Option (ℕ × ℕ)). answer_at c.conn a 0 ≡ 0 + 1) none (begin.1 0)))
      where
        one_more : 0 ≡ 0 + 1 → ⊥
        one_more is = omega (arith, is)
    by_row (inr keep) = inl keep.same
quiet_new c m r none (inr (inl renew)) = inl (ap (λ (o : Offer). o.asked) renew.1.state)
quiet_new c m r none (inr (inr (inl hail))) = inl hail.1.same
quiet_new c m r none (inr (inr (inr skip))) = inl (ap (λ (o : Offer). o.asked) skip.1.state)

pub told_new : (c : Client) (m : ToClient) → ToldRow c m (on_told c m) → New c (on_told c m)
told_new c (Reply conn tid stamp said) row = let m = Reply conn tid stamp said in
    new_if c (may_take c m && to_client_fits m) (take_reply (having_heard c m) tid stamp said c.under) (stays (having_heard c m)) (reply_new (having_heard c m) tid stamp said c.under) (inl refl)
told_new c (Grant conn tid stamp ino mode size file) row = let m = Grant conn tid stamp ino mode size file in
    new_if c (may_take c m && to_client_fits m) (take_grant (having_heard c m) tid stamp ino mode size file c.under) (stays (having_heard c m)) (grant_new (having_heard c m) tid stamp ino mode size file c.under) (inl refl)
told_new c (Recall conn stamp ino) row = quiet_new c (Recall conn stamp ino) _ refl row
told_new c (Notice conn stamp update) row = quiet_new c (Notice conn stamp update) _ refl row
told_new c (FlushAck conn stamp number) row = quiet_new c (FlushAck conn stamp number) _ refl row
told_new c (Welcome conn stamp last update) row = quiet_new c (Welcome conn stamp last update) _ refl row
told_new c (Restarted stamp) row = quiet_new c (Restarted stamp) _ refl row
