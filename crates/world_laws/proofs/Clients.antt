-- No act and no step changes how many clients there are.
use Rattle.std.proofs.Common.{◌≡◌, ℕ, ◌+◌, List, [], ◌∷◌, ◌++◌, Bool, true, false, cond, Option, None, Some, refl, ◌∙◌, IfSome}
use Rattle.std.specs.Prelude.{◌==◌}
use Rattle.snap_ids.specs.declared.id.Ino.{Ino}
use Rattle.snap_ids.specs.declared.values.Mode.{Mode}
use Rattle.plain_types.specs.declared.answer.Answer.{Answer}
use Rattle.plain_types.specs.declared.change.Change.{Change}
use Rattle.plain_types.specs.declared.entry.Entry.{Entry}
use Rattle.plain_types.specs.declared.entry.What.{What}
use Rattle.plain_types.specs.declared.history.Step.{Step}
use Rattle.plain_types.specs.declared.history.Step.TheVariants.{Op, Flush as FlushStep, ClientFromServer, ClientFromStore, ServerTakes, Commit, Restart, Tend, StoreTakes}
use Rattle.plain_types.specs.declared.message.ToServer.{ToServer}
use Rattle.plain_types.specs.declared.message.ToServer.TheVariants.{Connect, Ask, Flush, DropRead, Purged, Deleted}
use Rattle.plain_types.specs.declared.request.Request.{Request}
use Rattle.plain_types.specs.declared.script.Script.{Script}
use Rattle.step_table.specs.Row.{Row}
use Rattle.step_table.specs.ServerState.{Asked, Server, Told, Answered, Granted, WantedBack, Changed, Acked, tell, tell_at, number_of, up_to}
use Rattle.step_table.specs.Acts.{Act, TellRecall, TellAck, TellRestart, AnswerIt, GrantIt, MakeEffect, Prepare, Wait, Defer, DeferFirst, TakeHeld, TakeDeferred, TakeOperation, Buffer, SendPurge, SendDelete, Hold, Raise, MarkRecalled, Settled, LetGo, LetAllGo, act, buffer, buffer_for, answer_hand, grant_hand, effect_hand, prepare_hand, written_down, entry_for}
use Rattle.step_table.specs.Requests.{treat, decide_anew}
use Rattle.step_table.specs.Flushes.{on_flush as flush_rule, on_drop, asked_by, brought, take_in, come_back, treat_brought}
use Rattle.step_table.specs.Background.{turn}
use Rattle.step_table.specs.ServerRows.{on_take, on_report, on_commit, on_restart, on_tend, left_with, restarts, reported, back}
use Rattle.step_table.specs.ClientState.{Client}
use Rattle.step_table.specs.World.{World, Made, row, after_row, after, start, with_first, some_row, at_client, at_server, client, pop, store_node}
use Rattle.run_laws.proofs.Acts.{Fit, AnyAct, any_fit, KeptByActs, acts_keep, notices_keep, row_keeps, turn_keeps, commit_keeps, restart_keeps, take_ask, take_connect, take_flush, take_drop, take_purged, take_deleted}
use Rattle.run_laws.specs.Moments.{steps_of, world_after}
use Rattle.plain_types.specs.declared.history.Event.{Event}

abbrev Many : ℕ → Server → Type 0
Many n s = s.clients ≡ n

tells : (n : ℕ) (s : Server) (c : ℕ) (told : Told) → Many n s → Many n (tell s c told)
tells n s c told is = by_number (number_of s.current c)
  where
    by_number : (o : Option ℕ) → Many n (tell_at s c told o)
    by_number None = is
    by_number (Some conn) = is

buffers : (n : ℕ) (s : Server) (e : Entry) → Many n s → Many n (buffer s e)
buffers n s e is = notices_keep (Many n) (λ t c inos so. tells n t c (Changed inos) so) s.entries (up_to s.clients) (record s { entries = s.entries ++ e ∷ [] }) is

answers : (n : ℕ) (s : Server) (answer : Answer) (o : Option Asked) → Many n s → Many n (answer_hand s answer o)
answers n s answer None is = is
answers n s answer (Some a) is = tells n (record s { hand = None }) a.client (Answered a.tid answer) is

grants : (n : ℕ) (s : Server) (ino : Ino) (mode : Mode) (o : Option Asked) → Many n s → Many n (grant_hand s ino mode o)
grants n s ino mode None is = is
grants n s ino mode (Some a) is = tells n (record s { hand = None }) a.client (Granted a.tid ino mode) is

buffers_for : (n : ℕ) (s : Server) (a : Asked) (o : Option What) → Many n s → Many n (buffer_for s a o)
buffers_for n s a None is = is
buffers_for n s a (Some said) is = buffers n s (entry_for a said) is

effects : (n : ℕ) (s : Server) (change : Change) (o : Option Asked) → Many n s → Many n (effect_hand s change o)
effects n s change None is = is
effects n s change (Some a) is = buffers_for n s a (written_down change) is

prepares : (n : ℕ) (s : Server) (said : What) (o : Option Asked) → Many n s → Many n (prepare_hand s said o)
prepares n s said None is = is
prepares n s said (Some a) is = buffers n (record s { operation = Some a; hand = None }) (entry_for a said) is

one : (n : ℕ) (s : Server) (a : Act) → AnyAct s a → Many n s → Many n (act s a)
one n s (TellRecall c ino) fit is = tells n s c (WantedBack ino) is
one n s (TellAck c number) fit is = tells n s c (Acked number) is
one n s (TellRestart c) fit is = is
one n s (AnswerIt answer) fit is = answers n s answer s.hand is
one n s (GrantIt ino mode) fit is = grants n s ino mode s.hand is
one n s (MakeEffect change) fit is = effects n s change s.hand is
one n s (Prepare said) fit is = prepares n s said s.hand is
one n s Wait fit is = is
one n s Defer fit is = is
one n s DeferFirst fit is = is
one n s (TakeHeld c) fit is = is
one n s TakeDeferred fit is = is
one n s TakeOperation fit is = is
one n s (Buffer e) fit is = buffers n s e is
one n s (SendPurge id) fit is = is
one n s (SendDelete ino) fit is = is
one n s (Hold h) fit is = is
one n s (Raise c ino settled) fit is = is
one n s (MarkRecalled c ino) fit is = is
one n s (Settled c ino upto) fit is = is
one n s (LetGo c ino) fit is = is
one n s (LetAllGo c) fit is = is

by_acts : (n : ℕ) → KeptByActs AnyAct (Many n) (λ r. Many n r.state)
by_acts n = record { one = one n; hands = λ s is. is; anew = λ s is. any_fit s (decide_anew s) }

-- a row of the server
takes : (n : ℕ) (s : Server) (x : ℕ) (m : ToServer) → Many n s → Many n (on_take s x m).state
takes n s x (Connect conn said flushes asked) is = take_connect (by_acts n) s x conn said flushes asked is (λ above. (came asked, any_fit (back s x conn said flushes (brought x asked)) (treat_brought (back s x conn said flushes (brought x asked)) (brought x asked))))
  where
    came : (o : Option (ℕ × Request)) → Many n (back s x conn said flushes (brought x o))
    came None = acts_keep {F = AnyAct} {Q = Many n} (one n) (come_back s x said flushes) s (any_fit s (come_back s x said flushes)) is
    came (Some r) = acts_keep {F = AnyAct} {Q = Many n} (one n) (come_back s x said flushes) s (any_fit s (come_back s x said flushes)) is
takes n s x (Ask conn tid asked) is = take_ask (by_acts n) s x conn tid asked is (λ now. (is, any_fit (take_in s (asked_by x tid asked)) (treat false (take_in s (asked_by x tid asked)) (asked_by x tid asked))))
takes n s x (Flush conn f) is = take_flush (by_acts n) s x conn f is (any_fit s (flush_rule x s f))
takes n s x (DropRead conn ino) is = take_drop (by_acts n) s x conn ino is (any_fit s (on_drop x s ino))
takes n s x (Purged id) is = take_purged (by_acts n) s x id is
takes n s x (Deleted ino) is = take_deleted (by_acts n) s x ino is

reports : (n : ℕ) (s : Server) (m : ToServer) → Many n s → Many n (on_report s m).state
reports n s m is = row_keeps (by_acts n) s (reported s m) (any_fit s (reported s m)) is

tends : (n : ℕ) (s : Server) → Many n s → IfSome (on_tend s) (λ r. Many n r.state)
tends n s is = turn_keeps (by_acts n) s (fits (turn s)) is
  where
    fits : (o : Option (List Act)) → IfSome o (Fit AnyAct s)
    fits None = tt
    fits (Some list) = any_fit s list

commits : (n : ℕ) (s : Server) → Many n s → IfSome (on_commit s) (λ r. Many n r.state)
commits n s is = commit_keeps {Q = Many n} {After = λ r. Many n r.state} (λ r e so. so) (λ t so. so) s is

begins_anew : (n : ℕ) (s : Server) (k : ℕ) → Many n s → IfSome (on_restart s k) (λ r. Many n r.state)
begins_anew n s k is = restart_keeps {After = λ r. Many n r.state} (λ r e so. so) (by_acts n) s k (λ may. (is, any_fit (left_with s (s.durable + k)) (restarts (left_with s (s.durable + k)))))

-- a step of the world
abbrev Stay : World → Option Made → Type 0
Stay w o = (after_row w o).server.clients ≡ w.server.clients

by_client : (w v : World) (n : ℕ) (o : Option (Row Client)) → v.server ≡ w.server → Stay w (some_row (at_client n v None) o)
by_client w v n None same = refl
by_client w v n (Some r) same = (λ i. (same i).clients)

by_server : (w : World) (o : Option (Row Server)) → IfSome o (λ r. Many w.server.clients r.state) → Stay w (some_row (at_server w None) o)
by_server w None is = refl
by_server w (Some r) is = is

with_it : (w : World) (o : Option Client) (go_on : Client → Option Made) → ((c : Client) → Stay w (go_on c)) → Stay w (elim o [ None ↦ None | Some c ↦ go_on c ])
with_it w None go_on stays = refl
with_it w (Some c) go_on stays = stays c

with_that : {M : Type 0} (w : World) (o : Option (M × List (ℕ × M))) (go_on : List (ℕ × M) → M → Option Made) → ((left : List (ℕ × M)) (m : M) → Stay w (go_on left m)) → Stay w (elim o [ None ↦ None | Some found ↦ go_on found.1 found.0 ])
with_that w None go_on stays = refl
with_that w (Some found) go_on stays = stays found.1 found.0

with_one : {M : Type 0} (w : World) (list : List M) (go_on : List M → M → Option Made) → ((left : List M) (m : M) → Stay w (go_on left m)) → Stay w (with_first list go_on)
with_one w [] go_on stays = refl
with_one w (m ∷ left) go_on stays = stays left m

if_store : (w : World) (b : Bool) (x y : Option Made) → Stay w x → Stay w y → Stay w (cond b x y)
if_store w true x y here there = here
if_store w false x y here there = there

step_stays : (w : World) (step : Step) → Stay w (row w step)
step_stays w (Op n) = with_it w (client w.clients n) _ (λ c. by_client w w n _ refl)
step_stays w (FlushStep n) = with_it w (client w.clients n) _ (λ c. by_client w w n _ refl)
step_stays w (ClientFromServer n) = with_that w (pop n w.down) _ (λ left m. with_it w (client w.clients n) _ (λ c. refl))
step_stays w (ClientFromStore n) = with_that w (pop n w.stored) _ (λ left m. with_it w (client w.clients n) _ (λ c. refl))
step_stays w (ServerTakes n) = if_store w (n == store_node w) _ _ (with_one w w.reported _ (λ left m. reports w.server.clients w.server m refl)) (with_that w (pop n w.up) _ (λ left m. takes w.server.clients w.server n m refl))
step_stays w Commit = by_server w (on_commit w.server) (commits w.server.clients w.server refl)
step_stays w (Restart k) = by_server w (on_restart w.server k) (begins_anew w.server.clients w.server k refl)
step_stays w Tend = by_server w (on_tend w.server) (tends w.server.clients w.server refl)
step_stays w (StoreTakes n) = if_store w (n == 0) _ _ (with_one w w.ordered _ (λ left m. refl)) (with_that w (pop n w.asked) _ (λ left m. refl))

pub run_stays : (w : World) (steps : List Step) → (after w steps).server.clients ≡ w.server.clients
run_stays w [] = refl
run_stays w (step ∷ steps) = run_stays (after_row w (row w step)) steps ∙ step_stays w step

pub stays : (script : Script) (history : List Event) → (world_after script history).server.clients ≡ script.clients
stays script history = run_stays (start script) (steps_of history)
