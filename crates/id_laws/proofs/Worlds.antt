-- Along each run nothing that is kept, said, told or entered names an id above the newest one.
use Rattle.std.proofs.Common.{◌≡◌, ◌≤◌, ℕ, ◌+◌, List, [], ◌∷◌, ◌++◌, map, take, drop, length, length-append, Bool, true, false, cond, Option, None, Some, refl, sym, ◌∙◌, subst, IfSome, arith}
use Rattle.std.proofs.lemmas.List.{take-append-le, take-append-drop, length-take-le}
use Rattle.std.proofs.Math.Seq.{take-length}
use Rattle.std.specs.Prelude.{◌==◌}
use Rattle.std.specs.List.{AllByRecursion, list_all}
use Rattle.plain_types.specs.declared.entry.Entry.{Entry}
use Rattle.plain_types.specs.declared.history.Sent.{Sent}
use Rattle.plain_types.specs.declared.history.Step.{Step}
use Rattle.plain_types.specs.declared.history.Step.TheVariants.{Op, Flush as FlushStep, ClientFromServer, ClientFromStore, ServerTakes, Commit, Restart, Tend, StoreTakes}
use Rattle.plain_types.specs.declared.message.Claim.{Claim}
use Rattle.plain_types.specs.declared.message.FlushMsg.{FlushMsg}
use Rattle.plain_types.specs.declared.message.ToClient.{ToClient}
use Rattle.plain_types.specs.declared.message.ToServer.{ToServer}
use Rattle.plain_types.specs.declared.message.ToServer.TheVariants.{Connect, Ask, Flush, DropRead, Purged, Deleted}
use Rattle.plain_types.specs.declared.request.Request.{Request}
use Rattle.plain_types.specs.declared.script.Script.{Script}
use Rattle.step_table.specs.Messages.{claim_fits, flush_fits as flush_can, to_server_fits}
use Rattle.step_table.specs.Row.{Row}
use Rattle.step_table.specs.ServerState.{Asked, Server, up_to, welcome}
use Rattle.step_table.specs.Acts.{Act, act, acts, goes, hand_out}
use Rattle.step_table.specs.Flushes.{on_drop, asked_by, brought, take_in, take_in_brought, treat_brought, connected, come_back}
use Rattle.step_table.specs.Requests.{treat}
use Rattle.step_table.specs.ServerRows.{back, drops, taken_from, on_take, on_report, on_commit, on_restart, on_tend, left_with, restarts, reported}
use Rattle.step_table.specs.ClientState.{Client, new_client}
use Rattle.step_table.specs.ClientLines.{on_op, on_flush}
use Rattle.step_table.specs.ClientTakes.{on_told, on_stored}
use Rattle.step_table.specs.World.{World, Made, row, after_row, after, start, lines_of, with_client, with_message, with_first, some_row, at_client, at_server, client, put, pop, tagged, store_node, client_takes, client_takes_stored, server_takes, server_takes_report, store_takes, store_takes_order, to_clients, to_server as for_server}
use Rattle.run_laws.proofs.Acts.{Fit, KeptByActs, acts_keep, row_keeps, take_ask, take_connect, take_flush, take_drop, take_purged, take_deleted, turn_keeps, commit_keeps, restart_keeps}
use Rattle.run_laws.proofs.Growing.{by_entries, room, take_take}
use Rattle.run_laws.proofs.Known.{longer, from_front}
use Rattle.run_laws.proofs.Moves.{act_keeps}
use Rattle.run_laws.specs.Stamps.{entry_of}
use Rattle.id_laws.specs.Upto.{FlushUpto, SaidUpto, Every, KeepsUpto}
use Rattle.id_laws.proofs.Clients.{RowUpto, op_upto, flush_upto, told_upto, stored_upto}
use Rattle.id_laws.proofs.Entering.{AllNameUpto, EntryFits, CanEnter, names_front, said_fit, anew_said, one_entered, second, can_enter, all_enter, flush_fits, back_fits}
use Rattle.id_laws.proofs.Finishing.{turn_fits}
use Rattle.id_laws.proofs.Keeps.{every_weaker, told_weaker, flush_weaker, said_weaker, keeps_weaker}
use Rattle.id_laws.proofs.Lists.{all_append, all_weaker, every_pop, every_tagged, every_client, every_put}
use Rattle.id_laws.proofs.Newest.{newest, newest_grows, newest_least, newest_take}
use Rattle.id_laws.proofs.Saying.{said_treat, said_drop, said_reported, said_restarts}
use Rattle.id_laws.proofs.Posted.{TellsUpto, MailUpto, tells_more, stamp_upto, mail_waits, gone_upto, one_posted, welcome_posted}

-- the clients and channels, over the durable entries
pub record Named (entries : List Entry) (clients : List (ℕ × Client)) (up : List (ℕ × ToServer)) (down : List (ℕ × ToClient)) : Type 0 where
  pub keeps : Every (KeepsUpto (newest entries)) clients
  pub says : Every (SaidUpto (newest entries)) up
  pub tells : Every (TellsUpto entries) down

named_more : (clients : List (ℕ × Client)) (up : List (ℕ × ToServer)) (down : List (ℕ × ToClient)) (entries more : List Entry) → Named entries clients up down → Named (entries ++ more) clients up down
named_more clients up down entries more is = record {
  keeps = every_weaker (KeepsUpto (newest entries)) (KeepsUpto (newest (entries ++ more))) (keeps_weaker (newest entries) (newest (entries ++ more)) (newest_grows entries more)) clients is.keeps;
  says = every_weaker (SaidUpto (newest entries)) (SaidUpto (newest (entries ++ more))) (said_weaker (newest entries) (newest (entries ++ more)) (newest_grows entries more)) up is.says;
  tells = every_weaker (TellsUpto entries) (TellsUpto (entries ++ more)) (tells_more entries more) down is.tells;
}

abbrev front : Server → List Entry
front s = take s.durable s.entries

-- the server's entries and mail, and what is around it
pub record Within (clients : List (ℕ × Client)) (up : List (ℕ × ToServer)) (down : List (ℕ × ToClient)) (entries : List Entry) (durable : ℕ) (mail : List (ℕ × Sent)) : Type 0 where
  pub fits : durable ≤ length entries
  pub entered : AllNameUpto 1 entries
  pub posted : MailUpto entries mail
  pub around : Named (take durable entries) clients up down

abbrev pub Holds : List (ℕ × Client) → List (ℕ × ToServer) → List (ℕ × ToClient) → Server → Type 0
Holds clients up down s = Within clients up down s.entries s.durable s.mail

-- acts leave what is durable
front_same : (s : Server) (a : Act) → s.durable ≤ length s.entries → ((act s a).durable ≤ length (act s a).entries) × (front (act s a) ≡ front s)
front_same s a fits = act_keeps (by_entries (λ entries durable. (durable ≤ length entries) × (take durable entries ≡ front s)) enters) s a (fits, refl)
  where
    enters : (t : Server) (e : Entry) → (t.durable ≤ length t.entries) × (front t ≡ front s) → (t.durable ≤ length (t.entries ++ e ∷ [])) × (take t.durable (t.entries ++ e ∷ []) ≡ front s)
    enters t e so = (let less = so.0 in grind (arith, less, length-append), take-append-le t.durable t.entries (e ∷ []) so.0 ∙ so.1)

one : (clients : List (ℕ × Client)) (up : List (ℕ × ToServer)) (down : List (ℕ × ToClient)) (s : Server) (a : Act) → EntryFits s a → Holds clients up down s → Holds clients up down (act s a)
one clients up down s a fit k = let same = front_same s a k.fits in record {
  fits = same.0;
  entered = one_entered s a fit k.entered;
  posted = one_posted s a fit k.posted;
  around = subst (λ (l : List Entry). Named l clients up down) (sym same.1) k.around;
}

-- after a row of the server
abbrev After : List (ℕ × Client) → List (ℕ × ToServer) → List (ℕ × ToClient) → Row Server → Type 0
After clients up down r = Holds clients up (down ++ to_clients r.sent) r.state

hands : (clients : List (ℕ × Client)) (up : List (ℕ × ToServer)) (down : List (ℕ × ToClient)) (s : Server) → Holds clients up down s → After clients up down (hand_out s)
hands clients up down s k = record {
  fits = k.fits;
  entered = k.entered;
  posted = mail_waits s.entries s.durable s.mail k.posted;
  around = record {
    keeps = k.around.keeps;
    says = k.around.says;
    tells = all_append (λ (m : ℕ × ToClient). TellsUpto (front s) m.1) down (to_clients (goes s.durable s.mail)) k.around.tells (gone_upto s.entries s.durable k.fits s.mail k.posted);
  };
}

by_acts : (clients : List (ℕ × Client)) (up : List (ℕ × ToServer)) (down : List (ℕ × ToClient)) → KeptByActs EntryFits (Holds clients up down) (After clients up down)
by_acts clients up down = record {
  one = λ s a fit k. one clients up down s a fit k;
  hands = λ s k. hands clients up down s k;
  anew = λ s k. anew_said s.held s;
}

-- it takes a message of a client
treats : (t : Server) (o : Option Asked) → Fit EntryFits t (treat_brought t o)
treats t None = tt
treats t (Some a) = said_fit (treat false t a) t (said_treat t false a)

in_hand : (clients : List (ℕ × Client)) (up : List (ℕ × ToServer)) (down : List (ℕ × ToClient)) (t : Server) (o : Option Asked) → Holds clients up down t → Holds clients up down (take_in_brought t o)
in_hand clients up down t None k = k
in_hand clients up down t (Some a) k = k

welcomed : (clients : List (ℕ × Client)) (up : List (ℕ × ToServer)) (down : List (ℕ × ToClient)) (t : Server) (x conn : ℕ) → Holds clients up down t → Holds clients up down (welcome (connected t x conn) x conn)
welcomed clients up down t x conn k = record { fits = k.fits; entered = k.entered; posted = welcome_posted (connected t x conn) x conn k.posted; around = k.around }

connects : (clients : List (ℕ × Client)) (up : List (ℕ × ToServer)) (down : List (ℕ × ToClient)) (s : Server) (x conn : ℕ) (said : List Claim) (flushes : List FlushMsg) (asked : Option (ℕ × Request))
    → AllByRecursion (CanEnter (newest s.entries)) flushes → Holds clients up down s → After clients up down (on_take s x (Connect conn said flushes asked))
connects clients up down s x conn said flushes asked enter k = take_connect (by_acts clients up down) s x conn said flushes asked k (λ above. (
  in_hand clients up down (welcome (connected come x conn) x conn) (brought x asked) (welcomed clients up down come x conn (acts_keep (by_acts clients up down).one (come_back s x said flushes) s (back_fits x s said flushes enter) k)),
  treats (back s x conn said flushes (brought x asked)) (brought x asked),
))
  where
    come : Server
    come = acts s (come_back s x said flushes)

takes : (clients : List (ℕ × Client)) (up : List (ℕ × ToServer)) (down : List (ℕ × ToClient)) (s : Server) (x : ℕ) (m : ToServer) → SaidUpto (newest (front s)) m → Holds clients up down s → After clients up down (on_take s x m)
takes clients up down s x (Connect conn said flushes asked) is k = by_test (to_server_fits m) refl
  where
    m : ToServer
    m = Connect conn said flushes asked

    upto : AllByRecursion (FlushUpto (newest s.entries)) flushes
    upto = all_weaker _ _ (flush_weaker (newest (front s)) (newest s.entries) (newest_take s.durable s.entries)) flushes is.1

    by_test : (b : Bool) → to_server_fits m ≡ b → After clients up down (on_take s x m)
    by_test true fine = connects clients up down s x conn said flushes asked (all_enter (newest s.entries) flushes upto (second (list_all claim_fits said) (list_all flush_can flushes) fine)) k
    by_test false fine = subst (λ (b : Bool). After clients up down (cond b (taken_from s x m) (drops s))) (sym fine) (hands clients up down s k)
takes clients up down s x (Ask conn tid asked) is k = take_ask (by_acts clients up down) s x conn tid asked k (λ current.
    (k, said_fit (treat false (take_in s (asked_by x tid asked)) (asked_by x tid asked)) (take_in s (asked_by x tid asked)) (said_treat (take_in s (asked_by x tid asked)) false (asked_by x tid asked))))
takes clients up down s x (Flush conn f) is k = by_test (flush_can f) refl
  where
    upto : FlushUpto (newest s.entries) f
    upto = flush_weaker (newest (front s)) (newest s.entries) (newest_take s.durable s.entries) f is

    by_test : (b : Bool) → flush_can f ≡ b → After clients up down (on_take s x (Flush conn f))
    by_test true fine = take_flush (by_acts clients up down) s x conn f k (flush_fits x s f (can_enter (newest s.entries) f upto fine))
    by_test false fine = subst (λ (b : Bool). After clients up down (cond b (taken_from s x (Flush conn f)) (drops s))) (sym fine) (hands clients up down s k)
takes clients up down s x (DropRead conn ino) is k = take_drop (by_acts clients up down) s x conn ino k (said_fit (on_drop x s ino) s (said_drop x s ino))
takes clients up down s x (Purged id) is k = take_purged (by_acts clients up down) s x id k
takes clients up down s x (Deleted ino) is k = take_deleted (by_acts clients up down) s x ino k

-- its own time
durable_holds : (clients : List (ℕ × Client)) (up : List (ℕ × ToServer)) (down : List (ℕ × ToClient)) (s : Server) → Holds clients up down s → Holds clients up down (record s { durable = length s.entries })
durable_holds clients up down s k = record {
  fits = omega arith;
  entered = k.entered;
  posted = k.posted;
  around = subst (λ (l : List Entry). Named l clients up down) (sym (take-length s.entries)) (from_front (λ (l : List Entry). Named l clients up down) (named_more clients up down) s.durable s.entries k.around);
}

left_holds : (clients : List (ℕ × Client)) (up : List (ℕ × ToServer)) (down : List (ℕ × ToClient)) (s : Server) (k : ℕ) → s.durable + k ≤ length s.entries → Holds clients up down s → Holds clients up down (left_with s (s.durable + k))
left_holds clients up down s k fits h = record {
  fits = let long = length-take-le (s.durable + k) s.entries fits in omega (arith, long);
  entered = names_front 1 (take (s.durable + k) s.entries) (drop (s.durable + k) s.entries) (subst (AllNameUpto 1) (sym (take-append-drop (s.durable + k) s.entries)) h.entered);
  posted = tt;
  around = subst (λ (l : List Entry). Named l clients up down) (sym (take_take (s.durable + k) (s.durable + k) s.entries (omega arith) fits))
      (longer (λ (l : List Entry). Named l clients up down) (named_more clients up down) s.durable (s.durable + k) s.entries (omega arith) fits h.around);
}

reports : (clients : List (ℕ × Client)) (up : List (ℕ × ToServer)) (down : List (ℕ × ToClient)) (s : Server) (m : ToServer) → Holds clients up down s → After clients up down (on_report s m)
reports clients up down s m k = row_keeps (by_acts clients up down) s (reported s m) (said_fit (reported s m) s (said_reported s m)) k

commits : (clients : List (ℕ × Client)) (up : List (ℕ × ToServer)) (down : List (ℕ × ToClient)) (s : Server) → Holds clients up down s → IfSome (on_commit s) (After clients up down)
commits clients up down s k = commit_keeps {Q = Holds clients up down} {After = After clients up down} (λ r e after. after) (λ t so. hands clients up down t so) s (durable_holds clients up down s k)

tends : (clients : List (ℕ × Client)) (up : List (ℕ × ToServer)) (down : List (ℕ × ToClient)) (s : Server) → Holds clients up down s → IfSome (on_tend s) (After clients up down)
tends clients up down s k = turn_keeps (by_acts clients up down) s (turn_fits s) k

restarted : (clients : List (ℕ × Client)) (up : List (ℕ × ToServer)) (down : List (ℕ × ToClient)) (s : Server) (j : ℕ) → Holds clients up down s → IfSome (on_restart s j) (After clients up down)
restarted clients up down s j k = restart_keeps (λ r e after. after) (by_acts clients up down) s j (λ some. (
  left_holds clients up down s j (room j s some k.fits) k,
  said_fit (restarts (left_with s (s.durable + j))) (left_with s (s.durable + j)) (said_restarts (left_with s (s.durable + j))),
))

-- one step
abbrev pub Fine : World → Type 0
Fine w = Holds w.clients w.up w.down w.server

pub fine_step : (w : World) (step : Step) → Fine w → Fine (after_row w (row w step))
fine_step w step k = by_step step
  where
    last : ℕ
    last = newest (front w.server)

    low : 1 ≤ last
    low = newest_least (front w.server)

    Good : Option Made → Type 0
    Good o = Fine (after_row w o)

    by_client : (x : ℕ) (go_on : Client → Option Made) → ((c : Client) → KeepsUpto last c → Good (go_on c)) → Good (with_client w x go_on)
    by_client x go_on keeps = found (client w.clients x) (every_client (KeepsUpto last) x w.clients k.around.keeps)
      where
        found : (o : Option Client) → IfSome o (KeepsUpto last) → Good (elim o [ None ↦ None | Some c ↦ go_on c ])
        found None is = k
        found (Some c) is = keeps c is

    by_message : {M : Type 0} (P : M → Type 0) (x : ℕ) (channels : List (ℕ × M)) (go_on : List (ℕ × M) → M → Option Made) → Every P channels → ((m : M) (rest : List (ℕ × M)) → P m → Every P rest → Good (go_on rest m)) → Good (with_message x channels go_on)
    by_message {M} P x channels go_on all keeps = found (pop x channels) (every_pop P x channels all)
      where
        found : (o : Option (M × List (ℕ × M))) → IfSome o (λ f. P f.0 × Every P f.1) → Good (elim o [ None ↦ None | Some f ↦ go_on f.1 f.0 ])
        found None is = k
        found (Some f) is = keeps f.0 f.1 is.0 is.1

    any_message : {M : Type 0} (x : ℕ) (channels : List (ℕ × M)) (go_on : List (ℕ × M) → M → Option Made) → ((m : M) (rest : List (ℕ × M)) → Good (go_on rest m)) → Good (with_message x channels go_on)
    any_message {M} x channels go_on keeps = found (pop x channels)
      where
        found : (o : Option (M × List (ℕ × M))) → Good (elim o [ None ↦ None | Some f ↦ go_on f.1 f.0 ])
        found None = k
        found (Some f) = keeps f.0 f.1

    by_first : {M : Type 0} (channel : List M) (go_on : List M → M → Option Made) → ((m : M) (rest : List M) → Good (go_on rest m)) → Good (with_first channel go_on)
    by_first [] go_on keeps = k
    by_first (m ∷ rest) go_on keeps = keeps m rest

    -- a client's row
    moved : (x : ℕ) (down : List (ℕ × ToClient)) (r : Row Client) → RowUpto last r → Every (TellsUpto (front w.server)) down → Holds (put w.clients x r.state) (w.up ++ tagged x (for_server r.sent)) down w.server
    moved x down r is tells = record {
      fits = k.fits;
      entered = k.entered;
      posted = k.posted;
      around = record {
        keeps = every_put (KeepsUpto last) x r.state is.keeps w.clients k.around.keeps;
        says = all_append (λ (m : ℕ × ToServer). SaidUpto last m.1) w.up (tagged x (for_server r.sent)) k.around.says (every_tagged (SaidUpto last) x (for_server r.sent) is.says);
        tells = tells;
      };
    }

    own_row : (x : ℕ) (o : Option (Row Client)) → IfSome o (RowUpto last) → Good (some_row (at_client x w None) o)
    own_row x None is = k
    own_row x (Some r) is = moved x w.down r is k.around.tells

    told : (c : Client) (m : ToClient) → TellsUpto (front w.server) m → KeepsUpto last c → RowUpto last (on_told c m)
    told c m is keeps = told_upto last low c m (stamp_upto (front w.server) m is) (told_weaker (newest (take (entry_of m) (front w.server))) last (newest_take (entry_of m) (front w.server)) m is.1.0) keeps

    -- a server's row
    server_row : (o : Option (Row Server)) → IfSome o (After w.clients w.up w.down) → Good (some_row (at_server w None) o)
    server_row None holds = k
    server_row (Some r) holds = holds

    took : (x : ℕ) (b : Bool) → Good (cond b (with_first w.reported (server_takes_report w)) (with_message x w.up (server_takes x w)))
    took x true = by_first w.reported (server_takes_report w) (λ m rest. reports w.clients w.up w.down w.server m k)
    took x false = by_message (SaidUpto last) x w.up (server_takes x w) k.around.says (λ m rest is says.
        takes w.clients rest w.down w.server x m is (record { fits = k.fits; entered = k.entered; posted = k.posted; around = record { keeps = k.around.keeps; says = says; tells = k.around.tells } }))

    stores : (x : ℕ) (b : Bool) → Good (cond b (with_first w.ordered (store_takes_order w)) (with_message x w.asked (store_takes x w)))
    stores x true = by_first w.ordered (store_takes_order w) (λ m rest. k)
    stores x false = any_message x w.asked (store_takes x w) (λ m rest. k)

    by_step : (step : Step) → Good (row w step)
    by_step (Op x) = by_client x _ (λ c keeps. own_row x (on_op c) (op_upto last c keeps))
    by_step (FlushStep x) = by_client x _ (λ c keeps. own_row x (on_flush c) (flush_upto last low c keeps))
    by_step (ClientFromServer x) = by_message (TellsUpto (front w.server)) x w.down (client_takes x w) k.around.tells (λ m rest is tells. by_client x _ (λ c keeps. moved x rest (on_told c m) (told c m is keeps) tells))
    by_step (ClientFromStore x) = any_message x w.stored (client_takes_stored x w) (λ m rest. by_client x _ (λ c keeps. moved x w.down (on_stored c m) (stored_upto last c m keeps) k.around.tells))
    by_step (ServerTakes x) = took x (x == store_node w)
    by_step (StoreTakes x) = stores x (x == 0)
    by_step Commit = server_row (on_commit w.server) (commits w.clients w.up w.down w.server k)
    by_step Tend = server_row (on_tend w.server) (tends w.clients w.up w.down w.server k)
    by_step (Restart j) = server_row (on_restart w.server j) (restarted w.clients w.up w.down w.server j k)

-- each run
fine_run : (w : World) (steps : List Step) → Fine w → Fine (after w steps)
fine_run w [] k = k
fine_run w (step ∷ steps) k = fine_run (after_row w (row w step)) steps (fine_step w step k)

new_clients : (script : Script) (numbers : List ℕ) → Every (KeepsUpto 1) (map (λ n. (n, new_client n (script.clients + 1) (lines_of n script.lines))) numbers)
new_clients script [] = tt
new_clients script (n ∷ numbers) = (record { contexts = tt; files = tt; flushes = tt }, new_clients script numbers)

pub fine : (script : Script) (steps : List Step) → Fine (after (start script) steps)
fine script steps = fine_run (start script) steps (record {
  fits = omega arith;
  entered = tt;
  posted = tt;
  around = record { keeps = new_clients script (up_to script.clients); says = tt; tells = tt };
})
