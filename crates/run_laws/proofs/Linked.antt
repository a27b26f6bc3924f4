-- Each client's link stays in order.
use Rattle.std.proofs.Common.{◌≡◌, ℕ, ◌+◌, List, [], ◌∷◌, ◌++◌, map, Bool, true, false, cond, Option, None, Some, refl, sym, ap, ◌∙◌, subst, IfSome, arith, append_assoc, ◌⊎◌, inl, inr}
use Rattle.std.proofs.lemmas.List.{append-nil}
use Rattle.std.proofs.lemmas.Bool.Decides.{nat_tests}
use Rattle.std.specs.Prelude.{◌==◌, nat_lt, length}
use Rattle.plain_types.specs.declared.history.Event.{Event}
use Rattle.plain_types.specs.declared.history.Sent.{Sent}
use Rattle.plain_types.specs.declared.history.Step.{Step}
use Rattle.plain_types.specs.declared.message.Claim.{Claim}
use Rattle.plain_types.specs.declared.message.FlushMsg.{FlushMsg}
use Rattle.plain_types.specs.declared.message.Message.TheVariants as message
use Rattle.plain_types.specs.declared.message.ToClient.{ToClient}
use Rattle.plain_types.specs.declared.message.ToClient.TheVariants.{Welcome, Restarted}
use Rattle.plain_types.specs.declared.message.ToServer.{ToServer}
use Rattle.plain_types.specs.declared.message.ToServer.TheVariants.{Connect, Ask}
use Rattle.plain_types.specs.declared.message.ToStore.{ToStore}
use Rattle.plain_types.specs.declared.request.Request.{Request}
use Rattle.plain_types.specs.declared.script.Script.{Script}
use Rattle.plain_journal.specs.Table.{last_flush}
use Rattle.step_table.specs.Row.{Row}
use Rattle.step_table.specs.ServerState.{Server, Told, Answered, Granted, WantedBack, Changed, Acked, message_of, tell, tell_at, send_client, send_store, number_of, stamp, welcome, written_by, trace_of, up_to}
use Rattle.step_table.specs.Acts.{Act, act}
use Rattle.step_table.specs.Flushes.{brought, take_in_brought, connected}
use Rattle.step_table.specs.ClientState.{Client, new_client, open_request}
use Rattle.step_table.specs.ClientLines.{on_op, on_flush}
use Rattle.step_table.specs.ClientTakes.{on_told, on_stored}
use Rattle.step_table.specs.World.{World, client, start, after, lines_of, to_server as for_server}
use Rattle.run_laws.specs.Moments.{steps_of, world_after}
use Rattle.run_laws.specs.Links.{View, EachClient, Numbered, Heard, mine, mail_of, Offer, offer, mark, Number, Link, Linked, Flowing, AtMost}
use Rattle.run_laws.proofs.Channels.{mail_append, mail_split}
use Rattle.run_laws.proofs.Moves.{act_keeps}
use Rattle.run_laws.proofs.Link.{numbers_order, Fresh, Says, flowing, connects_link, renewed_link, says_link, skip_link, heard_link, welcome_link, send_link, accept_link, pop_link, restart_link}
use Rattle.run_laws.proofs.Clients.{Renews, Keeps, Begins, Acts, ActsNow, Opened, Hidden, op_acts, flush_acts, store_hidden}
use Rattle.run_laws.proofs.Told.{ToldRow, IsAnswer, told_row}
use Rattle.run_laws.proofs.Views.{Client's, run_keeps}
use Rattle.run_laws.proofs.ViewActs.{KeptViews, AnyOf, all_fit, rows_of_acts}

-- The client.
nil_link : (o : Offer) (up : List ToServer) (k : Option ℕ) (p : List ToClient) → Link o up k p → Link o (up ++ []) k p
nil_link o up k p link = subst (λ (l : List ToServer). Link o l k p) (sym (append-nil up)) link

renew_link : (c : Client) (r : Row Client) (up : List ToServer) (k : Option ℕ) (p : List ToClient) → Renews c r → Link (offer c) up k p → Link (offer r.state) (up ++ for_server r.sent) k p
renew_link c r up k p renew link = rw (renew.state, renew.sent) (connects_link (offer c) up k p link)

acts_link : (c : Client) (r : Row Client) (up : List ToServer) (k : Option ℕ) (p : List ToClient) → ActsNow c r → Link (offer c) up k p → Link (offer r.state) (up ++ for_server r.sent) k p
acts_link c r up k p acts link = by_kind acts.1
  where
    flows : Flowing (offer c) link.base k p
    flows = flowing (offer c) up k p acts.0 link

    by_kind : Acts c r → Link (offer r.state) (up ++ for_server r.sent) k p
    by_kind (inl begins) = says_link (offer c) (offer r.state) up (for_server r.sent) k p link flows begins.1.conn begins.1.says
    by_kind (inr (inl keeps)) = says_link (offer c) (offer r.state) up (for_server r.sent) k p link flows keeps.conn keeps.says
    by_kind (inr (inr renew)) = renew_link c r up k p renew link

pub if_row : (o : Option (Row Client)) (P Q : Row Client → Type 0) → ((r : Row Client) → P r → Q r) → IfSome o P → IfSome o Q
if_row None P Q go holds = tt
if_row (Some r) P Q go holds = go r holds

-- a message of the server
told_link : (c : Client) (up : List ToServer) (k : Option ℕ) (m : ToClient) (p : List ToClient) (r : Row Client) → ToldRow c m r → Link (offer c) up k (m ∷ p) → Link (offer r.state) (up ++ for_server r.sent) k p
told_link c up k m p r (inl here) link = heard_link (offer c) (offer r.state) up (for_server r.sent) k m p here.0 (conn here.1) (says here.1) link
  where
    conn : (Begins c r × IsAnswer c m) ⊎ Keeps c r → r.state.conn ≡ c.conn
    conn (inl b) = b.0.conn
    conn (inr b) = b.conn

    says : (Begins c r × IsAnswer c m) ⊎ Keeps c r → Says c.conn (for_server r.sent)
    says (inl b) = b.0.says
    says (inr b) = b.says
told_link c up k m p r (inr (inl again_now)) link = rw (again_now.1.state, again_now.1.sent) (renewed_link (offer c) up k m p link)
told_link c up k m p r (inr (inr (inl hail))) link = rw hail.2 (nil_link (offer r.state) up k p (welcome_link (offer c) (offer r.state) up k m p hail.0 hail.1.conn link))
told_link c up k m p r (inr (inr (inr skip))) link = rw (skip.1.state, skip.1.sent) (nil_link (offer c) up k p (skip_link (offer c) up k m p skip.0 link))

-- what is open
keeps_open : (c : Client) (r : Row Client) → Keeps c r → Opened c → Opened r.state
keeps_open c r k opened = rw (k.same, k.tid) opened

same_open : (c : Client) (r : Row Client) → open_request r.state.under ≡ open_request c.under → r.state.tid ≡ c.tid → Opened c → Opened r.state
same_open c r same tid opened = rw (same, tid) opened

pub acts_open : (c : Client) (r : Row Client) → Acts c r → Opened c → Opened r.state
acts_open c r (inl begins) opened = begins.1.opens
acts_open c r (inr (inl keeps)) opened = keeps_open c r keeps opened
acts_open c r (inr (inr renew)) opened = same_open c r (ap (λ (o : Offer). o.asked) renew.state) renew.tid opened

pub told_open : (c : Client) (m : ToClient) (r : Row Client) → ToldRow c m r → Opened c → Opened r.state
told_open c m r (inl here) opened = by_row here.1
  where
    by_row : (Begins c r × IsAnswer c m) ⊎ Keeps c r → Opened r.state
    by_row (inl b) = b.0.opens
    by_row (inr b) = keeps_open c r b opened
told_open c m r (inr (inl renew)) opened = same_open c r (ap (λ (o : Offer). o.asked) renew.1.state) renew.1.tid opened
told_open c m r (inr (inr (inl hail))) opened = keeps_open c r hail.1 opened
told_open c m r (inr (inr (inr skip))) opened = same_open c r (ap (λ (o : Offer). o.asked) skip.1.state) skip.1.tid opened

-- The server.
told_mark : (s : Server) (j : ℕ) (told : Told) → mark (message_of s j told) ≡ Number j
told_mark s j (Answered tid answer) = refl
told_mark s j (Granted tid ino mode) = refl
told_mark s j (WantedBack ino) = refl
told_mark s j (Changed inos) = refl
told_mark s j (Acked number) = refl

-- one more message of the mail
pub more_mail : (Q : List ToClient → Type 0) (n : ℕ) (down : List ToClient) (mail : List (ℕ × Sent)) (m : ℕ × Sent) → Q ((down ++ mail_of n mail) ++ mail_of n (m ∷ [])) → Q (down ++ mail_of n (mail ++ m ∷ []))
more_mail Q n down mail m holds = subst Q (append_assoc down (mail_of n mail) (mail_of n (m ∷ [])) ∙ ap (λ (l : List ToClient). down ++ l) (sym (mail_append n mail (m ∷ [])))) holds

sent_link : (n : ℕ) (c : Client) (up : List ToServer) (down : List ToClient) (s : Server) (x : ℕ) (m : ToClient) → ((x == n) ≡ true → Fresh (number_of s.current n) (mark m)) → Linked n c up down s → Linked n c up down (send_client s x m)
sent_link n c up down s x m fresh link = more_mail (Link (offer c) up (number_of s.current n)) n down s.mail (length s.entries, record { to = x; message = message.ToClient m }) (by_test (x == n) refl)
  where
    by_test : (b : Bool) → (x == n) ≡ b → Link (offer c) up (number_of s.current n) ((down ++ mail_of n s.mail) ++ cond b (m ∷ []) [])
    by_test true test = send_link (offer c) up (number_of s.current n) (down ++ mail_of n s.mail) m (fresh test) link
    by_test false test = subst (Link (offer c) up (number_of s.current n)) (sym (append-nil (down ++ mail_of n s.mail))) link

stored_link : (n : ℕ) (c : Client) (up : List ToServer) (down : List ToClient) (s : Server) (m : ToStore) → Linked n c up down s → Linked n c up down (send_store s m)
stored_link n c up down s m link = more_mail (Link (offer c) up (number_of s.current n)) n down s.mail (length s.entries, record { to = s.clients + 1; message = message.ToStore m }) (subst (Link (offer c) up (number_of s.current n)) (sym (append-nil (down ++ mail_of n s.mail))) link)

tell_link : (n : ℕ) (c : Client) (up : List ToServer) (down : List ToClient) (s : Server) (x : ℕ) (told : Told) → Linked n c up down s → Linked n c up down (tell s x told)
tell_link n c up down s x told link = by_number (number_of s.current x) refl
  where
    by_number : (o : Option ℕ) → number_of s.current x ≡ o → Linked n c up down (tell_at s x told o)
    by_number None is = link
    by_number (Some j) is = sent_link n c up down s x (message_of s j told) (λ test. rw (told_mark s j told) (subst (λ (y : ℕ). number_of s.current y ≡ Some j) (same test) is)) link
      where
        same : (x == n) ≡ true → x ≡ n
        same test = grind (arith, nat_tests, test)

one : (n : ℕ) (c : Client) (up : List ToServer) (down : List ToClient) (s : Server) (a : Act) → Linked n c up down s → Linked n c up down (act s a)
one n c up down s a link = act_keeps {P = λ entries durable mail current. Link (offer c) up (number_of current n) (down ++ mail_of n mail)} (record {
  tells = λ t x told so. tell_link n c up down t x told so;
  restarts = λ t x so. sent_link n c up down t x (Restarted (stamp t)) (λ _. tt) so;
  stores = λ t m so. stored_link n c up down t m so;
  enters = λ t e so. so;
}) s a link

abbrev pub hello : Server → ℕ → ℕ → ToClient
hello s x conn = Welcome conn (stamp s) (last_flush s.entries x) (map (trace_of s) (written_by s x))

welcomed_link : (n : ℕ) (c : Client) (conn : ℕ) (said : List Claim) (flushes : List FlushMsg) (asked : Option (ℕ × Request)) (up : List ToServer) (down : List ToClient) (s : Server) → Linked n c (Connect conn said flushes asked ∷ up) down s → Linked n c up down (welcome (connected s n conn) n conn)
welcomed_link n c conn said flushes asked up down s link = more_mail (Link (offer c) up (number_of ((n, conn) ∷ s.current) n)) n down s.mail (length s.entries, record { to = n; message = message.ToClient (hello (connected s n conn) n conn) }) (rw itself (accept_link (offer c) conn said flushes asked up (number_of s.current n) (down ++ mail_of n s.mail) (hello (connected s n conn) n conn) refl refl link))
  where
    itself : (n == n) ≡ true
    itself = grind (arith, nat_tests)

welcomed_other : (n x : ℕ) (c : Client) (conn : ℕ) (up : List ToServer) (down : List ToClient) (s : Server) → (x == n) ≡ false → Linked n c up down s → Linked n c up down (welcome (connected s x conn) x conn)
welcomed_other n x c conn up down s other link =
    more_mail (Link (offer c) up (number_of ((x, conn) ∷ s.current) n)) n down s.mail (length s.entries, record { to = x; message = message.ToClient (hello (connected s x conn) x conn) })
    (rw other (subst (Link (offer c) up (number_of s.current n)) (sym (append-nil (down ++ mail_of n s.mail))) link))

-- what is in the hand is no matter
pub in_hand : (P : Server → Type 0) → ((s : Server) (hand : _) → P s → P (record s { hand = hand })) → (s : Server) (x : ℕ) (asked : Option (ℕ × Request)) → P s → P (take_in_brought s (brought x asked))
in_hand P blind s x None holds = holds
in_hand P blind s x (Some a) holds = blind s _ holds

-- the link needs to know that what is open has the last number
abbrev pub OpenLinked : View
OpenLinked n c up down s = Opened c × Linked n c up down s

own_link : (n : ℕ) (c : Client) (up : List ToServer) (down : List ToClient) (s : Server) (r : Row Client) → ActsNow c r → OpenLinked n c up down s → Client's OpenLinked n up down s r
own_link n c up down s r acts link = (acts_open c r acts.1 link.0, acts_link c r up (number_of s.current n) (down ++ mail_of n s.mail) acts link.1)

hidden_link : (n : ℕ) (c : Client) (up : List ToServer) (down : List ToClient) (s : Server) (r : Row Client) → Hidden c r → OpenLinked n c up down s → Client's OpenLinked n up down s r
hidden_link n c up down s r h link = (same_open c r (ap (λ (o : Offer). o.asked) h.state) h.tid link.0, rw (h.state, h.sent) (nil_link (offer c) up (number_of s.current n) (down ++ mail_of n s.mail) link.1))

pub linked : KeptViews AnyOf OpenLinked OpenLinked
linked = record {
  op = λ n c up down s link. if_row (on_op c) (ActsNow c) (Client's OpenLinked n up down s) (λ r acts. own_link n c up down s r acts link) (op_acts c c.lines link.0);
  flush = λ n c up down s link. if_row (on_flush c) (λ r. (c.frozen ≡ false) × Keeps c r) (Client's OpenLinked n up down s) (λ r acts. own_link n c up down s r (acts.0, inr (inl acts.1)) link) (flush_acts c);
  told = λ n c up m down s link. let row = told_row c m link.0 in (told_open c m (on_told c m) row link.0, told_link c up (number_of s.current n) m (down ++ mail_of n s.mail) (on_told c m) row link.1);
  stored = λ n c m up down s link. hidden_link n c up down s (on_stored c m) (store_hidden c m) link;
  one = λ n c up down s a fit link. (link.0, one n c up down s a link.1);
  pops = λ n c m up down s link. (link.0, pop_link (offer c) m up (number_of s.current n) (down ++ mail_of n s.mail) link.1);
  accepts = λ n c conn said flushes asked up down s link. in_hand (OpenLinked n c up down) (λ t hand so. so) (welcome (connected s n conn) n conn) n asked (link.0, welcomed_link n c conn said flushes asked up down s link.1);
  accepts_other = λ n x c conn asked up down s other link. in_hand (OpenLinked n c up down) (λ t hand so. so) (welcome (connected s x conn) x conn) x asked (link.0, welcomed_other n x c conn up down s other link.1);
  asks = λ n c conn tid asked up down s is link. (link.0, pop_link (offer c) (Ask conn tid asked) up (number_of s.current n) (down ++ mail_of n s.mail) link.1);
  asks_other = λ n x c tid asked up down s other link. link;
  hands = λ n c up down s link. (link.0, subst (Link (offer c) up (number_of s.current n)) (mail_split n s.durable down s.mail) link.1);
  durable = λ n c up down s link. link;
  survives = λ n c up down s k fits link. (link.0, subst (Link (offer c) up None) (sym (append-nil down)) (restart_link (offer c) up (number_of s.current n) down (mail_of n s.mail) link.1));
}

-- the beginning
pub at_start : (I : View) (script : Script) → ((n : ℕ) → number_of (start script).server.current n ≡ Some 1 → I n (new_client n (script.clients + 1) (lines_of n script.lines)) [] [] (start script).server) → EachClient I (start script)
at_start I script holds n = found (up_to script.clients) (holds n)
  where
    first : ℕ → Client
    first x = new_client x (script.clients + 1) (lines_of x script.lines)

    found : (ns : List ℕ) → (number_of (map (λ x. (x, 1)) ns) n ≡ Some 1 → I n (new_client n (script.clients + 1) (lines_of n script.lines)) [] [] (start script).server) → IfSome (client (map (λ x. (x, new_client x (script.clients + 1) (lines_of x script.lines))) ns) n) (λ c. I n c [] [] (start script).server)
    found [] go = tt
    found (x ∷ ns) go = by_test (x == n) refl (found ns) go
      where
        Then : Option Client → Type 0
        Then o = IfSome o (λ c. I n c [] [] (start script).server)

        by_test : (b : Bool) → (x == n) ≡ b → ((number_of (map (λ x. (x, 1)) ns) n ≡ Some 1 → I n (new_client n (script.clients + 1) (lines_of n script.lines)) [] [] (start script).server) → Then (client (map (λ x. (x, new_client x (script.clients + 1) (lines_of x script.lines))) ns) n)) → (cond b (Some 1) (number_of (map (λ x. (x, 1)) ns) n) ≡ Some 1 → I n (new_client n (script.clients + 1) (lines_of n script.lines)) [] [] (start script).server) → Then (cond b (Some (new_client x (script.clients + 1) (lines_of x script.lines))) (client (map (λ x. (x, new_client x (script.clients + 1) (lines_of x script.lines))) ns) n))
        by_test true test rest go = subst (λ (y : ℕ). I n (new_client y (script.clients + 1) (lines_of y script.lines)) [] [] (start script).server) (sym (same test)) (go refl)
          where
            same : (x == n) ≡ true → x ≡ n
            same test = grind (arith, nat_tests, test)
        by_test false test rest go = rest go

pub first_link : (c : Client) (k : Option ℕ) → c.conn ≡ 1 → k ≡ Some 1 → Link (offer c) [] k []
first_link c k conn is = rw is (record { base = 1; known = omega arith; up = sym conn; order = omega arith; down = inl (record { base = sym conn; number = sym conn; down = tt }) })

pub links_hold : (script : Script) (steps : List Step) → EachClient OpenLinked (after (start script) steps)
links_hold script steps = run_keeps OpenLinked (rows_of_acts OpenLinked linked (all_fit OpenLinked)) (start script) steps (at_start OpenLinked script (λ n is. (tt, first_link (new_client n (script.clients + 1) (lines_of n script.lines)) _ refl is)))

-- its parts
pub each_part : (I J : View) (w : World) → ((n : ℕ) (c : Client) (up : List ToServer) (down : List ToClient) (s : Server) → I n c up down s → J n c up down s) → EachClient I w → EachClient J w
each_part I J w go each n = found (client w.clients n) (each n)
  where
    found : (o : Option Client) → IfSome o (λ c. I n c (mine n w.up) (mine n w.down) w.server) → IfSome o (λ c. J n c (mine n w.up) (mine n w.down) w.server)
    found None holds = tt
    found (Some c) holds = go n c (mine n w.up) (mine n w.down) w.server holds

pub links_law : (script : Script) (history : List Event) → EachClient Linked (world_after script history)
links_law script history = each_part OpenLinked Linked (world_after script history) (λ n c up down s all. all.1) (links_hold script (steps_of history))

pub numbers_law : (script : Script) (history : List Event) → EachClient Numbered (world_after script history)
numbers_law script history = each_part OpenLinked Numbered (world_after script history) (λ n c up down s all. numbers_order (offer c) up (number_of s.current n) down (mail_of n s.mail) all.1) (links_hold script (steps_of history))

-- so no Connect is refused for its number
above : (o : Offer) (conn : ℕ) (said : List Claim) (flushes : List FlushMsg) (asked : Option (ℕ × Request)) (up : List ToServer) (k : Option ℕ) (p : List ToClient) → Link o (Connect conn said flushes asked ∷ up) k p → nat_lt (elim k [ None ↦ 0 | Some number ↦ number ]) conn ≡ true
above o conn said flushes asked up k p link = by_number k link.known
  where
    by_number : (j : Option ℕ) → AtMost link.base j → nat_lt (elim j [ None ↦ 0 | Some number ↦ number ]) conn ≡ true
    by_number None known = let is = link.up.1.number in grind (arith, nat_tests, is)
    by_number (Some j) known = let is = link.up.1.number in grind (arith, nat_tests, is, known)

pub connects_law : (script : Script) (history : List Event) → EachClient Heard (world_after script history)
connects_law script history = each_part OpenLinked Heard (world_after script history) heard (links_hold script (steps_of history))
  where
    heard : (n : ℕ) (c : Client) (up : List ToServer) (down : List ToClient) (s : Server) → OpenLinked n c up down s → Heard n c up down s
    heard n c up down s all conn said flushes asked rest is = above (offer c) conn said flushes asked rest (number_of s.current n) (down ++ mail_of n s.mail) (subst (λ (l : List ToServer). Link (offer c) l (number_of s.current n) (down ++ mail_of n s.mail)) is all.1)
