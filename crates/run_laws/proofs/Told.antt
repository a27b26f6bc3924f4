-- What a client does with a message of the server.
use Rattle.std.proofs.Common.{◌≡◌, ℕ, ◌+◌, List, [], Bool, true, false, cond, refl, ap, ◌∙◌, arith, ◌⊎◌, inl, inr}
use Rattle.std.proofs.lemmas.Bool.Decides.{nat_tests}
use Rattle.std.specs.Prelude.{◌==◌, ◌&&◌, nat_le}
use Rattle.plain_types.specs.declared.message.FileTrace.{FileTrace}
use Rattle.plain_types.specs.declared.message.ToClient.{ToClient}
use Rattle.plain_types.specs.declared.message.ToClient.TheVariants.{Reply, Grant, Recall, Notice, FlushAck, Welcome, Restarted}
use Rattle.step_table.specs.Messages.{to_client_fits}
use Rattle.step_table.specs.Row.{Row}
use Rattle.step_table.specs.ClientState.{Client, open_request, stays, connects}
use Rattle.step_table.specs.ClientTakes.{having_heard, take_own, take_reply, take_grant, updated, acked, on_told}
use Rattle.step_table.specs.World.{to_server as for_server}
use Rattle.run_laws.specs.Links.{Free, Number, Hail, mark}
use Rattle.run_laws.specs.Requests.{answer_to_tid, answer_at}
use Rattle.run_laws.proofs.Link.{Skips}
use Rattle.run_laws.proofs.Clients.{Renews, Keeps, Begins, Opened, Hidden, renews, grant_begins, reply_begins, updated_same}

-- it answers a request, and counts as one
abbrev pub IsAnswer : Client → ToClient → Type 0
IsAnswer c m = (rest : ℕ) → answer_at c.conn (answer_to_tid m) rest ≡ rest + 1

-- It is of the present connection; or says that the server restarted; or it is the Welcome; or it is passed over.
abbrev pub ToldRow : Client → ToClient → Row Client → Type 0
ToldRow c m r =
    ((mark m ≡ Number c.conn) × ((Begins c r × IsAnswer c m) ⊎ Keeps c r))
    ⊎ (((mark m ≡ Free) × Renews c r)
    ⊎ (((mark m ≡ Hail c.conn) × Keeps c r × (for_server r.sent ≡ []))
    ⊎ (Skips c.conn (mark m) × Hidden c r)))

first_of_two : (a b : Bool) → (a && b) ≡ true → a ≡ true
first_of_two true b is = refl
first_of_two false b is = is

heard_stays : (c : Client) (m : ToClient) → Hidden c (stays (having_heard c m))
heard_stays c m = record { state = refl; tid = refl; sent = refl }

heard_keeps : (c : Client) (m : ToClient) → Keeps c (stays (having_heard c m))
heard_keeps c m = record { conn = refl; says = tt; same = refl; tid = refl; none = refl; sent = λ o. tt }

wide_begins : (c : Client) (m : ToClient) (r : Row Client) → Begins (having_heard c m) r → Begins c r
wide_begins c m r b = record { conn = b.conn; says = b.says; opens = b.opens; sent = b.sent; few = b.few; most = b.most }

numbered_row : (c : Client) (conn : ℕ) (fits : Bool) (r : Row Client) (m : ToClient) → mark m ≡ Number conn → ((conn == c.conn) ≡ true → (Begins c r × IsAnswer c m) ⊎ Keeps c r) → ToldRow c m (cond (conn == c.conn && fits) r (stays (having_heard c m)))
numbered_row c conn fits r m is row = by_test (conn == c.conn && fits) refl
  where
    same : (conn == c.conn) ≡ true → conn ≡ c.conn
    same test = grind (arith, nat_tests, test)

    by_test : (b : Bool) → (conn == c.conn && fits) ≡ b → ToldRow c m (cond b r (stays (having_heard c m)))
    by_test true test = let now = first_of_two (conn == c.conn) fits test in inl (is ∙ ap Number (same now), row now)
    by_test false test = inr (inr (inr (rw is tt, heard_stays c m)))

abbrev hailed : Client → ℕ → List FileTrace → Client
hailed c last update = acked (record c { frozen = false }) (λ n. nat_le n last)

pub told_row : (c : Client) (m : ToClient) → Opened c → ToldRow c m (on_told c m)
told_row c (Restarted st) open_now = by_test (to_client_fits (Restarted st))
  where
    by_test : (b : Bool) → ToldRow c (Restarted st) (cond b (connects (having_heard c (Restarted st))) (stays (having_heard c (Restarted st))))
    by_test true = let r = renews (having_heard c (Restarted st)) in inr (inl (refl, record { state = r.state; sent = r.sent; tid = r.tid }))
    by_test false = inr (inr (inr (tt, heard_stays c (Restarted st))))
told_row c (Reply conn tid st said) open_now = let m = Reply conn tid st said in
    numbered_row c conn (to_client_fits m) (take_reply (having_heard c m) tid st said c.under) m refl (λ now. inl (wide_begins c m _ (reply_begins (having_heard c m) tid st said c.under open_now), λ rest. rw now refl))
told_row c (Grant conn tid st ino mode size file) open_now = let m = Grant conn tid st ino mode size file in
    numbered_row c conn (to_client_fits m) (take_grant (having_heard c m) tid st ino mode size file c.under) m refl (λ now. inl (wide_begins c m _ (grant_begins (having_heard c m) tid st ino mode size file c.under open_now), λ rest. rw now refl))
told_row c (Recall conn st ino) open_now = let m = Recall conn st ino in
    numbered_row c conn (to_client_fits m) (take_own (having_heard c m) m) m refl (λ now. inr (record { conn = refl; says = tt; same = refl; tid = refl; none = refl; sent = λ o. tt }))
told_row c (Notice conn st update) open_now = let m = Notice conn st update in let h = having_heard c m in
    numbered_row c conn (to_client_fits m) (take_own h m) m refl (λ now. inr (record { conn = updated_same (λ (v : Client). v.conn) (λ v ino new. refl) update h; says = tt; same = ap open_request (updated_same (λ (v : Client). v.under) (λ v ino new. refl) update h); tid = updated_same (λ (v : Client). v.tid) (λ v ino new. refl) update h; none = refl; sent = λ o. tt }))
told_row c (FlushAck conn st number) open_now = let m = FlushAck conn st number in
    numbered_row c conn (to_client_fits m) (take_own (having_heard c m) m) m refl (λ now. inr (record { conn = refl; says = tt; same = refl; tid = refl; none = refl; sent = λ o. tt }))
told_row c (Welcome conn st last update) open_now = by_test (conn == c.conn) (to_client_fits (Welcome conn st last update)) refl
  where
    same : (conn == c.conn) ≡ true → conn ≡ c.conn
    same test = grind (arith, nat_tests, test)

    other : (conn == c.conn) ≡ false → conn ≡ c.conn → ⊥
    other test is = grind (arith, nat_tests, test, is)

    by_test : (b d : Bool) → (conn == c.conn) ≡ b → ToldRow c (Welcome conn st last update) (cond (b && d) (stays (updated (hailed (having_heard c (Welcome conn st last update)) last update) update)) (stays (having_heard c (Welcome conn st last update))))
    by_test true true test = let h = hailed (having_heard c (Welcome conn st last update)) last update in
        inr (inr (inl (ap Hail (same test), record { conn = updated_same (λ (v : Client). v.conn) (λ v ino new. refl) update h; says = tt; same = ap open_request (updated_same (λ (v : Client). v.under) (λ v ino new. refl) update h); tid = updated_same (λ (v : Client). v.tid) (λ v ino new. refl) update h; none = refl; sent = λ o. tt }, refl)))
    by_test true false test = inr (inr (inl (ap Hail (same test), heard_keeps c (Welcome conn st last update), refl)))
    by_test false d test = inr (inr (inr (other test, heard_stays c (Welcome conn st last update))))
