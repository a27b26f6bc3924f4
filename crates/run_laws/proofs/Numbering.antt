-- A client's flushes are taken one by one, along each run.
use Rattle.std.proofs.Common.{◌≡◌, ◌≤◌, ℕ, ◌+◌, List, [], ◌∷◌, ◌++◌, take, length, length-append, Bool, true, false, true≢false, cond, Option, None, Some, refl, sym, ap, ◌∙◌, subst, IfSome, arith}
use Rattle.std.proofs.lemmas.List.{take-append-le}
use Rattle.std.proofs.Math.Seq.{take-length}
use Rattle.std.proofs.lemmas.Bool.Decides.{nat_tests}
use Rattle.std.specs.Prelude.{◌==◌, ◌&&◌, nat_lt, nat_le}
use Rattle.std.specs.List.{list_any, cons_option}
use Rattle.plain_types.specs.declared.change.Change.{Change}
use Rattle.plain_types.specs.declared.change.Change.TheVariants as change
use Rattle.plain_types.specs.declared.entry.Entry.{Entry}
use Rattle.plain_types.specs.declared.entry.What.{What}
use Rattle.plain_types.specs.declared.entry.What.TheVariants.{Settle, Release}
use Rattle.plain_types.specs.declared.history.Sent.{Sent}
use Rattle.plain_types.specs.declared.message.Claim.{Claim}
use Rattle.plain_types.specs.declared.message.FlushMsg.{FlushMsg}
use Rattle.plain_types.specs.declared.message.Message.{Message}
use Rattle.plain_types.specs.declared.message.Message.TheVariants as message
use Rattle.plain_types.specs.declared.message.ToClient.{ToClient}
use Rattle.plain_types.specs.declared.message.ToClient.TheVariants.{FlushAck, Welcome, Restarted}
use Rattle.plain_types.specs.declared.message.ToStore.TheVariants.{Purge, Delete}
use Rattle.plain_journal.specs.Coverage.{context}
use Rattle.plain_journal.specs.Table.{is_flush, last_flush}
use Rattle.step_table.specs.ServerState.{Asked, Server, Told, Answered, Granted, WantedBack, Changed, Acked, message_of, tell, tell_at, number_of, stamp, up_to, send}
use Rattle.step_table.specs.Acts.{Act, TellRecall, TellAck, TellRestart, AnswerIt, GrantIt, MakeEffect, Prepare, Buffer, SendPurge, SendDelete, Hold, Settled, LetGo, LetAllGo, act, acts, each, answer_hand, grant_hand, effect_hand, buffer_for, written_down, prepare_hand, entry_for, buffer, goes, waits}
use Rattle.step_table.specs.Capabilities.{clash}
use Rattle.step_table.specs.Flushes.{flush_entry, flush_settles, take_flush, on_flush, claimed, take_claim, take_brought, come_back}
use Rattle.step_table.specs.World.{to_clients, told_to}
use Rattle.run_laws.specs.FlushNumbers.{is_flush_of, Counted, above, Follow, Bound, AllBound, AllAgree}
use Rattle.run_laws.specs.Links.{mine}
use Rattle.run_laws.specs.Stamps.{told_by}
use Rattle.run_laws.proofs.Acts.{notices_keep}
use Rattle.run_laws.proofs.Counted.{counted_append, last_take, last_longer, last_quiet, last_new, follow_most, follow_above, above_above, above_next, above_all, SaysAll, all_agree_entry, first_says}
use Rattle.run_laws.proofs.Holds.{AckedBy}
use Rattle.run_laws.proofs.Ruled.{IsRuled, IsFlushing}

-- what is acknowledged is in the entries
pub bound_by : (n : ℕ) (entries : List Entry) (m : ToClient) (i : ℕ) → Bound n entries m → AckedBy m i → i ≤ last_flush entries n
bound_by n entries (FlushAck conn stamp number) i bound by = omega (arith, bound, by)
bound_by n entries (Welcome conn stamp flushed update) i bound by = omega (arith, bound, by)
bound_by n entries m i bound by = absurd by

bound_more : (n : ℕ) (few many : List Entry) (m : ToClient) → last_flush few n ≤ last_flush many n → Bound n few m → Bound n many m
bound_more n few many (FlushAck conn stamp number) less bound = omega (arith, less, bound)
bound_more n few many (Welcome conn stamp flushed update) less bound = omega (arith, less, bound)
bound_more n few many m less bound = tt

pub all_bound_more : (n : ℕ) (few many : List Entry) (down : List ToClient) → last_flush few n ≤ last_flush many n → AllBound n few down → AllBound n many down
all_bound_more n few many [] less all = tt
all_bound_more n few many (m ∷ down) less all = (bound_more n few many m less all.0, all_bound_more n few many down less all.1)

pub all_bound_append : (n : ℕ) (entries : List Entry) (p q : List ToClient) → AllBound n entries p → AllBound n entries q → AllBound n entries (p ++ q)
all_bound_append n entries [] q all more = more
all_bound_append n entries (m ∷ p) q all more = (all.0, all_bound_append n entries p q all.1 more)

-- mail
abbrev BoundBy : ℕ → List Entry → Option ToClient → Type 0
BoundBy n entries None = Unit {0}
BoundBy n entries (Some told) = Bound n entries told

abbrev pub MailBound : ℕ → List Entry → List (ℕ × Sent) → Type 0
MailBound n entries [] = Unit {0}
MailBound n entries (m ∷ mail) = (m.0 ≤ length entries) × ((m.1.to == n) ≡ true → BoundBy n (take m.0 entries) (told_by m.1.message)) × MailBound n entries mail

mail_more : (n : ℕ) (entries : List Entry) (e : Entry) (mail : List (ℕ × Sent)) → MailBound n entries mail → MailBound n (entries ++ e ∷ []) mail
mail_more n entries e [] all = tt
mail_more n entries e (m ∷ mail) all =
    (let less = all.0 in grind (arith, less, length-append), λ to. subst (λ (l : List Entry). BoundBy n l (told_by m.1.message)) (sym (take-append-le m.0 entries (e ∷ []) all.0)) (all.1 to), mail_more n entries e mail all.2)

mail_end : (n : ℕ) (entries : List Entry) (mail : List (ℕ × Sent)) (sent : Sent) → ((sent.to == n) ≡ true → BoundBy n entries (told_by sent.message)) → MailBound n entries mail → MailBound n entries (mail ++ (length entries, sent) ∷ [])
mail_end n entries [] sent bound all = (omega arith, λ to. subst (λ (l : List Entry). BoundBy n l (told_by sent.message)) (sym (take-length entries)) (bound to), tt)
mail_end n entries (m ∷ mail) sent bound all = (all.0, all.1, mail_end n entries mail sent bound all.2)

pub mail_waits : (n : ℕ) (entries : List Entry) (d : ℕ) (mail : List (ℕ × Sent)) → MailBound n entries mail → MailBound n entries (waits d mail)
mail_waits n entries d [] all = tt
mail_waits n entries d (m ∷ mail) all = by_test (nat_le m.0 d) (mail_waits n entries d mail all.2)
  where
    by_test : (b : Bool) → MailBound n entries (waits d mail) → MailBound n entries (cond b (waits d mail) (m ∷ mail))
    by_test true rest = rest
    by_test false rest = all

pub gone_bound : (n : ℕ) (entries : List Entry) (d : ℕ) → d ≤ length entries → Counted n 0 entries → (mail : List (ℕ × Sent)) → MailBound n entries mail → AllBound n (take d entries) (mine n (to_clients (goes d mail)))
gone_bound n entries d fits counted [] all = tt
gone_bound n entries d fits counted (m ∷ mail) all = by_test (nat_le m.0 d) refl (gone_bound n entries d fits counted mail all.2)
  where
    one : (to : ℕ) (x : Message) → ((to == n) ≡ true → BoundBy n (take m.0 entries) (told_by x)) → m.0 ≤ d → AllBound n (take d entries) (mine n (to_clients (goes d mail))) → AllBound n (take d entries) (mine n (cons_option (told_to to x) (to_clients (goes d mail))))
    one to (message.ToClient told) bound less rest = by_number (to == n) refl
      where
        by_number : (b : Bool) → (to == n) ≡ b → AllBound n (take d entries) (cond b (told ∷ mine n (to_clients (goes d mail))) (mine n (to_clients (goes d mail))))
        by_number true test = (bound_more n (take m.0 entries) (take d entries) told (last_longer n m.0 d entries less fits counted) (bound test), rest)
        by_number false test = rest
    one to x bound less rest = rest

    by_test : (b : Bool) → nat_le m.0 d ≡ b → AllBound n (take d entries) (mine n (to_clients (goes d mail))) → AllBound n (take d entries) (mine n (to_clients (cond b (m.1 ∷ goes d mail) [])))
    by_test true test rest = one m.1.to m.1.message all.1 (grind (arith, nat_tests, test)) rest
    by_test false test rest = tt

-- Of a client that has sent `high` flushes and keeps some: its flushes in the entries, what it keeps of them, and the
-- acknowledgements on their way. `W` is said of the last flush that the server took.
pub record Flushing (n high : ℕ) (kept : List FlushMsg) (W : ℕ → Type 0) (p : List ToClient) (entries : List Entry) (durable : ℕ) (post : List (ℕ × Sent)) : Type 0 where
  pub fits : durable ≤ length entries
  pub counted : Counted n 0 entries
  pub most : last_flush entries n ≤ high
  pub follow : Follow (last_flush (take durable entries) n) high (above (last_flush (take durable entries) n) kept)
  pub agree : AllAgree n entries kept
  pub way : W (last_flush entries n)
  pub mail : MailBound n entries post
  pub down : AllBound n (take durable entries) p

abbrev pub In : ℕ → ℕ → List FlushMsg → (ℕ → Type 0) → List ToClient → Server → Type 0
In n high kept W down s = Flushing n high kept W down s.entries s.durable s.mail

-- another word on the last flush
pub way_as : (n high : ℕ) (kept : List FlushMsg) (W V : ℕ → Type 0) (down : List ToClient) (entries : List Entry) (durable : ℕ) (mail : List (ℕ × Sent)) → ((k : ℕ) → k ≡ last_flush entries n → W k → V k) → Flushing n high kept W down entries durable mail → Flushing n high kept V down entries durable mail
way_as n high kept W V down entries durable mail go f = record { fits = f.fits; counted = f.counted; most = f.most; follow = f.follow; agree = f.agree; way = go (last_flush entries n) refl f.way; mail = f.mail; down = f.down }

-- the flushes behind the last one that the server took follow it
pub follows_last : (n high : ℕ) (kept : List FlushMsg) (W : ℕ → Type 0) (down : List ToClient) (entries : List Entry) (durable : ℕ) (mail : List (ℕ × Sent)) → Flushing n high kept W down entries durable mail → Follow (last_flush entries n) high (above (last_flush entries n) kept)
follows_last n high kept W down entries durable mail f = follow_above (last_flush (take durable entries) n) (last_flush entries n) high kept (last_take n durable entries f.counted) f.most f.follow

-- an entry more
entered : (n high : ℕ) (kept : List FlushMsg) (W V : ℕ → Type 0) (down : List ToClient) (entries : List Entry) (durable : ℕ) (mail : List (ℕ × Sent)) (e : Entry)
    → (is_flush_of n e ≡ true → e.number ≡ last_flush entries n + 1) → (is_flush_of n e ≡ true → SaysAll e kept) → last_flush (entries ++ e ∷ []) n ≤ high → V (last_flush (entries ++ e ∷ []) n) → Flushing n high kept W down entries durable mail → Flushing n high kept V down (entries ++ e ∷ []) durable mail
entered n high kept W V down entries durable mail e next says most now f = record {
  fits = let fits = f.fits in grind (arith, fits, length-append);
  counted = counted_append n 0 entries (e ∷ []) f.counted (next, tt);
  most = most;
  follow = subst (λ (l : List Entry). Follow (last_flush l n) high (above (last_flush l n) kept)) same f.follow;
  agree = all_agree_entry n entries e kept says f.agree;
  way = now;
  mail = mail_more n entries e mail f.mail;
  down = subst (λ (l : List Entry). AllBound n l down) same f.down;
}
  where
    same : take durable entries ≡ take durable (entries ++ e ∷ [])
    same = sym (take-append-le durable entries (e ∷ []) f.fits)

-- An act fits that enters no flush of the client, and acknowledges none to it.
abbrev pub IsQuiet : ℕ → Act → Type 0
IsQuiet n (Buffer e) = is_flush_of n e ≡ false
IsQuiet n (Prepare said) = is_flush said ≡ false
IsQuiet n (TellAck x number) = (x == n) ≡ false
IsQuiet n a = Unit {0}

no_flush : (n : ℕ) (e : Entry) → is_flush e.what ≡ false → is_flush_of n e ≡ false
no_flush n e is = rw is refl

and_false : (a b : Bool) → b ≡ false → (a && b) ≡ false
and_false true b is = is
and_false false b is = refl

pub ruled_quiet : (n : ℕ) (entries : List Entry) (a : Act) → IsRuled entries a → IsQuiet n a
ruled_quiet n entries (Buffer e) is = no_flush n e is
ruled_quiet n entries (Prepare said) is = is
ruled_quiet n entries (TellAck x number) is = absurd is
ruled_quiet n entries a is = tt

pub flushing_quiet : (n x : ℕ) (a : Act) → (x == n) ≡ false → IsFlushing x a → IsQuiet n a
flushing_quiet n x (Buffer e) other is = and_false (is_flush e.what) (e.client == n) (subst (λ (y : ℕ). (y == n) ≡ false) (sym is) other)
flushing_quiet n x (Prepare said) other is = absurd is
flushing_quiet n x (TellAck y number) other is = subst (λ (z : ℕ). (z == n) ≡ false) (sym is) other
flushing_quiet n x a other is = tt

written_quiet : (made : Change) → IfSome (written_down made) (λ said. is_flush said ≡ false)
written_quiet (change.Mkdir dir name ino) = refl
written_quiet (change.Create dir name ino mode) = refl
written_quiet (change.Link ino dir name) = refl
written_quiet (change.Unlink dir name) = refl
written_quiet (change.Rmdir dir name) = refl
written_quiet (change.Rename dir name to_dir to_name) = refl
written_quiet (change.Chmod ino mode) = refl
written_quiet (change.OpenFile handle ino writable) = refl
written_quiet (change.CloseFile handle) = refl
written_quiet (change.Mksnap id dir name) = refl
written_quiet (change.Rmsnap id) = refl
written_quiet (change.WriteFile handle offset bytes) = tt
written_quiet (change.Truncate handle size) = tt

-- what is sent
pub send_in : (n high : ℕ) (kept : List FlushMsg) (W : ℕ → Type 0) (down : List ToClient) (s : Server) (sent : Sent) → ((sent.to == n) ≡ true → BoundBy n s.entries (told_by sent.message)) → In n high kept W down s → In n high kept W down (send s sent)
send_in n high kept W down s sent bound f = record { fits = f.fits; counted = f.counted; most = f.most; follow = f.follow; agree = f.agree; way = f.way; mail = mail_end n s.entries s.mail sent bound f.mail; down = f.down }

abbrev ToldBound : ℕ → ℕ → List Entry → Told → Type 0
ToldBound n x entries (Acked number) = (x == n) ≡ true → number ≤ last_flush entries n
ToldBound n x entries told = Unit {0}

told_bound : (n x : ℕ) (s : Server) (conn : ℕ) (told : Told) → ToldBound n x s.entries told → (x == n) ≡ true → Bound n s.entries (message_of s conn told)
told_bound n x s conn (Answered tid said) bound to = tt
told_bound n x s conn (Granted tid ino mode) bound to = tt
told_bound n x s conn (WantedBack ino) bound to = tt
told_bound n x s conn (Changed inos) bound to = tt
told_bound n x s conn (Acked number) bound to = bound to

pub tell_in : (n high : ℕ) (kept : List FlushMsg) (W : ℕ → Type 0) (down : List ToClient) (s : Server) (x : ℕ) (told : Told) → ToldBound n x s.entries told → In n high kept W down s → In n high kept W down (tell s x told)
tell_in n high kept W down s x told bound f = by_number (number_of s.current x)
  where
    by_number : (o : Option ℕ) → In n high kept W down (tell_at s x told o)
    by_number None = f
    by_number (Some conn) = send_in n high kept W down s (record { to = x; message = message.ToClient (message_of s conn told) }) (told_bound n x s conn told bound) f

-- what is buffered
buffer_in : (n high : ℕ) (kept : List FlushMsg) (W V : ℕ → Type 0) (down : List ToClient) (s : Server) (e : Entry)
    → (is_flush_of n e ≡ true → e.number ≡ last_flush s.entries n + 1) → (is_flush_of n e ≡ true → SaysAll e kept) → last_flush (s.entries ++ e ∷ []) n ≤ high → V (last_flush (s.entries ++ e ∷ []) n) → In n high kept W down s → In n high kept V down (buffer s e)
buffer_in n high kept W V down s e next says most now f = notices_keep (In n high kept V down) (λ t x inos so. tell_in n high kept V down t x (Changed inos) tt so) s.entries (up_to s.clients) (record s { entries = s.entries ++ e ∷ [] })
    (entered n high kept W V down s.entries s.durable s.mail e next says most now f)

quiet_in : (n high : ℕ) (kept : List FlushMsg) (W : ℕ → Type 0) (down : List ToClient) (s : Server) (e : Entry) → is_flush_of n e ≡ false → In n high kept W down s → In n high kept W down (buffer s e)
quiet_in n high kept W down s e is f =
    let same = last_quiet n s.entries e is in
    buffer_in n high kept W W down s e (λ here. absurd (true≢false (sym here ∙ is))) (λ here. absurd (true≢false (sym here ∙ is))) (subst (λ (k : ℕ). k ≤ high) (sym same) f.most) (subst W (sym same) f.way) f

pub one_in : (n high : ℕ) (kept : List FlushMsg) (W : ℕ → Type 0) (down : List ToClient) (s : Server) (a : Act) → IsQuiet n a → In n high kept W down s → In n high kept W down (act s a)
one_in n high kept W down s (TellRecall x ino) fit f = tell_in n high kept W down s x (WantedBack ino) tt f
one_in n high kept W down s (TellAck x number) fit f = tell_in n high kept W down s x (Acked number) (λ to. absurd (true≢false (sym to ∙ fit))) f
one_in n high kept W down s (TellRestart x) fit f = send_in n high kept W down s (record { to = x; message = message.ToClient (Restarted (stamp s)) }) (λ to. tt) f
one_in n high kept W down s (AnswerIt said) fit f = by_hand s.hand
  where
    by_hand : (h : Option Asked) → In n high kept W down (answer_hand s said h)
    by_hand None = f
    by_hand (Some a) = tell_in n high kept W down (record s { hand = None }) a.client (Answered a.tid said) tt f
one_in n high kept W down s (GrantIt ino mode) fit f = by_hand s.hand
  where
    by_hand : (h : Option Asked) → In n high kept W down (grant_hand s ino mode h)
    by_hand None = f
    by_hand (Some a) = tell_in n high kept W down (record s { hand = None }) a.client (Granted a.tid ino mode) tt f
one_in n high kept W down s (MakeEffect made) fit f = by_hand s.hand
  where
    by_said : (a : Asked) (o : Option What) → IfSome o (λ said. is_flush said ≡ false) → In n high kept W down (buffer_for s a o)
    by_said a None is = f
    by_said a (Some said) is = quiet_in n high kept W down s (entry_for a said) (no_flush n (entry_for a said) is) f

    by_hand : (h : Option Asked) → In n high kept W down (effect_hand s made h)
    by_hand None = f
    by_hand (Some a) = by_said a (written_down made) (written_quiet made)
one_in n high kept W down s (Prepare said) fit f = by_hand s.hand
  where
    by_hand : (h : Option Asked) → In n high kept W down (prepare_hand s said h)
    by_hand None = f
    by_hand (Some a) = quiet_in n high kept W down (record s { operation = Some a; hand = None }) (entry_for a said) (no_flush n (entry_for a said) fit) f
one_in n high kept W down s (Buffer e) fit f = quiet_in n high kept W down s e fit f
one_in n high kept W down s (SendPurge id) fit f = send_in n high kept W down (record s { purging = s.purging ++ id ∷ [] }) (record { to = s.clients + 1; message = message.ToStore (Purge id) }) (λ to. tt) f
one_in n high kept W down s (SendDelete ino) fit f = send_in n high kept W down (record s { deleting = s.deleting ++ ino ∷ [] }) (record { to = s.clients + 1; message = message.ToStore (Delete ino (context s.entries ino)) }) (λ to. tt) f
one_in n high kept W down s a fit f = f

-- A flush of the client itself is taken: the one behind the last.
pub flush_is : (n : ℕ) (f : FlushMsg) → is_flush_of n (record { client = n; number = f.number; what = flush_entry f }) ≡ true
flush_is n f = rw (by_test f.release, itself) refl
  where
    by_test : (b : Bool) → is_flush (cond b (Release f.ino f.follows f.size) (Settle f.ino f.follows f.upto f.size)) ≡ true
    by_test true = refl
    by_test false = refl

    itself : (n == n) ≡ true
    itself = grind (arith, nat_tests)

settles_in : (n high : ℕ) (kept : List FlushMsg) (W : ℕ → Type 0) (down : List ToClient) (s : Server) (f : FlushMsg) → In n high kept W down s → In n high kept W down (act s (flush_settles n f))
settles_in n high kept W down s f now = by_test f.release
  where
    by_test : (b : Bool) → In n high kept W down (act s (cond b (LetGo n f.ino) (Settled n f.ino f.upto)))
    by_test true = now
    by_test false = now

taken_in : (n high : ℕ) (kept : List FlushMsg) (W V : ℕ → Type 0) (down : List ToClient) (s : Server) (f : FlushMsg) → f.number ≡ last_flush s.entries n + 1 → SaysAll (record { client = n; number = f.number; what = flush_entry f }) kept → f.number ≤ high → V f.number → In n high kept W down s → In n high kept V down (acts s (Buffer (record { client = n; number = f.number; what = flush_entry f }) ∷ flush_settles n f ∷ []))
taken_in n high kept W V down s f next says most now is = settles_in n high kept V down (buffer s (record { client = n; number = f.number; what = flush_entry f })) f (buffer_in n high kept W V down s (record { client = n; number = f.number; what = flush_entry f }) (λ here. next) (λ here. says) (subst (λ (k : ℕ). k ≤ high) (sym same) most) (subst V (sym same) now) is)
  where
    same : last_flush (s.entries ++ record { client = n; number = f.number; what = flush_entry f } ∷ []) n ≡ f.number
    same = last_new n s.entries (record { client = n; number = f.number; what = flush_entry f }) (flush_is n f)

pub acts_append : (xs ys : List Act) (s : Server) → acts s (xs ++ ys) ≡ acts (acts s xs) ys
acts_append [] ys s = refl
acts_append (a ∷ xs) ys s = acts_append xs ys (act s a)

-- it comes by itself, and is acknowledged
pub flush_in : (n high : ℕ) (kept rest : List FlushMsg) (W : ℕ → Type 0) (down : List ToClient) (s : Server) (f : FlushMsg) → f ∷ rest ≡ above (last_flush s.entries n) kept → In n high kept W down s → In n high kept (λ k. (k ≡ f.number) × (rest ≡ above k kept)) down (acts s (on_flush n s f))
flush_in n high kept rest W down s f same is = by_test (nat_le f.number (last_flush s.entries n)) refl
  where
    follow : Follow (last_flush s.entries n) high (f ∷ rest)
    follow = subst (Follow (last_flush s.entries n) high) (sym same) (follows_last n high kept W down s.entries s.durable s.mail is)

    next : f.number ≡ last_flush s.entries n + 1
    next = follow.0

    most : f.number ≤ high
    most = let more = follow_most (last_flush s.entries n + 1) high rest follow.1 in let is = next in omega (arith, more, is)

    left : rest ≡ above f.number kept
    left =
        subst (λ (k : ℕ). rest ≡ above k kept) (sym next)
        (sym (above_all (last_flush s.entries n + 1) high rest follow.1) ∙ above_next (last_flush s.entries n) kept rest f next same)

    V : ℕ → Type 0
    V k = (k ≡ f.number) × (rest ≡ above k kept)

    taken : In n high kept V down (acts s (Buffer (record { client = n; number = f.number; what = flush_entry f }) ∷ flush_settles n f ∷ []))
    taken = taken_in n high kept W V down s f next (first_says (last_flush s.entries n) high f rest (record { client = n; number = f.number; what = flush_entry f }) kept refl refl same follow) most (refl, left) is

    told : (t : Server) → In n high kept V down t → In n high kept V down (tell t n (Acked f.number))
    told t now = tell_in n high kept V down t n (Acked f.number) (λ to. let e = now.way.0 in omega (arith, e)) now

    by_test : (b : Bool) → nat_le f.number (last_flush s.entries n) ≡ b → In n high kept V down (acts s (cond b [] (Buffer (record { client = n; number = f.number; what = flush_entry f }) ∷ flush_settles n f ∷ []) ++ TellAck n f.number ∷ []))
    by_test true test = absurd (let is = next in grind (arith, nat_tests, test, is))
    by_test false test = told (acts s (Buffer (record { client = n; number = f.number; what = flush_entry f }) ∷ flush_settles n f ∷ [])) taken

-- a connection brings along all that the client keeps
abbrev Left : List FlushMsg → List FlushMsg → ℕ → Type 0
Left kept fs k = above k fs ≡ above k kept

settled_in : (n high : ℕ) (kept : List FlushMsg) (W : ℕ → Type 0) (down : List ToClient) (s : Server) (f : FlushMsg) → In n high kept W down s → In n high kept W down (acts s (cond f.release [] (Settled n f.ino f.upto ∷ [])))
settled_in n high kept W down s f now = by_test f.release
  where
    by_test : (b : Bool) → In n high kept W down (acts s (cond b [] (Settled n f.ino f.upto ∷ [])))
    by_test true = now
    by_test false = now

brought_one : (n high : ℕ) (kept fs : List FlushMsg) (down : List ToClient) (s : Server) (f : FlushMsg) → In n high kept (Left kept (f ∷ fs)) down s → In n high kept (Left kept fs) down (acts s (take_flush n s f))
brought_one n high kept fs down s f is = by_test (nat_le f.number (last_flush s.entries n)) refl
  where
    old : nat_le f.number (last_flush s.entries n) ≡ true → nat_lt (last_flush s.entries n) f.number ≡ false
    old test = grind (arith, nat_tests, test)

    new : nat_le f.number (last_flush s.entries n) ≡ false → nat_lt (last_flush s.entries n) f.number ≡ true
    new test = grind (arith, nat_tests, test)

    skipped : nat_lt (last_flush s.entries n) f.number ≡ false → above (last_flush s.entries n) fs ≡ above (last_flush s.entries n) kept
    skipped test = sym (ap (λ (b : Bool). cond b (f ∷ above (last_flush s.entries n) fs) (above (last_flush s.entries n) fs)) test) ∙ is.way

    here : nat_lt (last_flush s.entries n) f.number ≡ true → f ∷ above (last_flush s.entries n) fs ≡ above (last_flush s.entries n) kept
    here test = sym (ap (λ (b : Bool). cond b (f ∷ above (last_flush s.entries n) fs) (above (last_flush s.entries n) fs)) test) ∙ is.way

    by_test : (b : Bool) → nat_le f.number (last_flush s.entries n) ≡ b → In n high kept (Left kept fs) down (acts s (cond b [] (Buffer (record { client = n; number = f.number; what = flush_entry f }) ∷ flush_settles n f ∷ [])))
    by_test true test = record { fits = is.fits; counted = is.counted; most = is.most; follow = is.follow; agree = is.agree; way = skipped (old test); mail = is.mail; down = is.down }
    by_test false test = taken_in n high kept (Left kept (f ∷ fs)) (Left kept fs) down s f next (first_says (last_flush s.entries n) high f (above (last_flush s.entries n) fs) (record { client = n; number = f.number; what = flush_entry f }) kept refl refl same follow) most left is
      where
        same : f ∷ above (last_flush s.entries n) fs ≡ above (last_flush s.entries n) kept
        same = here (new test)

        follow : Follow (last_flush s.entries n) high (f ∷ above (last_flush s.entries n) fs)
        follow = subst (Follow (last_flush s.entries n) high) (sym same) (follows_last n high kept (Left kept (f ∷ fs)) down s.entries s.durable s.mail is)

        next : f.number ≡ last_flush s.entries n + 1
        next = follow.0

        most : f.number ≤ high
        most = let more = follow_most (last_flush s.entries n + 1) high (above (last_flush s.entries n) fs) follow.1 in let at = next in omega (arith, more, at)

        left : above f.number fs ≡ above f.number kept
        left =
            subst (λ (k : ℕ). above k fs ≡ above k kept) (sym next)
            (sym (above_above (last_flush s.entries n) (last_flush s.entries n + 1) fs (omega arith)) ∙ above_next (last_flush s.entries n) kept (above (last_flush s.entries n) fs) f next same)

pub brought_in : (n high : ℕ) (kept : List FlushMsg) (down : List ToClient) (fs : List FlushMsg) (s : Server) → In n high kept (Left kept fs) down s → In n high kept (λ k. [] ≡ above k kept) down (acts s (each (take_brought n) s fs))
brought_in n high kept down [] s is = is
brought_in n high kept down (f ∷ fs) s is =
    subst (In n high kept (λ k. [] ≡ above k kept) down) (sym (acts_append (take_brought n s f) (each (take_brought n) (acts s (take_brought n s f)) fs) s))
    (brought_in n high kept down fs (acts s (take_brought n s f)) one)
  where
    one : In n high kept (Left kept fs) down (acts s (take_brought n s f))
    one = subst (In n high kept (Left kept fs) down) (sym (acts_append (take_flush n s f) (cond f.release [] (Settled n f.ino f.upto ∷ [])) s))
        (settled_in n high kept (Left kept fs) down (acts s (take_flush n s f)) f (brought_one n high kept fs down s f is))

claims_in : (n high : ℕ) (kept : List FlushMsg) (W : ℕ → Type 0) (down : List ToClient) (said : List Claim) (s : Server) → In n high kept W down s → In n high kept W down (acts s (each (take_claim n) s said))
claims_in n high kept W down [] s is = is
claims_in n high kept W down (claim ∷ said) s is =
    subst (In n high kept W down) (sym (acts_append (take_claim n s claim) (each (take_claim n) (acts s (take_claim n s claim)) said) s))
    (claims_in n high kept W down said (acts s (take_claim n s claim)) (by_test (list_any (clash (claimed n claim)) s.holders)))
  where
    by_test : (b : Bool) → In n high kept W down (acts s (cond b [] (Hold (claimed n claim) ∷ [])))
    by_test true = is
    by_test false = is

pub back_in : (n high : ℕ) (kept : List FlushMsg) (W : ℕ → Type 0) (down : List ToClient) (said : List Claim) (s : Server) → In n high kept W down s → In n high kept (λ k. [] ≡ above k kept) down (acts s (come_back s n said kept))
back_in n high kept W down said s is =
    let t = act s (LetAllGo n) in
    let claimed_in = claims_in n high kept W down said t is in
    let u = acts t (each (take_claim n) t said) in
    subst (In n high kept (λ k. [] ≡ above k kept) down) (sym (acts_append (each (take_claim n) t said) (each (take_brought n) u kept) t))
    (brought_in n high kept down kept u (way_as n high kept W (Left kept kept) down u.entries u.durable u.mail (λ k at w. refl) claimed_in))
