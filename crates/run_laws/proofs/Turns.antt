-- Acknowledgements go on one by one, along each run.
use Rattle.std.proofs.Common.{◌≡◌, ◌<◌, ℕ, ◌+◌, List, [], ◌∷◌, ◌++◌, length, Bool, true, false, true≢false, cond, Option, None, Some, refl, sym, ap, ◌∙◌, subst, arith}
use Rattle.std.proofs.lemmas.List.{append-nil}
use Rattle.std.proofs.lemmas.List.Sums.{fold-append}
use Rattle.std.proofs.lemmas.Bool.Decides.{nat_tests}
use Rattle.std.specs.Prelude.{◌==◌}
use Rattle.plain_types.specs.declared.entry.Entry.{Entry}
use Rattle.plain_types.specs.declared.entry.What.{What}
use Rattle.plain_types.specs.declared.message.Message.TheVariants as message
use Rattle.plain_types.specs.declared.message.ToClient.{ToClient}
use Rattle.plain_types.specs.declared.message.ToClient.TheVariants.{FlushAck, Welcome, Restarted}
use Rattle.plain_types.specs.declared.message.ToStore.{ToStore}
use Rattle.plain_types.specs.declared.message.ToStore.TheVariants.{Purge, Delete}
use Rattle.plain_journal.specs.Coverage.{context}
use Rattle.step_table.specs.ServerState.{Asked, Server, Told, Answered, Granted, WantedBack, Changed, Acked, message_of, tell, tell_at, number_of, stamp, up_to, send, send_client}
use Rattle.step_table.specs.Acts.{Act, TellRecall, TellAck, TellRestart, AnswerIt, GrantIt, MakeEffect, Prepare, Buffer, SendPurge, SendDelete, act, answer_hand, grant_hand, effect_hand, buffer_for, written_down, prepare_hand, entry_for, buffer}
use Rattle.run_laws.specs.Links.{mail_of, AllOld, IsOld, mark}
use Rattle.run_laws.specs.FlushNumbers.{next_ack, IsNext, AllNext, last_ack}
use Rattle.run_laws.proofs.Acts.{notices_keep}
use Rattle.run_laws.proofs.Linked.{more_mail}
use Rattle.run_laws.proofs.Numbering.{IsQuiet}

-- lists of messages
next_append : (conn last : ℕ) (p q : List ToClient) → AllNext conn last p → AllNext conn (last_ack conn last p) q → AllNext conn last (p ++ q)
next_append conn last [] q all more = more
next_append conn last (m ∷ p) q all more = (all.0, next_append conn (next_ack conn last m) p q all.1 more)

next_front : (conn last : ℕ) (p q : List ToClient) → AllNext conn last (p ++ q) → AllNext conn last p
next_front conn last [] q all = tt
next_front conn last (m ∷ p) q all = (all.0, next_front conn (next_ack conn last m) p q all.1)

-- old ones acknowledge nothing of this connection
old_next : (conn last : ℕ) (m : ToClient) → IsOld conn (mark m) → IsNext conn last m × (next_ack conn last m ≡ last)
old_next conn last (FlushAck k st number) old = (λ same. absurd (grind (arith, nat_tests, old, same)), rw (differs k old) refl)
  where
    differs : (k : ℕ) → k < conn → (k == conn) ≡ false
    differs k less = grind (arith, nat_tests, less)
old_next conn last (Welcome k st flushed update) old = (tt, rw (differs k old) refl)
  where
    differs : (k : ℕ) → k < conn → (k == conn) ≡ false
    differs k less = grind (arith, nat_tests, less)
old_next conn last m old = (tt, refl)

old_all : (conn last : ℕ) (p : List ToClient) → AllOld conn p → AllNext conn last p × (last_ack conn last p ≡ last)
old_all conn last [] old = (tt, refl)
old_all conn last (m ∷ p) old =
    let one = old_next conn last m old.0 in
    let rest = old_all conn last p old.1 in
    ((one.0, subst (λ (k : ℕ). AllNext conn k p) (sym one.1) rest.0), ap (λ (k : ℕ). last_ack conn k p) one.1 ∙ rest.1)

-- With something said of the last number: so many are acknowledged at first, then one by one.
abbrev pub Turn : ℕ → (ℕ → Type 0) → List ToClient → Type 0
Turn conn End p = (first : ℕ) × AllNext conn first p × End (last_ack conn first p)

turn_end : (conn : ℕ) (End Then : ℕ → Type 0) (p : List ToClient) (m : ToClient) → ((k : ℕ) → End k → IsNext conn k m × Then (next_ack conn k m)) → Turn conn End p → Turn conn Then (p ++ m ∷ [])
turn_end conn End Then p m go t =
    let now = go (last_ack conn t.0 p) t.2 in
    (t.0, next_append conn t.0 p (m ∷ []) t.1 (now.0, tt), subst Then (sym (fold-append (next_ack conn) t.0 p (m ∷ []))) now.1)

pub turn_as : (conn : ℕ) (End Then : ℕ → Type 0) (p : List ToClient) → ((k : ℕ) → End k → Then k) → Turn conn End p → Turn conn Then p
turn_as conn End Then p go t = (t.0, t.1, go (last_ack conn t.0 p) t.2)

pub turn_front : (conn : ℕ) (End : ℕ → Type 0) (p q : List ToClient) → Turn conn End (p ++ q) → Turn conn (λ k. Unit {0}) p
turn_front conn End p q t = (t.0, next_front conn t.0 p q t.1, tt)

pub turn_tail : (conn : ℕ) (End : ℕ → Type 0) (m : ToClient) (p : List ToClient) → Turn conn End (m ∷ p) → Turn conn End p
turn_tail conn End m p t = (next_ack conn t.0 m, t.1.1, t.2)

pub turn_old : (conn : ℕ) (End : ℕ → Type 0) (p : List ToClient) → AllOld conn p → End 0 → Turn conn End p
turn_old conn End p old end = let all = old_all conn 0 p old in (0, all.0, subst End (sym all.1) end)

-- The mail, with something said of the last number.
abbrev pub Posted : ℕ → ℕ → (ℕ → Type 0) → List ToClient → Server → Type 0
Posted n conn End down s = Turn conn End (down ++ mail_of n s.mail)

pub send_posted : (n conn : ℕ) (End Then : ℕ → Type 0) (down : List ToClient) (s : Server) (x : ℕ) (m : ToClient)
    → ((x == n) ≡ true → (k : ℕ) → End k → IsNext conn k m × Then (next_ack conn k m)) → ((x == n) ≡ false → (k : ℕ) → End k → Then k) → Posted n conn End down s → Posted n conn Then down (send_client s x m)
send_posted n conn End Then down s x m here other t = more_mail (Turn conn Then) n down s.mail (length s.entries, record { to = x; message = message.ToClient m }) (by_test (x == n) refl)
  where
    by_test : (b : Bool) → (x == n) ≡ b → Turn conn Then ((down ++ mail_of n s.mail) ++ cond b (m ∷ []) [])
    by_test true test = turn_end conn End Then (down ++ mail_of n s.mail) m (here test) t
    by_test false test = subst (Turn conn Then) (sym (append-nil (down ++ mail_of n s.mail))) (turn_as conn End Then (down ++ mail_of n s.mail) (other test) t)

-- a message that acknowledges nothing
abbrev IsPlain : ToClient → Type 0
IsPlain (FlushAck k st number) = ⊥
IsPlain (Welcome k st flushed update) = ⊥
IsPlain m = Unit {0}

plain_next : (conn k : ℕ) (m : ToClient) → IsPlain m → IsNext conn k m × (next_ack conn k m ≡ k)
plain_next conn k (FlushAck j st number) is = absurd is
plain_next conn k (Welcome j st flushed update) is = absurd is
plain_next conn k m is = (tt, refl)

pub plain_posted : (n conn : ℕ) (End : ℕ → Type 0) (down : List ToClient) (s : Server) (x : ℕ) (m : ToClient) → ((x == n) ≡ true → IsPlain m) → Posted n conn End down s → Posted n conn End down (send_client s x m)
plain_posted n conn End down s x m plain t = send_posted n conn End End down s x m (λ to k end. let one = plain_next conn k m (plain to) in (one.0, subst End (sym one.1) end)) (λ to k end. end) t

abbrev ToldPlain : ℕ → ℕ → Told → Type 0
ToldPlain n x (Acked number) = (x == n) ≡ false
ToldPlain n x told = Unit {0}

told_plain : (n x : ℕ) (s : Server) (conn : ℕ) (told : Told) → ToldPlain n x told → (x == n) ≡ true → IsPlain (message_of s conn told)
told_plain n x s conn (Answered tid said) is to = tt
told_plain n x s conn (Granted tid ino mode) is to = tt
told_plain n x s conn (WantedBack ino) is to = tt
told_plain n x s conn (Changed inos) is to = tt
told_plain n x s conn (Acked number) is to = absurd (true≢false (sym to ∙ is))

tell_posted : (n conn : ℕ) (End : ℕ → Type 0) (down : List ToClient) (s : Server) (x : ℕ) (told : Told) → ToldPlain n x told → Posted n conn End down s → Posted n conn End down (tell s x told)
tell_posted n conn End down s x told is t = by_number (number_of s.current x)
  where
    by_number : (o : Option ℕ) → Posted n conn End down (tell_at s x told o)
    by_number None = t
    by_number (Some k) = plain_posted n conn End down s x (message_of s k told) (told_plain n x s k told is) t

buffer_posted : (n conn : ℕ) (End : ℕ → Type 0) (down : List ToClient) (s : Server) (e : Entry) → Posted n conn End down s → Posted n conn End down (buffer s e)
buffer_posted n conn End down s e t = notices_keep (Posted n conn End down) (λ u x inos so. tell_posted n conn End down u x (Changed inos) tt so) s.entries (up_to s.clients) (record s { entries = s.entries ++ e ∷ [] }) t

store_posted : (n conn : ℕ) (End : ℕ → Type 0) (down : List ToClient) (s : Server) (m : ToStore) → Posted n conn End down s → Posted n conn End down (send s (record { to = s.clients + 1; message = message.ToStore m }))
store_posted n conn End down s m t = more_mail (Turn conn End) n down s.mail (length s.entries, record { to = s.clients + 1; message = message.ToStore m }) (subst (Turn conn End) (sym (append-nil (down ++ mail_of n s.mail))) t)

-- an act that acknowledges nothing to this client
abbrev pub NoAck : ℕ → Act → Type 0
NoAck n (TellAck x number) = (x == n) ≡ false
NoAck n a = Unit {0}

pub quiet_no_ack : (n : ℕ) (a : Act) → IsQuiet n a → NoAck n a
quiet_no_ack n (TellAck x number) is = is
quiet_no_ack n a is = tt

pub one_posted : (n conn : ℕ) (End : ℕ → Type 0) (down : List ToClient) (s : Server) (a : Act) → NoAck n a → Posted n conn End down s → Posted n conn End down (act s a)
one_posted n conn End down s (TellRecall x ino) fit t = tell_posted n conn End down s x (WantedBack ino) tt t
one_posted n conn End down s (TellAck x number) fit t = tell_posted n conn End down s x (Acked number) fit t
one_posted n conn End down s (TellRestart x) fit t = plain_posted n conn End down s x (Restarted (stamp s)) (λ to. tt) t
one_posted n conn End down s (AnswerIt said) fit t = by_hand s.hand
  where
    by_hand : (h : Option Asked) → Posted n conn End down (answer_hand s said h)
    by_hand None = t
    by_hand (Some a) = tell_posted n conn End down (record s { hand = None }) a.client (Answered a.tid said) tt t
one_posted n conn End down s (GrantIt ino mode) fit t = by_hand s.hand
  where
    by_hand : (h : Option Asked) → Posted n conn End down (grant_hand s ino mode h)
    by_hand None = t
    by_hand (Some a) = tell_posted n conn End down (record s { hand = None }) a.client (Granted a.tid ino mode) tt t
one_posted n conn End down s (MakeEffect made) fit t = by_hand s.hand
  where
    by_said : (a : Asked) (o : Option What) → Posted n conn End down (buffer_for s a o)
    by_said a None = t
    by_said a (Some said) = buffer_posted n conn End down s (entry_for a said) t

    by_hand : (h : Option Asked) → Posted n conn End down (effect_hand s made h)
    by_hand None = t
    by_hand (Some a) = by_said a (written_down made)
one_posted n conn End down s (Prepare said) fit t = by_hand s.hand
  where
    by_hand : (h : Option Asked) → Posted n conn End down (prepare_hand s said h)
    by_hand None = t
    by_hand (Some a) = buffer_posted n conn End down (record s { operation = Some a; hand = None }) (entry_for a said) t
one_posted n conn End down s (Buffer e) fit t = buffer_posted n conn End down s e t
one_posted n conn End down s (SendPurge id) fit t = store_posted n conn End down (record s { purging = s.purging ++ id ∷ [] }) (Purge id) t
one_posted n conn End down s (SendDelete ino) fit t = store_posted n conn End down (record s { deleting = s.deleting ++ ino ∷ [] }) (Delete ino (context s.entries ino)) t
one_posted n conn End down s a fit t = t
