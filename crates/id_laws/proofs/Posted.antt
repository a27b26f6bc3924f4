-- What the server tells a client names nothing above the newest id of the entries that it was made after.
use Rattle.std.proofs.Common.{◌≡◌, ◌≤◌, ℕ, ◌+◌, List, [], ◌∷◌, ◌++◌, map, take, length, length-append, Bool, true, false, cond, Option, None, Some, refl, sym, ap, ◌∙◌, subst, IfSome, arith}
use Rattle.std.proofs.lemmas.List.{take-append-le}
use Rattle.std.proofs.Math.Seq.{take-length}
use Rattle.std.proofs.lemmas.Bool.Decides.{nat_tests}
use Rattle.std.specs.Prelude.{nat_le}
use Rattle.std.specs.List.{AllByRecursion, cons_option}
use Rattle.snap_ids.specs.declared.id.Ino.{Ino}
use Rattle.plain_types.specs.declared.entry.Entry.{Entry}
use Rattle.plain_types.specs.declared.entry.What.{What}
use Rattle.plain_types.specs.declared.history.Sent.{Sent}
use Rattle.plain_types.specs.declared.message.Message.{Message}
use Rattle.plain_types.specs.declared.message.Message.TheVariants as message
use Rattle.plain_types.specs.declared.message.ToClient.{ToClient}
use Rattle.plain_types.specs.declared.message.ToClient.TheVariants.{Welcome, Restarted}
use Rattle.plain_types.specs.declared.message.ToStore.{ToStore}
use Rattle.plain_types.specs.declared.message.ToStore.TheVariants.{Purge, Delete}
use Rattle.plain_tree.specs.History.{stamp_of}
use Rattle.plain_journal.specs.Coverage.{context}
use Rattle.plain_journal.specs.Entries.{applied}
use Rattle.plain_journal.specs.Table.{last_flush}
use Rattle.step_table.specs.ServerState.{Asked, Server, Told, Answered, Granted, WantedBack, Changed, Acked, message_of, tell, tell_at, number_of, stamp, trace_of, written_by, up_to, send_store, welcome}
use Rattle.step_table.specs.Acts.{Act, TellRecall, TellAck, TellRestart, AnswerIt, GrantIt, MakeEffect, Prepare, Buffer, SendPurge, SendDelete, act, answer_hand, grant_hand, effect_hand, buffer_for, written_down, prepare_hand, entry_for, buffer, goes, waits}
use Rattle.step_table.specs.World.{to_clients, told_to}
use Rattle.run_laws.specs.Stamps.{told_by, entry_of, IsStampOf}
use Rattle.run_laws.proofs.Known.{longer}
use Rattle.run_laws.proofs.Acts.{notices_keep}
use Rattle.id_laws.specs.Upto.{TraceUpto, ToldUpto, Every}
use Rattle.id_laws.proofs.Entering.{EntryFits}
use Rattle.id_laws.proofs.Newest.{newest, newest_least, newest_take, applied_newest, context_upto, whole_context, trace_upto}
use Rattle.id_laws.proofs.Saying.{SaysUpto}
use Rattle.id_laws.proofs.Sizes.{largest, settled_largest, WholeUpto, NumbersUpto}

-- what is told after some entries: it names nothing above their newest id, and no size above the largest that they settled
abbrev pub ToldAfter : List Entry → ToClient → Type 0
ToldAfter made told = ToldUpto (newest made) told × NumbersUpto (newest made) (largest made) told

-- a message whose stamp is of some entries, and that was told after those that the stamp counts
abbrev pub TellsUpto : List Entry → ToClient → Type 0
TellsUpto entries told = IsStampOf entries told × ToldAfter (take (entry_of told) entries) told

-- with more entries
pub tells_more : (entries more : List Entry) (told : ToClient) → TellsUpto entries told → TellsUpto (entries ++ more) told
tells_more entries more told is = ((longer_now, is.0.1 ∙ ap applied (sym same)), subst (λ (l : List Entry). ToldAfter l told) (sym same) is.1)
  where
    fits : entry_of told ≤ length entries
    fits = is.0.0

    longer_now : entry_of told ≤ length (entries ++ more)
    longer_now = grind (arith, fits, length-append)

    same : take (entry_of told) (entries ++ more) ≡ take (entry_of told) entries
    same = take-append-le (entry_of told) entries more fits

-- the id of the stamp is none above the newest one
pub stamp_upto : (entries : List Entry) (told : ToClient) → TellsUpto entries told → (stamp_of told).snap.0 ≤ newest entries
stamp_upto entries told is = low (stamp_of told).snap.0 (applied (take (entry_of told) entries)) (newest (take (entry_of told) entries)) (newest entries) is.0.1 (applied_newest (take (entry_of told) entries)) (newest_take (entry_of told) entries)
  where
    low : (a b c d : ℕ) → a ≡ b → b ≤ c → c ≤ d → a ≤ d
    low a b c d same one two = omega (arith, same, one, two)

-- what is made now
now_upto : (s : Server) (told : ToClient) → stamp_of told ≡ stamp s → ToldAfter s.entries told → TellsUpto s.entries told
now_upto s told is upto = ((omega (arith, place), id ∙ ap applied (sym whole)), subst (λ (l : List Entry). ToldAfter l told) (sym whole) upto)
  where
    place : entry_of told ≡ length s.entries
    place = ap (λ st. st.entry) is

    id : (stamp_of told).snap.0 ≡ applied s.entries
    id = ap (λ st. st.snap.0) is

    whole : take (entry_of told) s.entries ≡ s.entries
    whole = ap (λ (k : ℕ). take k s.entries) place ∙ take-length s.entries

one_trace : (s : Server) (ino : Ino) → TraceUpto (newest s.entries) (trace_of s ino)
one_trace s ino = trace_upto (newest s.entries) ino (context s.entries ino) (newest_least s.entries) (context_upto s.entries ino)

traces : (s : Server) (inos : List Ino) → AllByRecursion (TraceUpto (newest s.entries)) (map (trace_of s) inos)
traces s [] = tt
traces s (ino ∷ inos) = (one_trace s ino, traces s inos)

-- the same trace with all that it says
one_whole : (s : Server) (ino : Ino) → WholeUpto (newest s.entries) (trace_of s ino)
one_whole s ino = let known = whole_context s.entries ino in (omega arith, ((known.0, omega arith, tt, known.1), tt))

wholes : (s : Server) (inos : List Ino) → AllByRecursion (WholeUpto (newest s.entries)) (map (trace_of s) inos)
wholes s [] = tt
wholes s (ino ∷ inos) = (one_whole s ino, wholes s inos)

-- an answer that may be told
abbrev MayTell : List Entry → Told → Type 0
MayTell entries (Answered tid said) = SaysUpto entries said
MayTell entries told = Unit {0}

made_upto : (s : Server) (conn : ℕ) (told : Told) → MayTell s.entries told → TellsUpto s.entries (message_of s conn told)
made_upto s conn (Answered tid said) may = now_upto s (message_of s conn (Answered tid said)) refl (tt, may)
made_upto s conn (Granted tid ino mode) may = now_upto s (message_of s conn (Granted tid ino mode)) refl (one_trace s ino, (settled_largest s.entries ino _, one_whole s ino))
made_upto s conn (WantedBack ino) may = now_upto s (message_of s conn (WantedBack ino)) refl (tt, tt)
made_upto s conn (Changed inos) may = now_upto s (message_of s conn (Changed inos)) refl (traces s inos, wholes s inos)
made_upto s conn (Acked number) may = now_upto s (message_of s conn (Acked number)) refl (tt, tt)

-- the mail
abbrev pub SentUpto : List Entry → Option ToClient → Type 0
SentUpto entries None = Unit {0}
SentUpto entries (Some told) = TellsUpto entries told

abbrev pub MailUpto : List Entry → List (ℕ × Sent) → Type 0
MailUpto entries [] = Unit {0}
MailUpto entries (m ∷ mail) = (m.0 ≤ length entries) × SentUpto (take m.0 entries) (told_by m.1.message) × MailUpto entries mail

mail_more : (entries : List Entry) (e : Entry) (mail : List (ℕ × Sent)) → MailUpto entries mail → MailUpto (entries ++ e ∷ []) mail
mail_more entries e [] all = tt
mail_more entries e (m ∷ mail) all =
    (let less = all.0 in grind (arith, less, length-append), subst (λ (l : List Entry). SentUpto l (told_by m.1.message)) (sym (take-append-le m.0 entries (e ∷ []) all.0)) all.1, mail_more entries e mail all.2)

mail_end : (entries : List Entry) (mail : List (ℕ × Sent)) (sent : Sent) → SentUpto entries (told_by sent.message) → MailUpto entries mail → MailUpto entries (mail ++ (length entries, sent) ∷ [])
mail_end entries [] sent is all = (omega arith, subst (λ (l : List Entry). SentUpto l (told_by sent.message)) (sym (take-length entries)) is, tt)
mail_end entries (m ∷ mail) sent is all = (all.0, all.1, mail_end entries mail sent is all.2)

pub mail_waits : (entries : List Entry) (d : ℕ) (mail : List (ℕ × Sent)) → MailUpto entries mail → MailUpto entries (waits d mail)
mail_waits entries d [] all = tt
mail_waits entries d (m ∷ mail) all = by_test (nat_le m.0 d) (mail_waits entries d mail all.2)
  where
    by_test : (b : Bool) → MailUpto entries (waits d mail) → MailUpto entries (cond b (waits d mail) (m ∷ mail))
    by_test true rest = rest
    by_test false rest = all

-- what goes when so many entries are durable
pub gone_upto : (entries : List Entry) (d : ℕ) → d ≤ length entries → (mail : List (ℕ × Sent)) → MailUpto entries mail → Every (TellsUpto (take d entries)) (to_clients (goes d mail))
gone_upto entries d fits [] all = tt
gone_upto entries d fits (m ∷ mail) all = by_test (nat_le m.0 d) refl (gone_upto entries d fits mail all.2)
  where
    one : (to : ℕ) (x : Message) → SentUpto (take m.0 entries) (told_by x) → m.0 ≤ d → Every (TellsUpto (take d entries)) (to_clients (goes d mail)) → Every (TellsUpto (take d entries)) (cons_option (told_to to x) (to_clients (goes d mail)))
    one to (message.ToClient told) is less rest = (longer (λ (l : List Entry). TellsUpto l told) (λ xs ys so. tells_more xs ys told so) m.0 d entries less fits is, rest)
    one to x is less rest = rest

    by_test : (b : Bool) → nat_le m.0 d ≡ b → Every (TellsUpto (take d entries)) (to_clients (goes d mail)) → Every (TellsUpto (take d entries)) (to_clients (cond b (m.1 ∷ goes d mail) []))
    by_test true test rest = one m.1.to m.1.message all.1 (grind (arith, nat_tests, test)) rest
    by_test false test rest = tt

-- each act leaves it so
abbrev pub Posted : Server → Type 0
Posted s = MailUpto s.entries s.mail

told_posted : (s : Server) (x : ℕ) (told : Told) → MayTell s.entries told → Posted s → Posted (tell s x told)
told_posted s x told may all = by_number (number_of s.current x)
  where
    by_number : (o : Option ℕ) → Posted (tell_at s x told o)
    by_number None = all
    by_number (Some conn) = mail_end s.entries s.mail (record { to = x; message = message.ToClient (message_of s conn told) }) (made_upto s conn told may) all

buffer_posted : (s : Server) (e : Entry) → Posted s → Posted (buffer s e)
buffer_posted s e all = notices_keep Posted (λ t x inos so. told_posted t x (Changed inos) tt so) s.entries (up_to s.clients) (record s { entries = s.entries ++ e ∷ [] }) (mail_more s.entries e s.mail all)

ordered_posted : (s : Server) (order : ToStore) → Posted s → Posted (send_store s order)
ordered_posted s order all = mail_end s.entries s.mail (record { to = s.clients + 1; message = message.ToStore order }) tt all

pub one_posted : (s : Server) (a : Act) → EntryFits s a → Posted s → Posted (act s a)
one_posted s (TellRecall x ino) fit all = told_posted s x (WantedBack ino) tt all
one_posted s (TellAck x number) fit all = told_posted s x (Acked number) tt all
one_posted s (TellRestart x) fit all = mail_end s.entries s.mail (record { to = x; message = message.ToClient (Restarted (stamp s)) }) (now_upto s (Restarted (stamp s)) refl (tt, tt)) all
one_posted s (AnswerIt said) fit all = by_hand s.hand fit
  where
    by_hand : (o : Option Asked) → IfSome o (λ a. SaysUpto s.entries said) → Posted (answer_hand s said o)
    by_hand None may = all
    by_hand (Some a) may = told_posted (record s { hand = None }) a.client (Answered a.tid said) may all
one_posted s (GrantIt ino mode) fit all = by_hand s.hand
  where
    by_hand : (o : Option Asked) → Posted (grant_hand s ino mode o)
    by_hand None = all
    by_hand (Some a) = told_posted (record s { hand = None }) a.client (Granted a.tid ino mode) tt all
one_posted s (MakeEffect made) fit all = by_hand s.hand
  where
    by_said : (a : Asked) (o : Option What) → Posted (buffer_for s a o)
    by_said a None = all
    by_said a (Some said) = buffer_posted s (entry_for a said) all

    by_hand : (o : Option Asked) → Posted (effect_hand s made o)
    by_hand None = all
    by_hand (Some a) = by_said a (written_down made)
one_posted s (Prepare said) fit all = by_hand s.hand
  where
    by_hand : (o : Option Asked) → Posted (prepare_hand s said o)
    by_hand None = all
    by_hand (Some a) = buffer_posted (record s { operation = Some a; hand = None }) (entry_for a said) all
one_posted s (Buffer e) fit all = buffer_posted s e all
one_posted s (SendPurge id) fit all = ordered_posted (record s { purging = s.purging ++ id ∷ [] }) (Purge id) all
one_posted s (SendDelete ino) fit all = ordered_posted (record s { deleting = s.deleting ++ ino ∷ [] }) (Delete ino (context s.entries ino)) all
one_posted s a fit all = all

pub welcome_posted : (s : Server) (x conn : ℕ) → Posted s → Posted (welcome s x conn)
welcome_posted s x conn all =
    let hello = Welcome conn (stamp s) (last_flush s.entries x) (map (trace_of s) (written_by s x)) in
    mail_end s.entries s.mail (record { to = x; message = message.ToClient hello }) (now_upto s hello refl (traces s (written_by s x), wholes s (written_by s x))) all
