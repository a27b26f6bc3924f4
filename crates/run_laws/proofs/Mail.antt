-- The server's mail waits in the order in which it was made, and goes when its entries are durable.
use Rattle.std.proofs.Common.{◌≡◌, ◌≤◌, ℕ, ◌+◌, List, [], ◌∷◌, ◌++◌, map, length, length-append, take, Bool, true, false, cond, Option, None, Some, refl, sym, ap, ◌∙◌, IfSome, arith}
use Rattle.std.proofs.lemmas.List.{take-append-le, length-take-le}
use Rattle.std.proofs.Math.Seq.{take-length}
use Rattle.std.proofs.lemmas.Bool.Decides.{nat_tests}
use Rattle.std.specs.Prelude.{nat_le}
use Rattle.plain_types.specs.declared.entry.Entry.{Entry}
use Rattle.plain_types.specs.declared.history.Sent.{Sent}
use Rattle.plain_types.specs.declared.message.Message.TheVariants as message
use Rattle.plain_types.specs.declared.message.ToClient.{ToClient}
use Rattle.plain_types.specs.declared.message.ToClient.TheVariants.{Welcome, Restarted}
use Rattle.plain_tree.specs.History.{stamp_of}
use Rattle.plain_journal.specs.Entries.{applied}
use Rattle.plain_journal.specs.Table.{last_flush}
use Rattle.step_table.specs.Row.{Row}
use Rattle.step_table.specs.ServerState.{Server, Told, Answered, Granted, WantedBack, Changed, Acked, message_of, tell, tell_at, number_of, stamp, written_by, trace_of}
use Rattle.step_table.specs.Acts.{goes, waits}
use Rattle.run_laws.specs.Stamps.{told_by, entry_of}
use Rattle.run_laws.proofs.Moves.{KeptByMoves, act_keeps}
use Rattle.run_laws.proofs.Serving.{ServerGives}
use Rattle.run_laws.proofs.Gives.{KeptByServer, any_always, server_gives}
use Rattle.run_laws.proofs.Acts.{AnyAct}
use Rattle.run_laws.proofs.Growing.{room}

-- stamped with the entries that it was made after
abbrev pub MadeAt : List Entry → ℕ → Option ToClient → Type 0
MadeAt entries made None = Unit {0}
MadeAt entries made (Some told) = (entry_of told ≡ made) × ((stamp_of told).snap.0 ≡ applied (take made entries))

-- mail that waits, from a number of entries on
abbrev pub Waiting : List Entry → ℕ → List (ℕ × Sent) → Type 0
Waiting entries low [] = Unit {0}
Waiting entries low (m ∷ mail) = (low ≤ m.0) × (m.0 ≤ length entries) × MadeAt entries m.0 (told_by m.1.message) × Waiting entries m.0 mail

-- what is sent, between two numbers of entries
abbrev pub GoneAt : List Entry → ℕ → ℕ → Option ToClient → (ℕ → Type 0) → Type 0
GoneAt entries low high None Rest = Rest low
GoneAt entries low high (Some told) Rest = (low ≤ entry_of told) × (entry_of told ≤ high) × ((stamp_of told).snap.0 ≡ applied (take (entry_of told) entries)) × Rest (entry_of told)

abbrev pub Gone : List Entry → ℕ → ℕ → List Sent → Type 0
Gone entries low high [] = low ≤ high
Gone entries low high (m ∷ sent) = GoneAt entries low high (told_by m.message) (λ next. Gone entries next high sent)

waiting_lower : (entries : List Entry) (low high : ℕ) (mail : List (ℕ × Sent)) → low ≤ high → Waiting entries high mail → Waiting entries low mail
waiting_lower entries low high [] less waiting = tt
waiting_lower entries low high (m ∷ mail) less waiting = (let more = waiting.0 in omega (arith, less, more), waiting.1, waiting.2, waiting.3)

waiting_more : (entries : List Entry) (e : Entry) (low : ℕ) (mail : List (ℕ × Sent)) → Waiting entries low mail → Waiting (entries ++ e ∷ []) low mail
waiting_more entries e low [] waiting = tt
waiting_more entries e low (m ∷ mail) waiting = (waiting.0, longer waiting.1, one (told_by m.1.message) waiting.2, waiting_more entries e m.0 mail waiting.3)
  where
    longer : m.0 ≤ length entries → m.0 ≤ length (entries ++ e ∷ [])
    longer less = grind (arith, less, length-append)

    one : (o : Option ToClient) → MadeAt entries m.0 o → MadeAt (entries ++ e ∷ []) m.0 o
    one None is = tt
    one (Some told) is = (is.0, is.1 ∙ ap applied (sym (take-append-le m.0 entries (e ∷ []) waiting.1)))

waiting_end : (entries : List Entry) (low : ℕ) (mail : List (ℕ × Sent)) (sent : Sent) → low ≤ length entries → MadeAt entries (length entries) (told_by sent.message) → Waiting entries low mail → Waiting entries low (mail ++ (length entries, sent) ∷ [])
waiting_end entries low [] sent less made waiting = (less, omega arith, made, tt)
waiting_end entries low (m ∷ mail) sent less made waiting = (waiting.0, waiting.1, waiting.2, waiting_end entries m.0 mail sent waiting.1 made waiting.3)

waiting_left : (entries : List Entry) (low durable : ℕ) (mail : List (ℕ × Sent)) → Waiting entries low mail → Waiting entries durable (waits durable mail)
waiting_left entries low durable [] waiting = tt
waiting_left entries low durable (m ∷ mail) waiting = by_test (nat_le m.0 durable) refl (waiting_left entries m.0 durable mail waiting.3)
  where
    by_test : (b : Bool) → nat_le m.0 durable ≡ b → Waiting entries durable (waits durable mail) → Waiting entries durable (cond b (waits durable mail) (m ∷ mail))
    by_test true test rest = rest
    by_test false test rest = (grind (arith, nat_tests, test), waiting.1, waiting.2, waiting.3)

gone_lower : (entries : List Entry) (low high most : ℕ) (sent : List Sent) → low ≤ high → Gone entries high most sent → Gone entries low most sent
gone_lower entries low high most [] less gone = omega (arith, less, gone)
gone_lower entries low high most (m ∷ sent) less gone = one (told_by m.message) (λ rest. gone_lower entries low high most sent less rest) gone
  where
    one : (o : Option ToClient) → (Gone entries high most sent → Gone entries low most sent) → GoneAt entries high most o (λ next. Gone entries next most sent) → GoneAt entries low most o (λ next. Gone entries next most sent)
    one None lower rest = lower rest
    one (Some told) lower rest = (let more = rest.0 in omega (arith, less, more), rest.1, rest.2, rest.3)

waiting_goes : (entries : List Entry) (low durable : ℕ) (mail : List (ℕ × Sent)) → low ≤ durable → Waiting entries low mail → Gone entries low durable (goes durable mail)
waiting_goes entries low durable [] less waiting = less
waiting_goes entries low durable (m ∷ mail) less waiting = by_test (nat_le m.0 durable) refl (λ most. waiting_goes entries m.0 durable mail most waiting.3)
  where
    sent : m.0 ≤ durable → (o : Option ToClient) → MadeAt entries m.0 o → Gone entries m.0 durable (goes durable mail) → GoneAt entries low durable o (λ next. Gone entries next durable (goes durable mail))
    sent most None made rest = gone_lower entries low m.0 durable (goes durable mail) waiting.0 rest
    sent most (Some told) made rest = (rw made.0 waiting.0, rw made.0 most, rw made.0 made.1, rw made.0 rest)

    by_test : (b : Bool) → nat_le m.0 durable ≡ b → (m.0 ≤ durable → Gone entries m.0 durable (goes durable mail)) → Gone entries low durable (cond b (m.1 ∷ goes durable mail) [])
    by_test true test rest = let most : m.0 ≤ durable = grind (arith, nat_tests, test) in sent most (told_by m.1.message) waiting.2 (rest most)
    by_test false test rest = less

-- the server, in a row that began with so many entries durable
pub record MailedAt (least : ℕ) (entries : List Entry) (durable : ℕ) (mail : List (ℕ × Sent)) : Type 0 where
  pub low : least ≤ durable
  pub fits : durable ≤ length entries
  pub waiting : Waiting entries least mail

abbrev pub Mailed : Server → Type 0
Mailed s = MailedAt s.durable s.entries s.durable s.mail

abbrev pub HandedOut : Bool → Server → Row Server → Type 0
HandedOut b before r = Mailed r.state × Gone r.state.entries before.durable r.state.durable r.sent

pub now_stamped : (s : Server) → (length s.entries ≡ length s.entries) × (applied s.entries ≡ applied (take (length s.entries) s.entries))
now_stamped s = (refl, ap applied (sym (take-length s.entries)))

told_made : (s : Server) (conn : ℕ) (told : Told) → MadeAt s.entries (length s.entries) (Some (message_of s conn told))
told_made s conn (Answered tid answer) = now_stamped s
told_made s conn (Granted tid ino mode) = now_stamped s
told_made s conn (WantedBack ino) = now_stamped s
told_made s conn (Changed inos) = now_stamped s
told_made s conn (Acked number) = now_stamped s

sent_mailed : (low : ℕ) (s : Server) (sent : Sent) → MadeAt s.entries (length s.entries) (told_by sent.message) → MailedAt low s.entries s.durable s.mail → MailedAt low s.entries s.durable (s.mail ++ (length s.entries, sent) ∷ [])
sent_mailed low s sent made m = record {
  low = m.low;
  fits = m.fits;
  waiting = waiting_end s.entries low s.mail sent (let least = m.low in let fits = m.fits in omega (arith, least, fits)) made m.waiting;
}

tell_mailed : (low : ℕ) (s : Server) (x : ℕ) (told : Told) → MailedAt low s.entries s.durable s.mail → (let t = tell s x told in MailedAt low t.entries t.durable t.mail)
tell_mailed low s x told m = by_number (number_of s.current x)
  where
    by_number : (o : Option ℕ) → (let t = tell_at s x told o in MailedAt low t.entries t.durable t.mail)
    by_number None = m
    by_number (Some conn) = sent_mailed low s (record { to = x; message = message.ToClient (message_of s conn told) }) (told_made s conn told) m

moves : (low : ℕ) → KeptByMoves (λ entries durable mail current. MailedAt low entries durable mail)
moves low = record {
  tells = λ s x told m. tell_mailed low s x told m;
  restarts = λ s x m. sent_mailed low s (record { to = x; message = message.ToClient (Restarted (stamp s)) }) (now_stamped s) m;
  stores = λ s order m. sent_mailed low s (record { to = s.clients + 1; message = message.ToStore order }) tt m;
  enters = λ s e m. record { low = m.low; fits = let fits = m.fits in grind (arith, fits, length-append); waiting = waiting_more s.entries e low s.mail m.waiting };
}

abbrev During : Bool → Server → Server → Type 0
During b before s = MailedAt before.durable s.entries s.durable s.mail

mailed_kept : KeptByServer AnyAct Mailed During HandedOut
mailed_kept = record {
  begins = λ s m. m;
  one = λ b before s a fit m. act_keeps (moves before.durable) s a m;
  takes = λ before s hand m. m;
  accepts = λ before s client conn m. sent_mailed before.durable s (record { to = client; message = message.ToClient (Welcome conn (stamp s) (last_flush s.entries client) (map (trace_of s) (written_by s client))) }) (now_stamped s) m;
  durable = λ s m. record { low = m.fits; fits = omega arith; waiting = m.waiting };
  survives = λ s k fits m. record { low = omega arith; fits = let long = length-take-le (s.durable + k) s.entries (room k s fits m.fits) in omega (arith, long); waiting = tt };
  hands = λ b before s m. (record { low = omega arith; fits = m.fits; waiting = waiting_left s.entries before.durable s.durable s.mail m.waiting }, waiting_goes s.entries before.durable s.durable s.mail m.low m.waiting);
  blind = λ b before r e after. after;
}

pub mailed_gives : ServerGives Mailed HandedOut
mailed_gives = server_gives any_always mailed_kept

pub state_gives : {P : Server → Type 0} {After : Bool → Server → Row Server → Type 0} → ServerGives P (λ b before r. P r.state × After b before r) → ServerGives P (λ b before r. P r.state)
state_gives {P} {After} g = record {
  takes = λ s client m p. (g.takes s client m p).0;
  reports = λ s m p. (g.reports s m p).0;
  commits = λ s p. part s false _ (g.commits s p);
  restarts = λ s k p. part s true _ (g.restarts s k p);
  tends = λ s p. part s false _ (g.tends s p);
}
  where
    part : (s : Server) (b : Bool) (o : Option (Row Server)) → IfSome o (λ r. P r.state × After b s r) → IfSome o (λ r. P r.state)
    part s b None all = tt
    part s b (Some r) all = all.0
