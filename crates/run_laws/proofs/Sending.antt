-- What the server sends goes to clients as theirs, and to the store as its own.
use Rattle.std.proofs.Common.{◌≡◌, ℕ, ◌+◌, List, [], ◌∷◌, ◌++◌, Bool, true, false, cond, Option, None, Some, refl, subst, IfSome, arith}
use Rattle.std.proofs.lemmas.Bool.Decides.{nat_tests}
use Rattle.std.specs.Prelude.{◌==◌, nat_le, length}
use Rattle.plain_types.specs.declared.entry.Entry.{Entry}
use Rattle.plain_types.specs.declared.entry.What.{What}
use Rattle.plain_types.specs.declared.history.Sent.{Sent}
use Rattle.plain_types.specs.declared.message.Claim.{Claim}
use Rattle.plain_types.specs.declared.message.FlushMsg.{FlushMsg}
use Rattle.plain_types.specs.declared.message.Message.{Message}
use Rattle.plain_types.specs.declared.message.Message.TheVariants as message
use Rattle.plain_types.specs.declared.message.ToServer.{ToServer}
use Rattle.plain_types.specs.declared.message.ToServer.TheVariants.{Connect, Ask, Flush, DropRead, Purged, Deleted}
use Rattle.step_table.specs.Row.{Row}
use Rattle.step_table.specs.ServerState.{Asked, Server, Told, Answered, Granted, WantedBack, Changed, Acked, tell, tell_at, number_of, message_of, welcome, up_to}
use Rattle.step_table.specs.Acts.{Act, TellRecall, TellAck, TellRestart, AnswerIt, GrantIt, MakeEffect, Prepare, Buffer, SendPurge, SendDelete, act, acts, answer_hand, grant_hand, effect_hand, buffer_for, written_down, prepare_hand, entry_for, buffer, goes, waits, hand_out}
use Rattle.step_table.specs.Flushes.{asked_by, brought, take_in, take_in_brought, connected, come_back, treat_brought}
use Rattle.step_table.specs.ServerRows.{on_take, on_report, on_commit, on_restart, on_tend, left_with, reported, back}
use Rattle.run_laws.proofs.Acts.{Fit, KeptByActs, acts_keep, notices_keep, take_ask, take_connect, take_flush, take_drop, take_purged, take_deleted, row_keeps, turn_keeps, commit_keeps, restart_keeps}
use Rattle.run_laws.proofs.Gives.{anew_fit}
use Rattle.run_laws.proofs.Fitting.{TableFits, tables_fit}

-- each message that is sent, and each that waits
abbrev pub AllSent : (ℕ → Message → Type 0) → List Sent → Type 0
AllSent P [] = Unit {0}
AllSent P (m ∷ sent) = P m.to m.message × AllSent P sent

abbrev pub AllMail : (ℕ → Message → Type 0) → List (ℕ × Sent) → Type 0
AllMail P [] = Unit {0}
AllMail P (m ∷ mail) = P m.1.to m.1.message × AllMail P mail

mail_end : (P : ℕ → Message → Type 0) (mail : List (ℕ × Sent)) (m : ℕ × Sent) → P m.1.to m.1.message → AllMail P mail → AllMail P (mail ++ m ∷ [])
mail_end P [] m is all = (is, tt)
mail_end P (x ∷ mail) m is all = (all.0, mail_end P mail m is all.1)

mail_goes : (P : ℕ → Message → Type 0) (d : ℕ) (mail : List (ℕ × Sent)) → AllMail P mail → AllSent P (goes d mail)
mail_goes P d [] all = tt
mail_goes P d (m ∷ mail) all = by_test (nat_le m.0 d) (mail_goes P d mail all.1)
  where
    by_test : (b : Bool) → AllSent P (goes d mail) → AllSent P (cond b (m.1 ∷ goes d mail) [])
    by_test true rest = (all.0, rest)
    by_test false rest = tt

mail_waits : (P : ℕ → Message → Type 0) (d : ℕ) (mail : List (ℕ × Sent)) → AllMail P mail → AllMail P (waits d mail)
mail_waits P d [] all = tt
mail_waits P d (m ∷ mail) all = by_test (nat_le m.0 d) (mail_waits P d mail all.1)
  where
    by_test : (b : Bool) → AllMail P (waits d mail) → AllMail P (cond b (waits d mail) (m ∷ mail))
    by_test true rest = rest
    by_test false rest = all

-- a client is told at another number than the store's, and an order goes to the store
abbrev pub ByServer : ℕ → ℕ → Message → Type 0
ByServer store to (message.ToClient told) = (to == store) ≡ false
ByServer store to (message.ToStore order) = to ≡ store
ByServer store to other = ⊥

-- how many clients there are, who is connected, and the mail
pub record RightAt (store n : ℕ) (known : List (ℕ × ℕ)) (waiting : List (ℕ × Sent)) : Type 0 where
  pub number : n + 1 ≡ store
  pub away : number_of known store ≡ None
  pub all : AllMail (ByServer store) waiting

abbrev pub Right : ℕ → Server → Type 0
Right store s = RightAt store s.clients s.current s.mail

abbrev pub SentRight : ℕ → Row Server → Type 0
SentRight store r = Right store r.state × AllSent (ByServer store) r.sent

more_mail : (store n : ℕ) (known : List (ℕ × ℕ)) (waiting : List (ℕ × Sent)) (m : ℕ × Sent) → ByServer store m.1.to m.1.message → RightAt store n known waiting → RightAt store n known (waiting ++ m ∷ [])
more_mail store n known waiting m is right = record { number = right.number; away = right.away; all = mail_end (ByServer store) waiting m is right.all }

-- who is connected isn't the store
not_store : (known : List (ℕ × ℕ)) (store x conn : ℕ) → number_of known store ≡ None → number_of known x ≡ Some conn → (x == store) ≡ false
not_store known store x conn none is = by_test (x == store) refl
  where
    clash : (y : ℕ) → number_of known y ≡ None → number_of known y ≡ Some conn → ⊥
    clash y none some = cc

    same : (x == store) ≡ true → store ≡ x
    same test = grind (arith, nat_tests, test)

    by_test : (b : Bool) → (x == store) ≡ b → b ≡ false
    by_test true test = absurd (clash x (subst (λ (y : ℕ). number_of known y ≡ None) (same test) none) is)
    by_test false test = refl

tell_right : (store : ℕ) (s : Server) (x : ℕ) (told : Told) → Right store s → Right store (tell s x told)
tell_right store s x told right = by_number (number_of s.current x) refl
  where
    by_number : (o : Option ℕ) → number_of s.current x ≡ o → Right store (tell_at s x told o)
    by_number None is = right
    by_number (Some conn) is = more_mail store s.clients s.current s.mail (length s.entries, record { to = x; message = message.ToClient (message_of s conn told) }) (not_store s.current store x conn right.away is) right

buffers : (store : ℕ) (s : Server) (e : Entry) → Right store s → Right store (buffer s e)
buffers store s e right = notices_keep (Right store) (λ t x inos so. tell_right store t x (Changed inos) so) s.entries (up_to s.clients) (record s { entries = s.entries ++ e ∷ [] }) right

one : (store : ℕ) (s : Server) (a : Act) → TableFits s a → Right store s → Right store (act s a)
one store s (TellRecall x ino) fit right = tell_right store s x (WantedBack ino) right
one store s (TellAck x number) fit right = tell_right store s x (Acked number) right
one store s (TellRestart x) fit right = more_mail store s.clients s.current s.mail _ (subst (λ (n : ℕ). (x == n) ≡ false) right.number fit) right
one store s (AnswerIt said) fit right = by_hand s.hand
  where
    by_hand : (o : Option Asked) → Right store (answer_hand s said o)
    by_hand None = right
    by_hand (Some a) = tell_right store (record s { hand = None }) a.client (Answered a.tid said) right
one store s (GrantIt ino mode) fit right = by_hand s.hand
  where
    by_hand : (o : Option Asked) → Right store (grant_hand s ino mode o)
    by_hand None = right
    by_hand (Some a) = tell_right store (record s { hand = None }) a.client (Granted a.tid ino mode) right
one store s (MakeEffect made) fit right = by_hand s.hand
  where
    by_said : (a : Asked) (o : Option What) → Right store (buffer_for s a o)
    by_said a None = right
    by_said a (Some said) = buffers store s (entry_for a said) right

    by_hand : (o : Option Asked) → Right store (effect_hand s made o)
    by_hand None = right
    by_hand (Some a) = by_said a (written_down made)
one store s (Prepare said) fit right = by_hand s.hand
  where
    by_hand : (o : Option Asked) → Right store (prepare_hand s said o)
    by_hand None = right
    by_hand (Some a) = buffers store (record s { operation = Some a; hand = None }) (entry_for a said) right
one store s (Buffer e) fit right = buffers store s e right
one store s (SendPurge id) fit right = more_mail store s.clients s.current s.mail _ right.number right
one store s (SendDelete ino) fit right = more_mail store s.clients s.current s.mail _ right.number right
one store s a fit right = right

hands : (store : ℕ) (s : Server) → Right store s → SentRight store (hand_out s)
hands store s right = (record { number = right.number; away = right.away; all = mail_waits (ByServer store) s.durable s.mail right.all }, mail_goes (ByServer store) s.durable s.mail right.all)

by_acts : (store : ℕ) → KeptByActs TableFits (Right store) (SentRight store)
by_acts store = record { one = one store; hands = hands store; anew = λ s right. anew_fit tables_fit s s.held }

-- a client that connects isn't the store
joins : (store : ℕ) (s : Server) (x conn : ℕ) → (x == store) ≡ false → Right store s → Right store (welcome (connected s x conn) x conn)
joins store s x conn other right = more_mail store s.clients ((x, conn) ∷ s.current) s.mail _ other (record { number = right.number; away = rw other right.away; all = right.all })

-- the rows
pub takes_right : (store : ℕ) (s : Server) (x : ℕ) (m : ToServer) → (x == store) ≡ false → Right store s → SentRight store (on_take s x m)
takes_right store s x m other right = by_message m
  where
    k : KeptByActs TableFits (Right store) (SentRight store)
    k = by_acts store

    in_hand : (t : Server) (o : Option Asked) → Right store t → Right store (take_in_brought t o)
    in_hand t None so = so
    in_hand t (Some a) so = so

    came : (conn : ℕ) (said : List Claim) (flushes : List FlushMsg) (o : Option Asked) → Right store (back s x conn said flushes o)
    came conn said flushes o = in_hand (welcome (connected (acts s (come_back s x said flushes)) x conn) x conn) o (joins store (acts s (come_back s x said flushes)) x conn other (acts_keep k.one (come_back s x said flushes) s (tables_fit.comes s x said flushes) right))

    brought_fit : (t : Server) (o : Option Asked) → Fit TableFits t (treat_brought t o)
    brought_fit t None = tt
    brought_fit t (Some a) = tables_fit.treats t a

    by_message : (m : ToServer) → SentRight store (on_take s x m)
    by_message (Connect conn said flushes asked) = take_connect k s x conn said flushes asked right (λ above.
        (came conn said flushes (brought x asked), brought_fit (back s x conn said flushes (brought x asked)) (brought x asked)))
    by_message (Ask conn tid asked) = take_ask k s x conn tid asked right (λ is. (right, tables_fit.treats (take_in s (asked_by x tid asked)) (asked_by x tid asked)))
    by_message (Flush conn f) = take_flush k s x conn f right (tables_fit.flushes s x f)
    by_message (DropRead conn ino) = take_drop k s x conn ino right (tables_fit.drops s x ino)
    by_message (Purged id) = take_purged k s x id right
    by_message (Deleted ino) = take_deleted k s x ino right

pub reports_right : (store : ℕ) (s : Server) (m : ToServer) → Right store s → SentRight store (on_report s m)
reports_right store s m right = row_keeps (by_acts store) s (reported s m) (tables_fit.reports s m) right

pub commits_right : (store : ℕ) (s : Server) → Right store s → IfSome (on_commit s) (SentRight store)
commits_right store s right = commit_keeps (λ r e after. after) (hands store) s right

pub restarts_right : (store : ℕ) (s : Server) (k : ℕ) → Right store s → IfSome (on_restart s k) (SentRight store)
restarts_right store s k right = restart_keeps (λ r e after. after) (by_acts store) s k (λ fit. (record { number = right.number; away = refl; all = tt }, tables_fit.restarts (left_with s (s.durable + k))))

pub tends_right : (store : ℕ) (s : Server) → Right store s → IfSome (on_tend s) (SentRight store)
tends_right store s right = turn_keeps (by_acts store) s (tables_fit.turns s) right
