-- A client's share of a file rises only where all clients are connected.
use Rattle.std.proofs.Common.{◌≡◌, ◌≤◌, ℕ, ◌+◌, List, [], ◌∷◌, ◌++◌, length, Bool, true, false, true≢false, not, cond, Option, None, Some, refl, sym, ap, ◌∙◌, subst, arith, ◌⊎◌, inl, inr}
use Rattle.std.proofs.lemmas.List.{append-nil}
use Rattle.std.proofs.lemmas.Bool.Decides.{nat_tests}
use Rattle.std.specs.Prelude.{◌==◌, is_some}
use Rattle.std.specs.List.{list_all}
use Rattle.snap_ids.specs.declared.id.Ino.{Ino}
use Rattle.snap_ids.specs.declared.id.SnapId.{SnapId}
use Rattle.snap_ids.specs.declared.values.Mode.TheVariants.{Write}
use Rattle.plain_types.specs.declared.entry.Entry.{Entry}
use Rattle.plain_types.specs.declared.entry.What.{What}
use Rattle.plain_types.specs.declared.message.Message.TheVariants as message
use Rattle.plain_types.specs.declared.message.ToClient.{ToClient}
use Rattle.plain_types.specs.declared.message.ToClient.TheVariants.{Restarted}
use Rattle.plain_types.specs.declared.message.ToServer.{ToServer}
use Rattle.step_table.specs.ServerState.{Asked, Holder, Server, Told, Answered, Granted, WantedBack, Changed, Acked, message_of, tell_at, number_of, up_to, all_connected, stamp, is_holder}
use Rattle.step_table.specs.Acts.{Act, TellRecall, TellAck, AnswerIt, GrantIt, MakeEffect, Prepare, Buffer, Hold, Raise, MarkRecalled, Settled, LetGo, LetAllGo, act, raised, recalled, settled, answer_hand, grant_hand, effect_hand, buffer_for, written_down, prepare_hand, entry_for, buffer}
use Rattle.step_table.specs.ClientState.{Client}
use Rattle.run_laws.specs.Links.{View, mail_of}
use Rattle.run_laws.specs.Tenures.{gone_in}
use Rattle.run_laws.proofs.Acts.{notices_keep}
use Rattle.run_laws.proofs.Giving.{MayRise, MyFit, other_holder}
use Rattle.run_laws.proofs.Linked.{more_mail}
use Rattle.run_laws.proofs.Moves.{act_keeps}
use Rattle.run_laws.proofs.Shares.{rank, share, shares, AllGive, give_append, shares_end, shares_same, shares_filter}
use Rattle.run_laws.proofs.Sharing.{Covered}
use Rattle.run_laws.proofs.Taking.{current_same}

-- the acts that may raise it
abbrev pub RiseFit : ℕ → Server → Act → Type 0
RiseFit n s (Hold h) = MayRise n h.client s
RiseFit n s (Raise x ino upto) = MayRise n x s
RiseFit n s a = Unit {0}

pub my_rise : (n : ℕ) (c : Client) (s : Server) (a : Act) → MyFit n c s a → RiseFit n s a
my_rise n c s (Hold h) is = is.0
my_rise n c s (Raise x ino upto) is = is.0
my_rise n c s a is = tt

-- clients and holders are as before
abbrev pub Rest : Server → Server → Type 0
Rest s t = (t.clients ≡ s.clients) × (t.holders ≡ s.holders)

told_rest : (s t : Server) (x : ℕ) (told : Told) (o : Option ℕ) → Rest s t → Rest s (tell_at t x told o)
told_rest s t x told None rest = rest
told_rest s t x told (Some j) rest = rest

pub buffer_rest : (s t : Server) (e : Entry) → Rest s t → Rest s (buffer t e)
buffer_rest s t e rest = notices_keep (Rest s) (λ u x inos so. told_rest s u x (Changed inos) (number_of u.current x) so) t.entries (up_to t.clients) (record t { entries = t.entries ++ e ∷ [] }) rest

abbrev pub NotHolding : Act → Type 0
NotHolding (Hold h) = ⊥
NotHolding (Raise x ino upto) = ⊥
NotHolding (MarkRecalled x ino) = ⊥
NotHolding (Settled x ino upto) = ⊥
NotHolding (LetGo x ino) = ⊥
NotHolding (LetAllGo x) = ⊥
NotHolding a = Unit {0}

pub act_rest : (s : Server) (a : Act) → NotHolding a → Rest s (act s a)
act_rest s (TellRecall x ino) is = told_rest s s x (WantedBack ino) (number_of s.current x) (refl, refl)
act_rest s (TellAck x number) is = told_rest s s x (Acked number) (number_of s.current x) (refl, refl)
act_rest s (AnswerIt said) is = by_hand s.hand
  where
    by_hand : (h : Option Asked) → Rest s (answer_hand s said h)
    by_hand None = (refl, refl)
    by_hand (Some a) = told_rest s (record s { hand = None }) a.client (Answered a.tid said) (number_of s.current a.client) (refl, refl)
act_rest s (GrantIt ino mode) is = by_hand s.hand
  where
    by_hand : (h : Option Asked) → Rest s (grant_hand s ino mode h)
    by_hand None = (refl, refl)
    by_hand (Some a) = told_rest s (record s { hand = None }) a.client (Granted a.tid ino mode) (number_of s.current a.client) (refl, refl)
act_rest s (MakeEffect made) is = by_hand s.hand
  where
    by_said : (a : Asked) (o : Option What) → Rest s (buffer_for s a o)
    by_said a None = (refl, refl)
    by_said a (Some said) = buffer_rest s s (entry_for a said) (refl, refl)

    by_hand : (h : Option Asked) → Rest s (effect_hand s made h)
    by_hand None = (refl, refl)
    by_hand (Some a) = by_said a (written_down made)
act_rest s (Prepare said) is = by_hand s.hand
  where
    by_hand : (h : Option Asked) → Rest s (prepare_hand s said h)
    by_hand None = (refl, refl)
    by_hand (Some a) = buffer_rest s (record s { operation = Some a; hand = None }) (entry_for a said) (refl, refl)
act_rest s (Buffer e) is = buffer_rest s s e (refl, refl)
act_rest s (Hold h) is = absurd is
act_rest s (Raise x ino upto) is = absurd is
act_rest s (MarkRecalled x ino) is = absurd is
act_rest s (Settled x ino upto) is = absurd is
act_rest s (LetGo x ino) is = absurd is
act_rest s (LetAllGo x) is = absurd is
act_rest s a is = (refl, refl)

pub act_clients : (s : Server) (a : Act) → (act s a).clients ≡ s.clients
act_clients s (Hold h) = refl
act_clients s (Raise x ino upto) = refl
act_clients s (MarkRecalled x ino) = refl
act_clients s (Settled x ino upto) = refl
act_clients s (LetGo x ino) = refl
act_clients s (LetAllGo x) = refl
act_clients s a = (act_rest s a tt).0

pub other_share : (n : ℕ) (ino : Ino) (h : Holder) → (h.client == n) ≡ false → share n ino h ≡ 0
other_share n ino h other = rw other refl

pub raised_share : (n x : ℕ) (ino file : Ino) (upto : SnapId) (h : Holder) → (x == n) ≡ false → share n ino (raised x file upto h) ≡ share n ino h
raised_share n x ino file upto h other = by_tests (is_holder n ino h) (is_holder x file h) (λ is. other_holder n x file ino h other is)
  where
    by_tests : (b d : Bool) → (b ≡ true → not d ≡ true) → cond b (rank (cond d Write h.mode)) 0 ≡ cond b (rank h.mode) 0
    by_tests true true go = absurd (true≢false (sym (go refl)))
    by_tests true false go = refl
    by_tests false d go = refl

pub rise_act : (n : ℕ) (s : Server) (a : Act) → RiseFit n s a → (all_connected s ≡ true) ⊎ ((ino : Ino) → shares n ino (act s a).holders ≤ shares n ino s.holders)
rise_act n s (Hold h) (inl connected) = inl connected
rise_act n s (Hold h) (inr other) = inr (λ ino. let e = shares_end n ino s.holders h in let none = other_share n ino h other in omega (arith, e, none))
rise_act n s (Raise x file upto) (inl connected) = inl connected
rise_act n s (Raise x file upto) (inr other) = inr (λ ino. let e = shares_same n ino (raised x file upto) s.holders (λ h. raised_share n x ino file upto h other) in omega (arith, e))
rise_act n s (MarkRecalled x file) fit = inr (λ ino. let e = shares_same n ino (recalled x file) s.holders (λ h. refl) in omega (arith, e))
rise_act n s (Settled x file upto) fit = inr (λ ino. let e = shares_same n ino (settled x file upto) s.holders (λ h. refl) in omega (arith, e))
rise_act n s (LetGo x file) fit = inr (λ ino. shares_filter n ino (λ h. not (is_holder x file h)) s.holders)
rise_act n s (LetAllGo x) fit = inr (λ ino. shares_filter n ino (λ h. not (h.client == x)) s.holders)
rise_act n s a fit = inr (λ ino. let e = ap (shares n ino) (act_rest s a tt).1 in omega (arith, e))

-- an act that raises no share
abbrev pub NoRise : Act → Type 0
NoRise (Hold h) = ⊥
NoRise (Raise x ino upto) = ⊥
NoRise a = Unit {0}

pub fall_act : (n : ℕ) (s : Server) (a : Act) → NoRise a → (ino : Ino) → shares n ino (act s a).holders ≤ shares n ino s.holders
fall_act n s (Hold h) is ino = absurd is
fall_act n s (Raise x file upto) is ino = absurd is
fall_act n s (MarkRecalled x file) is ino = let e = shares_same n ino (recalled x file) s.holders (λ h. refl) in omega (arith, e)
fall_act n s (Settled x file upto) is ino = let e = shares_same n ino (settled x file upto) s.holders (λ h. refl) in omega (arith, e)
fall_act n s (LetGo x file) is ino = shares_filter n ino (λ h. not (is_holder x file h)) s.holders
fall_act n s (LetAllGo x) is ino = shares_filter n ino (λ h. not (h.client == x)) s.holders
fall_act n s a is ino = let e = ap (shares n ino) (act_rest s a tt).1 in omega (arith, e)

-- all clients are connected after an act where they were before
pub connected_as : (current now : List (ℕ × ℕ)) (k i : ℕ) → now ≡ current → i ≡ k → list_all (λ (c : ℕ). is_some (number_of now c)) (up_to i) ≡ list_all (λ (c : ℕ). is_some (number_of current c)) (up_to k)
connected_as current now k i one two = ap (λ (l : List (ℕ × ℕ)). list_all (λ (c : ℕ). is_some (number_of l c)) (up_to i)) one ∙ ap (λ (j : ℕ). list_all (λ (c : ℕ). is_some (number_of current c)) (up_to j)) two

pub connected_act : (s : Server) (a : Act) → all_connected (act s a) ≡ all_connected s
connected_act s a = connected_as s.current (act s a).current s.clients (act s a).clients (current_same s a) (act_clients s a)

-- What a client may hold is bounded: the table's share, and where it isn't connected what it has and is given.
abbrev pub BoundAt : Option ℕ → ℕ → (ℕ → Type 0) → ℕ → Type 0
BoundAt None held C most = (held ≤ most) × C most
BoundAt (Some j) held C most = held ≤ most

abbrev pub Bounded : (ℕ → Ino → ℕ) → View
Bounded T n c up down s = (ino : Ino) → BoundAt (number_of s.current n) (shares n ino s.holders) (Covered c.conn (gone_in c.under) c.files (down ++ mail_of n s.mail) ino) (T n ino)

abbrev pub Rising : (ℕ → Ino → ℕ) → View
Rising T n c up down s = (all_connected s ≡ true) ⊎ Bounded T n c up down s

-- who isn't connected is told of a restart alone
unheard : (n conn : ℕ) (gone : List Ino) (ino : Ino) (most : ℕ) (down : List ToClient) (s : Server) (a : Act) → number_of s.current n ≡ None → AllGive conn gone ino most (down ++ mail_of n s.mail) → AllGive conn gone ino most (down ++ mail_of n (act s a).mail)
unheard n conn gone ino most down s a none all = act_keeps {P = λ entries durable mail current. number_of current n ≡ None → AllGive conn gone ino most (down ++ mail_of n mail)} (record {
  tells = λ t x told so. told_on t x told so (number_of t.current x) refl;
  restarts = λ t x so absent. more_mail Now n down t.mail (length t.entries, record { to = x; message = message.ToClient (Restarted (stamp t)) }) (by_restart t (x == n) (so absent));
  stores = λ t order so absent. more_mail Now n down t.mail (length t.entries, record { to = t.clients + 1; message = message.ToStore order }) (subst Now (sym (append-nil (down ++ mail_of n t.mail))) (so absent));
  enters = λ t e so. so;
}) s a (λ absent. all) (ap (λ (l : List (ℕ × ℕ)). number_of l n) (current_same s a) ∙ none)
  where
    Now : List ToClient → Type 0
    Now p = AllGive conn gone ino most p

    by_restart : (t : Server) (b : Bool) → Now (down ++ mail_of n t.mail) → Now ((down ++ mail_of n t.mail) ++ cond b (Restarted (stamp t) ∷ []) [])
    by_restart t true so = give_append conn gone ino most (down ++ mail_of n t.mail) (Restarted (stamp t) ∷ []) so (omega arith, tt)
    by_restart t false so = subst Now (sym (append-nil (down ++ mail_of n t.mail))) so

    told_on : (t : Server) (x : ℕ) (told : Told) → (number_of t.current n ≡ None → Now (down ++ mail_of n t.mail)) → (o : Option ℕ) → number_of t.current x ≡ o → number_of (tell_at t x told o).current n ≡ None → Now (down ++ mail_of n (tell_at t x told o).mail)
    told_on t x told so None is = so
    told_on t x told so (Some j) is = λ absent. more_mail Now n down t.mail (length t.entries, record { to = x; message = message.ToClient (message_of t j told) }) (by_test absent (x == n) refl)
      where
        by_test : number_of t.current n ≡ None → (b : Bool) → (x == n) ≡ b → Now ((down ++ mail_of n t.mail) ++ cond b (message_of t j told ∷ []) [])
        by_test absent true test = absurd (clash (subst (λ (y : ℕ). number_of t.current y ≡ Some j) (same test) is) absent)
          where
            same : (x == n) ≡ true → x ≡ n
            same test = grind (arith, nat_tests, test)

            clash : number_of t.current n ≡ Some j → number_of t.current n ≡ None → ⊥
            clash some absent = cc
        by_test absent false test = subst Now (sym (append-nil (down ++ mail_of n t.mail))) (so absent)

pub rising_act : (T : ℕ → Ino → ℕ) (n : ℕ) (c : Client) (up : List ToServer) (down : List ToClient) (s : Server) (a : Act) → RiseFit n s a → Rising T n c up down s → Rising T n c up down (act s a)
rising_act T n c up down s a fit (inl connected) = inl (connected_act s a ∙ connected)
rising_act T n c up down s a fit (inr bounded) = by_rise (rise_act n s a fit)
  where
    by_number : (ino : Ino) → shares n ino (act s a).holders ≤ shares n ino s.holders → (o : Option ℕ) → number_of s.current n ≡ o → BoundAt o (shares n ino s.holders) (Covered c.conn (gone_in c.under) c.files (down ++ mail_of n s.mail) ino) (T n ino) → BoundAt o (shares n ino (act s a).holders) (Covered c.conn (gone_in c.under) c.files (down ++ mail_of n (act s a).mail) ino) (T n ino)
    by_number ino less None is was = ((let most = was.0 in omega (arith, less, most)), (was.1.0, unheard n c.conn (gone_in c.under) ino (T n ino) down s a is was.1.1))
    by_number ino less (Some j) is was = omega (arith, less, was)

    by_rise : (all_connected s ≡ true) ⊎ ((ino : Ino) → shares n ino (act s a).holders ≤ shares n ino s.holders) → Rising T n c up down (act s a)
    by_rise (inl connected) = inl (connected_act s a ∙ connected)
    by_rise (inr less) = inr (λ ino. subst (λ (l : List (ℕ × ℕ)). BoundAt (number_of l n) (shares n ino (act s a).holders) (Covered c.conn (gone_in c.under) c.files (down ++ mail_of n (act s a).mail) ino) (T n ino)) (sym (current_same s a)) (by_number ino (less ino) (number_of s.current n) refl (bounded ino)))
