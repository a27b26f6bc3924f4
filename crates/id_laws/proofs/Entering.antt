-- The flushes that the server enters name nothing above the newest id of the entries before them, where the flushes that it
-- takes don't.
use Rattle.std.proofs.Common.{◌≡◌, ◌≤◌, ℕ, List, [], ◌∷◌, ◌++◌, Bool, true, false, true≢false, cond, Option, None, Some, refl, sym, subst, IfSome, arith}
use Rattle.std.proofs.lemmas.Bool.Decides.{nat_tests}
use Rattle.std.specs.Prelude.{◌&&◌, ◌||◌, nat_le}
use Rattle.std.specs.List.{AllByRecursion, list_any, list_all}
use Rattle.plain_types.specs.declared.change.Change.{Change}
use Rattle.plain_types.specs.declared.change.Change.TheVariants as change
use Rattle.plain_types.specs.declared.entry.Entry.{Entry}
use Rattle.plain_types.specs.declared.entry.What.{What}
use Rattle.plain_types.specs.declared.entry.What.TheVariants.{Settle, Release}
use Rattle.plain_types.specs.declared.message.Claim.{Claim}
use Rattle.plain_types.specs.declared.message.FlushMsg.{FlushMsg}
use Rattle.plain_journal.specs.Table.{is_flush, last_flush}
use Rattle.step_table.specs.ServerState.{Asked, Server, Told, Answered, Granted, WantedBack, Changed, Acked, tell, tell_at, number_of, up_to}
use Rattle.step_table.specs.Acts.{Act, TellRecall, TellAck, AnswerIt, GrantIt, MakeEffect, Prepare, TakeHeld, Buffer, Hold, Settled, LetGo, LetAllGo, act, acts, each, answer_hand, grant_hand, effect_hand, buffer_for, written_down, prepare_hand, entry_for, buffer}
use Rattle.step_table.specs.Capabilities.{clash}
use Rattle.step_table.specs.Messages.{is_id, is_size, flush_fits as flush_can}
use Rattle.step_table.specs.Requests.{treat}
use Rattle.step_table.specs.Flushes.{flush_entry, flush_settles, take_flush, on_flush, claimed, take_claim, take_brought, come_back}
use Rattle.run_laws.proofs.Acts.{Fit, fit_append, notices_keep}
use Rattle.run_laws.proofs.Knowing.{grown_all}
use Rattle.id_laws.specs.Upto.{FlushUpto}
use Rattle.id_laws.proofs.Keeps.{flush_weaker}
use Rattle.id_laws.proofs.Lists.{all_weaker}
use Rattle.id_laws.proofs.Newest.{newest_by, newest_from, newest, newest_grows}
use Rattle.id_laws.proofs.Saying.{SaysUpto, says_more, IsSaid, AllSaid, said_treat}

-- an entry that is no flush, or a flush that names nothing above a last id, with a size that a file can have
abbrev pub NamesUpto : ℕ → What → Type 0
NamesUpto last (Settle ino follows upto size) = (follows.0 ≤ last) × (upto.0 ≤ last) × (size ≤ 65536)
NamesUpto last (Release ino follows size) = (follows.0 ≤ last) × (size ≤ 65536)
NamesUpto last what = Unit {0}

-- each of some entries is so of those before it, whose newest id this is
abbrev pub AllNameUpto : ℕ → List Entry → Type 0
AllNameUpto last [] = Unit {0}
AllNameUpto last (e ∷ entries) = NamesUpto last e.what × AllNameUpto (newest_by last e.what) entries

names_end : (last : ℕ) (entries : List Entry) (e : Entry) → NamesUpto (newest_from last entries) e.what → AllNameUpto last entries → AllNameUpto last (entries ++ e ∷ [])
names_end last [] e is all = (is, tt)
names_end last (x ∷ entries) e is all = (all.0, names_end (newest_by last x.what) entries e is all.1)

pub names_front : (last : ℕ) (xs ys : List Entry) → AllNameUpto last (xs ++ ys) → AllNameUpto last xs
names_front last [] ys all = tt
names_front last (x ∷ xs) ys all = (all.0, names_front (newest_by last x.what) xs ys all.1)

pub names_at : (last : ℕ) (before later : List Entry) (e : Entry) → AllNameUpto last (before ++ e ∷ later) → NamesUpto (newest_from last before) e.what
names_at last [] later e all = all.0
names_at last (x ∷ before) later e all = names_at (newest_by last x.what) before later e all.1

-- the acts that enter something fit so, and those that answer the request in hand
abbrev pub EntryFits : Server → Act → Type 0
EntryFits s (Buffer e) = NamesUpto (newest s.entries) e.what
EntryFits s (Prepare said) = NamesUpto (newest s.entries) said
EntryFits s (AnswerIt said) = IfSome s.hand (λ a. SaysUpto s.entries said)
EntryFits s a = Unit {0}

no_flush : (last : ℕ) (w : What) → is_flush w ≡ false → NamesUpto last w
no_flush last (Settle ino follows upto size) is = absurd (true≢false is)
no_flush last (Release ino follows size) is = absurd (true≢false is)
no_flush last w is = tt

written_upto : (last : ℕ) (made : Change) → IfSome (written_down made) (NamesUpto last)
written_upto last (change.WriteFile handle offset bytes) = tt
written_upto last made = tt

-- what the rules but those for flushes do fits
pub answers_fit : (o : Option Asked) (P : Type 0) → P → IfSome o (λ a. P)
answers_fit None P is = tt
answers_fit (Some a) P is = is

one_said : (s : Server) (a : Act) → IsSaid s.entries a → EntryFits s a
one_said s (Buffer e) is = no_flush (newest s.entries) e.what is
one_said s (Prepare said) is = no_flush (newest s.entries) said is
one_said s (AnswerIt said) is = answers_fit s.hand (SaysUpto s.entries said) is
one_said s a is = tt

is_said_more : (entries more : List Entry) (a : Act) → IsSaid entries a → IsSaid (entries ++ more) a
is_said_more entries more (Buffer e) is = is
is_said_more entries more (Prepare said) is = is
is_said_more entries more (AnswerIt said) is = says_more entries more said is
is_said_more entries more a is = tt

pub said_fit : (list : List Act) (s : Server) → AllSaid s.entries list → Fit EntryFits s list
said_fit [] s all = tt
said_fit (a ∷ list) s all =
    let more = grown_all (a ∷ []) s in
    (one_said s a all.0, said_fit list (act s a) (subst (λ (l : List Entry). AllSaid l list) (sym more.1) (all_weaker _ _ (is_said_more s.entries more.0) list all.1)))

pub anew_said : (list : List Asked) (s : Server) → Fit EntryFits s (each (λ t (a : Asked). TakeHeld a.client ∷ treat false (act t (TakeHeld a.client)) a) s list)
anew_said [] s = tt
anew_said (a ∷ list) s =
    let t = act s (TakeHeld a.client) in
    let first = TakeHeld a.client ∷ treat false t a in
    fit_append EntryFits s first (each (λ t (a : Asked). TakeHeld a.client ∷ treat false (act t (TakeHeld a.client)) a) (acts s first) list)
    (tt, said_fit (treat false t a) t (said_treat t false a)) (anew_said list (acts s first))

-- such acts keep it
abbrev pub Entered : Server → Type 0
Entered s = AllNameUpto 1 s.entries

tell_entered : (s : Server) (x : ℕ) (told : Told) → Entered s → Entered (tell s x told)
tell_entered s x told holds = by_number (number_of s.current x)
  where
    by_number : (o : Option ℕ) → Entered (tell_at s x told o)
    by_number None = holds
    by_number (Some conn) = holds

buffers : (s : Server) (e : Entry) → NamesUpto (newest s.entries) e.what → Entered s → Entered (buffer s e)
buffers s e is holds = notices_keep Entered (λ t x inos so. tell_entered t x (Changed inos) so) s.entries (up_to s.clients) (record s { entries = s.entries ++ e ∷ [] }) (names_end 1 s.entries e is holds)

pub one_entered : (s : Server) (a : Act) → EntryFits s a → Entered s → Entered (act s a)
one_entered s (TellRecall x ino) fit holds = tell_entered s x (WantedBack ino) holds
one_entered s (TellAck x number) fit holds = tell_entered s x (Acked number) holds
one_entered s (AnswerIt said) fit holds = by_hand s.hand
  where
    by_hand : (o : Option Asked) → Entered (answer_hand s said o)
    by_hand None = holds
    by_hand (Some a) = tell_entered (record s { hand = None }) a.client (Answered a.tid said) holds
one_entered s (GrantIt ino mode) fit holds = by_hand s.hand
  where
    by_hand : (o : Option Asked) → Entered (grant_hand s ino mode o)
    by_hand None = holds
    by_hand (Some a) = tell_entered (record s { hand = None }) a.client (Granted a.tid ino mode) holds
one_entered s (MakeEffect made) fit holds = by_hand s.hand
  where
    by_said : (a : Asked) (o : Option What) → IfSome o (NamesUpto (newest s.entries)) → Entered (buffer_for s a o)
    by_said a None is = holds
    by_said a (Some said) is = buffers s (entry_for a said) is holds

    by_hand : (o : Option Asked) → Entered (effect_hand s made o)
    by_hand None = holds
    by_hand (Some a) = by_said a (written_down made) (written_upto (newest s.entries) made)
one_entered s (Prepare said) fit holds = by_hand s.hand
  where
    by_hand : (o : Option Asked) → Entered (prepare_hand s said o)
    by_hand None = holds
    by_hand (Some a) = buffers (record s { operation = Some a; hand = None }) (entry_for a said) fit holds
one_entered s (Buffer e) fit holds = buffers s e fit holds
one_entered s a fit holds = holds

-- the rules for flushes: one that comes names nothing above the newest id, and has a size that a file can have
abbrev pub CanEnter : ℕ → FlushMsg → Type 0
CanEnter last f = FlushUpto last f × (is_size f.size ≡ true)

enter_weaker : (low high : ℕ) → low ≤ high → (f : FlushMsg) → CanEnter low f → CanEnter high f
enter_weaker low high less f is = (flush_weaker low high less f is.0, is.1)

fits_size : (size : ℕ) → is_size size ≡ true → size ≤ 65536
fits_size size is = grind (arith, nat_tests, is)

pub second : (a b : Bool) → (a && b) ≡ true → b ≡ true
second true b is = is
second false b is = absurd (true≢false (sym is))

both : (a b : Bool) → (a && b) ≡ true → (a ≡ true) × (b ≡ true)
both true b is = (refl, is)
both false b is = absurd (true≢false (sym is))

-- the server takes a flush whose numbers can be
pub can_enter : (last : ℕ) (f : FlushMsg) → FlushUpto last f → flush_can f ≡ true → CanEnter last f
can_enter last f is can = (is, second (is_id f.follows && (f.release || is_id f.upto)) (is_size f.size) can)

pub all_enter : (last : ℕ) (flushes : List FlushMsg) → AllByRecursion (FlushUpto last) flushes → list_all flush_can flushes ≡ true → AllByRecursion (CanEnter last) flushes
all_enter last [] all can = tt
all_enter last (f ∷ flushes) all can = let two = both (flush_can f) (list_all flush_can flushes) can in (can_enter last f all.0 two.0, all_enter last flushes all.1 two.1)

entry_upto : (last : ℕ) (f : FlushMsg) → CanEnter last f → NamesUpto last (flush_entry f)
entry_upto last f is = by_test f.release refl
  where
    by_test : (b : Bool) → f.release ≡ b → NamesUpto last (cond b (Release f.ino f.follows f.size) (Settle f.ino f.follows f.upto f.size))
    by_test true test = (is.0.0, fits_size f.size is.1)
    by_test false test = (is.0.0, is.0.1 test, fits_size f.size is.1)

settles_fits : (x : ℕ) (t : Server) (f : FlushMsg) → EntryFits t (flush_settles x f)
settles_fits x t f = by_test f.release
  where
    by_test : (b : Bool) → EntryFits t (cond b (LetGo x f.ino) (Settled x f.ino f.upto))
    by_test true = tt
    by_test false = tt

take_fits : (x : ℕ) (s : Server) (f : FlushMsg) → CanEnter (newest s.entries) f → Fit EntryFits s (take_flush x s f)
take_fits x s f is = by_test (nat_le f.number (last_flush s.entries x))
  where
    e : Entry
    e = record { client = x; number = f.number; what = flush_entry f }

    by_test : (b : Bool) → Fit EntryFits s (cond b [] (Buffer e ∷ flush_settles x f ∷ []))
    by_test true = tt
    by_test false = (entry_upto (newest s.entries) f is, (settles_fits x (act s (Buffer e)) f, tt))

pub flush_fits : (x : ℕ) (s : Server) (f : FlushMsg) → CanEnter (newest s.entries) f → Fit EntryFits s (on_flush x s f)
flush_fits x s f is = fit_append EntryFits s (take_flush x s f) (TellAck x f.number ∷ []) (take_fits x s f is) (tt, tt)

brought_fits : (x : ℕ) (s : Server) (f : FlushMsg) → CanEnter (newest s.entries) f → Fit EntryFits s (take_brought x s f)
brought_fits x s f is = fit_append EntryFits s (take_flush x s f) (cond f.release [] (Settled x f.ino f.upto ∷ [])) (take_fits x s f is) (by_test f.release)
  where
    by_test : (b : Bool) → Fit EntryFits (acts s (take_flush x s f)) (cond b [] (Settled x f.ino f.upto ∷ []))
    by_test true = tt
    by_test false = (tt, tt)

-- what is bounded by the newest id is so after more acts
more_upto : (s : Server) (list : List Act) (flushes : List FlushMsg) → AllByRecursion (CanEnter (newest s.entries)) flushes → AllByRecursion (CanEnter (newest (acts s list).entries)) flushes
more_upto s list flushes all = all_weaker _ _ (enter_weaker (newest s.entries) (newest (acts s list).entries) more) flushes all
  where
    more : newest s.entries ≤ newest (acts s list).entries
    more = let grown = grown_all list s in subst (λ (l : List Entry). newest s.entries ≤ newest l) (sym grown.1) (newest_grows s.entries grown.0)

all_brought : (x : ℕ) (flushes : List FlushMsg) (s : Server) → AllByRecursion (CanEnter (newest s.entries)) flushes → Fit EntryFits s (each (take_brought x) s flushes)
all_brought x [] s all = tt
all_brought x (f ∷ flushes) s all =
    let now = take_brought x s f in
    fit_append EntryFits s now (each (take_brought x) (acts s now) flushes) (brought_fits x s f all.0) (all_brought x flushes (acts s now) (more_upto s now flushes all.1))

all_claimed : (x : ℕ) (said : List Claim) (s : Server) → Fit EntryFits s (each (take_claim x) s said)
all_claimed x [] s = tt
all_claimed x (k ∷ said) s = fit_append EntryFits s (take_claim x s k) (each (take_claim x) (acts s (take_claim x s k)) said) (by_test (list_any (clash (claimed x k)) s.holders)) (all_claimed x said (acts s (take_claim x s k)))
  where
    by_test : (b : Bool) → Fit EntryFits s (cond b [] (Hold (claimed x k) ∷ []))
    by_test true = tt
    by_test false = (tt, tt)

pub back_fits : (x : ℕ) (s : Server) (said : List Claim) (flushes : List FlushMsg) → AllByRecursion (CanEnter (newest s.entries)) flushes → Fit EntryFits s (come_back s x said flushes)
back_fits x s said flushes all =
    let t = acts s (LetAllGo x ∷ []) in
    let claims = each (take_claim x) t said in
    (tt, fit_append EntryFits t claims (each (take_brought x) (acts t claims) flushes) (all_claimed x said t) (all_brought x flushes (acts t claims) (more_upto t claims flushes all)))
