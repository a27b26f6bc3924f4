-- Acts leave the clients, and add entries behind the others.
use Rattle.std.proofs.Common.{◌≡◌, ◌≤◌, ℕ, List, [], ◌∷◌, ◌++◌, append-nil, append_assoc, Bool, true, false, true≢false, Option, None, Some, refl, sym, ap, ◌∙◌, subst}
use Rattle.std.specs.Prelude.{◌&&◌}
use Rattle.snap_ids.specs.declared.id.Ino.{Ino}
use Rattle.plain_types.specs.declared.entry.Entry.{Entry}
use Rattle.plain_types.specs.declared.entry.What.{What}
use Rattle.plain_types.specs.declared.request.Request.{Request}
use Rattle.plain_types.specs.declared.request.Request.TheVariants as request
use Rattle.plain_journal.specs.Entries.{state_after, applied_by}
use Rattle.plain_journal.specs.Legal.{is_made_file}
use Rattle.journal_shapes.specs.Past.{is_past, past_from}
use Rattle.step_table.specs.ServerState.{Asked, Server, Told, Answered, Granted, WantedBack, Changed, Acked, tell, tell_at, number_of, up_to}
use Rattle.step_table.specs.Acts.{Act, TellRecall, TellAck, AnswerIt, GrantIt, MakeEffect, Prepare, Buffer, act, acts, answer_hand, grant_hand, effect_hand, buffer_for, written_down, prepare_hand, entry_for, buffer, notices, tell_changed, changed_files}
use Rattle.step_table.specs.Flushes.{knows_asked}
use Rattle.mds_state.specs.Fits.{AllPast, IsFit}
use Rattle.mds_state.proofs.Known.{made_more}

-- what telling keeps, the notices of an entry keep
pub notices_keep : (P : Server → Type 0) → ((s : Server) (c : ℕ) (inos : List Ino) → P s → P (tell s c (Changed inos))) → (before : List Entry) (clients : List ℕ) (s : Server) → P s → P (notices before s clients)
notices_keep P tells before [] s holds = holds
notices_keep P tells before (c ∷ clients) s holds = notices_keep P tells before clients _ (told (changed_files before s c))
  where
    told : (inos : List Ino) → P (tell_changed s c inos)
    told [] = holds
    told (ino ∷ inos) = tells s c (ino ∷ inos) holds

-- one state follows another: with the same clients, and some more entries
pub record Later (s t : Server) : Type 0 where
  pub clients : t.clients ≡ s.clients
  pub more : List Entry
  pub entries : t.entries ≡ s.entries ++ more

pub later_same : (s t : Server) → t.clients ≡ s.clients → t.entries ≡ s.entries → Later s t
later_same s t clients entries = record { clients = clients; more = []; entries = entries ∙ sym (append-nil s.entries) }

pub later_more : (s t : Server) (e : Entry) → t.clients ≡ s.clients → t.entries ≡ s.entries ++ e ∷ [] → Later s t
later_more s t e clients entries = record { clients = clients; more = e ∷ []; entries = entries }

pub later_then : (s t u : Server) → Later s t → Later t u → Later s u
later_then s t u first next = record {
  clients = next.clients ∙ first.clients;
  more = first.more ++ next.more;
  entries = next.entries ∙ ap (λ (entries : List Entry). entries ++ next.more) first.entries ∙ append_assoc s.entries first.more next.more;
}

-- a state has these clients and entries
abbrev Kept : ℕ → List Entry → Server → Type 0
Kept clients entries t = (t.clients ≡ clients) × (t.entries ≡ entries)

told_kept : (clients : ℕ) (entries : List Entry) (t : Server) (x : ℕ) (told : Told) → Kept clients entries t → Kept clients entries (tell t x told)
told_kept clients entries t x told is = by_number (number_of t.current x)
  where
    by_number : (o : Option ℕ) → Kept clients entries (tell_at t x told o)
    by_number None = is
    by_number (Some conn) = is

buffer_kept : (s : Server) (e : Entry) → Kept s.clients (s.entries ++ e ∷ []) (buffer s e)
buffer_kept s e = notices_keep (Kept s.clients (s.entries ++ e ∷ [])) (λ u x inos so. told_kept s.clients (s.entries ++ e ∷ []) u x (Changed inos) so) s.entries (up_to s.clients) (record s { entries = s.entries ++ e ∷ [] }) (refl, refl)

told_later : (s t : Server) (x : ℕ) (told : Told) → Kept s.clients s.entries t → Later s (tell t x told)
told_later s t x told is = let k = told_kept s.clients s.entries t x told is in later_same s (tell t x told) k.0 k.1

buffer_later : (s : Server) (e : Entry) → Later s (buffer s e)
buffer_later s e = let k = buffer_kept s e in later_more s (buffer s e) e k.0 k.1

pub act_later : (s : Server) (a : Act) → Later s (act s a)
act_later s (TellRecall x ino) = told_later s s x (WantedBack ino) (refl, refl)
act_later s (TellAck x number) = told_later s s x (Acked number) (refl, refl)
act_later s (AnswerIt said) = by_hand s.hand
  where
    by_hand : (o : Option Asked) → Later s (answer_hand s said o)
    by_hand None = later_same s s refl refl
    by_hand (Some a) = told_later s (record s { hand = None }) a.client (Answered a.tid said) (refl, refl)
act_later s (GrantIt ino mode) = by_hand s.hand
  where
    by_hand : (o : Option Asked) → Later s (grant_hand s ino mode o)
    by_hand None = later_same s s refl refl
    by_hand (Some a) = told_later s (record s { hand = None }) a.client (Granted a.tid ino mode) (refl, refl)
act_later s (MakeEffect made) = by_hand s.hand
  where
    by_said : (a : Asked) (o : Option What) → Later s (buffer_for s a o)
    by_said a None = later_same s s refl refl
    by_said a (Some said) = buffer_later s (entry_for a said)

    by_hand : (o : Option Asked) → Later s (effect_hand s made o)
    by_hand None = later_same s s refl refl
    by_hand (Some a) = by_said a (written_down made)
act_later s (Prepare said) = by_hand s.hand
  where
    by_hand : (o : Option Asked) → Later s (prepare_hand s said o)
    by_hand None = later_same s s refl refl
    by_hand (Some a) = let k = buffer_kept (record s { operation = Some a; hand = None }) (entry_for a said) in later_more s _ (entry_for a said) k.0 k.1
act_later s (Buffer e) = buffer_later s e
act_later s a = later_same s (act s a) refl refl

pub acts_later : (list : List Act) (s : Server) → Later s (acts s list)
acts_later [] s = later_same s s refl refl
acts_later (a ∷ list) s = later_then s (act s a) (acts (act s a) list) (act_later s a) (acts_later list (act s a))

-- what flushes say of a front
pub and_both : (a b : Bool) → (a && b) ≡ true → (a ≡ true) × (b ≡ true)
and_both true b is = (refl, is)
and_both false b is = absurd (true≢false (sym is))

both_and : (a b : Bool) → a ≡ true → b ≡ true → (a && b) ≡ true
both_and true b is other = other
both_and false b is other = absurd (true≢false (sym is))

past_front : (last : ℕ) (xs ys : List Entry) (file : Ino) → past_from last (xs ++ ys) file ≡ true → past_from last xs file ≡ true
past_front last [] ys file is = refl
past_front last (e ∷ xs) ys file is =
    let both = and_both (is_past last file e.what) (past_from (applied_by last e.what) (xs ++ ys) file) is in
    both_and (is_past last file e.what) (past_from (applied_by last e.what) xs file) both.0 (past_front (applied_by last e.what) xs ys file both.1)

pub were_past : (s t : Server) → Later s t → AllPast t.entries → AllPast s.entries
were_past s t later past = λ ino. past_front 1 s.entries later.more ino (subst (λ (entries : List Entry). past_from 1 entries ino ≡ true) later.entries (past ino))

-- a request that fits does later
made_many : (more entries : List Entry) (ino : Ino) → is_made_file (state_after entries) ino ≡ true → is_made_file (state_after (entries ++ more)) ino ≡ true
made_many [] entries ino is = subst (λ (all : List Entry). is_made_file (state_after all) ino ≡ true) (sym (append-nil entries)) is
made_many (e ∷ more) entries ino is =
    subst (λ (all : List Entry). is_made_file (state_after all) ino ≡ true) (append_assoc entries (e ∷ []) more) (made_many more (entries ++ e ∷ []) ino (made_more entries e ino is))

known_later : (s t : Server) (asked : Request) → Later s t → knows_asked s asked ≡ true → knows_asked t asked ≡ true
known_later s t (request.Cap ino mode) later is = subst (λ (all : List Entry). is_made_file (state_after all) ino ≡ true) (sym later.entries) (made_many later.more s.entries ino is)
known_later s t asked later is = refl

pub fit_later : (s t : Server) (a : Asked) → Later s t → IsFit s a → IsFit t a
fit_later s t a later fit = record {
  from_one = fit.from_one;
  upto = subst (λ (n : ℕ). a.client ≤ n) (sym later.clients) fit.upto;
  known = known_later s t a.request later fit.known;
}
