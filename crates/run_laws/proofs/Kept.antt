-- No two holders clash, and one operation on the snapshot table is outstanding at most, along each run.
use Rattle.std.proofs.Common.{◌≡◌, ℕ, ◌+◌, List, [], ◌∷◌, ◌++◌, append_assoc, take, drop, not, true, true≢false, Option, None, Some, refl, sym, subst, IfSome}
use Rattle.std.proofs.lemmas.List.{append-nil, take-append-drop}
use Rattle.std.specs.Prelude.{◌==◌}
use Rattle.snap_ids.specs.declared.id.Ino.{Ino}
use Rattle.snap_ids.specs.declared.id.SnapId.{SnapId}
use Rattle.snap_ids.specs.declared.values.Mode.TheVariants.{Write}
use Rattle.plain_types.specs.declared.entry.Entry.{Entry}
use Rattle.plain_types.specs.declared.entry.What.{What}
use Rattle.plain_types.specs.declared.entry.What.TheVariants as what
use Rattle.plain_types.specs.declared.history.Event.{Event}
use Rattle.plain_types.specs.declared.script.Script.{Script}
use Rattle.plain_journal.specs.Table.{outstanding, next_snap}
use Rattle.step_table.specs.ServerState.{Asked, Server, Told, Answered, Granted, WantedBack, Changed, Acked, tell, tell_at, number_of, up_to, is_holder}
use Rattle.step_table.specs.Acts.{Act, TellRecall, TellAck, AnswerIt, GrantIt, MakeEffect, Prepare, Buffer, Hold, Raise, MarkRecalled, Settled, LetGo, LetAllGo, act, answer_hand, grant_hand, effect_hand, buffer_for, written_down, prepare_hand, entry_for, buffer, raised, recalled, settled}
use Rattle.step_table.specs.Capabilities.{OneWriter, is_against}
use Rattle.step_table.specs.World.{start}
use Rattle.run_laws.specs.Moments.{steps_of, world_after}
use Rattle.run_laws.specs.Tables.{is_prepare, IsOut, EntryFits}
use Rattle.run_laws.proofs.Acts.{notices_keep}
use Rattle.run_laws.proofs.Serving.{ServerGives, Keeps, run_serves, no_client_start}
use Rattle.run_laws.proofs.Gives.{KeptByServer, server_gives}
use Rattle.run_laws.proofs.Holders.{one_append, one_filter, one_map, one_same, raise_harmless}
use Rattle.run_laws.proofs.Fitting.{TableFits, tables_fit}

-- each entry fits those before it
abbrev AllFit : List Entry → List Entry → Type 0
AllFit done [] = Unit {0}
AllFit done (e ∷ entries) = EntryFits done e.what × AllFit (done ++ e ∷ []) entries

fit_end : (done entries : List Entry) (e : Entry) → EntryFits (done ++ entries) e.what → AllFit done entries → AllFit done (entries ++ e ∷ [])
fit_end done [] e fits all = (subst (λ (l : List Entry). EntryFits l e.what) (append-nil done) fits, tt)
fit_end done (x ∷ entries) e fits all = (all.0, fit_end (done ++ x ∷ []) entries e (subst (λ (l : List Entry). EntryFits l e.what) (sym (append_assoc done (x ∷ []) entries)) fits) all.1)

fit_front : (done entries more : List Entry) → AllFit done (entries ++ more) → AllFit done entries
fit_front done [] more all = tt
fit_front done (x ∷ entries) more all = (all.0, fit_front (done ++ x ∷ []) entries more all.1)

fit_at : (done before later : List Entry) (e : Entry) → AllFit done (before ++ e ∷ later) → EntryFits (done ++ before) e.what
fit_at done [] later e all = subst (λ (l : List Entry). EntryFits l e.what) (sym (append-nil done)) all.0
fit_at done (x ∷ before) later e all = subst (λ (l : List Entry). EntryFits l e.what) (append_assoc done (x ∷ []) before) (fit_at (done ++ x ∷ []) before later e all.1)

-- the tables
abbrev pub Tables : Server → Type 0
Tables s = OneWriter s.holders × AllFit [] s.entries

tell_tables : (s : Server) (x : ℕ) (told : Told) → Tables s → Tables (tell s x told)
tell_tables s x told holds = by_number (number_of s.current x)
  where
    by_number : (o : Option ℕ) → Tables (tell_at s x told o)
    by_number None = holds
    by_number (Some conn) = holds

buffers : (s : Server) (e : Entry) → EntryFits s.entries e.what → Tables s → Tables (buffer s e)
buffers s e fits holds = notices_keep Tables (λ t x inos so. tell_tables t x (Changed inos) so) s.entries (up_to s.clients) (record s { entries = s.entries ++ e ∷ [] }) (holds.0, fit_end [] s.entries e fits holds.1)

one : (s : Server) (a : Act) → TableFits s a → Tables s → Tables (act s a)
one s (TellRecall x ino) fit holds = tell_tables s x (WantedBack ino) holds
one s (TellAck x number) fit holds = tell_tables s x (Acked number) holds
one s (AnswerIt said) fit holds = by_hand s.hand
  where
    by_hand : (o : Option Asked) → Tables (answer_hand s said o)
    by_hand None = holds
    by_hand (Some a) = tell_tables (record s { hand = None }) a.client (Answered a.tid said) holds
one s (GrantIt ino mode) fit holds = by_hand s.hand
  where
    by_hand : (o : Option Asked) → Tables (grant_hand s ino mode o)
    by_hand None = holds
    by_hand (Some a) = tell_tables (record s { hand = None }) a.client (Granted a.tid ino mode) holds
one s (MakeEffect made) fit holds = by_hand s.hand
  where
    by_said : (a : Asked) (o : Option What) → IfSome o (EntryFits s.entries) → Tables (buffer_for s a o)
    by_said a None is = holds
    by_said a (Some said) is = buffers s (entry_for a said) is holds

    by_hand : (o : Option Asked) → Tables (effect_hand s made o)
    by_hand None = holds
    by_hand (Some a) = by_said a (written_down made) fit
one s (Prepare said) fit holds = by_hand s.hand
  where
    by_hand : (o : Option Asked) → Tables (prepare_hand s said o)
    by_hand None = holds
    by_hand (Some a) = buffers (record s { operation = Some a; hand = None }) (entry_for a said) fit holds
one s (Buffer e) fit holds = buffers s e fit holds
one s (Hold h) fit holds = (one_append s.holders h holds.0 fit, holds.1)
one s (Raise x ino upto) fit holds = (one_map (raised x ino upto) (is_against x ino Write) (raise_harmless x ino upto) s.holders fit holds.0, holds.1)
one s (LetGo x ino) fit holds = (one_filter (λ h. not (is_holder x ino h)) s.holders holds.0, holds.1)
one s (LetAllGo x) fit holds = (one_filter (λ h. not (h.client == x)) s.holders holds.0, holds.1)
one s (MarkRecalled x ino) fit holds = (one_same (recalled x ino) (λ h g. refl) s.holders holds.0, holds.1)
one s (Settled x ino upto) fit holds = (one_same (settled x ino upto) (λ h g. refl) s.holders holds.0, holds.1)
one s a fit holds = holds

tables_kept : KeptByServer TableFits Tables (λ b before s. Tables s) (Keeps Tables)
tables_kept = record {
  begins = λ s holds. holds;
  one = λ b before s a fit holds. one s a fit holds;
  takes = λ before s hand holds. holds;
  accepts = λ before s client conn holds. holds;
  durable = λ s holds. holds;
  survives = λ s k fits holds. (tt, fit_front [] (take (s.durable + k) s.entries) (drop (s.durable + k) s.entries) (subst (AllFit []) (sym (take-append-drop (s.durable + k) s.entries)) holds.1));
  hands = λ b before s holds. holds;
  blind = λ b before r e holds. holds;
}

-- each row keeps them
pub tables_gives : ServerGives Tables (Keeps Tables)
tables_gives = server_gives tables_fit tables_kept

tables_hold : (script : Script) (history : List Event) → Tables (world_after script history).server
tables_hold script history = run_serves tables_gives (start script) (steps_of history) (no_client_start script) (tt, tt)

pub writer_law : (script : Script) (history : List Event) → OneWriter (world_after script history).server.holders
writer_law script history = (tables_hold script history).0

fits_at : (script : Script) (history : List Event) (before later : List Entry) (e : Entry) → (world_after script history).server.entries ≡ before ++ e ∷ later → EntryFits before e.what
fits_at script history before later e entries = fit_at [] before later e (subst (AllFit []) entries (tables_hold script history).1)

pub operation_law : (script : Script) (history : List Event) (before later : List Entry) (e : Entry) → (world_after script history).server.entries ≡ before ++ e ∷ later → is_prepare e.what ≡ true → outstanding before ≡ None
operation_law script history before later e entries is = by_what e.what is (fits_at script history before later e entries)
  where
    by_what : (w : What) → is_prepare w ≡ true → EntryFits before w → outstanding before ≡ None
    by_what (what.PrepareCreate id) is fits = fits.0
    by_what (what.PrepareDestroy id) is fits = fits
    by_what w is fits = absurd (true≢false (sym is))

pub given_law : (script : Script) (history : List Event) (before later : List Entry) (e : Entry) (id : SnapId) → (world_after script history).server.entries ≡ before ++ e ∷ later → e.what ≡ what.PrepareCreate id → id.0 ≡ next_snap before
given_law script history before later e id entries is = (subst (EntryFits before) is (fits_at script history before later e entries)).1

pub made_law : (script : Script) (history : List Event) (before later : List Entry) (e : Entry) (id : SnapId) (dir : Ino) (name : List ℕ) → (world_after script history).server.entries ≡ before ++ e ∷ later → e.what ≡ what.Mksnap id dir name → IsOut before id
made_law script history before later e id dir name entries is = subst (EntryFits before) is (fits_at script history before later e entries)

pub removed_law : (script : Script) (history : List Event) (before later : List Entry) (e : Entry) (id : SnapId) → (world_after script history).server.entries ≡ before ++ e ∷ later → e.what ≡ what.Rmsnap id → IsOut before id
removed_law script history before later e id entries is = subst (EntryFits before) is (fits_at script history before later e entries)
