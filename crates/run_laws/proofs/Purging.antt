-- An id is purged after its removal is durable, along each run.
use Rattle.std.proofs.Common.{◌≡◌, ◌≤◌, ℕ, ◌+◌, List, [], ◌∷◌, ◌++◌, take, drop, length, Bool, true, false, Option, None, Some, refl, sym, ap, ◌∙◌, subst, arith}
use Rattle.std.proofs.Math.Seq.{take-length}
use Rattle.std.proofs.lemmas.List.{take-append-drop, take-append-le}
use Rattle.std.proofs.lemmas.List.Elements.{filter_map-append}
use Rattle.std.proofs.lemmas.List.Folds.{list_any-append}
use Rattle.std.proofs.lemmas.Bool.{eqb-true}
use Rattle.std.specs.Prelude.{◌||◌, ◌==◌}
use Rattle.snap_ids.specs.declared.id.SnapId.{SnapId}
use Rattle.snap_ids.specs.Context.{is_listed}
use Rattle.plain_types.specs.declared.entry.Entry.{Entry}
use Rattle.plain_types.specs.declared.entry.What.{What}
use Rattle.plain_types.specs.declared.history.Event.{Event}
use Rattle.plain_types.specs.declared.script.Script.{Script}
use Rattle.plain_journal.specs.Table.{removed_by}
use Rattle.step_table.specs.ServerState.{Asked, Server, Told, Answered, Granted, WantedBack, Changed, Acked, tell, tell_at, number_of, up_to}
use Rattle.step_table.specs.Acts.{Act, TellRecall, TellAck, AnswerIt, GrantIt, MakeEffect, Prepare, Buffer, SendPurge, act, answer_hand, grant_hand, effect_hand, buffer_for, written_down, prepare_hand, entry_for, buffer}
use Rattle.step_table.specs.Background.{removed}
use Rattle.step_table.specs.World.{start, journal}
use Rattle.run_laws.specs.Moments.{steps_of, world_after}
use Rattle.run_laws.proofs.Acts.{notices_keep}
use Rattle.run_laws.proofs.Serving.{Keeps, run_serves, no_client_start}
use Rattle.run_laws.proofs.Gives.{KeptByServer, server_gives}
use Rattle.run_laws.proofs.Growing.{Begins, begins_more, begins_all, begins_take}
use Rattle.run_laws.proofs.Fitting.{TableFits, tables_fit}

-- what was removed by some entries is by more
removed_append : (xs ys : List Entry) → removed (xs ++ ys) ≡ removed xs ++ removed ys
removed_append xs ys = filter_map-append (λ (entry : Entry). removed_by entry.what) xs ys

or_first : (a b : Bool) → a ≡ true → (a || b) ≡ true
or_first true b is = refl
or_first false b is = cc

listed_more : (id : SnapId) (xs ys : List Entry) → is_listed id (removed xs) ≡ true → is_listed id (removed (xs ++ ys)) ≡ true
listed_more id xs ys is = ap (is_listed id) (removed_append xs ys) ∙ list_any-append (λ (s : SnapId). s.0 == id.0) (removed xs) (removed ys) ∙ or_first (is_listed id (removed xs)) (is_listed id (removed ys)) is

-- the first entries are first of more
listed_longer : (id : SnapId) (d : ℕ) (entries : List Entry) → is_listed id (removed (take d entries)) ≡ true → is_listed id (removed entries) ≡ true
listed_longer id d entries is = subst (λ (l : List Entry). is_listed id (removed l) ≡ true) (take-append-drop d entries) (listed_more id (take d entries) (drop d entries) is)

abbrev Gone : List SnapId → List Entry → ℕ → Type 0
Gone purging entries durable = (id : SnapId) → is_listed id purging ≡ true → is_listed id (removed (take durable entries)) ≡ true

abbrev Purged : Server → Type 0
Purged s = Begins [] s.entries s.durable × Gone s.purging s.entries s.durable

gone_more : (purging : List SnapId) (entries : List Entry) (durable : ℕ) (e : Entry) → durable ≤ length entries → Gone purging entries durable → Gone purging (entries ++ e ∷ []) durable
gone_more purging entries durable e fits gone id is = subst (λ (l : List Entry). is_listed id (removed l) ≡ true) (sym (take-append-le durable entries (e ∷ []) fits)) (gone id is)

gone_with : (purging : List SnapId) (entries : List Entry) (durable : ℕ) (new : SnapId) → is_listed new (removed (take durable entries)) ≡ true → Gone purging entries durable → Gone (purging ++ new ∷ []) entries durable
gone_with purging entries durable new fits gone id is = by_old (is_listed id purging) refl (new.0 == id.0) refl (sym (list_any-append (λ (s : SnapId). s.0 == id.0) purging (new ∷ [])) ∙ is)
  where
    by_old : (a : Bool) → is_listed id purging ≡ a → (b : Bool) → (new.0 == id.0) ≡ b → (a || (b || false)) ≡ true → is_listed id (removed (take durable entries)) ≡ true
    by_old true old b test any = gone id old
    by_old false old true test any = subst (λ (x : SnapId). is_listed x (removed (take durable entries)) ≡ true) (ap (λ (n : ℕ). record { 0 = n }) (eqb-true new.0 id.0 test)) fits
    by_old false old false test any = cc

tell_purged : (s : Server) (x : ℕ) (told : Told) → Purged s → Purged (tell s x told)
tell_purged s x told holds = by_number (number_of s.current x)
  where
    by_number : (o : Option ℕ) → Purged (tell_at s x told o)
    by_number None = holds
    by_number (Some conn) = holds

buffers : (s : Server) (e : Entry) → Purged s → Purged (buffer s e)
buffers s e holds = notices_keep Purged (λ t x inos so. tell_purged t x (Changed inos) so) s.entries (up_to s.clients) (record s { entries = s.entries ++ e ∷ [] })
    (begins_more [] s.entries e s.durable holds.0, gone_more s.purging s.entries s.durable e holds.0.fits holds.1)

one : (s : Server) (a : Act) → TableFits s a → Purged s → Purged (act s a)
one s (TellRecall x ino) fit holds = tell_purged s x (WantedBack ino) holds
one s (TellAck x number) fit holds = tell_purged s x (Acked number) holds
one s (AnswerIt said) fit holds = by_hand s.hand
  where
    by_hand : (o : Option Asked) → Purged (answer_hand s said o)
    by_hand None = holds
    by_hand (Some a) = tell_purged (record s { hand = None }) a.client (Answered a.tid said) holds
one s (GrantIt ino mode) fit holds = by_hand s.hand
  where
    by_hand : (o : Option Asked) → Purged (grant_hand s ino mode o)
    by_hand None = holds
    by_hand (Some a) = tell_purged (record s { hand = None }) a.client (Granted a.tid ino mode) holds
one s (MakeEffect made) fit holds = by_hand s.hand
  where
    by_said : (a : Asked) (o : Option What) → Purged (buffer_for s a o)
    by_said a None = holds
    by_said a (Some said) = buffers s (entry_for a said) holds

    by_hand : (o : Option Asked) → Purged (effect_hand s made o)
    by_hand None = holds
    by_hand (Some a) = by_said a (written_down made)
one s (Prepare said) fit holds = by_hand s.hand
  where
    by_hand : (o : Option Asked) → Purged (prepare_hand s said o)
    by_hand None = holds
    by_hand (Some a) = buffers (record s { operation = Some a; hand = None }) (entry_for a said) holds
one s (Buffer e) fit holds = buffers s e holds
one s (SendPurge id) fit holds = (holds.0, gone_with s.purging s.entries s.durable id fit holds.1)
one s a fit holds = holds

-- none is purged at first
gone_none : (entries : List Entry) (durable : ℕ) → Gone [] entries durable
gone_none entries durable id is = cc

purged_kept : KeptByServer TableFits Purged (λ b before s. Purged s) (Keeps Purged)
purged_kept = record {
  begins = λ s holds. holds;
  one = λ b before s a fit holds. one s a fit holds;
  takes = λ before s hand holds. holds;
  accepts = λ before s client conn holds. holds;
  durable = λ s holds. (begins_all [] s.entries s.durable holds.0, λ id is. subst (λ (l : List Entry). is_listed id (removed l) ≡ true) (sym (take-length s.entries)) (listed_longer id s.durable s.entries (holds.1 id is)));
  survives = λ s k fits holds. (begins_take [] s k fits holds.0, gone_none (take (s.durable + k) s.entries) (s.durable + k));
  hands = λ b before s holds. holds;
  blind = λ b before r e holds. holds;
}

pub purged_law : (script : Script) (history : List Event) (id : SnapId) → is_listed id (world_after script history).server.purging ≡ true → is_listed id (removed (journal (world_after script history))) ≡ true
purged_law script history id is = (run_serves (server_gives tables_fit purged_kept) (start script) (steps_of history) (no_client_start script) (record { kept = omega arith; fits = omega arith; same = refl }, gone_none [] 0)).1 id is
