-- What is prepared is of the client and the number of the outstanding operation, along each run.
use Rattle.std.proofs.Common.{◌≡◌, ℕ, List, [], ◌∷◌, ◌++◌, false, true, true≢false, Option, None, Some, refl, sym, subst, IfSome}
use Rattle.std.proofs.lemmas.List.Sums.{fold-append}
use Rattle.plain_types.specs.declared.entry.Entry.{Entry}
use Rattle.plain_types.specs.declared.entry.What.{What}
use Rattle.plain_types.specs.declared.entry.What.TheVariants.{PrepareCreate, PrepareDestroy, Mksnap, Rmsnap, Rollback}
use Rattle.plain_types.specs.declared.history.Event.{Event}
use Rattle.plain_types.specs.declared.script.Script.{Script}
use Rattle.step_table.specs.ServerState.{Asked, Server, Told, Answered, Granted, WantedBack, Changed, Acked, tell, tell_at, number_of, up_to}
use Rattle.step_table.specs.Acts.{Act, TellRecall, TellAck, AnswerIt, GrantIt, MakeEffect, Prepare, TakeOperation, Buffer, act, answer_hand, grant_hand, effect_hand, buffer_for, written_down, prepare_hand, entry_for, buffer}
use Rattle.step_table.specs.World.{start}
use Rattle.run_laws.specs.Moments.{steps_of, world_after}
use Rattle.run_laws.specs.Prepared.{prepare_by, last_prepare}
use Rattle.run_laws.specs.Tables.{is_prepare}
use Rattle.run_laws.proofs.Acts.{notices_keep}
use Rattle.run_laws.proofs.Gives.{KeptByServer, server_gives}
use Rattle.run_laws.proofs.Operations.{written_not}
use Rattle.run_laws.proofs.Serving.{Keeps, run_serves, no_client_start}
use Rattle.run_laws.proofs.Strangers.{OwnFits, own_fit}

-- the entry, if any, is of the request, if any
abbrev IsIts : Option Asked → Option Entry → Type 0
IsIts None o = Unit {0}
IsIts (Some a) None = Unit {0}
IsIts (Some a) (Some e) = (e.client ≡ a.client) × (e.number ≡ a.tid)

none_its : (o : Option Asked) → IsIts o None
none_its None = tt
none_its (Some a) = tt

abbrev WhoseAt : Option Asked → List Entry → Type 0
WhoseAt operation entries = IsIts operation (last_prepare entries)

abbrev Whose : Server → Type 0
Whose s = WhoseAt s.operation s.entries

-- one entry more
prepare_more : (entries : List Entry) (e : Entry) → last_prepare (entries ++ e ∷ []) ≡ prepare_by e e.what (last_prepare entries)
prepare_more entries e = fold-append _ None entries (e ∷ [])

other_entry : (o : Option Asked) (e : Entry) (said : What) (before : Option Entry) → is_prepare said ≡ false → IsIts o before → IsIts o (prepare_by e said before)
other_entry o e (PrepareCreate id) before is its = absurd (true≢false is)
other_entry o e (PrepareDestroy id) before is its = absurd (true≢false is)
other_entry o e (Mksnap id dir name) before is its = none_its o
other_entry o e (Rmsnap id) before is its = none_its o
other_entry o e (Rollback id) before is its = none_its o
other_entry o e said before is its = its

new_entry : (a : Asked) (said : What) (before : Option Entry) → is_prepare said ≡ true → IsIts (Some a) (prepare_by (entry_for a said) said before)
new_entry a (PrepareCreate id) before is = (refl, refl)
new_entry a (PrepareDestroy id) before is = (refl, refl)
new_entry a said before is = absurd (true≢false (sym is))

more : (o : Option Asked) (entries : List Entry) (e : Entry) → is_prepare e.what ≡ false → WhoseAt o entries → WhoseAt o (entries ++ e ∷ [])
more o entries e is its = subst (IsIts o) (sym (prepare_more entries e)) (other_entry o e e.what (last_prepare entries) is its)

-- acts
tell_whose : (s : Server) (x : ℕ) (told : Told) → Whose s → Whose (tell s x told)
tell_whose s x told its = by_number (number_of s.current x)
  where
    by_number : (o : Option ℕ) → Whose (tell_at s x told o)
    by_number None = its
    by_number (Some conn) = its

buffers : (s : Server) (e : Entry) → WhoseAt s.operation (s.entries ++ e ∷ []) → Whose (buffer s e)
buffers s e now = notices_keep Whose (λ t x inos so. tell_whose t x (Changed inos) so) s.entries (up_to s.clients) (record s { entries = s.entries ++ e ∷ [] }) now

one : (s : Server) (a : Act) → OwnFits s a → Whose s → Whose (act s a)
one s (TellRecall x ino) fit its = tell_whose s x (WantedBack ino) its
one s (TellAck x number) fit its = tell_whose s x (Acked number) its
one s (AnswerIt said) fit its = by_hand s.hand
  where
    by_hand : (o : Option Asked) → Whose (answer_hand s said o)
    by_hand None = its
    by_hand (Some a) = tell_whose (record s { hand = None }) a.client (Answered a.tid said) its
one s (GrantIt ino mode) fit its = by_hand s.hand
  where
    by_hand : (o : Option Asked) → Whose (grant_hand s ino mode o)
    by_hand None = its
    by_hand (Some a) = tell_whose (record s { hand = None }) a.client (Granted a.tid ino mode) its
one s (MakeEffect made) fit its = by_hand s.hand
  where
    by_said : (a : Asked) (o : Option What) → IfSome o (λ said. is_prepare said ≡ false) → Whose (buffer_for s a o)
    by_said a None is = its
    by_said a (Some said) is = buffers s (entry_for a said) (more s.operation s.entries (entry_for a said) is its)

    by_hand : (o : Option Asked) → Whose (effect_hand s made o)
    by_hand None = its
    by_hand (Some a) = by_said a (written_down made) (written_not made)
one s (Prepare said) fit its = by_hand s.hand
  where
    by_hand : (o : Option Asked) → Whose (prepare_hand s said o)
    by_hand None = its
    by_hand (Some a) = buffers (record s { operation = Some a; hand = None }) (entry_for a said) (subst (IsIts (Some a)) (sym (prepare_more s.entries (entry_for a said))) (new_entry a said (last_prepare s.entries) fit))
one s TakeOperation fit its = tt
one s (Buffer e) fit its = buffers s e (more s.operation s.entries e fit.1 its)
one s a fit its = its

whose_kept : KeptByServer OwnFits Whose (λ b before s. Whose s) (Keeps Whose)
whose_kept = record {
  begins = λ s its. its;
  one = λ b before s a fit its. one s a fit its;
  takes = λ before s hand its. its;
  accepts = λ before s client conn its. its;
  durable = λ s its. its;
  survives = λ s k fits its. tt;
  hands = λ b before s its. its;
  blind = λ b before r e its. its;
}

pub whose_law : (script : Script) (history : List Event) (a : Asked) (e : Entry) → (world_after script history).server.operation ≡ Some a → last_prepare (world_after script history).server.entries ≡ Some e → (e.client ≡ a.client) × (e.number ≡ a.tid)
whose_law script history a e is prepares = subst (IsIts (Some a)) prepares (subst (λ (o : Option Asked). IsIts o (last_prepare (world_after script history).server.entries)) is
    (run_serves (server_gives own_fit whose_kept) (start script) (steps_of history) (no_client_start script) tt))
