-- What the few moves keep, each act keeps: for a predicate that reads entries, what is durable, mail and connections alone.
use Rattle.std.proofs.Common.{ℕ, List, [], ◌∷◌, ◌++◌, Option, None, Some}
use Rattle.snap_ids.specs.declared.id.Ino.{Ino}
use Rattle.snap_ids.specs.declared.values.Mode.{Mode}
use Rattle.plain_types.specs.declared.answer.Answer.{Answer}
use Rattle.plain_types.specs.declared.change.Change.{Change}
use Rattle.plain_types.specs.declared.entry.Entry.{Entry}
use Rattle.plain_types.specs.declared.entry.What.{What}
use Rattle.plain_types.specs.declared.history.Sent.{Sent}
use Rattle.plain_types.specs.declared.message.ToStore.{ToStore}
use Rattle.plain_types.specs.declared.message.ToStore.TheVariants.{Purge, Delete}
use Rattle.plain_journal.specs.Coverage.{context}
use Rattle.step_table.specs.ServerState.{Asked, Server, Told, Answered, Granted, WantedBack, Changed, Acked, tell, tell_restart, send_store, up_to}
use Rattle.step_table.specs.Acts.{Act, TellRecall, TellAck, TellRestart, AnswerIt, GrantIt, MakeEffect, Prepare, Buffer, SendPurge, SendDelete, act, answer_hand, grant_hand, effect_hand, buffer_for, written_down, prepare_hand, entry_for, buffer}
use Rattle.run_laws.proofs.Acts.{notices_keep}

pub record KeptByMoves (P : List Entry → ℕ → List (ℕ × Sent) → List (ℕ × ℕ) → Type 0) : Type 0 where
  pub tells : (s : Server) (x : ℕ) (told : Told) → P s.entries s.durable s.mail s.current → (let t = tell s x told in P t.entries t.durable t.mail t.current)
  pub restarts : (s : Server) (x : ℕ) → P s.entries s.durable s.mail s.current → (let t = tell_restart s x in P t.entries t.durable t.mail t.current)
  pub stores : (s : Server) (order : ToStore) → P s.entries s.durable s.mail s.current → (let t = send_store s order in P t.entries t.durable t.mail t.current)
  pub enters : (s : Server) (e : Entry) → P s.entries s.durable s.mail s.current → P (s.entries ++ e ∷ []) s.durable s.mail s.current

pub act_keeps : {P : List Entry → ℕ → List (ℕ × Sent) → List (ℕ × ℕ) → Type 0} → KeptByMoves P → (s : Server) (a : Act) → P s.entries s.durable s.mail s.current → (let t = act s a in P t.entries t.durable t.mail t.current)
act_keeps {P} kept s a holds = by_act a
  where
    Of : Server → Type 0
    Of t = P t.entries t.durable t.mail t.current

    buffers : (t : Server) (e : Entry) → Of t → Of (buffer t e)
    buffers t e so = notices_keep Of (λ u x inos now. kept.tells u x (Changed inos) now) t.entries (up_to t.clients) (record t { entries = t.entries ++ e ∷ [] }) (kept.enters t e so)

    answered : (said : Answer) (o : Option Asked) → Of (answer_hand s said o)
    answered said None = holds
    answered said (Some a) = kept.tells (record s { hand = None }) a.client (Answered a.tid said) holds

    granted : (ino : Ino) (mode : Mode) (o : Option Asked) → Of (grant_hand s ino mode o)
    granted ino mode None = holds
    granted ino mode (Some a) = kept.tells (record s { hand = None }) a.client (Granted a.tid ino mode) holds

    buffered_for : (a : Asked) (o : Option What) → Of (buffer_for s a o)
    buffered_for a None = holds
    buffered_for a (Some said) = buffers s (entry_for a said) holds

    made : (change : Change) (o : Option Asked) → Of (effect_hand s change o)
    made change None = holds
    made change (Some a) = buffered_for a (written_down change)

    prepared : (said : What) (o : Option Asked) → Of (prepare_hand s said o)
    prepared said None = holds
    prepared said (Some a) = buffers (record s { operation = Some a; hand = None }) (entry_for a said) holds

    by_act : (a : Act) → Of (act s a)
    by_act (TellRecall x ino) = kept.tells s x (WantedBack ino) holds
    by_act (TellAck x number) = kept.tells s x (Acked number) holds
    by_act (TellRestart x) = kept.restarts s x holds
    by_act (AnswerIt said) = answered said s.hand
    by_act (GrantIt ino mode) = granted ino mode s.hand
    by_act (MakeEffect change) = made change s.hand
    by_act (Prepare said) = prepared said s.hand
    by_act (Buffer e) = buffers s e holds
    by_act (SendPurge id) = kept.stores (record s { purging = s.purging ++ id ∷ [] }) (Purge id) holds
    by_act (SendDelete ino) = kept.stores (record s { deleting = s.deleting ++ ino ∷ [] }) (Delete ino (context s.entries ino)) holds
    by_act a = holds
