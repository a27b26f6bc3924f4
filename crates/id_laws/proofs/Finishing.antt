-- What the server's turn does fits: also where it finishes an operation, whose answer names the snapshot that it makes.
use Rattle.std.proofs.Common.{◌≡◌, ◌≤◌, ℕ, List, [], ◌∷◌, ◌++◌, Bool, true, false, cond, Option, None, Some, refl, sym, subst, IfSome, arith}
use Rattle.std.specs.Prelude.{◌==◌, nat_le, Result, Ok, Err}
use Rattle.snap_ids.specs.declared.id.Ino.{Ino}
use Rattle.snap_ids.specs.declared.id.SnapId.{SnapId}
use Rattle.plain_types.specs.declared.answer.Answer.TheVariants as answer
use Rattle.plain_types.specs.declared.answer.Refusal.{Refusal}
use Rattle.plain_types.specs.declared.change.Change.{Change}
use Rattle.plain_types.specs.declared.change.Change.TheVariants as change
use Rattle.plain_types.specs.declared.entry.Entry.{Entry}
use Rattle.plain_types.specs.declared.entry.What.TheVariants as what
use Rattle.plain_tree.specs.Line.{answer_to as answer_of}
use Rattle.plain_tree.specs.Request.{change_asked}
use Rattle.plain_journal.specs.Entries.{state_after}
use Rattle.plain_journal.specs.Table.{outstanding}
use Rattle.step_table.specs.ServerState.{Asked, Server, Changed, tell_at, number_of, up_to, all_connected}
use Rattle.step_table.specs.Acts.{Act, AnswerIt, MakeEffect, DeferFirst, TakeDeferred, TakeOperation, act, effect_hand, entry_for, buffer}
use Rattle.step_table.specs.Requests.{treat}
use Rattle.step_table.specs.Background.{roll_back, finish, finish_with, least, unsent_purges, turn_purge, turn_deferred, turn_operation, turn_at, turn}
use Rattle.run_laws.proofs.Acts.{Fit, notices_keep}
use Rattle.id_laws.proofs.Entering.{EntryFits, answers_fit, said_fit}
use Rattle.id_laws.proofs.Newest.{newest, newest_append}
use Rattle.id_laws.proofs.Saying.{SaysUpto, AllSaid, said_treat, said_purge}

buffer_entries : (s : Server) (e : Entry) → (buffer s e).entries ≡ s.entries ++ e ∷ []
buffer_entries s e = notices_keep (λ t. t.entries ≡ s.entries ++ e ∷ []) (λ t x inos so. told t x inos so (number_of t.current x)) s.entries (up_to s.clients) (record s { entries = s.entries ++ e ∷ [] }) refl
  where
    told : (t : Server) (x : ℕ) (inos : List Ino) → t.entries ≡ s.entries ++ e ∷ [] → (o : Option ℕ) → (tell_at t x (Changed inos) o).entries ≡ s.entries ++ e ∷ []
    told t x inos so None = so
    told t x inos so (Some conn) = so

-- a snapshot that is made is there when its id is answered
made_says : (t : Server) (id : SnapId) (dir : Ino) (name : List ℕ) (o : Option Asked) → t.hand ≡ o → EntryFits (effect_hand t (change.Mksnap id dir name) o) (AnswerIt (answer.Snap id))
made_says t id dir name None is = subst (λ (h : Option Asked). IfSome h (λ a. SaysUpto t.entries (answer.Snap id))) (sym is) tt
made_says t id dir name (Some a) is =
    answers_fit (buffer t e).hand (SaysUpto (buffer t e).entries (answer.Snap id))
    (subst (λ (l : List Entry). id.0 ≤ newest l) (sym (buffer_entries t e)) (subst (λ (n : ℕ). id.0 ≤ n) (sym (newest_append 1 t.entries (e ∷ []))) (omega arith)))
  where
    e : Entry
    e = entry_for a (what.Mksnap id dir name)

made_fits : (t : Server) (made : Change) → Fit EntryFits t (MakeEffect made ∷ AnswerIt (answer_of made) ∷ [])
made_fits t (change.Mksnap id dir name) = (tt, (made_says t id dir name t.hand refl, tt))
made_fits t made = (tt, (answers_fit (act t (MakeEffect made)).hand _ tt, tt))

finish_fits : (t : Server) (id : SnapId) (o : Option (Result Change Refusal)) → Fit EntryFits t (finish id o)
finish_fits t id None = tt
finish_fits t id (Some (Err refusal)) = (tt, (answers_fit (act t (roll_back id)).hand _ tt, tt))
finish_fits t id (Some (Ok made)) = by_made made
  where
    by_made : (made : Change) → Fit EntryFits t (finish_with id made)
    by_made (change.Rmsnap now) = by_test (now.0 == id.0)
      where
        by_test : (b : Bool) → Fit EntryFits t (cond b (MakeEffect (change.Rmsnap now) ∷ AnswerIt answer.Done ∷ []) (roll_back id ∷ DeferFirst ∷ []))
        by_test true = made_fits t (change.Rmsnap now)
        by_test false = (tt, (tt, tt))
    by_made made = made_fits t made

pub turn_fits : (s : Server) → IfSome (turn s) (Fit EntryFits s)
turn_fits s = by_test (all_connected s)
  where
    Good : Option (List Act) → Type 0
    Good o = IfSome o (Fit EntryFits s)

    all_said : (o : Option (List Act)) → IfSome o (AllSaid s.entries) → Good o
    all_said None all = tt
    all_said (Some list) all = said_fit list s all

    purges : (o : Option SnapId) → Good (turn_purge s o)
    purges o = all_said (turn_purge s o) (said_purge s o)

    by_operation : (id : SnapId) (o : Option Asked) → Good (turn_operation s id o)
    by_operation id None = tt
    by_operation id (Some a) = (tt, finish_fits (act s TakeOperation) id (change_asked (state_after s.entries) a.client id a.request))

    by_deferred : (list : List Asked) → Good (turn_deferred s list)
    by_deferred [] = purges (least (unsent_purges s))
    by_deferred (a ∷ more) = let t = act s TakeDeferred in (tt, said_fit (treat true t a) t (said_treat t true a))

    by_outstanding : (o : Option (SnapId × ℕ)) → Good (turn_at s o)
    by_outstanding None = by_deferred s.deferred
    by_outstanding (Some o) = by_durable (nat_le o.1 s.durable)
      where
        by_durable : (b : Bool) → Good (cond b (turn_operation s o.0 s.operation) (turn_purge s (least (unsent_purges s))))
        by_durable true = by_operation o.0 s.operation
        by_durable false = purges (least (unsent_purges s))

    by_test : (b : Bool) → Good (cond b (turn_at s (outstanding s.entries)) None)
    by_test true = by_outstanding (outstanding s.entries)
    by_test false = tt
