-- Rows that open nothing.
use Rattle.std.proofs.Common.{take, ◌≡◌, ℕ, suc, ◌+◌, ◌≤◌, List, [], ◌∷◌, ◌++◌, length, map, Bool, true, false, true≢false, cond, Option, None, Some, refl, sym, ap, subst, ◌∙◌, arith}
use Rattle.std.proofs.lemmas.List.{map-append, take_all}
use Rattle.std.proofs.lemmas.List.Folds.{list_any-append}
use Rattle.std.specs.Prelude.{◌||◌}
use Rattle.std.specs.List.{list_any}
use Rattle.snap_ids.specs.declared.id.SnapId.{SnapId}
use Rattle.snap_ids.specs.Context.{is_listed}
use Rattle.plain_types.specs.declared.entry.Entry.{Entry}
use Rattle.plain_types.specs.declared.entry.What.TheVariants.{Deadfile, Purgedone, Rollback}
use Rattle.plain_types.specs.declared.message.ToServer.{ToServer}
use Rattle.plain_types.specs.declared.message.ToServer.TheVariants.{Connect, Ask, Flush, DropRead, Purged, Deleted}
use Rattle.plain_tree.specs.State.{same_ino}
use Rattle.plain_journal.specs.Table.{dead, outstanding, to_purge}
use Rattle.step_table.specs.Acts.{Act, Buffer, TellRestart, acts, hand_out, own_entry}
use Rattle.step_table.specs.Requests.{decide_anew, opens, then_held}
use Rattle.step_table.specs.ServerRows.{reported, restarts, roll_back_from, row_of}
use Rattle.step_table.specs.ServerState.{Server, up_to}
use Rattle.mds_state.specs.Parts.{Parts}
use Rattle.mds_state.specs.Stands.{bare, IsState, MayBuffer, MayFollow}
use Rattle.mds_requests.proofs.Ends.{acts_append}

or_none : (a b : Bool) → a ≡ false → b ≡ false → (a || b) ≡ false
or_none a b none other = rw (none, other) refl

quiet : (n : ℕ) (s : Server) (done : List Act) → list_any opens done ≡ false → then_held (suc n) s done ≡ done
quiet n s done shut = by_test (list_any opens done) shut
  where
    now : Server
    now = acts s done

    by_test : (b : Bool) → b ≡ false → (elim b as (λ _. List Act) [ false ↦ done | true ↦ done ++ then_held n now (decide_anew now) ]) ≡ done
    by_test true is = absurd (true≢false is)
    by_test false is = refl

two_more : (n : ℕ) → suc (1 + n) ≡ 2 + n
two_more n = omega arith

-- where nothing opens, the row is the acts alone
pub quiet_row : (s : Server) (done : List Act) → list_any opens done ≡ false → hand_out (acts s done) ≡ row_of s done
quiet_row s done shut = ap (λ (l : List Act). hand_out (acts s l)) (sym (subst (λ (n : ℕ). then_held n s done ≡ done) (two_more (length s.held)) (quiet (1 + length s.held) s done shut)))

pub reported_shut : (s : Server) (m : ToServer) → list_any opens (reported s m) ≡ false
reported_shut s (Purged id) = step (is_listed id (to_purge s.entries))
  where
    step : (b : Bool) → list_any opens (cond b (Buffer (own_entry (Purgedone id)) ∷ []) []) ≡ false
    step true = refl
    step false = refl
reported_shut s (Deleted ino) = step (list_any (same_ino ino) (dead s.entries))
  where
    step : (b : Bool) → list_any opens (cond b (Buffer (own_entry (Deadfile ino)) ∷ []) []) ≡ false
    step true = refl
    step false = refl
reported_shut s (Connect conn claims flushes asked) = refl
reported_shut s (Ask conn tid asked) = refl
reported_shut s (Flush conn f) = refl
reported_shut s (DropRead conn ino) = refl

-- a restart
told_shut : (clients : List ℕ) → list_any opens (map TellRestart clients) ≡ false
told_shut [] = refl
told_shut (c ∷ clients) = told_shut clients

rolled_shut : (o : Option (SnapId × ℕ)) → list_any opens (roll_back_from o) ≡ false
rolled_shut None = refl
rolled_shut (Some o) = refl

pub restarts_shut : (s : Server) → list_any opens (restarts s) ≡ false
restarts_shut s =
    list_any-append opens (map TellRestart (up_to s.clients)) (roll_back_from (outstanding s.entries))
    ∙ or_none _ _ (told_shut (up_to s.clients)) (rolled_shut (outstanding s.entries))

told_entries : (clients : List ℕ) (s : Server) → (acts s (map TellRestart clients)).entries ≡ s.entries
told_entries [] s = refl
told_entries (c ∷ clients) s = told_entries clients (acts s (TellRestart c ∷ []))

-- all are told, and then what was outstanding is rolled back
pub restarts_then : (s : Server) → acts (acts s (map TellRestart (up_to s.clients))) (roll_back_from (outstanding (acts s (map TellRestart (up_to s.clients))).entries)) ≡ acts s (restarts s)
restarts_then s =
    ap (λ (entries : List Entry). acts (acts s (map TellRestart (up_to s.clients))) (roll_back_from (outstanding entries))) (told_entries (up_to s.clients) s)
    ∙ sym (acts_append (map TellRestart (up_to s.clients)) (roll_back_from (outstanding s.entries)) s)

-- one more client is told
pub told_more : (s : Server) (n : ℕ) → acts (acts s (map TellRestart (up_to n))) (TellRestart (n + 1) ∷ []) ≡ acts s (map TellRestart (up_to (n + 1)))
told_more s n =
    sym (acts_append (map TellRestart (up_to n)) (TellRestart (n + 1) ∷ []) s)
    ∙ ap (acts s) (sym (map-append TellRestart (up_to n) ((n + 1) ∷ [])) ∙ ap (λ (m : ℕ). map TellRestart (up_to m)) (one_more n))
  where
    one_more : (n : ℕ) → suc n ≡ n + 1
    one_more n = omega arith

-- a rollback may follow any entries
least : (n : ℕ) → 0 ≤ n
least n = omega arith

pub rolls_back : (s : Server) (id : SnapId) → MayFollow s.clients s.entries (own_entry (Rollback id))
rolls_back s id = record { legal = refl; ruled = tt; whose = (least s.clients, λ zero. (refl, refl)); rises = λ flush. cc }

pub may_roll_back : (p : Parts) (e : Entry) (id : SnapId) → e ≡ own_entry (Rollback id) → IsState p → MayBuffer p e
may_roll_back p e id is state = record {
  taken = state.taken;
  state = state.state;
  stands = state.stands;
  may = subst (MayFollow state.state.clients state.state.entries) (sym is) (rolls_back state.state id);
}

-- a state with these entries
abbrev pub began : ℕ → List Entry → Server
began clients entries = bare clients entries []

same_or_less : (n : ℕ) → n ≤ n
same_or_less n = omega arith

-- all of them survived
pub whole : (entries : List Entry) → take (length entries) entries ≡ entries
whole entries = take_all (length entries) entries (same_or_less (length entries))
