-- Requests that wait and that are taken.
use Rattle.std.proofs.Common.{◌≡◌, ℕ, ◌<◌, ◌≤◌, List, [], ◌∷◌, ◌++◌, drop, filter, not, Option, None, Some, refl, sym, ap, subst, ◌∙◌}
use Rattle.plain_types.specs.declared.entry.Entry.{Entry}
use Rattle.session_link.specs.Sessions.{Link}
use Rattle.server_sessions.specs.Calls.{with_session, connected_at}
use Rattle.server_sessions.proofs.Steps.{connection_taken}
use Rattle.step_table.specs.Acts.{act, as_list, first_of, of_client, Wait, Defer, DeferFirst, TakeHeld, TakeDeferred, TakeOperation}
use Rattle.step_table.specs.Flushes.{connected}
use Rattle.step_table.specs.ServerState.{Asked, Server, connection}
use Rattle.mds_state.specs.Parts.{Parts}
use Rattle.mds_state.specs.Stands.{bare, StandsFor, MayBuffer}

-- the requests that wait are others, and so is the one in hand
moved : (p : Parts) (taken now : Option Asked) (s : Server) (held deferred : List Asked) (operation : Option Asked) (s_held s_deferred : List Asked) (s_operation : Option Asked)
    → held ≡ s_held → deferred ≡ s_deferred → operation ≡ s_operation → StandsFor p taken s
    → StandsFor (record p { held = held; deferred = deferred; operation = operation }) now (record s { held = s_held; deferred = s_deferred; operation = s_operation; hand = now })
moved p taken now s held deferred operation s_held s_deferred s_operation helds deferreds operations stands = record {
  clients = stands.clients;
  written = stands.written;
  sessions = stands.sessions;
  tenures = stands.tenures;
  mail = stands.mail;
  traces = stands.traces;
  hand = refl;
  held = helds;
  deferred = deferreds;
  operation = operations;
  purging = stands.purging;
  deleting = stands.deleting;
}

module _ (p : Parts) (a : Asked) (s : Server) (stands : StandsFor p (Some a) s) where
  at_hand : (f : Option Asked → Server) (q : Parts) → StandsFor q None (f (Some a)) → StandsFor q None (f s.hand)
  at_hand f q done = subst (λ (h : Option Asked). StandsFor q None (f h)) (sym stands.hand) done

  pub waits : StandsFor (record p { held = p.held ++ a ∷ [] }) None (act s Wait)
  waits =
      at_hand (λ (h : Option Asked). record s { held = s.held ++ as_list h; hand = None }) (record p { held = p.held ++ a ∷ [] })
      (moved p (Some a) None s (p.held ++ a ∷ []) p.deferred p.operation (s.held ++ a ∷ []) s.deferred s.operation (ap (λ (l : List Asked). l ++ a ∷ []) stands.held) stands.deferred stands.operation stands)

  pub defers : StandsFor (record p { deferred = p.deferred ++ a ∷ [] }) None (act s Defer)
  defers =
      at_hand (λ (h : Option Asked). record s { deferred = s.deferred ++ as_list h; hand = None }) (record p { deferred = p.deferred ++ a ∷ [] })
      (moved p (Some a) None s p.held (p.deferred ++ a ∷ []) p.operation s.held (s.deferred ++ a ∷ []) s.operation stands.held (ap (λ (l : List Asked). l ++ a ∷ []) stands.deferred) stands.operation stands)

  pub defers_first : StandsFor (record p { deferred = a ∷ p.deferred }) None (act s DeferFirst)
  defers_first =
      at_hand (λ (h : Option Asked). record s { deferred = as_list h ++ s.deferred; hand = None }) (record p { deferred = a ∷ p.deferred })
      (moved p (Some a) None s p.held (a ∷ p.deferred) p.operation s.held (a ∷ s.deferred) s.operation stands.held (ap (λ (l : List Asked). a ∷ l) stands.deferred) stands.operation stands)

module _ (p : Parts) (taken : Option Asked) (s : Server) (stands : StandsFor p taken s) where
  now_is : (q : Parts) (a b : Option Asked) (t : Server) → a ≡ b → StandsFor q b t → StandsFor q a t
  now_is q a b t same done = subst (λ (o : Option Asked). StandsFor q o t) (sym same) done

  pub takes_held : (client : ℕ) (result : Option Asked) (left : List Asked) → result ≡ first_of (filter (of_client client) p.held) → left ≡ filter (λ a. not (of_client client a)) p.held → StandsFor (record p { held = left }) result (act s (TakeHeld client))
  takes_held client result left first rest =
      now_is (record p { held = left }) result (first_of (filter (of_client client) s.held)) (act s (TakeHeld client)) (first ∙ ap (λ (l : List Asked). first_of (filter (of_client client) l)) stands.held)
      (moved p taken (first_of (filter (of_client client) s.held)) s left p.deferred p.operation (filter (λ a. not (of_client client a)) s.held) s.deferred s.operation
      (rest ∙ ap (λ (l : List Asked). filter (λ a. not (of_client client a)) l) stands.held) stands.deferred stands.operation stands)

  pub takes_deferred : (result : Option Asked) (left : List Asked) → result ≡ first_of p.deferred → left ≡ drop 1 p.deferred → StandsFor (record p { deferred = left }) result (act s TakeDeferred)
  takes_deferred result left first rest =
      now_is (record p { deferred = left }) result (first_of s.deferred) (act s TakeDeferred) (first ∙ ap first_of stands.deferred)
      (moved p taken (first_of s.deferred) s p.held left p.operation s.held (drop 1 s.deferred) s.operation stands.held (rest ∙ ap (drop 1) stands.deferred) stands.operation stands)

  pub takes_operation : StandsFor (record p { operation = None }) p.operation (act s TakeOperation)
  takes_operation =
      now_is (record p { operation = None }) p.operation s.operation (act s TakeOperation) stands.operation
      (moved p taken s.operation s p.held p.deferred None s.held s.deferred None stands.held stands.deferred refl stands)

  -- a client connects
  pub connects : (client conn : ℕ) → 1 ≤ client → client ≤ s.clients → connection s client < conn → (sessions : List Link) (held deferred : List Asked) → sessions ≡ with_session client (connected_at conn) p.sessions → held ≡ filter (λ a. not (of_client client a)) p.held → deferred ≡ filter (λ a. not (of_client client a)) p.deferred → StandsFor (record p { sessions = sessions; held = held; deferred = deferred }) taken (connected s client conn)
  connects client conn from_one upto above sessions held deferred links helds deferreds = record {
    clients = stands.clients;
    written = stands.written;
    sessions =
        let now = connection_taken p.sessions (bare s.clients s.entries s.current) client conn stands.sessions from_one upto above in
        record { each = links ∙ now.each; numbered = now.numbered };
    tenures = stands.tenures;
    mail = stands.mail;
    traces = stands.traces;
    hand = stands.hand;
    held = helds ∙ ap (λ (l : List Asked). filter (λ a. not (of_client client a)) l) stands.held;
    deferred = deferreds ∙ ap (λ (l : List Asked). filter (λ a. not (of_client client a)) l) stands.deferred;
    operation = stands.operation;
    purging = stands.purging;
    deleting = stands.deleting;
  }

-- a request becomes that of the outstanding operation
pub prepared : (p : Parts) (taken : Option Asked) (a : Asked) (s : Server) → StandsFor p taken s → StandsFor (record p { operation = Some a }) None (record s { operation = Some a; hand = None })
prepared p taken a s stands = moved p taken None s p.held p.deferred (Some a) s.held s.deferred (Some a) stands.held stands.deferred refl stands

-- and what may be buffered still may
pub may_still : (p : Parts) (a : Asked) (e : Entry) (q : Parts) (is : MayBuffer q e) → StandsFor p is.taken is.state → MayBuffer (record p { operation = Some a }) e
may_still p a e q is stands = record { taken = None; state = record is.state { operation = Some a; hand = None }; stands = prepared p is.taken a is.state stands; may = is.may }
