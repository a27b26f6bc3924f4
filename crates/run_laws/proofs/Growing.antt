-- Along each run what is durable stays, and the entries stay but at a restart.
use Rattle.std.proofs.Common.{◌≡◌, ◌≤◌, ℕ, ◌+◌, List, [], ◌∷◌, ◌++◌, length, length-append, take, drop, Bool, true, false, Option, None, Some, refl, sym, ap, ◌∙◌, subst, IfSome, arith, append_assoc, inl, inr}
use Rattle.std.proofs.lemmas.List.{append-nil, take-append-le, take-append-drop, length-take-le}
use Rattle.std.proofs.lemmas.Bool.Decides.{nat_tests}
use Rattle.std.specs.Prelude.{nat_le}
use Rattle.plain_types.specs.declared.entry.Entry.{Entry}
use Rattle.plain_types.specs.declared.history.Event.{Event}
use Rattle.plain_types.specs.declared.history.Step.{Step}
use Rattle.plain_types.specs.declared.script.Script.{Script}
use Rattle.step_table.specs.Restarts.{is_restart}
use Rattle.step_table.specs.Acts.{Act, act, hand_out}
use Rattle.plain_types.specs.declared.change.Effect.{Effect}
use Rattle.step_table.specs.Row.{Row}
use Rattle.step_table.specs.ServerState.{Server, Told, tell_at, number_of, buffered}
use Rattle.step_table.specs.World.{World, Made, row, after_row, after, start, journal}
use Rattle.run_laws.specs.Moments.{steps_of, world_after}
use Rattle.run_laws.proofs.Moves.{KeptByMoves, act_keeps}
use Rattle.run_laws.proofs.Serving.{ServerGives, Keeps, NoClient, Served, served, run_serves, no_client_run, no_client_start}
use Rattle.run_laws.proofs.Gives.{KeptByServer, any_always, server_gives}
use Rattle.run_laws.proofs.Acts.{AnyAct}

-- for what reads the entries alone
pub told_same : (P : List Entry → ℕ → Type 0) (s : Server) (x : ℕ) (told : Told) (o : Option ℕ) → P s.entries s.durable → (let t = tell_at s x told o in P t.entries t.durable)
told_same P s x told None holds = holds
told_same P s x told (Some conn) holds = holds

pub by_entries : (P : List Entry → ℕ → Type 0) → ((s : Server) (e : Entry) → P s.entries s.durable → P (s.entries ++ e ∷ []) s.durable) → KeptByMoves (λ entries durable mail current. P entries durable)
by_entries P enters = record {
  tells = λ s x told holds. told_same P s x told (number_of s.current x) holds;
  restarts = λ s x holds. holds;
  stores = λ s order holds. holds;
  enters = enters;
}

-- as many entries as these are durable, and the first ones are these
pub record Begins (first : List Entry) (entries : List Entry) (durable : ℕ) : Type 0 where
  pub kept : length first ≤ durable
  pub fits : durable ≤ length entries
  pub same : take (length first) entries ≡ first

pub begins_more : (first entries : List Entry) (e : Entry) (durable : ℕ) → Begins first entries durable → Begins first (entries ++ e ∷ []) durable
begins_more first entries e durable b = record {
  kept = b.kept;
  fits = let fits = b.fits in grind (arith, fits, length-append);
  same = take-append-le (length first) entries (e ∷ []) within ∙ b.same;
}
  where
    within : length first ≤ length entries
    within = let kept = b.kept in let fits = b.fits in omega (arith, kept, fits)

pub begins_all : (first entries : List Entry) (durable : ℕ) → Begins first entries durable → Begins first entries (length entries)
begins_all first entries durable b = record { kept = let kept = b.kept in let fits = b.fits in omega (arith, kept, fits); fits = omega arith; same = b.same }

pub take_take : (j k : ℕ) (entries : List Entry) → j ≤ k → k ≤ length entries → take j (take k entries) ≡ take j entries
take_take j k entries less fits = sym (take-append-le j (take k entries) (drop k entries) (omega (arith, less, long))) ∙ ap (take j) (take-append-drop k entries)
  where
    long : length (take k entries) ≡ k
    long = length-take-le k entries fits

pub room : (k : ℕ) (s : Server) → nat_le k (buffered s) ≡ true → s.durable ≤ length s.entries → s.durable + k ≤ length s.entries
room k s fits less = grind (arith, nat_tests, fits, less)

pub begins_take : (first : List Entry) (s : Server) (k : ℕ) → nat_le k (buffered s) ≡ true → Begins first s.entries s.durable → Begins first (take (s.durable + k) s.entries) (s.durable + k)
begins_take first s k fits b = record {
  kept = let kept = b.kept in omega (arith, kept);
  fits = let long = length-take-le (s.durable + k) s.entries (room k s fits b.fits) in omega (arith, long);
  same = take_take (length first) (s.durable + k) s.entries (let kept = b.kept in omega (arith, kept)) (room k s fits b.fits) ∙ b.same;
}

abbrev Now : List Entry → Server → Type 0
Now first s = Begins first s.entries s.durable

begins_kept : (first : List Entry) → KeptByServer AnyAct (Now first) (λ b before s. Now first s) (Keeps (Now first))
begins_kept first = record {
  begins = λ s holds. holds;
  one = λ b before s a fit holds. act_keeps (by_entries (λ entries durable. Begins first entries durable) (λ t e so. begins_more first t.entries e t.durable so)) s a holds;
  takes = λ before s hand holds. holds;
  accepts = λ before s client conn holds. holds;
  durable = λ s holds. begins_all first s.entries s.durable holds;
  survives = λ s k fits holds. begins_take first s k fits holds;
  hands = λ b before s holds. holds;
  blind = λ b before r e holds. holds;
}

pub begins_gives : (first : List Entry) → ServerGives (Now first) (Keeps (Now first))
begins_gives first = server_gives any_always (begins_kept first)

-- along each run no more is durable than there is
pub fits_run : (script : Script) (steps : List Step) → (after (start script) steps).server.durable ≤ length (after (start script) steps).server.entries
fits_run script steps = (run_serves (begins_gives []) (start script) steps (no_client_start script) (record { kept = omega arith; fits = omega arith; same = refl })).fits

pub after_append : (w : World) (steps more : List Step) → after w (steps ++ more) ≡ after (after w steps) more
after_append w [] more = refl
after_append w (step ∷ steps) more = after_append (after_row w (row w step)) steps more

pub steps_append : (history more : List Event) → steps_of (history ++ more) ≡ steps_of history ++ steps_of more
steps_append [] more = refl
steps_append (event ∷ history) more = ap (λ (l : List Step). event.step ∷ l) (steps_append history more)

pub world_append : (script : Script) (history more : List Event) → world_after script (history ++ more) ≡ after (world_after script history) (steps_of more)
world_append script history more = ap (after (start script)) (steps_append history more) ∙ after_append (start script) (steps_of history) (steps_of more)

pub durable_stays : (script : Script) (history later : List Event) → (more : List Entry) × (journal (world_after script (history ++ later)) ≡ journal (world_after script history) ++ more)
durable_stays script history later = rw (world_append script history later) (drop (length first) (take now.server.durable now.server.entries), sym (take-append-drop (length first) (take now.server.durable now.server.entries)) ∙ ap (λ (l : List Entry). l ++ drop (length first) (take now.server.durable now.server.entries)) front)
  where
    was : World
    was = world_after script history

    now : World
    now = after (world_after script history) (steps_of later)

    first : List Entry
    first = take was.server.durable was.server.entries

    fits : was.server.durable ≤ length was.server.entries
    fits = fits_run script (steps_of history)

    long : length (take was.server.durable was.server.entries) ≡ was.server.durable
    long = length-take-le was.server.durable was.server.entries fits

    same : Begins first now.server.entries now.server.durable
    same = run_serves (begins_gives first) was (steps_of later) (no_client_run (start script) (steps_of history) (no_client_start script)) (record { kept = omega (arith, long); fits = fits; same = ap (λ (n : ℕ). take n was.server.entries) long })

    front : take (length first) (take now.server.durable now.server.entries) ≡ first
    front = take_take (length first) now.server.durable now.server.entries same.kept same.fits ∙ same.same

-- the entries after a row that is no restart
abbrev Grown : Bool → Server → Server → Type 0
Grown true before s = Unit {0}
Grown false before s = (more : List Entry) × (s.entries ≡ before.entries ++ more)

grown_kept : KeptByServer AnyAct (λ s. Unit {0}) Grown (λ b before r. Grown b before r.state)
grown_kept = record {
  begins = λ s holds. ([], sym (append-nil s.entries));
  one = λ b before s a fit holds. one b before s a holds;
  takes = λ before s hand holds. holds;
  accepts = λ before s client conn holds. holds;
  durable = λ s holds. ([], sym (append-nil s.entries));
  survives = λ s k fits holds. tt;
  hands = λ b before s holds. hands b before s holds;
  blind = λ b before r e holds. blind b before r e holds;
}
  where
    one : (b : Bool) (before s : Server) (a : Act) → Grown b before s → Grown b before (act s a)
    one true before s a holds = tt
    one false before s a holds = act_keeps (by_entries (λ entries durable. (more : List Entry) × (entries ≡ before.entries ++ more)) (λ t e so. (so.0 ++ e ∷ [], ap (λ (l : List Entry). l ++ e ∷ []) so.1 ∙ append_assoc before.entries so.0 (e ∷ [])))) s a holds

    hands : (b : Bool) (before s : Server) → Grown b before s → Grown b before (hand_out s).state
    hands true before s holds = tt
    hands false before s holds = holds

    blind : (b : Bool) (before : Server) (r : Row Server) (e : List Effect) → Grown b before r.state → Grown b before r.state
    blind b before r e holds = holds

pub step_grows : (w : World) (step : Step) → NoClient w → is_restart step ≡ false → (more : List Entry) × ((after_row w (row w step)).server.entries ≡ w.server.entries ++ more)
step_grows w step alone is = by_row (row w step) (served (server_gives any_always grown_kept) w step alone tt)
  where
    none : (more : List Entry) × (w.server.entries ≡ w.server.entries ++ more)
    none = ([], sym (append-nil w.server.entries))

    by_row : (o : Option Made) → IfSome o (Served (λ before r. Grown (is_restart step) before r.state) w) → (more : List Entry) × ((after_row w o).server.entries ≡ w.server.entries ++ more)
    by_row None given = none
    by_row (Some made) (inl given) = rw given.state (subst (λ (b : Bool). Grown b w.server given.row.state) is given.gives)
    by_row (Some made) (inr given) = rw given.state none

pub buffered_stays : (script : Script) (history : List Event) (event : Event) → is_restart event.step ≡ false
    → (more : List Entry) × ((world_after script (history ++ event ∷ [])).server.entries ≡ (world_after script history).server.entries ++ more)
buffered_stays script history event is = rw (world_append script history (event ∷ [])) (step_grows (world_after script history) event.step (no_client_run (start script) (steps_of history) (no_client_start script)) is)
