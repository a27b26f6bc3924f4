-- A request that is taken.
use Rattle.std.proofs.Common.{◌≡◌, ℕ, ◌+◌, List, [], ◌∷◌, ◌++◌, append-nil, length, Bool, true, false, true≢false, cond, Option, None, Some, refl, sym, ap, subst, inl, inr}
use Rattle.std.specs.List.{list_any, AllByRecursion}
use Rattle.plain_types.specs.declared.answer.Answer.{Answer}
use Rattle.step_table.specs.ServerState.{Asked, Server, all_connected}
use Rattle.step_table.specs.Acts.{Act, acts, as_list, Wait}
use Rattle.step_table.specs.Requests.{opens, treat, treat_known, treat_new, kept_answer, is_operation, decide_anew, then_held}
use Rattle.step_table.specs.Flushes.{take_in}
use Rattle.mds_state.specs.Parts.{Parts}
use Rattle.mds_state.specs.Acted.{Stands, Acted}
use Rattle.mds_state.specs.Fits.{AllPast, IsFit, WaitingFit, OneEach, MayTreat}
use Rattle.mds_state.specs.Stands.{StandsFor}
use Rattle.mds_requests.specs.Asking.{FitsBrought, MayBring, MayTakeIn}
use Rattle.mds_requests.specs.Passes.{Pass, passes, after_ask, after_connect, brought_in, taken_acts}
use Rattle.mds_requests.specs.Ready.{IsNew, IsNewBrought, IsReady, MayAsk, MayConnect, MayGoOn, MayDecide}
use Rattle.mds_requests.proofs.Later.{Later, later_same, later_then, acts_later, were_past, fit_later}
use Rattle.mds_requests.proofs.Places.{Places, all_fit, places_to, waiting_of}
use Rattle.mds_requests.proofs.Counts.{at_end}
use Rattle.mds_requests.specs.Rounds.{StandsAt, MayPass}
use Rattle.mds_requests.proofs.Ends.{Ends, ends_treat}
use Rattle.mds_requests.proofs.Passing.{start, held_passes, passes_later, ready_anew}

-- with another request in hand, or none
abbrev with_hand : Server → Option Asked → Server
with_hand s h = record s { hand = h }

pub handed : (p : Parts) (s : Server) (h : Option Asked) → Stands p s → StandsFor p h (with_hand s h)
handed p s h stands = record {
  clients = stands.clients;
  written = stands.written;
  sessions = stands.sessions;
  tenures = stands.tenures;
  mail = stands.mail;
  traces = stands.traces;
  hand = refl;
  held = stands.held;
  deferred = stands.deferred;
  operation = stands.operation;
  purging = stands.purging;
  deleting = stands.deleting;
}

pub fit_handed : (s : Server) (h : Option Asked) (a : Asked) → IsFit s a → IsFit (with_hand s h) a
fit_handed s h a fit = fit_later s (with_hand s h) a (later_same s (with_hand s h) refl refl) fit

placed_handed : (s : Server) (h : Option Asked) → AllByRecursion (IsFit s) (as_list h) → WaitingFit s → Places (IsFit (with_hand s h)) (with_hand s h)
placed_handed s h hand waiting = places_to (IsFit s) (IsFit (with_hand s h)) (with_hand s h) (λ a. fit_handed s h a) (hand, waiting.held, waiting.deferred, waiting.operation)

pub may_treat_in : (p : Parts) (a : Asked) → MayTakeIn p a → MayTreat p a
may_treat_in p a may = record {
  state = with_hand may.state (Some a);
  stands = handed p may.state (Some a) may.stands;
  fit = fit_handed may.state (Some a) a may.fit;
  waiting = waiting_of (with_hand may.state (Some a)) (placed_handed may.state (Some a) (may.fit, tt) may.waiting);
}

-- the request of the outstanding operation changes nothing
abbrev Idle : Server → List Act → Type 0
Idle t list = (acts t list ≡ t) × (list_any opens list ≡ false)

idle_known : (s : Server) (a : Asked) (o : Option Answer) → is_operation s a ≡ true → Idle (with_hand s None) (treat_known false (with_hand s None) a o)
idle_known s a (Some answer) is = (refl, refl)
idle_known s a None is = by_test (is_operation s a) is
  where
    by_test : (b : Bool) → b ≡ true → Idle (with_hand s None) (cond b [] (treat_new false (with_hand s None) a a.request))
    by_test true is = (refl, refl)
    by_test false is = absurd (true≢false (sym is))

idle_none : (s : Server) (a : Asked) → is_operation s a ≡ true → Idle (with_hand s None) (treat false (with_hand s None) a)
idle_none s a is = by_test (all_connected s)
  where
    by_test : (b : Bool) → Idle (with_hand s None) (cond b (treat_known false (with_hand s None) a (kept_answer (with_hand s None) a)) (Wait ∷ []))
    by_test true = idle_known s a (kept_answer s a) is
    by_test false = (ap (λ (l : List Asked). record s { held = l; hand = None }) (append-nil s.held), refl)

pub taken_operation : (p : Parts) (s : Server) (a : Asked) → is_operation s a ≡ true → Stands p s → Acted p (take_in s a) (taken_acts s a) false
taken_operation p s a is stands = by_test (is_operation s a) is
  where
    by_test : (b : Bool) → b ≡ true → Acted p (with_hand s (cond b None (Some a))) (treat false (with_hand s (cond b None (Some a))) a) false
    by_test true same = let idle = idle_none s a is in (subst (Stands p) (sym idle.0) (handed p s None stands), sym idle.1)
    by_test false same = absurd (true≢false (sym same))

-- another one is treated
pub taken_other : (p q : Parts) (s : Server) (a : Asked) (opened : Bool) → is_operation s a ≡ false → Stands p s → IsFit s a → AllPast s.entries
    → ((t : Server) → StandsFor p (Some a) t → IsFit t a → AllPast t.entries → Acted q t (treat false t a) opened) → Acted q (take_in s a) (taken_acts s a) opened
taken_other p q s a opened is stands fit past go = by_test (is_operation s a) is
  where
    by_test : (b : Bool) → b ≡ false → Acted q (with_hand s (cond b None (Some a))) (treat false (with_hand s (cond b None (Some a))) a) opened
    by_test true same = absurd (true≢false same)
    by_test false same = go (with_hand s (Some a)) (handed p s (Some a) stands) (fit_handed s (Some a) a fit) past

-- all acts after a request is taken, and after what a connection brings along
abbrev pub then_list : Server → Asked → List Act
then_list s a = then_held (2 + length s.held) (take_in s a) (taken_acts s a)

abbrev anew_list : Server → Option Asked → List Act
anew_list s asked = let now = brought_in s asked in then_held (1 + length now.held) now (decide_anew now)

-- what was past
pub past_before : (s : Server) (a : Asked) (list : List Act) → AllPast (acts (take_in s a) list).entries → AllPast s.entries
past_before s a list past = were_past (take_in s a) (acts (take_in s a) list) (acts_later list (take_in s a)) past

-- after it requests fit, and no client has two that are held
pub taken_ready : (s later : Server) (a : Asked) → IsNew s a → WaitingFit s → OneEach s.held → AllPast later.entries → IsReady (acts (take_in s a) (taken_acts s a)) later
taken_ready s later a new fit once past = record {
  fit = waiting_of (acts t (taken_acts s a)) (all_fit (taken_acts s a) t (placed_handed s t.hand (hand_fits (is_operation s a)) fit));
  once = by_end (ends_treat t false a);
  past = past;
}
  where
    t : Server
    t = take_in s a

    hand_fits : (b : Bool) → AllByRecursion (IsFit s) (as_list (cond b None (Some a)))
    hand_fits true = tt
    hand_fits false = (new.fit, tt)

    more_once : (b : Bool) → OneEach (s.held ++ as_list (cond b None (Some a)))
    more_once true = subst OneEach (sym (append-nil s.held)) once
    more_once false = at_end a s.held new.alone once

    by_end : Ends t (treat false t a) → OneEach (acts t (treat false t a)).held
    by_end (inl same) = subst OneEach (sym same) once
    by_end (inr waits) = subst OneEach (sym waits.0) (more_once (is_operation s a))

-- what a connection brings along
pub past_brought : (s : Server) (asked : Option Asked) (list : List Act) → AllPast (acts (brought_in s asked) list).entries → AllPast s.entries
past_brought s None list past = were_past s (acts s list) (acts_later list s) past
past_brought s (Some a) list past =
    let first : Later s (take_in s a) = later_same s (take_in s a) refl refl in
    let next : Later s (brought_in s (Some a)) = later_then s (take_in s a) (brought_in s (Some a)) first (acts_later (taken_acts s a) (take_in s a)) in
    were_past s (acts (brought_in s (Some a)) list) (later_then s (brought_in s (Some a)) (acts (brought_in s (Some a)) list) next (acts_later list (brought_in s (Some a)))) past

pub brought_ready : (s later : Server) (asked : Option Asked) → IsNewBrought s asked → WaitingFit s → OneEach s.held → AllPast later.entries → IsReady (brought_in s asked) later
brought_ready s later None new fit once past = record { fit = fit; once = once; past = past }
brought_ready s later (Some a) new fit once past = taken_ready s later a new fit once past

pub fits_brought : (s : Server) (asked : Option Asked) → IsNewBrought s asked → FitsBrought s asked
fits_brought s None new = tt
fits_brought s (Some a) new = new.fit

pub may_bring : (p : Parts) (asked : Option Asked) → MayConnect p asked → MayBring p asked
may_bring p asked may = record { state = may.state; stands = may.stands; fit = fits_brought may.state asked may.new; waiting = may.ready.fit }

pub may_take : (p : Parts) (a : Asked) → MayAsk p a → MayTakeIn p a
may_take p a may = record { state = may.state; stands = may.stands; fit = may.new.fit; waiting = may.ready.fit }

-- after what was taken
pub may_go_on : (p q : Parts) (a : Asked) (many : ℕ) (opened : Bool) → MayAsk p a → ((s : Server) → Stands p s → many ≡ length s.held)
    → ((s : Server) → Stands p s → IsFit s a → AllPast s.entries → Acted q (take_in s a) (taken_acts s a) opened) → MayGoOn q many opened
may_go_on p q a many opened may count go = record {
  state = take_in s a;
  done = taken_acts s a;
  acted = go s may.stands may.new.fit (past_before s a (then_list s a) may.ready.past);
  ready = subst (λ (n : ℕ). IsReady (acts (take_in s a) (taken_acts s a)) (acts (take_in s a) (then_held (2 + n) (take_in s a) (taken_acts s a)))) (sym (count s may.stands))
      (taken_ready s (after_ask s a) a may.new may.ready.fit may.ready.once may.ready.past);
}
  where
    s : Server
    s = may.state

pub went_on : (q r : Parts) (a : Asked) (many : ℕ) (opened : Bool) (s : Server) → IsNew s a → IsReady s (after_ask s a) → many ≡ length s.held → Acted q (take_in s a) (taken_acts s a) opened
    → ((s : Server) (done : List Act) → Acted q s done opened → IsReady (acts s done) (acts s (then_held (2 + many) s done)) → Stands r (acts s (then_held (2 + many) s done))) → Stands r (after_ask s a)
went_on q r a many opened s new ready count acted go =
    subst (λ (n : ℕ). Stands r (acts t (then_held (2 + n) t (taken_acts s a)))) count
    (go t (taken_acts s a) acted
    (subst (λ (n : ℕ). IsReady (acts t (taken_acts s a)) (acts t (then_held (2 + n) t (taken_acts s a)))) (sym count) (taken_ready s (after_ask s a) a new ready.fit ready.once ready.past)))
  where
    t : Server
    t = take_in s a

-- after what was brought along the held requests are decided anew
pub now_ready : (s : Server) (asked : Option Asked) → IsNewBrought s asked → IsReady s (after_connect s asked) → IsReady (brought_in s asked) (acts (brought_in s asked) (decide_anew (brought_in s asked)))
now_ready s asked new ready = brought_ready s (acts now (decide_anew now)) asked new ready.fit ready.once
    (were_past (acts now (decide_anew now)) (passes many (start now (decide_anew now))).state (passes_later many (start now (decide_anew now)))
    (subst (λ (t : Server). AllPast t.entries) (held_passes many now (decide_anew now)) ready.past))
  where
    now : Server
    now = brought_in s asked

    many : ℕ
    many = 1 + length now.held

pub anew_ready : (s : Server) (asked : Option Asked) (many : ℕ) → many ≡ length (brought_in s asked).held → IsNewBrought s asked → IsReady s (after_connect s asked)
    → IsReady (acts (brought_in s asked) (decide_anew (brought_in s asked))) (passes (1 + many) (start (brought_in s asked) (decide_anew (brought_in s asked)))).state
anew_ready s asked many count new ready =
    subst (λ (n : ℕ). IsReady (acts now (decide_anew now)) (passes (1 + n) (start now (decide_anew now))).state) (sym count)
    (subst (λ (t : Server). IsReady (acts now (decide_anew now)) t) (held_passes (1 + length now.held) now (decide_anew now))
    (ready_anew now (after_connect s asked) is.fit is.once ready.past))
  where
    now : Server
    now = brought_in s asked

    is : IsReady now (after_connect s asked)
    is = brought_ready s (after_connect s asked) asked new ready.fit ready.once (ready.past)

-- the code goes the same way
pub may_decide_now : (p q : Parts) (asked : Option Asked) → MayConnect p asked → ((s : Server) → Stands p s → FitsBrought s asked → AllPast s.entries → Stands q (brought_in s asked)) → MayDecide q
may_decide_now p q asked may go = record {
  state = brought_in may.state asked;
  stands = go may.state may.stands (fits_brought may.state asked may.new) (past_brought may.state asked (anew_list may.state asked) may.ready.past);
  ready = now_ready may.state asked may.new may.ready;
}

pub may_pass_now : (p q r : Parts) (asked : Option Asked) (many : ℕ) (opened : Bool) → MayConnect p asked → ((s : Server) → Stands p s → FitsBrought s asked → AllPast s.entries → Stands q (brought_in s asked))
    → ((s : Server) → Stands q s → many ≡ length s.held) → ((s : Server) → Stands q s → IsReady s (acts s (decide_anew s)) → Acted r s (decide_anew s) opened) → MayPass (1 + many) r opened
may_pass_now p q r asked many opened may go count anew =
    let now = brought_in may.state asked in
    let stands : Stands q now = go may.state may.stands (fits_brought may.state asked may.new) (past_brought may.state asked (anew_list may.state asked) may.ready.past) in
    record {
      pass = start now (decide_anew now);
      stands = anew now stands (now_ready may.state asked may.new may.ready);
      ready = anew_ready may.state asked many (count now stands) may.new may.ready;
    }

pub passed_now : (p q r u : Parts) (asked : Option Asked) (many : ℕ) (opened again : Bool) (s : Server) → Stands p s → IsNewBrought s asked → IsReady s (after_connect s asked)
    → ((s : Server) → Stands p s → FitsBrought s asked → AllPast s.entries → Stands q (brought_in s asked)) → ((s : Server) → Stands q s → many ≡ length s.held)
    → ((s : Server) → Stands q s → IsReady s (acts s (decide_anew s)) → Acted r s (decide_anew s) opened)
    → ((t : Pass) → StandsAt r opened t → IsReady t.state (passes (1 + many) t).state → StandsAt u again (passes (1 + many) t)) → Stands u (after_connect s asked)
passed_now p q r u asked many opened again s stands new ready go count anew pass =
    let now = brought_in s asked in
    let here : Stands q now = go s stands (fits_brought s asked new) (past_brought s asked (anew_list s asked) ready.past) in
    let same : many ≡ length now.held = count now here in
    subst (Stands u) (sym (held_passes (1 + length now.held) now (decide_anew now)))
    (subst (λ (n : ℕ). Stands u (passes (1 + n) (start now (decide_anew now))).state) same
    (pass (start now (decide_anew now)) (anew now here (now_ready s asked new ready)) (anew_ready s asked many same new ready)).0)

-- what a connection brings along, case by case
pub bring_some : (p : Parts) (o : Option Asked) (a : Asked) → o ≡ Some a → MayBring p o → MayTakeIn p a
bring_some p o a is may = record { state = may.state; stands = may.stands; fit = subst (FitsBrought may.state) is may.fit; waiting = may.waiting }

pub brought_some : (p q : Parts) (s : Server) (o : Option Asked) (a : Asked) (opened : Bool) → o ≡ Some a → Stands p s → FitsBrought s o → AllPast s.entries
    → ((s : Server) → Stands p s → IsFit s a → AllPast s.entries → Acted q (take_in s a) (taken_acts s a) opened) → Stands q (brought_in s o)
brought_some p q s o a opened is stands fit past go = subst (λ (o : Option Asked). Stands q (brought_in s o)) (sym is) (go s stands (subst (FitsBrought s) is fit) past).0

pub brought_none : (p : Parts) (s : Server) (o : Option Asked) → o ≡ None → Stands p s → Stands p (brought_in s o)
brought_none p s o is stands = subst (λ (o : Option Asked). Stands p (brought_in s o)) (sym is) stands
