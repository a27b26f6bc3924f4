-- Passes over the held requests, one after the other.
use Rattle.std.proofs.Common.{◌≡◌, ℕ, zero, suc, ◌+◌, List, [], ◌∷◌, ◌++◌, append-nil, Bool, true, false, true≢false, cond, refl, sym, ◌∙◌, subst, arith}
use Rattle.std.specs.List.{list_any}
use Rattle.step_table.specs.ServerState.{Asked, Server}
use Rattle.step_table.specs.Acts.{Act, acts, each}
use Rattle.step_table.specs.Requests.{opens, decide_anew, then_held}
use Rattle.mds_state.specs.Parts.{Parts}
use Rattle.mds_state.specs.Acted.{Stands, Acted}
use Rattle.mds_state.specs.Fits.{AllPast, WaitingFit, OneEach}
use Rattle.mds_requests.specs.Passes.{Pass, pass_acts, passed, passes}
use Rattle.mds_requests.specs.Ready.{IsReady, MayDecide, MayGoOn}
use Rattle.mds_requests.specs.Rounds.{StandsAt, MayPass}
use Rattle.mds_requests.specs.Turns.{redo}
use Rattle.mds_requests.proofs.Later.{Later, later_same, later_then, acts_later, were_past}
use Rattle.mds_requests.proofs.Ends.{acts_append}
use Rattle.mds_requests.proofs.Turned.{Behind, after_redo, fit_redo}

-- a pass leaves requests that fit, and no client two of them
fit_each : (list : List Asked) (s : Server) → WaitingFit s → WaitingFit (acts s (each redo s list))
fit_each [] s fit = fit
fit_each (a ∷ list) s fit = subst WaitingFit (sym (acts_append (redo s a) (each redo (acts s (redo s a)) list) s)) (fit_each list (acts s (redo s a)) (fit_redo s a fit))

once_each : (rest : List Asked) (s : Server) → Behind s rest → OneEach (acts s (each redo s rest)).held
once_each [] s behind = behind.once
once_each (a ∷ rest) s behind =
    subst (λ (t : Server). OneEach t.held) (sym (acts_append (redo s a) (each redo (acts s (redo s a)) rest) s))
    (once_each rest (acts s (redo s a)) (after_redo s a rest behind.back behind.held behind.once))

pub ready_anew : (s later : Server) → WaitingFit s → OneEach s.held → AllPast later.entries → IsReady (acts s (decide_anew s)) later
ready_anew s later fit once past = record {
  fit = fit_each s.held s fit;
  once = once_each s.held s (record { back = []; held = sym (append-nil s.held); once = once });
  past = past;
}

fit_pass : (r : Pass) → WaitingFit r.state → WaitingFit (passed r).state
fit_pass r fit = by_opened r.opened
  where
    by_opened : (b : Bool) → WaitingFit (acts r.state (cond b (decide_anew r.state) []))
    by_opened true = fit_each r.state.held r.state fit
    by_opened false = fit

once_pass : (r : Pass) → OneEach r.state.held → OneEach (passed r).state.held
once_pass r once = by_opened r.opened
  where
    by_opened : (b : Bool) → OneEach (acts r.state (cond b (decide_anew r.state) [])).held
    by_opened true = once_each r.state.held r.state (record { back = []; held = sym (append-nil r.state.held); once = once })
    by_opened false = once

pub passes_later : (n : ℕ) (r : Pass) → Later r.state (passes n r).state
passes_later zero r = later_same r.state r.state refl refl
passes_later (suc n) r = later_then r.state (passed r).state (passes n (passed r)).state (acts_later (pass_acts r) r.state) (passes_later n (passed r))

-- one pass of some, and those after it
pub ready_first : (n : ℕ) (r : Pass) → IsReady r.state (passes (suc n) r).state → IsReady r.state (passed r).state
ready_first n r ready = record {
  fit = ready.fit;
  once = ready.once;
  past = were_past (passed r).state (passes n (passed r)).state (passes_later n (passed r)) ready.past;
}

pub ready_next : (n : ℕ) (r : Pass) → IsReady r.state (passes (suc n) r).state → IsReady (passed r).state (passes n (passed r)).state
ready_next n r ready = record { fit = fit_pass r ready.fit; once = once_pass r ready.once; past = ready.past }

-- the table's passes are these
not_opened : (n : ℕ) (s : Server) → (passes n (record { state = s; opened = false })).state ≡ s
not_opened zero s = refl
not_opened (suc n) s = not_opened n s

abbrev pub start : Server → List Act → Pass
start s done = record { state = acts s done; opened = list_any opens done }

pub held_passes : (n : ℕ) (s : Server) (done : List Act) → acts s (then_held n s done) ≡ (passes n (start s done)).state
held_passes zero s done = refl
held_passes (suc n) s done = by_test (list_any opens done) (held_passes n now (decide_anew now))
  where
    now : Server
    now = acts s done

    by_test : (b : Bool) → acts now (then_held n now (decide_anew now)) ≡ (passes n (start now (decide_anew now))).state
        → acts s (elim b [ false ↦ done | true ↦ done ++ then_held n now (decide_anew now) ]) ≡ (passes (suc n) (record { state = now; opened = b })).state
    by_test false go = sym (not_opened n now)
    by_test true go = acts_append done (then_held n now (decide_anew now)) s ∙ go

-- one pass by the code
pub pass_true : (q : Parts) (opened again : Bool) (r : Pass) → opened ≡ true → opened ≡ r.opened → (IsReady r.state (acts r.state (decide_anew r.state)) → Acted q r.state (decide_anew r.state) again)
    → IsReady r.state (passed r).state → StandsAt q again (passed r)
pass_true q opened again r is same go ready = by_opened r.opened (sym same ∙ is) ready
  where
    by_opened : (b : Bool) → b ≡ true → IsReady r.state (acts r.state (cond b (decide_anew r.state) [])) → Stands q (acts r.state (cond b (decide_anew r.state) [])) × (again ≡ list_any opens (cond b (decide_anew r.state) []))
    by_opened true is ready = go ready
    by_opened false is ready = absurd (true≢false (sym is))

pub pass_false : (q : Parts) (opened : Bool) (r : Pass) → opened ≡ false → StandsAt q opened r → StandsAt q false (passed r)
pass_false q opened r is at = by_opened r.opened (sym at.1 ∙ is)
  where
    by_opened : (b : Bool) → b ≡ false → Stands q (acts r.state (cond b (decide_anew r.state) [])) × (false ≡ list_any opens (cond b (decide_anew r.state) []))
    by_opened true is = absurd (true≢false is)
    by_opened false is = (at.0, refl)

pub may_anew : (p : Parts) (opened : Bool) → MayPass 1 p opened → opened ≡ true → MayDecide p
may_anew p opened may is = by_opened may.pass.opened (sym may.stands.1 ∙ is) may.ready
  where
    by_opened : (b : Bool) → b ≡ true → IsReady may.pass.state (acts may.pass.state (cond b (decide_anew may.pass.state) [])) → MayDecide p
    by_opened true is ready = record { state = may.pass.state; stands = may.stands.0; ready = ready }
    by_opened false is ready = absurd (true≢false (sym is))

-- the first pass of some may be made, and after it the others
pub may_first : (n : ℕ) (p : Parts) (opened : Bool) → MayPass (suc n) p opened → MayPass 1 p opened
may_first n p opened may = record { pass = may.pass; stands = may.stands; ready = ready_first n may.pass may.ready }

pub may_next : (n : ℕ) (p q : Parts) (opened again : Bool) → MayPass (suc n) p opened → ((r : Pass) → StandsAt p opened r → IsReady r.state (passed r).state → StandsAt q again (passed r)) → MayPass n q again
may_next n p q opened again may go = record {
  pass = passed may.pass;
  stands = go may.pass may.stands (ready_first n may.pass may.ready);
  ready = ready_next n may.pass may.ready;
}

-- so many more passes make the whole
pub record Toward (ends : Server) (many : ℕ) (p : Parts) (opened : Bool) (whole : Pass) : Type 0 where
  pub pass : Pass
  pub stands : StandsAt p opened pass
  pub ready : IsReady pass.state ends
  pub same : passes many pass ≡ whole

pub toward_may : (r : Pass) (left rest many : ℕ) (p : Parts) (opened : Bool) → left ≡ suc rest → Toward (passes many r).state left p opened (passes many r) → MayPass 1 p opened
toward_may r left rest many p opened some toward = by_rest (subst (λ (n : ℕ). Toward (passes many r).state n p opened (passes many r)) some toward)
  where
    by_rest : Toward (passes many r).state (suc rest) p opened (passes many r) → MayPass 1 p opened
    by_rest toward = record {
      pass = toward.pass;
      stands = toward.stands;
      ready = ready_first rest toward.pass (subst (λ (w : Pass). IsReady toward.pass.state w.state) (sym toward.same) toward.ready);
    }

pub toward_next : (r : Pass) (left rest many : ℕ) (p q : Parts) (opened again : Bool) → left ≡ suc rest → ((t : Pass) → StandsAt p opened t → IsReady t.state (passed t).state → StandsAt q again (passed t))
    → Toward (passes many r).state left p opened (passes many r) → Toward (passes many r).state rest q again (passes many r)
toward_next r left rest many p q opened again some go toward = by_rest (subst (λ (n : ℕ). Toward (passes many r).state n p opened (passes many r)) some toward)
  where
    by_rest : Toward (passes many r).state (suc rest) p opened (passes many r) → Toward (passes many r).state rest q again (passes many r)
    by_rest toward =
        let ready : IsReady toward.pass.state (passes (suc rest) toward.pass).state = subst (λ (w : Pass). IsReady toward.pass.state w.state) (sym toward.same) toward.ready in
        let next : IsReady (passed toward.pass).state (passes rest (passed toward.pass)).state = ready_next rest toward.pass ready in
        record {
          pass = passed toward.pass;
          stands = go toward.pass toward.stands (ready_first rest toward.pass ready);
          ready = subst (λ (w : Pass). IsReady (passed toward.pass).state w.state) toward.same next;
          same = toward.same;
        }

pub toward_first : (r : Pass) (many : ℕ) (p : Parts) (opened : Bool) → StandsAt p opened r → IsReady r.state (passes many r).state → Toward (passes many r).state many p opened (passes many r)
toward_first r many p opened stands ready = record { pass = r; stands = stands; ready = ready; same = refl }

pub toward_last : (ends : Server) (left : ℕ) (p : Parts) (opened : Bool) (whole : Pass) → left ≡ 0 → Toward ends left p opened whole → StandsAt p opened whole
toward_last ends left p opened whole none toward = by_none (subst (λ (n : ℕ). Toward ends n p opened whole) none toward)
  where
    by_none : Toward ends zero p opened whole → StandsAt p opened whole
    by_none toward = subst (λ (w : Pass). StandsAt p opened w) toward.same toward.stands

-- one more than so many
one_more : (n : ℕ) → 1 + n ≡ suc n
one_more n = omega arith

two_more : (n : ℕ) → 2 + n ≡ suc (1 + n)
two_more n = omega arith

-- what a pass makes, and what so many do
abbrev pub PassMakes : Parts → Bool → Parts → Bool → Type 0
PassMakes p opened q again = (r : Pass) → StandsAt p opened r → IsReady r.state (passed r).state → StandsAt q again (passed r)

abbrev pub PassesMake : ℕ → Parts → Bool → Parts → Bool → Type 0
PassesMake n p opened q again = (r : Pass) → StandsAt p opened r → IsReady r.state (passes n r).state → StandsAt q again (passes n r)

pub more_first : (many : ℕ) (p : Parts) (opened : Bool) → MayPass (1 + many) p opened → MayPass 1 p opened
more_first many p opened may = may_first many p opened (subst (λ (n : ℕ). MayPass n p opened) (one_more many) may)

pub more_next : (many : ℕ) (p q : Parts) (opened again : Bool) → MayPass (1 + many) p opened → PassMakes p opened q again → MayPass many q again
more_next many p q opened again may go = may_next many p q opened again (subst (λ (n : ℕ). MayPass n p opened) (one_more many) may) go

pub more_made : (many : ℕ) (p q u : Parts) (opened again last : Bool) → PassMakes p opened q again → PassesMake many q again u last → PassesMake (1 + many) p opened u last
more_made many p q u opened again last go more r stands ready =
    subst (λ (n : ℕ). StandsAt u last (passes n r)) (sym (one_more many)) (more (passed r) (go r stands (ready_first many r now)) (ready_next many r now))
  where
    now : IsReady r.state (passes (suc many) r).state
    now = subst (λ (n : ℕ). IsReady r.state (passes n r).state) (one_more many) ready

-- after some acts
go_on : (p : Parts) (many : ℕ) (opened : Bool) → MayGoOn p many opened → MayPass (suc (1 + many)) p opened
go_on p many opened may = subst (λ (n : ℕ). MayPass n p opened) (two_more many) (record {
  pass = start may.state may.done;
  stands = may.acted;
  ready = subst (λ (t : Server). IsReady (acts may.state may.done) t) (held_passes (2 + many) may.state may.done) may.ready;
})

pub held_first : (p : Parts) (many : ℕ) (opened : Bool) → MayGoOn p many opened → MayPass 1 p opened
held_first p many opened may = may_first (1 + many) p opened (go_on p many opened may)

pub held_next : (p q : Parts) (many : ℕ) (opened again : Bool) → MayGoOn p many opened → PassMakes p opened q again → MayPass (1 + many) q again
held_next p q many opened again may go = may_next (1 + many) p q opened again (go_on p many opened may) go

pub held_made : (p q u : Parts) (many : ℕ) (opened again last : Bool) → PassMakes p opened q again → PassesMake (1 + many) q again u last
    → (s : Server) (done : List Act) → Acted p s done opened → IsReady (acts s done) (acts s (then_held (2 + many) s done)) → Stands u (acts s (then_held (2 + many) s done))
held_made p q u many opened again last go more s done acted ready =
    subst (Stands u) (sym (held_passes (2 + many) s done))
    (subst (λ (n : ℕ). Stands u (passes n (start s done)).state) (sym (two_more many))
    (more (passed r) (go r acted (ready_first (1 + many) r now)) (ready_next (1 + many) r now)).0)
  where
    r : Pass
    r = start s done

    now : IsReady r.state (passes (suc (1 + many)) r).state
    now = subst (λ (n : ℕ). IsReady r.state (passes n r).state) (two_more many) (subst (λ (t : Server). IsReady r.state t) (held_passes (2 + many) s done) ready)
