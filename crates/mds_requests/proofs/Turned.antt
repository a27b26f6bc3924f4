-- A pass over the held requests, one after the other.
use Rattle.std.proofs.Common.{◌≡◌, ℕ, List, [], ◌∷◌, ◌++◌, append-nil, append_assoc, filter, Bool, true, false, true≢false, not, cond, Option, None, Some, refl, sym, ap, ◌∙◌, subst, inl, inr}
use Rattle.std.proofs.lemmas.List.Folds.{list_any-append}
use Rattle.std.specs.Prelude.{◌||◌}
use Rattle.std.specs.List.{list_any, AllByRecursion}
use Rattle.step_table.specs.ServerState.{Asked, Server}
use Rattle.step_table.specs.Acts.{TakeHeld, act, acts, each, of_client, first_of, as_list}
use Rattle.step_table.specs.Requests.{treat, opens, decide_anew}
use Rattle.mds_state.specs.Parts.{Parts}
use Rattle.mds_state.specs.Acted.{Stands, Acted}
use Rattle.mds_state.specs.Fits.{AllPast, IsFit, WaitingFit, OneEach, IsSound, MayTreat}
use Rattle.mds_state.specs.Stands.{StandsFor}
use Rattle.held_requests.specs.Waits.{clients_of}
use Rattle.mds_requests.specs.Turns.{redo}
use Rattle.mds_requests.proofs.Later.{acts_later, were_past}
use Rattle.mds_requests.proofs.Places.{all_fit, emptied, waiting_of}
use Rattle.mds_requests.proofs.Counts.{self_is, at_end}
use Rattle.mds_requests.proofs.Ends.{acts_append, Ends, ends_treat}

-- parts that stand for a state with a request in hand stand for it
pub as_it_is : (p : Parts) (taken : Option Asked) (s : Server) → StandsFor p taken s → Stands p s
as_it_is p taken s stands = subst (λ (o : Option Asked). StandsFor p o s) (sym stands.hand) stands

-- the first held request comes into the hand
first_taken : (a : Asked) (xs : List Asked) → first_of (filter (of_client a.client) (a ∷ xs)) ≡ Some a
first_taken a xs = by_test (of_client a.client a) (self_is a.client)
  where
    by_test : (b : Bool) → b ≡ true → first_of (cond b (a ∷ filter (of_client a.client) xs) (filter (of_client a.client) xs)) ≡ Some a
    by_test true is = refl
    by_test false is = absurd (true≢false (sym is))

pub hand_taken : (s : Server) (a : Asked) (more : List Asked) → s.held ≡ a ∷ more → (act s (TakeHeld a.client)).hand ≡ Some a
hand_taken s a more held = ap (λ (l : List Asked). first_of (filter (of_client a.client) l)) held ∙ first_taken a more

without_none : (n : ℕ) (xs : List Asked) → list_any (of_client n) xs ≡ false → filter (λ b. not (of_client n b)) xs ≡ xs
without_none n [] none = refl
without_none n (x ∷ xs) none = by_test (of_client n x) none (without_none n xs)
  where
    by_test : (b : Bool) → (b || list_any (of_client n) xs) ≡ false → (list_any (of_client n) xs ≡ false → filter (λ b. not (of_client n b)) xs ≡ xs)
        → cond (not b) (x ∷ filter (λ b. not (of_client n b)) xs) (filter (λ b. not (of_client n b)) xs) ≡ x ∷ xs
    by_test true none go = absurd (true≢false none)
    by_test false none go = ap (λ (l : List Asked). x ∷ l) (go none)

others_left : (a : Asked) (xs : List Asked) → list_any (of_client a.client) xs ≡ false → filter (λ b. not (of_client a.client b)) (a ∷ xs) ≡ xs
others_left a xs none = by_test (of_client a.client a) (self_is a.client)
  where
    by_test : (b : Bool) → b ≡ true → cond (not b) (a ∷ filter (λ b. not (of_client a.client b)) xs) (filter (λ b. not (of_client a.client b)) xs) ≡ xs
    by_test true is = without_none a.client xs none
    by_test false is = absurd (true≢false (sym is))

held_left : (s : Server) (a : Asked) (more : List Asked) → s.held ≡ a ∷ more → OneEach s.held → (act s (TakeHeld a.client)).held ≡ more
held_left s a more held one =
    ap (λ (l : List Asked). filter (λ b. not (of_client a.client b)) l) held ∙ others_left a more (subst OneEach held one).0

-- the others are held behind it, and it may be held behind them
pub record Behind (s : Server) (more : List Asked) : Type 0 where
  pub back : List Asked
  pub held : s.held ≡ more ++ back
  pub once : OneEach s.held

pub after_redo : (s : Server) (a : Asked) (rest back : List Asked) → s.held ≡ a ∷ rest ++ back → OneEach s.held → Behind (acts s (redo s a)) rest
after_redo s a rest back held one = by_end (ends_treat t false a)
  where
    t : Server
    t = act s (TakeHeld a.client)

    both : OneEach (a ∷ rest ++ back)
    both = subst OneEach held one

    left : t.held ≡ rest ++ back
    left = held_left s a (rest ++ back) held one

    hand : as_list t.hand ≡ a ∷ []
    hand = ap as_list (hand_taken s a (rest ++ back) held)

    by_end : Ends t (treat false t a) → Behind (acts s (redo s a)) rest
    by_end (inl same) = record { back = back; held = same ∙ left; once = subst OneEach (sym (same ∙ left)) both.1 }
    by_end (inr waits) =
        let e : (acts s (redo s a)).held ≡ (rest ++ back) ++ a ∷ [] = waits.0 ∙ ap (λ (l : List Asked). l ++ as_list t.hand) left ∙ ap (λ (l : List Asked). (rest ++ back) ++ l) hand in
        record { back = back ++ a ∷ []; held = e ∙ append_assoc rest back (a ∷ []); once = subst OneEach (sym e) (at_end a (rest ++ back) both.0 both.1) }

-- those that wait fit
pub fit_redo : (s : Server) (a : Asked) → WaitingFit s → WaitingFit (acts s (redo s a))
fit_redo s a fit = waiting_of (acts s (redo s a)) (all_fit (redo s a) (record s { hand = None }) (emptied s fit))

-- the request that is taken may be treated
fit_taken : (client : ℕ) (b : Asked) (s : Server) → WaitingFit s → (act s (TakeHeld client)).hand ≡ Some b → IsFit (act s (TakeHeld client)) b
fit_taken client b s fit is =
    (subst (λ (o : Option Asked). AllByRecursion (IsFit (act s (TakeHeld client))) (as_list o)) is (all_fit (TakeHeld client ∷ []) (record s { hand = None }) (emptied s fit)).0).0

pub may_treat : (q : Parts) (client : ℕ) (b : Asked) (s : Server) → WaitingFit s → StandsFor q (Some b) (act s (TakeHeld client)) → MayTreat q b
may_treat q client b s fit stands = record {
  state = act s (TakeHeld client);
  stands = stands;
  fit = fit_taken client b s fit stands.hand;
  waiting = waiting_of (act s (TakeHeld client)) (all_fit (TakeHeld client ∷ []) (record s { hand = None }) (emptied s fit));
}

same_some : (a b : Asked) → Some b ≡ Some a → b ≡ a
same_some a b same = cc

-- and what becomes of it is the table's
pub took : (q r : Parts) (client : ℕ) (b : Asked) (opened : Bool) (s : Server) (a : Asked) (more : List Asked) → WaitingFit s → AllPast s.entries → s.held ≡ a ∷ more → a.client ≡ client
    → StandsFor q (Some b) (act s (TakeHeld client)) → ((t : Server) → StandsFor q (Some b) t → IsFit t b → AllPast t.entries → Acted r t (treat false t b) opened) → Acted r s (redo s a) opened
took q r client b opened s a more fit past held is stands go =
    subst (λ (x : Asked). Acted r t (treat false t x) opened) (same_some a b (sym here.hand ∙ hand_taken s a more held))
    (go t here (fit_taken a.client b s fit here.hand) past)
  where
    t : Server
    t = act s (TakeHeld a.client)

    here : StandsFor q (Some b) t
    here = subst (λ (n : ℕ). StandsFor q (Some b) (act s (TakeHeld n))) (sym is) stands

-- one is there
pub took_none : (q r : Parts) (client : ℕ) (s : Server) (a : Asked) (more : List Asked) (X : Type 0) → s.held ≡ a ∷ more → a.client ≡ client → StandsFor q None (act s (TakeHeld client)) → X
took_none q r client s a more X held is stands = refuse (sym (hand_taken s a more held) ∙ none)
  where
    none : (act s (TakeHeld a.client)).hand ≡ None
    none = subst (λ (n : ℕ). (act s (TakeHeld n)).hand ≡ None) (sym is) stands.hand

    refuse : Some a ≡ None → X
    refuse same = cc

heads : {x y : ℕ} {xs ys : List ℕ} → x ∷ xs ≡ y ∷ ys → x ≡ y
heads same = cc

tails : {x y : ℕ} {xs ys : List ℕ} → x ∷ xs ≡ y ∷ ys → xs ≡ ys
tails same = cc

empty : {X : Type 0} {y : ℕ} {ys : List ℕ} → [] ≡ y ∷ ys → X
empty same = cc

full : {X : Type 0} {y : ℕ} {ys : List ℕ} → y ∷ ys ≡ [] → X
full same = cc

-- What is left of a pass: requests of these clients, first among those held; what becomes of them makes the whole.
pub record Left (s : Server) (p : Parts) (opened : Bool) (clients : List ℕ) : Type 0 where
  pub now : Server
  pub rest : List Asked
  pub behind : Behind now rest
  pub stands : Stands p now
  pub fit : WaitingFit now
  pub of_clients : clients_of rest ≡ clients
  pub same : acts now (each redo now rest) ≡ acts s (decide_anew s)
  pub same_opens : (opened || list_any opens (each redo now rest)) ≡ list_any opens (decide_anew s)

pub left_first : (s : Server) (p : Parts) (clients : List ℕ) → Stands p s → WaitingFit s → OneEach s.held → clients ≡ clients_of s.held → Left s p false clients
left_first s p clients stands fit once is = record {
  now = s;
  rest = s.held;
  behind = record { back = []; held = sym (append-nil s.held); once = once };
  stands = stands;
  fit = fit;
  of_clients = sym is;
  same = refl;
  same_opens = refl;
}

-- at its end all was made
pub left_none : (s : Server) (p : Parts) (opened : Bool) → Left s p opened [] → Acted p s (decide_anew s) opened
left_none s p opened left = by_rest left.rest left.of_clients left.same left.same_opens
  where
    by_rest : (rest : List Asked) → clients_of rest ≡ [] → acts left.now (each redo left.now rest) ≡ acts s (decide_anew s)
        → (opened || list_any opens (each redo left.now rest)) ≡ list_any opens (decide_anew s) → Acted p s (decide_anew s) opened
    by_rest [] none same same_opens = (subst (Stands p) same left.stands, or_false opened ∙ same_opens)
      where
        or_false : (b : Bool) → b ≡ (b || false)
        or_false true = refl
        or_false false = refl
    by_rest (a ∷ rest) none same same_opens = full none

-- those that wait still fit
pub left_sound : (s : Server) (p : Parts) (opened : Bool) (clients : List ℕ) → Left s p opened clients → IsSound p
left_sound s p opened clients left = record { state = left.now; stands = left.stands; fit = left.fit }

-- what the code makes of a client's request
abbrev pub Takes : Parts → Parts → ℕ → Bool → Type 0
Takes p q client more = (s : Server) (a : Asked) (others : List Asked) → Stands p s → WaitingFit s → AllPast s.entries → s.held ≡ a ∷ others → a.client ≡ client → Acted q s (redo s a) more

pub left_next : (s : Server) (p q : Parts) (opened more now_opened : Bool) (client : ℕ) (clients : List ℕ) → AllPast (acts s (decide_anew s)).entries → Takes p q client more → now_opened ≡ (opened || more)
    → Left s p opened (client ∷ clients) → Left s q now_opened clients
left_next s p q opened more now_opened client clients past takes is_opened left = by_rest left.rest left.behind left.of_clients left.same left.same_opens
  where
    by_rest : (rest : List Asked) → Behind left.now rest → clients_of rest ≡ client ∷ clients → acts left.now (each redo left.now rest) ≡ acts s (decide_anew s)
        → (opened || list_any opens (each redo left.now rest)) ≡ list_any opens (decide_anew s) → Left s q now_opened clients
    by_rest [] behind is same same_opens = empty is
    by_rest (a ∷ rest) behind is same same_opens = record {
      now = u;
      rest = rest;
      behind = after_redo t a rest behind.back behind.held behind.once;
      stands = acted.0;
      fit = fit_redo t a left.fit;
      of_clients = tails is;
      same = sym (acts_append (redo t a) (each redo u rest) t) ∙ same;
      same_opens = ap (λ (b : Bool). b || list_any opens (each redo u rest)) (is_opened ∙ ap (λ (b : Bool). opened || b) acted.1)
          ∙ or_or opened (list_any opens (redo t a)) (list_any opens (each redo u rest))
          ∙ ap (λ (b : Bool). opened || b) (sym (list_any-append opens (redo t a) (each redo u rest)))
          ∙ same_opens;
    }
      where
        t : Server
        t = left.now

        u : Server
        u = acts t (redo t a)

        so_far : AllPast t.entries
        so_far = were_past t (acts t (each redo t (a ∷ rest))) (acts_later (each redo t (a ∷ rest)) t) (subst (λ (v : Server). AllPast v.entries) (sym same) past)

        acted : Acted q t (redo t a) more
        acted = takes t a (rest ++ behind.back) left.stands left.fit so_far behind.held (heads is)

        or_or : (b d e : Bool) → ((b || d) || e) ≡ (b || (d || e))
        or_or true d e = refl
        or_or false d e = refl
