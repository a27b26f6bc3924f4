-- What each act leaves of the holdings and of the holders.
use Rattle.std.proofs.Common.{◌≡◌, ℕ, max, Bool, true, false, not, ◌||◌, ◌&&◌, ◌==◌, cond, ltb, List, [], ◌∷◌, ◌++◌, map, filter, refl, sym, ap, ◌∙◌, arith}
use Rattle.std.specs.List.{list_any}
use Rattle.std.proofs.lemmas.Bool.{eqb-true}
use Rattle.std.proofs.lemmas.Bool.Decides.{nat_tests}
use Rattle.std.proofs.lemmas.List.Folds.{list_any-append}
use Rattle.snap_ids.specs.declared.id.Ino.{Ino}
use Rattle.snap_ids.specs.declared.id.SnapId.{SnapId}
use Rattle.snap_ids.specs.declared.values.Mode.{Mode}
use Rattle.snap_ids.specs.declared.values.Mode.TheVariants.{Write}
use Rattle.plain_tree.specs.State.{same_ino}
use Rattle.cap_state.specs.Table as table
use Rattle.cap_state.specs.Table.{Holding, is_at, writes, stands_before, stands_behind, with_holding, without, of_others}
use Rattle.step_table.specs.ServerState.{Holder, is_holder, is_writer}
use Rattle.step_table.specs.Acts.{raised, recalled, settled}
use Rattle.server_holders.specs.Stands.{as_holding, Marks, HoldersStand, marked, unmarked, none_marked}
use Rattle.server_holders.proofs.Any.{or_false, any_same, any_filter, any_or, any_split, any_apart, any_map}
use Rattle.server_holders.proofs.One.{same_mode}

module _ (held : List Holding) (marks : Marks) (holders : List Holder) (stands : HoldersStand held marks holders) where
  -- some of them go, by a test that both sides have
  pub some_go : (q : Holding → Bool) → HoldersStand (filter (λ h. not (q h)) held) marks (filter (λ (h : Holder). not (q (as_holding h))) holders)
  some_go q p =
      any_filter (λ (h : Holding). p h (marks h.0 h.1.ino)) (λ h. not (q h)) held
      ∙ stands (λ h m. not (q h) && p h m)
      ∙ sym (any_filter (λ (h : Holder). p (as_holding h) h.recalled) (λ (h : Holder). not (q (as_holding h))) holders)

  -- and their marks, or not
  forgotten : (b m : Bool) (p : Bool → Bool) → (not b && p (not b && m)) ≡ (not b && p m)
  forgotten true m p = refl
  forgotten false m p = refl

  pub some_go_unmarked : (q : ℕ → Ino → Bool) → HoldersStand (filter (λ h. not (q h.0 h.1.ino)) held) (λ c i. not (q c i) && marks c i) (filter (λ (h : Holder). not (q h.client h.ino)) holders)
  some_go_unmarked q p =
      any_filter (λ (h : Holding). p h (not (q h.0 h.1.ino) && marks h.0 h.1.ino)) (λ h. not (q h.0 h.1.ino)) held
      ∙ stands (λ h m. not (q h.0 h.1.ino) && p h (not (q h.0 h.1.ino) && m))
      ∙ any_same (λ (h : Holder). not (q h.client h.ino) && p (as_holding h) (not (q h.client h.ino) && h.recalled)) (λ (h : Holder). not (q h.client h.ino) && p (as_holding h) h.recalled) holders (λ h. forgotten (q h.client h.ino) h.recalled (p (as_holding h)))
      ∙ sym (any_filter (λ (h : Holder). p (as_holding h) h.recalled) (λ (h : Holder). not (q h.client h.ino)) holders)

  pub let_go : (client : ℕ) (ino : Ino) → HoldersStand (without client ino held) marks (filter (λ (h : Holder). not (is_holder client ino h)) holders)
  let_go client ino = some_go (is_at client ino)

  pub let_go_unmarked : (client : ℕ) (ino : Ino) → HoldersStand (without client ino held) (unmarked client ino marks) (filter (λ (h : Holder). not (is_holder client ino h)) holders)
  let_go_unmarked client ino = some_go_unmarked (λ c i. c == client && same_ino i ino)

  pub let_all_go : (client : ℕ) → HoldersStand (of_others client held) (none_marked client marks) (filter (λ (h : Holder). not (h.client == client)) holders)
  let_all_go client = some_go_unmarked (λ c i. c == client)

  -- a client is asked to give a file back
  pub is_marked : (client : ℕ) (ino : Ino) → HoldersStand held (marked client ino marks) (map (recalled client ino) holders)
  is_marked client ino p =
      stands (λ h m. p h (m || (h.0 == client && same_ino h.1.ino ino)))
      ∙ sym (any_map (λ (h : Holder). p (as_holding h) h.recalled) (recalled client ino) holders)

  -- a flush settles
  module _ (client : ℕ) (ino : Ino) (upto : SnapId) where
    pub settles : HoldersStand (table.flushed client ino upto held) marks (map (settled client ino upto) holders)
    settles p =
        any_map (λ (h : Holding). p h (marks h.0 h.1.ino)) (λ (h : Holding). cond (table.is_writer client ino h) (h.0, table.raised upto h.1) h) held
        ∙ any_same (λ (h : Holding). let x : Holding = cond (table.is_writer client ino h) (h.0, table.raised upto h.1) h in p x (marks x.0 x.1.ino)) (λ (h : Holding). p (cond (table.is_writer client ino h) (h.0, table.raised upto h.1) h) (marks h.0 h.1.ino)) held (λ h. same_mark (table.is_writer client ino h) h)
        ∙ stands (λ h m. p (cond (table.is_writer client ino h) (h.0, table.raised upto h.1) h) m)
        ∙ any_same (λ (h : Holder). p (cond (table.is_writer client ino (as_holding h)) (h.client, table.raised upto (as_holding h).1) (as_holding h)) h.recalled) (λ (h : Holder). p (as_holding (settled client ino upto h)) h.recalled) holders (λ h. ap (λ (x : Holding). p x h.recalled) (same_holding h (table.is_writer client ino (as_holding h)) (is_writer client ino h) (ap (λ b. is_holder client ino h && b) (same_mode h.mode))))
        ∙ sym (any_map (λ (h : Holder). p (as_holding h) h.recalled) (settled client ino upto) holders)
      where
        same_mark : (b : Bool) (h : Holding) → (let x : Holding = cond b (h.0, table.raised upto h.1) h in p x (marks x.0 x.1.ino)) ≡ p (cond b (h.0, table.raised upto h.1) h) (marks h.0 h.1.ino)
        same_mark true h = refl
        same_mark false h = refl

        same_holding : (h : Holder) (a b : Bool) → a ≡ b → cond a (h.client, table.raised upto (as_holding h).1) (as_holding h) ≡ as_holding (record h { settled = cond b (record { 0 = max upto.0 h.settled.0 }) h.settled })
        same_holding h true true same = refl
        same_holding h true false same = cc
        same_holding h false true same = cc
        same_holding h false false same = refl

  -- one that is held anew, in place of an older one
  module _ (client : ℕ) (ino : Ino) (mode : Mode) (upto : SnapId) where
    abbrev new : Holding
    new = (client, record { ino = ino; mode = mode; settled = upto })

    -- each other one stands before or behind it
    sides : (h : Holding) (b : Bool) → ((stands_before client ino h && b) || (stands_behind client ino h && b)) ≡ (not (is_at client ino h) && b)
    sides h b = go (h.1.ino.0 == ino.0) refl b
      where
        same_file : (lower higher same : Bool) (b : Bool) → ltb h.0 client ≡ lower → ltb client h.0 ≡ higher → (h.0 == client) ≡ same → ((lower && b) || (higher && b)) ≡ (not (same && true) && b)
        same_file true true same b l k e = absurd (grind (arith, nat_tests))
        same_file true false true b l k e = absurd (grind (arith, nat_tests))
        same_file true false false b l k e = or_false b
        same_file false true true b l k e = absurd (grind (arith, nat_tests))
        same_file false true false b l k e = refl
        same_file false false true b l k e = refl
        same_file false false false b l k e = absurd (grind (arith, nat_tests))

        other_file : (lower higher : Bool) (b same : Bool) → ltb h.1.ino.0 ino.0 ≡ lower → ltb ino.0 h.1.ino.0 ≡ higher → (h.1.ino.0 == ino.0) ≡ false → ((lower && b) || (higher && b)) ≡ (not (same && false) && b)
        other_file true true b same l k e = absurd (grind (arith, nat_tests))
        other_file true false b true l k e = or_false b
        other_file true false b false l k e = or_false b
        other_file false true b true l k e = refl
        other_file false true b false l k e = refl
        other_file false false b same l k e = absurd (grind (arith, nat_tests))

        go : (t : Bool) → (h.1.ino.0 == ino.0) ≡ t → (b : Bool) → ((cond t (ltb h.0 client) (ltb h.1.ino.0 ino.0) && b) || (cond t (ltb client h.0) (ltb ino.0 h.1.ino.0) && b)) ≡ (not (h.0 == client && t) && b)
        go true is b = same_file (ltb h.0 client) (ltb client h.0) (h.0 == client) b refl refl refl
        go false is b = other_file (ltb h.1.ino.0 ino.0) (ltb ino.0 h.1.ino.0) b (h.0 == client) refl refl is

    swapped : (a b c : Bool) → (a || (b || c)) ≡ ((a || c) || b)
    swapped true b c = refl
    swapped false true true = refl
    swapped false true false = refl
    swapped false false true = refl
    swapped false false false = refl

    any_with : (q : Holding → Bool) → list_any q (with_holding new held) ≡ (list_any (λ h. not (is_at client ino h) && q h) held || q new)
    any_with q =
        list_any-append q (filter (stands_before client ino) held) (new ∷ filter (stands_behind client ino) held)
        ∙ (λ i. (any_filter q (stands_before client ino) held i || (q new || any_filter q (stands_behind client ino) held i)))
        ∙ swapped (list_any (λ h. stands_before client ino h && q h) held) (q new) (list_any (λ h. stands_behind client ino h && q h) held)
        ∙ ap (λ b. b || q new) (sym (any_or (λ h. stands_before client ino h && q h) (λ h. stands_behind client ino h && q h) held) ∙ any_same (λ h. (stands_before client ino h && q h) || (stands_behind client ino h && q h)) (λ h. not (is_at client ino h) && q h) held (λ h. sides h (q h)))

    own_mark : (unmarked client ino marks) client ino ≡ false
    own_mark = let same : (client == client && same_ino ino ino) ≡ true = grind (arith, nat_tests) in ap (λ b. not b && marks client ino) same

    -- what is asked of the holdings then
    held_then : (p : Holding → Bool → Bool) → list_any (λ (h : Holding). p h (unmarked client ino marks h.0 h.1.ino)) (with_holding new held) ≡ (list_any (λ (h : Holder). not (is_holder client ino h) && p (as_holding h) h.recalled) holders || p new false)
    held_then p =
        any_with (λ (h : Holding). p h (unmarked client ino marks h.0 h.1.ino))
        ∙ (λ i. stands (λ h m. not (is_at client ino h) && p h (not (is_at client ino h) && m)) i || p new (own_mark i))
        ∙ ap (λ b. b || p new false) (any_same (λ (h : Holder). not (is_holder client ino h) && p (as_holding h) (not (is_holder client ino h) && h.recalled)) (λ (h : Holder). not (is_holder client ino h) && p (as_holding h) h.recalled) holders (λ h. forgotten (is_holder client ino h) h.recalled (p (as_holding h))))

    -- a new tenure, where the client doesn't hold the file
    pub holds : list_any (is_holder client ino) holders ≡ false → HoldersStand (with_holding new held) (unmarked client ino marks) (holders ++ record { client = client; ino = ino; mode = mode; settled = upto; recalled = false } ∷ [])
    holds none p =
        held_then p
        ∙ (λ i. any_apart (λ (h : Holder). not (is_holder client ino h) && p (as_holding h) h.recalled) (λ (h : Holder). p (as_holding h) h.recalled) (is_holder client ino) holders none (λ h off. ap (λ b. not b && p (as_holding h) h.recalled) off) i || sym (or_false (p new false)) i)
        ∙ sym (list_any-append (λ (h : Holder). p (as_holding h) h.recalled) holders (record { client = client; ino = ino; mode = mode; settled = upto; recalled = false } ∷ []))

    -- a Read is raised to Write
    pub raises : mode ≡ Write → list_any (is_holder client ino) holders ≡ true → HoldersStand (with_holding new held) (unmarked client ino marks) (map (raised client ino upto) holders)
    raises write some p =
        held_then p
        ∙ (λ i. any_same (λ (h : Holder). not (is_holder client ino h) && p (as_holding h) h.recalled) (λ (h : Holder). not (is_holder client ino h) && p (as_holding (raised client ino upto h)) (raised client ino upto h).recalled) holders (λ h. other (is_holder client ino h) h) i || ap (λ b. b && p new false) (sym some) i)
        ∙ sym (any_split (λ (h : Holder). p (as_holding (raised client ino upto h)) (raised client ino upto h).recalled) (is_holder client ino) (p new false) holders own)
        ∙ sym (any_map (λ (h : Holder). p (as_holding h) h.recalled) (raised client ino upto) holders)
      where
        other : (b : Bool) (h : Holder) → (not b && p (as_holding h) h.recalled) ≡ (not b && p (h.client, record { ino = h.ino; mode = cond b Write h.mode; settled = cond b upto h.settled }) (not b && h.recalled))
        other true h = refl
        other false h = refl

        both : (a b : Bool) → (a && b) ≡ true → (a ≡ true) × (b ≡ true)
        both true b is = (refl, is)
        both false b is = cc

        by_test : (b : Bool) (h : Holder) → b ≡ true → h.client ≡ client → h.ino ≡ ino → p (h.client, record { ino = h.ino; mode = cond b Write h.mode; settled = cond b upto h.settled }) (not b && h.recalled) ≡ p new false
        by_test true h is c f = λ i. p (c i, record { ino = f i; mode = sym write i; settled = upto }) false
        by_test false h is c f = cc

        own : (h : Holder) → is_holder client ino h ≡ true → p (as_holding (raised client ino upto h)) (raised client ino upto h).recalled ≡ p new false
        own h is =
            let l = both (h.client == client) (same_ino h.ino ino) is in
            by_test (is_holder client ino h) h is (eqb-true h.client client l.0) (ap (λ (n : ℕ). let x : Ino = record { 0 = n } in x) (eqb-true h.ino.0 ino.0 l.1))
