-- The ids whose purge is still to be sent: which they are, and their least.
use Rattle.std.proofs.Common.{◌≡◌, ℕ, ◌≤◌, Bool, true, false, not, ◌||◌, ◌&&◌, cond, List, [], ◌∷◌, ◌++◌, take, drop, filter, find, Option, None, Some, refl, sym, ap, subst, ◌∙◌, arith, ltb-true, append_assoc}
use Rattle.std.specs.Prelude.{◌==◌, nat_lt}
use Rattle.std.specs.List.{cons_option}
use Rattle.std.proofs.lemmas.Bool.{eqb-true}
use Rattle.std.proofs.lemmas.Bool.Decides.{nat_tests}
use Rattle.std.proofs.lemmas.List.{append-nil, take-append-drop}
use Rattle.std.proofs.lemmas.List.Elements.{filter_map-append}
use Rattle.std.proofs.lemmas.List.Folds.{list_any-append}
use Rattle.snap_ids.specs.declared.id.SnapId.{SnapId}
use Rattle.snap_ids.specs.Context.{is_listed}
use Rattle.plain_types.specs.declared.change.Change.TheVariants as change
use Rattle.plain_types.specs.declared.entry.Entry.{Entry}
use Rattle.plain_types.specs.declared.entry.What.{What}
use Rattle.plain_types.specs.declared.entry.What.TheVariants as what
use Rattle.plain_journal.specs.Entries.{change_in, state_after}
use Rattle.plain_journal.specs.Legal.{is_legal, is_journal, legal_after}
use Rattle.plain_journal.specs.Table.{removed_by, to_purge}
use Rattle.held_files.specs.Files.{is_empty}
use Rattle.journal_laws.proofs.Steps.{both_true, made_by_legal}
use Rattle.journal_moments.specs.Moments.{is_live_snap}
use Rattle.journal_table.specs.Stands.{IsLeast}
use Rattle.journal_realms.proofs.Induct.{legal_more}
use Rattle.journal_table.proofs.Removed.{purge_fits, removed_dead, removed_ids, removed_more, removes}
use Rattle.snap_table.specs.Rising.{first_of}
use Rattle.step_table.specs.Background.{least, least_of, removed, unsent_purges}
use Rattle.step_table.specs.ServerState.{Server}
use Rattle.mds_state.specs.Due.{is_unsent}

or_left : (a b : Bool) → a ≡ true → (a || b) ≡ true
or_left true b is = refl
or_left false b is = cc

or_right : (a b : Bool) → b ≡ true → (a || b) ≡ true
or_right true b is = refl
or_right false b is = is

itself_listed : (id : SnapId) (ids : List SnapId) → is_listed id (id ∷ ids) ≡ true
itself_listed id ids = let same : (id.0 == id.0) ≡ true = grind (arith, nat_tests) in rw same refl

-- the first that passes a test
first_found : (p : SnapId → Bool) (ids : List SnapId) → find p ids ≡ first_of (filter p ids)
first_found p [] = refl
first_found p (id ∷ ids) = go (p id) (first_found p ids)
  where
    go : (b : Bool) → find p ids ≡ first_of (filter p ids) → cond b (Some id) (find p ids) ≡ first_of (cond b (id ∷ filter p ids) (filter p ids))
    go true rest = refl
    go false rest = rest

-- a bound of some ids bounds one more that it is at most
upto_all : (low id : SnapId) (ids : List SnapId) → low.0 ≤ id.0 → ((s : SnapId) → is_listed s ids ≡ true → low.0 ≤ s.0) → (s : SnapId) → is_listed s (id ∷ ids) ≡ true → low.0 ≤ s.0
upto_all low id ids first rest s is = go (id.0 == s.0) refl is
  where
    go : (b : Bool) → (id.0 == s.0) ≡ b → (b || is_listed s ids) ≡ true → low.0 ≤ s.0
    go true same is = omega (arith, first, eqb-true id.0 s.0 same)
    go false same is = rest s is

-- the least of some ids is one of them, and none is below it
least_least : (ids : List SnapId) → IsLeast (least ids) ids
least_least [] = refl
least_least (id ∷ ids) = go (least ids) (least_least ids)
  where
    pick : (t : SnapId) → IsLeast (Some t) ids → (b : Bool) → nat_lt id.0 t.0 ≡ b → IsLeast (Some (cond b id t)) (id ∷ ids)
    pick t l true less = (itself_listed id ids, upto_all id id ids (omega arith) (λ s is. omega (arith, ltb-true id.0 t.0 less, l.1 s is)))
    pick t l false more =
        let upto : t.0 ≤ id.0 = grind (arith, nat_tests) in
        (or_right (id.0 == t.0) (is_listed t ids) l.0, upto_all t id ids upto l.1)

    go : (o : Option SnapId) → IsLeast o ids → IsLeast (least_of id o) (id ∷ ids)
    go None none = (itself_listed id ids, upto_all id id ids (omega arith) (λ s is. let never : false ≡ true = ap (is_listed s) (sym none) ∙ is in cc))
    go (Some t) l = pick t l (nat_lt id.0 t.0) refl

-- there is one least id at most
one_least : (ids : List SnapId) (a b : Option SnapId) → IsLeast a ids → IsLeast b ids → a ≡ b
one_least ids None None k l = refl
one_least ids None (Some t) k l = let never : false ≡ true = ap (is_listed t) (sym k) ∙ l.0 in cc
one_least ids (Some s) None k l = let never : false ≡ true = ap (is_listed s) (sym l) ∙ k.0 in cc
one_least ids (Some s) (Some t) k l =
    let same : s.0 ≡ t.0 = omega (arith, k.1 t l.0, l.1 s k.0) in
    ap (λ (n : ℕ). let id : SnapId = record { 0 = n } in Some id) same

-- filters that agree on what is listed
same_filter : (p q : SnapId → Bool) (ids : List SnapId) → ((s : SnapId) → is_listed s ids ≡ true → p s ≡ q s) → filter p ids ≡ filter q ids
same_filter p q [] same = refl
same_filter p q (id ∷ ids) same =
    let first = same id (itself_listed id ids) in
    let rest = same_filter p q ids (λ s is. same s (or_right (id.0 == s.0) (is_listed s ids) is)) in
    λ i. cond (first i) (id ∷ rest i) (rest i)

-- what some entries remove, and others behind them
removed_both : (s : SnapId) (xs ys : List Entry) → is_listed s (removed (xs ++ ys)) ≡ (is_listed s (removed xs) || is_listed s (removed ys))
removed_both s xs ys =
    ap (is_listed s) (filter_map-append (λ (entry : Entry). removed_by entry.what) xs ys)
    ∙ list_any-append (λ (id : SnapId). id.0 == s.0) (removed xs) (removed ys)

-- An id is removed once.
module _ (s : SnapId) (done : List Entry) (journal : is_journal done ≡ true) (e : Entry) (fine : is_legal done e ≡ true) (was : is_listed s (removed_ids done) ≡ true) where
  not_false : (b : Bool) → not b ≡ false → b ≡ true
  not_false true is = refl
  not_false false is = cc

  never : (w : What) → e.what ≡ w → (b : Bool) → removes s w ≡ b → b ≡ false
  never w is false same = refl
  never (what.Rmsnap id) is true same =
      let live : is_live_snap id (state_after done).snaps ≡ true = not_false _ (made_by_legal done e (change.Rmsnap id) fine (ap change_in is)) in
      let dead : is_live_snap s (state_after done).snaps ≡ false = (removed_dead done journal s was).1 in
      let both : true ≡ false = sym live ∙ ap (λ (n : ℕ). is_live_snap (record { 0 = n }) (state_after done).snaps) (eqb-true id.0 s.0 same) ∙ dead in cc
  never w is true same = cc

  pub not_again : removes s e.what ≡ false
  not_again = never e.what refl (removes s e.what) refl

head_removed : (s : SnapId) (w : What) (ids : List SnapId) → is_listed s (cons_option (removed_by w) ids) ≡ (removes s w || is_listed s ids)
head_removed s (what.Rmsnap id) ids = refl
head_removed s w ids = refl

removed_behind : (s : SnapId) (done rest : List Entry) → is_journal done ≡ true → legal_after done rest ≡ true → is_listed s (removed_ids done) ≡ true → is_listed s (removed rest) ≡ false
removed_behind s done [] journal legal was = refl
removed_behind s done (e ∷ rest) journal legal was =
    let l = both_true (is_legal done e) (legal_after (done ++ e ∷ []) rest) legal in
    let more = removed_more done e s ∙ or_left (is_listed s (removed_ids done)) (removes s e.what) was in
    head_removed s e.what (removed rest)
    ∙ (λ i. not_again s done journal e l.0 was i || removed_behind s (done ++ e ∷ []) rest (legal_more [] done e journal l.0) l.1 more i)

-- a front of a journal is one, and what follows it is legal after it
front_legal : (done entries more : List Entry) → legal_after done (entries ++ more) ≡ true → (legal_after done entries ≡ true) × (legal_after (done ++ entries) more ≡ true)
front_legal done [] more legal = (refl, subst (λ (d : List Entry). legal_after d more ≡ true) (sym (append-nil done)) legal)
front_legal done (e ∷ entries) more legal =
    let l = both_true (is_legal done e) (legal_after (done ++ e ∷ []) (entries ++ more)) legal in
    let rest = front_legal (done ++ e ∷ []) entries more l.1 in
    (rw (l.0, rest.0) refl, subst (λ (d : List Entry). legal_after d more ≡ true) (append_assoc done (e ∷ []) entries) rest.1)

-- so of what is removed, an entry behind some removes it exactly where none of these does
removed_before : (entries : List Entry) (d : ℕ) (s : SnapId) → is_journal entries ≡ true → is_listed s (removed entries) ≡ true → not (is_listed s (removed (drop d entries))) ≡ is_listed s (removed (take d entries))
removed_before entries d s journal listed = go _ refl _ refl (sym (removed_both s (take d entries) (drop d entries)) ∙ ap (λ (es : List Entry). is_listed s (removed es)) (take-append-drop d entries) ∙ listed)
  where
    fronts : (legal_after [] (take d entries) ≡ true) × (legal_after (take d entries) (drop d entries) ≡ true)
    fronts = front_legal [] (take d entries) (drop d entries) (subst (λ (es : List Entry). is_journal es ≡ true) (sym (take-append-drop d entries)) journal)

    go : (a : Bool) → is_listed s (removed (take d entries)) ≡ a → (b : Bool) → is_listed s (removed (drop d entries)) ≡ b → (is_listed s (removed (take d entries)) || is_listed s (removed (drop d entries))) ≡ true → not (is_listed s (removed (drop d entries))) ≡ is_listed s (removed (take d entries))
    go true before b behind either = ap not (removed_behind s (take d entries) (drop d entries) fronts.0 fronts.1 before) ∙ sym before
    go false before true behind either = ap not behind ∙ sym before
    go false before false behind either = let never : false ≡ true = sym (λ i. before i || behind i) ∙ either in cc

-- the first id of the table that is unsent is the least unsent one
pub purge_is : (s : Server) → is_journal s.entries ≡ true → (unpurged : List SnapId) → IsLeast (first_of (filter (is_unsent (removed (drop s.durable s.entries)) s.purging) unpurged)) (filter (is_unsent (removed (drop s.durable s.entries)) s.purging) (to_purge s.entries))
    → find (is_unsent (removed (drop s.durable s.entries)) s.purging) unpurged ≡ least (unsent_purges s)
purge_is s journal unpurged law =
    first_found unsent unpurged
    ∙ one_least (filter unsent (to_purge s.entries)) _ _ law (least_least (filter unsent (to_purge s.entries)))
    ∙ ap least (same_filter unsent (λ (id : SnapId). is_listed id (removed (take s.durable s.entries)) && not (is_listed id s.purging)) (to_purge s.entries)
    (λ id listed. ap (λ (b : Bool). b && not (is_listed id s.purging)) (removed_before s.entries s.durable id journal (purge_fits s.entries id listed))))
  where
    unsent : SnapId → Bool
    unsent = is_unsent (removed (drop s.durable s.entries)) s.purging

-- two lists of the same ids are both empty, or neither is
pub empty_alike : (xs ys : List SnapId) → ((s : SnapId) → is_listed s xs ≡ is_listed s ys) → is_empty xs ≡ is_empty ys
empty_alike [] [] same = refl
empty_alike [] (y ∷ ys) same = let never : false ≡ true = same y ∙ itself_listed y ys in cc
empty_alike (x ∷ xs) [] same = let never : true ≡ false = sym (itself_listed x xs) ∙ same x in cc
empty_alike (x ∷ xs) (y ∷ ys) same = refl
