-- How requests are kept after one more, and after one fewer.
use Rattle.std.proofs.Common.{◌≡◌, ◌≢◌, ℕ, suc, Bool, true, false, ◌||◌, ◌==◌, cond, List, [], ◌∷◌, ◌++◌, length, drop, filter, Option, None, Some, IsSome, refl, sym, ap, subst, ◌∙◌, arith}
use Rattle.std.specs.List.{cons_option, AllByRecursion}
use Rattle.std.proofs.lemmas.Bool.{eqb-true}
use Rattle.std.proofs.lemmas.Bool.Decides.{nat_tests}
use Rattle.std.proofs.lemmas.List.{append-nil}
use Rattle.std.proofs.lemmas.List.Elements.{filter-append, filter_map-append}
use Rattle.std.proofs.lemmas.List.Folds.{list_any-append}
use Rattle.slab.specs.Slab.{Slab, get, Updates}
use Rattle.step_table.specs.ServerState.{Asked}
use Rattle.step_table.specs.Acts.{of_client, first_of}
use Rattle.step_table.specs.Flushes.{not_of}
use Rattle.held_requests.specs.Keys.{cut_first, first_key, keys_of, OnlyOf, SameKeys}
use Rattle.held_requests.specs.Kept.{has, Once, listed, is_of, IsKept}
use Rattle.held_requests.proofs.Cuts.{none_true, filter_cut, not_cut, none_passes, one_fewer, filter_cut_other, all_cut, once_cut, gone, cut_key}
use Rattle.held_requests.proofs.Shown.{agree_others, same_listed, same_filter, same_there, vacant, under, listed_cut, listed_first}

differs : (a b : ℕ) → (a == b) ≡ false → b ≢ a
differs a b off same = let on : (a == b) ≡ true = grind (arith, nat_tests) in let never : true ≡ false = sym on ∙ off in cc

all_push : (P : ℕ → Type 0) (keys : List ℕ) (key : ℕ) → AllByRecursion P keys → P key → AllByRecursion P (keys ++ key ∷ [])
all_push P [] key all last = (last, tt)
all_push P (k ∷ ks) key all last = (all.0, all_push P ks key all.1 last)

once_push : (keys : List ℕ) (key : ℕ) → Once keys → has key keys ≡ false → Once (keys ++ key ∷ [])
once_push [] key once none = (refl, tt)
once_push (k ∷ ks) key once none =
    let l = none_true (k == key) (has key ks) none in
    (list_any-append (λ next. next == k) ks (key ∷ []) ∙ (λ i. (once.0 i || (turned (k == key) refl l.0 i || false))), once_push ks key once.1 l.1)
  where
    turned : (b : Bool) → (k == key) ≡ b → (k == key) ≡ false → (key == k) ≡ false
    turned b is off = grind (arith, nat_tests)

-- nothing else is read of a slab
pub same_kept : (slab new : Slab Asked) (order : List ℕ) (index later : List (List ℕ)) → ((key : ℕ) → get new key ≡ get slab key) → SameKeys index later → IsKept slab order index → IsKept new order later × (listed new order ≡ listed slab order)
same_kept slab new order index later same keys kept =
    let agree = all_agree order in (
      record {
        there = same_there (get slab) (get new) order agree kept.there;
        once = kept.once;
        own = λ client. keys client ∙ kept.own client ∙ sym (same_filter (get slab) (get new) (is_of client) order agree);
      },
      same_listed (get slab) (get new) order agree,
    )
  where
    all_agree : (order : List ℕ) → AllByRecursion (λ k. get new k ≡ get slab k) order
    all_agree [] = tt
    all_agree (k ∷ ks) = (same k, all_agree ks)

module _ (slab new : Slab Asked) (order : List ℕ) (index later : List (List ℕ)) (key : ℕ) (a : Asked) (kept : IsKept slab order index) (none : get slab key ≡ None) (updates : Updates slab new key (Some a)) where
  fresh : has key order ≡ false
  fresh = vacant (get slab) key order none kept.there

  agree : AllByRecursion (λ k. get new k ≡ get slab k) order
  agree = agree_others (get slab) (get new) key updates.others order fresh

  some : IsSome (get new key)
  some = subst IsSome (sym updates.changed) (is_some_some)
    where
      is_some_some : IsSome (Some a)
      is_some_some = search

  its : (client : ℕ) → is_of client (get new key) ≡ (a.client == client)
  its client = ap (is_of client) updates.changed

  pub pushed_back : OnlyOf a.client (keys_of a.client index ++ key ∷ []) index later → IsKept new (order ++ key ∷ []) later × (listed new (order ++ key ∷ []) ≡ listed slab order ++ a ∷ [])
  pushed_back only = (
    record {
      there = all_push (λ k. IsSome (get new k)) order key (same_there (get slab) (get new) order agree kept.there) some;
      once = once_push order key kept.once fresh;
      own = λ client. keys client (a.client == client) refl
          ∙ (λ i. kept.own client i ++ cond (a.client == client) (key ∷ []) [])
          ∙ (λ i. sym (same_filter (get slab) (get new) (is_of client) order agree) i ++ cond (sym (its client) i) (key ∷ []) [])
          ∙ sym (filter-append (λ k. is_of client (get new k)) order (key ∷ []));
    },
    filter_map-append (get new) order (key ∷ []) ∙ (λ i. same_listed (get slab) (get new) order agree i ++ cons_option (updates.changed i) []),
  )
    where
      keys : (client : ℕ) (b : Bool) → (a.client == client) ≡ b → keys_of client later ≡ keys_of client index ++ cond b (key ∷ []) []
      keys client true is = subst (λ (c : ℕ). keys_of c later ≡ keys_of c index ++ key ∷ []) (eqb-true a.client client is) only.own
      keys client false is = only.others client (differs a.client client is) ∙ sym (append-nil (keys_of client index))

  pub pushed_front : OnlyOf a.client (key ∷ keys_of a.client index) index later → IsKept new (key ∷ order) later × (listed new (key ∷ order) ≡ a ∷ listed slab order)
  pushed_front only = (
    record {
      there = (some, same_there (get slab) (get new) order agree kept.there);
      once = (fresh, kept.once);
      own = λ client. keys client (a.client == client) refl
          ∙ (λ i. cond (a.client == client) (key ∷ kept.own client i) (kept.own client i))
          ∙ (λ i. cond (sym (its client) i) (key ∷ sym (same_filter (get slab) (get new) (is_of client) order agree) i) (sym (same_filter (get slab) (get new) (is_of client) order agree) i));
    },
    λ i. cons_option (updates.changed i) (same_listed (get slab) (get new) order agree i),
  )
    where
      keys : (client : ℕ) (b : Bool) → (a.client == client) ≡ b → keys_of client later ≡ cond b (key ∷ keys_of client index) (keys_of client index)
      keys client true is = subst (λ (c : ℕ). keys_of c later ≡ key ∷ keys_of c index) (eqb-true a.client client is) only.own
      keys client false is = only.others client (differs a.client client is)

-- with the room that the code makes before
more_room : (slab roomy : Slab Asked) (order wide : List ℕ) (index later : List (List ℕ)) (waiting : List Asked) → IsKept slab order index → listed slab order ≡ waiting → roomy ≡ record slab { capacity = roomy.capacity } → wide ≡ order → SameKeys index later → IsKept roomy wide later × (listed roomy wide ≡ waiting)
more_room slab roomy order wide index later waiting kept is room same keys =
    subst (λ (ks : List ℕ). IsKept roomy ks later × (listed roomy ks ≡ waiting)) (sym same)
    (let l = same_kept slab roomy order index later (λ key. ap (λ (s : Slab Asked). get s key) room) keys kept in (l.0, l.1 ∙ is))

pub room_made : (slab roomy : Slab Asked) (order wide : List ℕ) (index later : List (List ℕ)) → IsKept slab order index → roomy ≡ record slab { capacity = roomy.capacity } → wide ≡ order → SameKeys index later → IsKept roomy wide later
room_made slab roomy order wide index later kept room same keys = (more_room slab roomy order wide index later (listed slab order) kept refl room same keys).0

module _ (slab roomy new : Slab Asked) (order wide longer : List ℕ) (index later : List (List ℕ)) (waiting : List Asked) (a : Asked) (key result : ℕ) (kept : IsKept slab order index) (is : listed slab order ≡ waiting) (room : roomy ≡ record slab { capacity = roomy.capacity }) (same : wide ≡ order) (none : get roomy key ≡ None) (key_is : key ≡ roomy.vacant_key) (result_is : result ≡ roomy.vacant_key) (updates : Updates roomy new result (Some a)) where
  at_key : Updates roomy new key (Some a)
  at_key = subst (λ (k : ℕ). Updates roomy new k (Some a)) (result_is ∙ sym key_is) updates

  roomed : IsKept roomy wide index × (listed roomy wide ≡ waiting)
  roomed = more_room slab roomy order wide index index waiting kept is room same (λ client. refl)

  pub back : OnlyOf a.client (keys_of a.client index ++ key ∷ []) index later → longer ≡ wide ++ key ∷ [] → IsKept new longer later × (listed new longer ≡ waiting ++ a ∷ [])
  back only long =
      let l = pushed_back roomy new wide index later key a roomed.0 none at_key only in
      subst (λ (ks : List ℕ). IsKept new ks later × (listed new ks ≡ waiting ++ a ∷ [])) (sym long) (l.0, l.1 ∙ ap (λ (xs : List Asked). xs ++ a ∷ []) roomed.1)

  pub front : OnlyOf a.client (key ∷ keys_of a.client index) index later → longer ≡ key ∷ wide → IsKept new longer later × (listed new longer ≡ a ∷ waiting)
  front only long =
      let l = pushed_front roomy new wide index later key a roomed.0 none at_key only in
      subst (λ (ks : List ℕ). IsKept new ks later × (listed new ks ≡ a ∷ waiting)) (sym long) (l.0, l.1 ∙ ap (λ (xs : List Asked). a ∷ xs) roomed.1)

module _ (slab : Slab Asked) (order : List ℕ) (index later : List (List ℕ)) (client : ℕ) (kept : IsKept slab order index) where
  abbrev mine : ℕ → Bool
  mine k = is_of client (get slab k)

  -- the first of a client's is taken out
  module _ (new : Slab Asked) (key : ℕ) (first : first_key (keys_of client index) ≡ Some key) (updates : Updates slab new key None) (only : OnlyOf client (drop 1 (keys_of client index)) index later) where
    is_first : first_key (filter mine order) ≡ Some key
    is_first = ap first_key (sym (kept.own client)) ∙ first

    left : cut_first (λ k. k == key) order ≡ cut_first mine order
    left = cut_key mine key order is_first

    agree_cut : AllByRecursion (λ k. get new k ≡ get slab k) (cut_first mine order)
    agree_cut = agree_others (get slab) (get new) key updates.others (cut_first mine order) (ap (has key) (sym left) ∙ gone key order kept.once)

    not_both : (other : ℕ) → (client == other) ≡ false → (k : ℕ) → mine k ≡ true → is_of other (get slab k) ≡ false
    not_both other off k is = go (get slab k) is
      where
        go : (o : Option Asked) → is_of client o ≡ true → is_of other o ≡ false
        go None is = refl
        go (Some a) is = grind (arith, nat_tests)

    keys : (other : ℕ) (b : Bool) → (client == other) ≡ b → keys_of other later ≡ filter (λ k. is_of other (get slab k)) (cut_first mine order)
    keys other true is =
        subst (λ (c : ℕ). keys_of c later ≡ filter (λ k. is_of c (get slab k)) (cut_first mine order)) (eqb-true client other is)
        (only.own ∙ ap (drop 1) (kept.own client) ∙ sym (filter_cut mine order))
    keys other false is =
        only.others other (differs client other is)
        ∙ kept.own other
        ∙ sym (filter_cut_other mine (λ k. is_of other (get slab k)) (not_both other is) order)

    pub taken_out : IsKept new (cut_first (λ k. k == key) order) later × (listed new (cut_first (λ k. k == key) order) ≡ cut_first (of_client client) (listed slab order))
    taken_out = subst (λ (keys : List ℕ). IsKept new keys later × (listed new keys ≡ cut_first (of_client client) (listed slab order))) (sym left) (
      record {
        there = same_there (get slab) (get new) (cut_first mine order) agree_cut (all_cut mine (λ k. IsSome (get slab k)) order kept.there);
        once = once_cut mine order kept.once;
        own = λ other. keys other (client == other) refl ∙ sym (same_filter (get slab) (get new) (is_of other) (cut_first mine order) agree_cut);
      },
      same_listed (get slab) (get new) (cut_first mine order) agree_cut ∙ listed_cut (get slab) client order,
    )

    pub was_first : get slab key ≡ first_of (filter (of_client client) (listed slab order))
    was_first = sym (listed_first (get slab) client order ∙ ap (under (get slab)) is_first)

    pub taken : (waiting : List Asked) (rest : List ℕ) → listed slab order ≡ waiting → rest ≡ cut_first (λ k. k == key) order → IsKept new rest later × (listed new rest ≡ cut_first (of_client client) waiting)
    taken waiting rest is cut = subst (λ (ks : List ℕ). IsKept new ks later × (listed new ks ≡ cut_first (of_client client) waiting)) (sym cut) (taken_out.0, taken_out.1 ∙ ap (cut_first (of_client client)) is)

  -- a client without keys has no request
  pub none_taken : (waiting : List Asked) → listed slab order ≡ waiting → first_key (keys_of client index) ≡ None → first_of (filter (of_client client) waiting) ≡ None
  none_taken waiting is none =
      ap (λ (xs : List Asked). first_of (filter (of_client client) xs)) (sym is)
      ∙ listed_first (get slab) client order
      ∙ ap (under (get slab)) (ap first_key (sym (kept.own client)) ∙ none)

-- where no request is a client's, and where one is
first_none : (waiting : List Asked) → first_of waiting ≡ None → waiting ≡ []
first_none [] none = refl
first_none (a ∷ waiting) none = cc

pub none_of : (client : ℕ) (waiting : List Asked) → first_of (filter (of_client client) waiting) ≡ None → (cut_first (of_client client) waiting ≡ waiting) × (cut_first (of_client client) waiting ≡ not_of client waiting)
none_of client waiting none =
    let l = none_passes (of_client client) waiting (first_none (filter (of_client client) waiting) none) in
    (l.1, l.1 ∙ sym l.0)

pub one_taken : (client : ℕ) (waiting : List Asked) (a : Asked) → first_of (filter (of_client client) waiting) ≡ Some a → suc (length (cut_first (of_client client) waiting)) ≡ length waiting
one_taken client waiting a is = one_fewer (of_client client) waiting (λ none. never (ap first_of (sym none) ∙ is))
  where
    never : first_of [] ≡ Some a → ⊥
    never same = cc

pub rest_left : (client : ℕ) (waiting : List Asked) → not_of client (cut_first (of_client client) waiting) ≡ not_of client waiting
rest_left client waiting = not_cut (of_client client) waiting
