-- The ids that a trace of realms gives are those of the snapshots that its realms list.
use Rattle.std.proofs.Common.{◌≡◌, ℕ, ◌<◌, ◌≤◌, Bool, true, false, ◌&&◌, ◌||◌, cond, eqb, leb, max, List, [], ◌∷◌, Option, None, Some, ◌⊎◌, inl, inr, refl, ap, sym, ◌∙◌, subst, arith, filter}
use Rattle.std.specs.Cmp.Derive.{both_true}
use Rattle.snap_ids.specs.declared.id.Ino.{Ino}
use Rattle.snap_ids.specs.declared.id.SnapId.{SnapId}
use Rattle.snap_ids.specs.declared.values.RealmInfo.{RealmInfo}
use Rattle.snap_ids.specs.Context.{is_listed}
use Rattle.snap_ids.specs.Traces.{with_ids, from_id, if_from, seq_of}
use Rattle.snap_ids.specs.Traces.{ids_of as trace_ids}
use Rattle.realm_story.specs.declared.records.Snap.{Snap}
use Rattle.realm_story.specs.declared.records.Realm.{Realm}
use Rattle.realm_story.specs.declared.records.Node.{Node}
use Rattle.realm_story.specs.Family.{same_ino}
use Rattle.realm_story.specs.Records.{ids_of, own_of, kept_of, realm_by, lists, lists_by, seq_by, seq_on, info_by, infos}
use Rattle.realm_story.proofs.Facts.{id_of, id_itself, above-apart, apart_sym}
use Rattle.realm_story.proofs.Put.{Falling, or_listed, all_in, put_all, from_kept}

-- a snapshot is one of some
abbrev pub In : Snap → List Snap → Type 0
In snap [] = ⊥
In snap (first ∷ snaps) = (snap ≡ first) ⊎ In snap snaps

pub filter_in : (p q : Snap → Bool) (snaps : List Snap) → ((snap : Snap) → In snap snaps → p snap ≡ q snap) → filter p snaps ≡ filter q snaps
filter_in p q [] same = refl
filter_in p q (snap ∷ snaps) same =
    let rest : filter p snaps ≡ filter q snaps = filter_in p q snaps (λ s there. same s (inr there)) in
    rw (same snap (inl refl), rest) refl

pub in_below : (snap : Snap) (bound : ℕ) (snaps : List Snap) → Falling bound snaps → In snap snaps → snap.id.0 < bound
in_below snap bound [] fall there = absurd there
in_below snap bound (first ∷ snaps) fall (inl is) = subst (λ (s : Snap). s.id.0 < bound) (sym is) fall.0
in_below snap bound (first ∷ snaps) fall (inr there) =
    let low : snap.id.0 < first.id.0 = in_below snap first.id.0 snaps fall.1 there in omega (arith, fall.0)

none_below : (id : SnapId) (q : Snap → Bool) (snaps : List Snap) → Falling id.0 snaps → is_listed id (ids_of (filter q snaps)) ≡ false
none_below id q [] fall = refl
none_below id q (snap ∷ snaps) fall = at (q snap) (none_below id q snaps (further snap.id.0 id.0 snaps (omega (arith, fall.0)) fall.1))
  where
    further : (m n : ℕ) (snaps : List Snap) → m ≤ n → Falling m snaps → Falling n snaps
    further m n [] more fall = tt
    further m n (snap ∷ snaps) more fall = (omega (arith, fall.0), fall.1)

    at : (b : Bool) → is_listed id (ids_of (filter q snaps)) ≡ false → is_listed id (ids_of (cond b (snap ∷ filter q snaps) (filter q snaps))) ≡ false
    at true rest = rw (above-apart snap.id.0 id.0 fall.0) rest
    at false rest = rest

first_kept : (q : Snap → Bool) (snap : Snap) (snaps : List Snap) (b : Bool) → Falling snap.id.0 snaps → is_listed snap.id (ids_of (cond b (snap ∷ filter q snaps) (filter q snaps))) ≡ b
first_kept q snap snaps true fall = rw (id_itself snap.id) refl
first_kept q snap snaps false fall = none_below snap.id q snaps fall

later_kept : (q : Snap → Bool) (id : SnapId) (snap : Snap) (snaps : List Snap) (b : Bool) → id.0 < snap.id.0 → is_listed id (ids_of (cond b (snap ∷ filter q snaps) (filter q snaps))) ≡ is_listed id (ids_of (filter q snaps))
later_kept q id snap snaps true low = rw (apart_sym id.0 snap.id.0 low) refl
later_kept q id snap snaps false low = refl

-- the id of a snapshot stands among the ids of those that pass a test exactly where it passes the test
pub listed_kept : (q : Snap → Bool) (bound : ℕ) (snaps : List Snap) → Falling bound snaps → (snap : Snap) → In snap snaps → is_listed snap.id (ids_of (filter q snaps)) ≡ q snap
listed_kept q bound [] fall snap there = absurd there
listed_kept q bound (first ∷ snaps) fall snap (inl is) =
    subst (λ (s : Snap). is_listed s.id (ids_of (filter q (first ∷ snaps))) ≡ q s) (sym is) (first_kept q first snaps (q first) fall.1)
listed_kept q bound (first ∷ snaps) fall snap (inr there) =
    later_kept q snap.id first snaps (q first) (in_below snap first.id.0 snaps fall.1 there)
    ∙ listed_kept q first.id.0 snaps fall.1 snap there

pub listed_in : (snap : Snap) (snaps : List Snap) → In snap snaps → is_listed snap.id (ids_of snaps) ≡ true
listed_in snap [] there = absurd there
listed_in snap (first ∷ snaps) (inl is) = subst (λ (s : Snap). is_listed s.id (ids_of (first ∷ snaps)) ≡ true) (sym is) (rw (id_itself first.id) refl)
listed_in snap (first ∷ snaps) (inr there) = rw (listed_in snap snaps there) (or_true (eqb first.id.0 snap.id.0))
  where
    or_true : (b : Bool) → (b || true) ≡ true
    or_true true = refl
    or_true false = refl

-- leaving out ids that the store has dropped changes nothing for those of snapshots
listed_filter : (test : SnapId → Bool) (id : SnapId) (ids : List SnapId) → test id ≡ true → is_listed id (filter test ids) ≡ is_listed id ids
listed_filter test id [] passes = refl
listed_filter test id (next ∷ ids) passes = at (test next) (eqb next.0 id.0) refl refl (listed_filter test id ids passes)
  where
    at : (b e : Bool) → test next ≡ b → eqb next.0 id.0 ≡ e → is_listed id (filter test ids) ≡ is_listed id ids → is_listed id (cond b (next ∷ filter test ids) (filter test ids)) ≡ (e || is_listed id ids)
    at true e tested equal rest = rw (equal, rest) refl
    at false true tested equal rest =
        let fails : test id ≡ false = subst (λ t. test t ≡ false) (id_of next id equal) tested in cc
    at false false tested equal rest = rest

own_in : (q : Snap → Bool) (snaps all : List Snap) → ((snap : Snap) → In snap snaps → is_listed snap.id (ids_of all) ≡ true) → all_in all (ids_of (filter q snaps)) ≡ true
own_in q [] all known = refl
own_in q (snap ∷ snaps) all known = at (q snap) (own_in q snaps all (λ s there. known s (inr there)))
  where
    at : (b : Bool) → all_in all (ids_of (filter q snaps)) ≡ true → all_in all (ids_of (cond b (snap ∷ filter q snaps) (filter q snaps))) ≡ true
    at true rest = both_true (known snap (inl refl)) rest
    at false rest = rest

kept_in : (snaps : List Snap) (ids : List SnapId) → all_in snaps (kept_of snaps ids) ≡ true
kept_in snaps [] = refl
kept_in snaps (id ∷ ids) = at (is_listed id (ids_of snaps)) refl (kept_in snaps ids)
  where
    at : (b : Bool) → is_listed id (ids_of snaps) ≡ b → all_in snaps (kept_of snaps ids) ≡ true → all_in snaps (cond b (id ∷ kept_of snaps ids) (kept_of snaps ids)) ≡ true
    at true is rest = both_true is rest
    at false is rest = rest

-- a snapshot is listed by the realms on a way
abbrev pub listed_on : (ℕ → Option Node) → List Ino → Snap → Bool
listed_on at way snap = lists at way snap.root snap.id

given_by : (r : Option Realm) (ino : Ino) (above : List RealmInfo) (p : Snap → Bool) (bound : ℕ) (snaps : List Snap) → Falling bound snaps → trace_ids above ≡ ids_of (filter p snaps) → trace_ids (info_by r ino snaps above) ≡ ids_of (filter (λ snap. lists_by r ino snap.root snap.id (p snap)) snaps)
given_by None ino above p bound snaps fall same = same
given_by (Some realm) ino above p bound snaps fall same =
    let own : List SnapId = own_of snaps ino in
    let past : List SnapId = kept_of snaps realm.past in
    let since : Snap → Bool = λ snap. leb realm.since.0 snap.id.0 && p snap in
    ap (λ ids. with_ids own (with_ids past (from_id realm.since ids))) same
    ∙ ap (λ ids. with_ids own (with_ids past ids)) (from_kept realm.since p snaps)
    ∙ ap (with_ids own) (put_all past since bound snaps fall (kept_in snaps realm.past))
    ∙ put_all own (or_listed past since) bound snaps fall (own_in (λ snap. same_ino snap.root ino) snaps snaps (λ snap there. listed_in snap snaps there))
    ∙ ap ids_of (filter_in (or_listed own (or_listed past since)) (λ snap. lists_by (Some realm) ino snap.root snap.id (p snap)) snaps (λ snap there.
    rw (listed_kept (λ s. same_ino s.root ino) bound snaps fall snap there, listed_filter (λ id. is_listed id (ids_of snaps)) snap.id realm.past (listed_in snap snaps there)) refl))

-- the ids that the realms on a way give
pub given : (at : ℕ → Option Node) (bound : ℕ) (snaps : List Snap) (way : List Ino) → Falling bound snaps → trace_ids (infos at snaps way) ≡ ids_of (filter (listed_on at way) snaps)
given at bound snaps [] fall = none snaps
  where
    none : (snaps : List Snap) → [] ≡ ids_of (filter (λ (snap : Snap). false) snaps)
    none [] = refl
    none (snap ∷ snaps) = none snaps
given at bound snaps (ino ∷ way) fall =
    given_by (realm_by (at ino.0)) ino (infos at snaps way) (listed_on at way) bound snaps fall (given at bound snaps way fall)

seq_given_by : (r : Option Realm) (ino : Ino) (snaps : List Snap) (above : List RealmInfo) (n : ℕ) → seq_of above ≡ n → seq_of (info_by r ino snaps above) ≡ seq_by r n
seq_given_by None ino snaps above n same = same
seq_given_by (Some realm) ino snaps above n same = ap (λ m. max realm.seq.0 (if_from realm.since m 0)) same

-- and the sequence id
pub seq_given : (at : ℕ → Option Node) (snaps : List Snap) (way : List Ino) → seq_of (infos at snaps way) ≡ seq_on at way
seq_given at snaps [] = refl
seq_given at snaps (ino ∷ way) =
    seq_given_by (realm_by (at ino.0)) ino snaps (infos at snaps way) (seq_on at way) (seq_given at snaps way)
