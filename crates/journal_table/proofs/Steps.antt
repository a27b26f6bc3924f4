-- The call of each entry leads from a table that stands for the entries before it to one that stands for those with it.
use Rattle.std.proofs.Common.{◌≡◌, ℕ, ◌+◌, ◌<◌, ◌≤◌, Bool, true, false, not, ◌||◌, ◌&&◌, ◌==◌, cond, List, [], ◌∷◌, ◌++◌, filter, fold, length, Option, None, Some, refl, sym, ap, subst, ◌∙◌, arith, ltb-true, le-leb}
use Rattle.std.specs.Prelude.{option_map, nat_le}
use Rattle.std.proofs.lemmas.Bool.{eqb-true}
use Rattle.std.proofs.lemmas.Bool.Decides.{nat_tests}
use Rattle.std.proofs.lemmas.List.{length-append}
use Rattle.std.proofs.lemmas.List.Elements.{filter-append}
use Rattle.std.proofs.lemmas.List.Sums.{fold-append}
use Rattle.snap_ids.specs.declared.id.Ino.{Ino}
use Rattle.snap_ids.specs.declared.id.SnapId.{SnapId}
use Rattle.snap_ids.specs.Context.{is_listed}
use Rattle.plain_types.specs.declared.change.Change.{Change}
use Rattle.plain_types.specs.declared.change.Change.TheVariants as change
use Rattle.plain_types.specs.declared.entry.Entry.{Entry}
use Rattle.plain_types.specs.declared.entry.What.{What}
use Rattle.plain_types.specs.declared.entry.What.TheVariants as what
use Rattle.plain_tree.specs.State.{State}
use Rattle.plain_tree.specs.Change.{is_refused, make}
use Rattle.plain_journal.specs.Entries.{change_in, with_change, state_after, applied_by, applied}
use Rattle.plain_journal.specs.Coverage.{purges, is_purged}
use Rattle.plain_journal.specs.Legal.{is_made_by, fits, is_legal, is_journal}
use Rattle.plain_journal.specs.Table.{prepares, next_snap, outstanding, outstanding_from, operation_by as noted_by, to_purge}
use Rattle.journal_laws.proofs.Steps.{both_true, last_legal, state_more, apply_made, made_by_legal}
use Rattle.journal_laws.proofs.Rising.{made_upto_applied}
use Rattle.journal_moments.specs.Moments.{is_live_snap}
use Rattle.journal_moments.proofs.Lives.{live_upto, applied_more}
use Rattle.snap_table.specs.declared.op.TableOp.{TableOp}
use Rattle.snap_table.specs.declared.op.TableOp.TheVariants.{Create, Destroy}
use Rattle.snap_table.specs.Op.{id_of}
use Rattle.snap_table.specs.Rising.{without}
use Rattle.snap_table.specs.Table.{Table, after, after_some, committed, is_awaited, is_gone}
use Rattle.snap_table.proofs.Rises.{rises-with_id, rises-without}
use Rattle.journal_table.specs.Stands.{operation_by, operation, live_ids, TableStands}
use Rattle.journal_table.specs.Calls.{called, IsRuled, CanCall}
use Rattle.journal_table.proofs.Lists.{listed_without, listed_with, with_above, ids_of, listed_live, ids_more, ids_less}
use Rattle.journal_table.proofs.Removed.{removes, removed_ids, removed_more, purged_more, listed_to_purge, removed_dead, purge_fits, live_unpurged, made_from_two}

-- the id of the operation that the journal has as outstanding
abbrev id_in : Option (SnapId × ℕ) → Option SnapId
id_in noted = option_map (λ (o : SnapId × ℕ). o.0) noted

same_by : (w : What) (number : ℕ) (op : Option TableOp) (noted : Option (SnapId × ℕ)) → option_map id_of op ≡ id_in noted → option_map id_of (operation_by w op) ≡ id_in (noted_by w number noted)
same_by (what.PrepareCreate id) number op noted same = refl
same_by (what.PrepareDestroy id) number op noted same = refl
same_by (what.Mksnap id dir name) number op noted same = refl
same_by (what.Rmsnap id) number op noted same = refl
same_by (what.Rollback id) number op noted same = refl
same_by w number op noted same = same

same_from : (number : ℕ) (op : Option TableOp) (noted : Option (SnapId × ℕ)) (entries : List Entry) → option_map id_of op ≡ id_in noted → option_map id_of (fold (λ (before : Option TableOp) (entry : Entry). operation_by entry.what before) op entries) ≡ id_in (outstanding_from number noted entries)
same_from number op noted [] same = same
same_from number op noted (e ∷ entries) same = same_from (number + 1) (operation_by e.what op) (noted_by e.what number noted) entries (same_by e.what number op noted same)

pub same_operation : (entries : List Entry) → option_map id_of (operation entries) ≡ id_in (outstanding entries)
same_operation entries = same_from 1 None None entries refl

none_out : (op : Option TableOp) → option_map id_of op ≡ None → op ≡ None
none_out None is = refl
none_out (Some op) is = cc

pub nothing_out : (entries : List Entry) → outstanding entries ≡ None → operation entries ≡ None
nothing_out entries is = none_out (operation entries) (same_operation entries ∙ ap id_in is)

-- the change leaves the snapshots
abbrev leaves_snaps : Option Change → Bool
leaves_snaps (Some (change.Mksnap id dir name)) = false
leaves_snaps (Some (change.Rmsnap id)) = false
leaves_snaps c = true

same_snaps : (b : Bool) (state new : State) → new.snaps ≡ state.snaps → (cond b state new).snaps ≡ state.snaps
same_snaps true state new same = refl
same_snaps false state new same = same

steady_snaps : (state : State) (client : ℕ) (c : Option Change) → leaves_snaps c ≡ true → (with_change state client c).snaps ≡ state.snaps
steady_snaps state client None is = refl
steady_snaps state client (Some (change.Mksnap id dir name)) is = cc
steady_snaps state client (Some (change.Rmsnap id)) is = cc
steady_snaps state client (Some c) is = same_snaps (is_refused state client c) state (make state client c) refl

-- nothing more is removed or purged
none_more : (p r : Bool) → (not p && r) ≡ (not (p || false) && (r || false))
none_more true r = refl
none_more false true = refl
none_more false false = refl

-- one more is removed, which wasn't purged
one_removed : (p r q : Bool) → (q ≡ true → p ≡ false) → ((not p && r) || q) ≡ (not (p || false) && (r || q))
one_removed true r true fresh = let never = fresh refl in cc
one_removed true r false fresh = refl
one_removed false r q fresh = refl

-- one more is purged
one_purged : (p r q : Bool) → (not q && (not p && r)) ≡ (not (p || q) && (r || false))
one_purged true r true = refl
one_purged true r false = refl
one_purged false r true = refl
one_purged false true false = refl
one_purged false false false = refl

module _ (table : Table) (entries : List Entry) (e : Entry) (legal : is_journal (entries ++ e ∷ []) ≡ true) (stands : TableStands table entries) where
  abbrev state : State
  state = state_after entries

  abbrev more : List Entry
  more = entries ++ e ∷ []

  journal : is_journal entries ≡ true
  journal = (last_legal [] entries e legal).0

  fine : is_legal entries e ≡ true
  fine = (last_legal [] entries e legal).1

  fitting : (w : What) → e.what ≡ w → fits entries w ≡ true
  fitting w is = ap (fits entries) (sym is) ∙ (both_true (is_made_by state e.client (change_in e.what)) (fits entries e.what) fine).1

  live_below : (s : SnapId) → is_listed s table.live ≡ true → s.0 ≤ applied entries
  live_below s is = live_upto entries journal s (sym (listed_live s state.snaps) ∙ ap (is_listed s) (sym stands.live) ∙ is)

  is_live_listed : (s : SnapId) → is_listed s table.live ≡ is_live_snap s state.snaps
  is_live_listed s = ap (is_listed s) stands.live ∙ listed_live s state.snaps

  nothing : outstanding entries ≡ None → table.outstanding ≡ None
  nothing is = stands.outstanding ∙ nothing_out entries is

  module _ (w : What) (is : e.what ≡ w) where
    next_is : (b : Bool) → prepares w ≡ b → next_snap more ≡ cond b (next_snap entries + 1) (next_snap entries)
    next_is b test = ap (λ n. 2 + n) (ap length (filter-append (λ (entry : Entry). prepares entry.what) entries (e ∷ [])) ∙ length-append (filter (λ (entry : Entry). prepares entry.what) entries) (filter (λ (entry : Entry). prepares entry.what) (e ∷ []))) ∙ counted b (ap prepares is ∙ test)
      where
        counted : (b : Bool) → prepares e.what ≡ b → 2 + (length (filter (λ (entry : Entry). prepares entry.what) entries) + length (filter (λ (entry : Entry). prepares entry.what) (e ∷ []))) ≡ cond b (next_snap entries + 1) (next_snap entries)
        counted true test = rw test (omega arith)
        counted false test = rw test (omega arith)

    applied_is : applied more ≡ applied_by (applied entries) w
    applied_is = applied_more entries e ∙ ap (applied_by (applied entries)) is

    operation_is : operation more ≡ operation_by w (operation entries)
    operation_is = fold-append (λ (before : Option TableOp) (entry : Entry). operation_by entry.what before) None entries (e ∷ []) ∙ ap (λ (x : What). operation_by x (operation entries)) is

    state_is : state_after more ≡ with_change state e.client (change_in w)
    state_is = state_more entries e ∙ ap (λ (x : What). with_change state e.client (change_in x)) is

    made_is : (made : Change) → change_in w ≡ Some made → state_after more ≡ make state e.client made
    made_is made it = state_is ∙ ap (with_change state e.client) it ∙ apply_made state e.client made (made_by_legal entries e made fine (ap change_in is ∙ it))

    snaps_stay : leaves_snaps (change_in w) ≡ true → table.live ≡ live_ids (state_after more)
    snaps_stay leaves = stands.live ∙ sym (ap (λ (s : State). ids_of s.snaps) state_is ∙ ap ids_of (steady_snaps state e.client (change_in w) leaves))

    listed_is : (s : SnapId) → is_listed s (to_purge more) ≡ (not (is_purged entries s || purges s w) && (is_listed s (removed_ids entries) || removes s w))
    listed_is s = listed_to_purge more s ∙ λ i. (not (purged i) && listed i)
      where
        purged : is_purged more s ≡ (is_purged entries s || purges s w)
        purged = purged_more entries e s ∙ ap (λ (x : What). is_purged entries s || purges s x) is

        listed : is_listed s (removed_ids more) ≡ (is_listed s (removed_ids entries) || removes s w)
        listed = removed_more entries e s ∙ ap (λ (x : What). is_listed s (removed_ids entries) || removes s x) is

    purge_stays : ((s : SnapId) → purges s w ≡ false) → ((s : SnapId) → removes s w ≡ false) → (s : SnapId) → is_listed s table.unpurged ≡ is_listed s (to_purge more)
    purge_stays none_purged none_removed s =
        stands.unpurged s ∙ listed_to_purge entries s ∙ none_more (is_purged entries s) (is_listed s (removed_ids entries))
        ∙ sym (listed_is s ∙ λ i. (not (is_purged entries s || none_purged s i) && (is_listed s (removed_ids entries) || none_removed s i)))

    -- an entry that says nothing of the table
    kept : prepares w ≡ false → ((n : ℕ) → applied_by n w ≡ n) → leaves_snaps (change_in w) ≡ true → ((s : SnapId) → purges s w ≡ false) → ((s : SnapId) → removes s w ≡ false) → ((op : Option TableOp) → operation_by w op ≡ op) → TableStands table more
    kept none same_last leaves none_purged none_removed same_op =
        let last : applied more ≡ applied entries = applied_is ∙ same_last (applied entries) in
        record {
          next = stands.next ∙ sym (next_is false none);
          made = subst (λ n. n ≤ table.last) (sym last) stands.made;
          live = snaps_stay leaves;
          unpurged = purge_stays none_purged none_removed;
          rising = stands.rising;
          outstanding = stands.outstanding ∙ sym (operation_is ∙ same_op (operation entries));
          awaited = λ id waits. ((stands.awaited id waits).0, subst (λ n. n < id.0) (sym last) (stands.awaited id waits).1);
        }

  create : (id : SnapId) → e.what ≡ what.PrepareCreate id → IsRuled entries (what.PrepareCreate id) → TableStands (called (what.PrepareCreate id) table) more
  create id is ruled =
      let last : applied more ≡ applied entries = applied_is (what.PrepareCreate id) is in
      let next : id.0 ≡ table.last + 1 = ruled.1 ∙ sym stands.next in
      record {
        next = ap (λ n. n + 1) ruled.1 ∙ sym (next_is (what.PrepareCreate id) is true refl);
        made = omega (arith, last, next, stands.made);
        live = snaps_stay (what.PrepareCreate id) is refl;
        unpurged = purge_stays (what.PrepareCreate id) is (λ s. refl) (λ s. refl);
        rising = stands.rising;
        outstanding = sym (operation_is (what.PrepareCreate id) is);
        awaited = λ other waits.
            let same : id ≡ other = cc in
            subst (λ (t : SnapId). (t.0 ≡ id.0) × (applied more < t.0)) same (refl, omega (arith, last, next, stands.made));
      }

  destroy : (id : SnapId) → e.what ≡ what.PrepareDestroy id → TableStands (called (what.PrepareDestroy id) table) more
  destroy id is =
      let last : applied more ≡ applied entries = applied_is (what.PrepareDestroy id) is in
      record {
        next = stands.next ∙ sym (next_is (what.PrepareDestroy id) is false refl);
        made = subst (λ n. n ≤ table.last) (sym last) stands.made;
        live = snaps_stay (what.PrepareDestroy id) is refl;
        unpurged = purge_stays (what.PrepareDestroy id) is (λ s. refl) (λ s. refl);
        rising = stands.rising;
        outstanding = sym (operation_is (what.PrepareDestroy id) is);
        awaited = λ other waits. cc;
      }

  roll_back : (id : SnapId) → e.what ≡ what.Rollback id → TableStands (called (what.Rollback id) table) more
  roll_back id is =
      let last : applied more ≡ applied entries = applied_is (what.Rollback id) is in
      record {
        next = stands.next ∙ sym (next_is (what.Rollback id) is false refl);
        made = subst (λ n. n ≤ table.last) (sym last) stands.made;
        live = snaps_stay (what.Rollback id) is refl;
        unpurged = purge_stays (what.Rollback id) is (λ s. refl) (λ s. refl);
        rising = stands.rising;
        outstanding = sym (operation_is (what.Rollback id) is);
        awaited = λ other waits. cc;
      }

  purge : (id : SnapId) → e.what ≡ what.Purgedone id → TableStands (called (what.Purgedone id) table) more
  purge id is =
      let last : applied more ≡ applied entries = applied_is (what.Purgedone id) is in
      record {
        next = stands.next ∙ sym (next_is (what.Purgedone id) is false refl);
        made = subst (λ n. n ≤ table.last) (sym last) stands.made;
        live = snaps_stay (what.Purgedone id) is refl;
        unpurged = λ s.
            listed_without id s table.unpurged
            ∙ ap (λ b. not (id.0 == s.0) && b) (stands.unpurged s ∙ listed_to_purge entries s)
            ∙ one_purged (is_purged entries s) (is_listed s (removed_ids entries)) (id.0 == s.0)
            ∙ sym (listed_is (what.Purgedone id) is s);
        rising = rises-without id table.unpurged stands.rising;
        outstanding = stands.outstanding ∙ sym (operation_is (what.Purgedone id) is);
        awaited = λ other waits. ((stands.awaited other waits).0, subst (λ n. n < other.0) (sym last) (stands.awaited other waits).1);
      }

  -- the operation that takes effect is the one that was prepared
  committed_is : (op : TableOp) → operation entries ≡ Some op → committed table ≡ after op table
  committed_is op ruled = ap (λ (o : Option TableOp). after_some o table) (stands.outstanding ∙ ruled)

  make_snap : (id : SnapId) (dir : Ino) (name : List ℕ) → e.what ≡ what.Mksnap id dir name → operation entries ≡ Some (Create id) → TableStands (committed table) more
  make_snap id dir name is ruled =
      let w : What = what.Mksnap id dir name in
      let last : applied more ≡ id.0 = applied_is (what.Mksnap id dir name) is in
      let waits = stands.awaited id (stands.outstanding ∙ ruled) in
      subst (λ (t : Table). TableStands t more) (sym (committed_is (Create id) ruled)) (record {
        next = stands.next ∙ sym (next_is (what.Mksnap id dir name) is false refl);
        made = omega (arith, last, waits.0);
        live =
            with_above id table.live (λ s listed. omega (arith, live_below s listed, waits.1))
            ∙ ap (λ (ids : List SnapId). ids ++ id ∷ []) stands.live
            ∙ sym (ap (λ (s : State). ids_of s.snaps) (made_is (what.Mksnap id dir name) is (change.Mksnap id dir name) refl) ∙ ids_more state.snaps id dir name);
        unpurged = purge_stays (what.Mksnap id dir name) is (λ s. refl) (λ s. refl);
        rising = stands.rising;
        outstanding = sym (operation_is (what.Mksnap id dir name) is);
        awaited = λ other waits. cc;
      })

  was_live : (id : SnapId) → e.what ≡ what.Rmsnap id → is_live_snap id state.snaps ≡ true
  was_live id is = live (is_live_snap id state.snaps) (made_by_legal entries e (change.Rmsnap id) fine (ap change_in is))
    where
      live : (b : Bool) → not b ≡ false → b ≡ true
      live true is = refl
      live false is = cc

  remove_snap : (id : SnapId) → e.what ≡ what.Rmsnap id → operation entries ≡ Some (Destroy id) → TableStands (committed table) more
  remove_snap id is ruled =
      let last : applied more ≡ applied entries = applied_is (what.Rmsnap id) is in
      subst (λ (t : Table). TableStands t more) (sym (committed_is (Destroy id) ruled)) (record {
        next = stands.next ∙ sym (next_is (what.Rmsnap id) is false refl);
        made = subst (λ n. n ≤ table.last) (sym last) stands.made;
        live =
            ap (without id) stands.live ∙ ids_less id state.snaps
            ∙ sym (ap (λ (s : State). ids_of s.snaps) (made_is (what.Rmsnap id) is (change.Rmsnap id) refl));
        unpurged = λ s.
            listed_with id s table.unpurged
            ∙ ap (λ b. b || id.0 == s.0) (stands.unpurged s ∙ listed_to_purge entries s)
            ∙ one_removed (is_purged entries s) (is_listed s (removed_ids entries)) (id.0 == s.0) (fresh s)
            ∙ sym (listed_is (what.Rmsnap id) is s);
        rising = rises-with_id id table.unpurged stands.rising;
        outstanding = sym (operation_is (what.Rmsnap id) is);
        awaited = λ other waits. cc;
      })
    where
      fresh : (s : SnapId) → (id.0 == s.0) ≡ true → is_purged entries s ≡ false
      fresh s same = subst (λ (n : ℕ). is_purged entries (record { 0 = n }) ≡ false) (eqb-true id.0 s.0 same) (live_unpurged entries journal id (was_live id is))

  follows : (w : What) → e.what ≡ w → IsRuled entries w → TableStands (called w table) more
  follows (what.PrepareCreate id) is ruled = create id is ruled
  follows (what.PrepareDestroy id) is ruled = destroy id is
  follows (what.Mksnap id dir name) is ruled = make_snap id dir name is ruled
  follows (what.Rmsnap id) is ruled = remove_snap id is ruled
  follows (what.Rollback id) is ruled = roll_back id is
  follows (what.Purgedone id) is ruled = purge id is
  follows w is ruled = kept w is refl (λ n. refl) refl (λ s. refl) (λ s. refl) (λ op. refl)

  pub leads_on : IsRuled entries e.what → TableStands (called e.what table) more
  leads_on ruled = follows e.what refl ruled

  -- a removed id is gone from the table
  not_awaited : (id : SnapId) → id.0 ≤ applied entries → (op : Option TableOp) → table.outstanding ≡ op → is_awaited id op ≡ false
  not_awaited id upto None is = refl
  not_awaited id upto (Some (Create new)) is = let above = (stands.awaited new is).1 in grind (arith, nat_tests)
  not_awaited id upto (Some (Destroy old)) is = refl

  gone : (id : SnapId) → e.what ≡ what.Purgedone id → is_gone id table ≡ true
  gone id is =
      let removed = removed_dead entries journal id (purge_fits entries id (fitting (what.Purgedone id) is)) in
      let upto : id.0 ≤ applied entries = made_upto_applied entries journal id removed.0 in
      let from_two : nat_le 2 id.0 ≡ true = le-leb 2 id.0 (made_from_two entries journal id removed.0) in
      let given : nat_le id.0 table.last ≡ true = le-leb id.0 table.last (omega (arith, upto, stands.made)) in
      let dead : is_listed id table.live ≡ false = is_live_listed id ∙ removed.1 in
      rw (from_two, given, dead, not_awaited id upto table.outstanding refl) refl

  can : (w : What) → e.what ≡ w → IsRuled entries w → CanCall w table
  can (what.PrepareCreate id) is ruled =
      let next : id.0 ≡ table.last + 1 = ruled.1 ∙ sym stands.next in
      (omega (arith, next, ltb-true id.0 4611686018427387904 ruled.2), nothing ruled.0, ap (λ (n : ℕ). let t : SnapId = record { 0 = n } in t) next)
  can (what.PrepareDestroy id) is ruled = (is_live_listed id ∙ ruled.1, nothing ruled.0)
  can (what.Mksnap id dir name) is ruled = stands.outstanding ∙ ruled
  can (what.Rmsnap id) is ruled = stands.outstanding ∙ ruled
  can (what.Purgedone id) is ruled = gone id is
  can w is ruled = tt

  pub can_call : IsRuled entries e.what → CanCall e.what table
  can_call ruled = can e.what refl ruled
