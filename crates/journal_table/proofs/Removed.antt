-- The removed snapshots of a journal: they were made, and live no more, and what was purged is one of them.
use Rattle.std.proofs.Common.{◌≡◌, ℕ, ◌≤◌, Bool, true, false, not, ◌||◌, ◌&&◌, ◌==◌, List, [], ◌∷◌, ◌++◌, filter_map, refl, sym, ap, subst, ◌∙◌, arith}
use Rattle.std.specs.List.{cons_option}
use Rattle.std.proofs.lemmas.Bool.{eqb-true}
use Rattle.std.proofs.lemmas.List.Elements.{filter_map-append}
use Rattle.std.proofs.lemmas.List.Folds.{list_any-append}
use Rattle.snap_ids.specs.declared.id.SnapId.{SnapId}
use Rattle.snap_ids.specs.Context.{is_listed}
use Rattle.plain_types.specs.declared.change.Change.TheVariants as change
use Rattle.plain_types.specs.declared.entry.Entry.{Entry}
use Rattle.plain_types.specs.declared.entry.What.{What}
use Rattle.plain_types.specs.declared.entry.What.TheVariants as what
use Rattle.plain_tree.specs.State.{State}
use Rattle.plain_journal.specs.Entries.{change_in, with_change, state_after, makes_snap, applied}
use Rattle.plain_journal.specs.Coverage.{purges, is_purged}
use Rattle.plain_journal.specs.Legal.{is_made_by, fits, is_legal, is_journal}
use Rattle.plain_journal.specs.Table.{removed_by, to_purge}
use Rattle.journal_laws.specs.Entries.{was_made}
use Rattle.journal_laws.proofs.Steps.{both_true, of_journals, state_more, apply_made, made_by_legal}
use Rattle.journal_laws.proofs.Rising.{made_upto_applied}
use Rattle.journal_moments.specs.Moments.{is_live_snap}
use Rattle.journal_moments.proofs.Lives.{or_left, live_more, live_made, new_id, applied_rises}
use Rattle.journal_table.proofs.Induct.{of_each}
use Rattle.journal_table.proofs.Lists.{listed_filter, dead_then}

or_none : (b : Bool) → (b || false) ≡ b
or_none true = refl
or_none false = refl

not_false : (b : Bool) → not b ≡ false → b ≡ true
not_false true is = refl
not_false false is = cc

-- the entry removes the snapshot
abbrev pub removes : SnapId → What → Bool
removes s (what.Rmsnap id) = id.0 == s.0
removes s w = false

-- the ids that the entries remove
abbrev pub removed_ids : List Entry → List SnapId
removed_ids entries = filter_map (λ (entry : Entry). removed_by entry.what) entries

module _ (entries : List Entry) (e : Entry) (s : SnapId) where
  one : (w : What) → is_listed s (cons_option (removed_by w) []) ≡ removes s w
  one (what.Rmsnap id) = or_none (id.0 == s.0)
  one w = refl

  pub removed_more : is_listed s (removed_ids (entries ++ e ∷ [])) ≡ (is_listed s (removed_ids entries) || removes s e.what)
  removed_more =
      ap (is_listed s) (filter_map-append (λ (entry : Entry). removed_by entry.what) entries (e ∷ []))
      ∙ list_any-append (λ (id : SnapId). id.0 == s.0) (removed_ids entries) (filter_map (λ (entry : Entry). removed_by entry.what) (e ∷ []))
      ∙ ap (λ (b : Bool). is_listed s (removed_ids entries) || b) (one e.what)

  pub purged_more : is_purged (entries ++ e ∷ []) s ≡ (is_purged entries s || purges s e.what)
  purged_more =
      list_any-append (λ (entry : Entry). purges s entry.what) entries (e ∷ [])
      ∙ ap (λ (b : Bool). is_purged entries s || b) (or_none (purges s e.what))

  made_more : was_made s (entries ++ e ∷ []) ≡ (was_made s entries || makes_snap s e.what)
  made_more =
      list_any-append (λ (entry : Entry). makes_snap s entry.what) entries (e ∷ [])
      ∙ ap (λ (b : Bool). was_made s entries || b) (or_none (makes_snap s e.what))

-- what is to be purged is removed, and not purged
pub listed_to_purge : (entries : List Entry) (s : SnapId) → is_listed s (to_purge entries) ≡ (not (is_purged entries s) && is_listed s (removed_ids entries))
listed_to_purge entries s = listed_filter (λ (t : SnapId). not (is_purged entries t)) s (removed_ids entries)

-- the change in a removal is made
removal_legal : (done : List Entry) (e : Entry) (id : SnapId) → is_legal done e ≡ true → e.what ≡ what.Rmsnap id → is_live_snap id (state_after done).snaps ≡ true
removal_legal done e id fine is = not_false _ (made_by_legal done e (change.Rmsnap id) fine (ap change_in is))

removal_snaps : (done : List Entry) (e : Entry) (id : SnapId) → is_legal done e ≡ true → e.what ≡ what.Rmsnap id → is_live_snap id (state_after (done ++ e ∷ [])).snaps ≡ false
removal_snaps done e id fine is =
    ap (λ (state : State). is_live_snap id state.snaps) (state_more done e ∙ ap (with_change (state_after done) e.client) (ap change_in is) ∙ apply_made (state_after done) e.client (change.Rmsnap id) (made_by_legal done e (change.Rmsnap id) fine (ap change_in is)))
    ∙ dead_then id (state_after done).snaps

-- a removed snapshot was made, and lives no more
abbrev pub Removed : List Entry → Type 0
Removed entries = (s : SnapId) → is_listed s (removed_ids entries) ≡ true → (was_made s entries ≡ true) × (is_live_snap s (state_after entries).snaps ≡ false)

module _ (done : List Entry) (e : Entry) (journal : is_journal done ≡ true) (fine : is_legal done e ≡ true) (s : SnapId) where
  fitting : fits done e.what ≡ true
  fitting = (both_true (is_made_by (state_after done) e.client (change_in e.what)) (fits done e.what) fine).1

  still_dead : was_made s done ≡ true → is_live_snap s (state_after done).snaps ≡ false → (b : Bool) → is_live_snap s (state_after (done ++ e ∷ [])).snaps ≡ b → b ≡ false
  still_dead made dead false is = refl
  still_dead made dead true is =
      let makes : makes_snap s e.what ≡ true = subst (λ (b : Bool). (b || makes_snap s e.what) ≡ true) dead (live_more done e s is) in
      absurd (omega (arith, (new_id done e.what s fitting makes).0, made_upto_applied done journal s made))

  removed_earlier : (was_made s done ≡ true) × (is_live_snap s (state_after done).snaps ≡ false) → (was_made s (done ++ e ∷ []) ≡ true) × (is_live_snap s (state_after (done ++ e ∷ [])).snaps ≡ false)
  removed_earlier old =
      (made_more done e s ∙ or_left (was_made s done) (makes_snap s e.what) old.0, still_dead old.0 old.1 _ refl)

  same_id : (id : SnapId) → (id.0 == s.0) ≡ true → id ≡ s
  same_id id is = ap (λ (n : ℕ). let t : SnapId = record { 0 = n } in t) (eqb-true id.0 s.0 is)

  removed_now : (w : What) → e.what ≡ w → removes s w ≡ true → (was_made s (done ++ e ∷ []) ≡ true) × (is_live_snap s (state_after (done ++ e ∷ [])).snaps ≡ false)
  removed_now (what.Rmsnap id) is same =
      let made : was_made id done ≡ true = live_made done journal id (removal_legal done e id fine is) in
      subst (λ (t : SnapId). (was_made t (done ++ e ∷ []) ≡ true) × (is_live_snap t (state_after (done ++ e ∷ [])).snaps ≡ false)) (same_id id same)
      (made_more done e id ∙ or_left (was_made id done) (makes_snap id e.what) made, removal_snaps done e id fine is)
  removed_now w is same = cc

  removed_either : (b : Bool) → is_listed s (removed_ids done) ≡ b → (b || removes s e.what) ≡ true → Removed done → (was_made s (done ++ e ∷ []) ≡ true) × (is_live_snap s (state_after (done ++ e ∷ [])).snaps ≡ false)
  removed_either true was is old = removed_earlier (old s was)
  removed_either false was is old = removed_now e.what refl is

pub removed_dead : (entries : List Entry) → is_journal entries ≡ true → Removed entries
removed_dead entries legal = of_each Removed (λ s is. cc) more entries legal
  where
    more : (done : List Entry) (e : Entry) → is_journal done ≡ true → Removed done → is_legal done e ≡ true → Removed (done ++ e ∷ [])
    more done e journal old fine s is = removed_either done e journal fine s (is_listed s (removed_ids done)) refl (sym (removed_more done e s) ∙ is) old

-- what was purged was removed
abbrev pub Purged : List Entry → Type 0
Purged entries = (s : SnapId) → is_purged entries s ≡ true → is_listed s (removed_ids entries) ≡ true

-- what a report of a purge says fits
pub purge_fits : (entries : List Entry) (id : SnapId) → is_listed id (to_purge entries) ≡ true → is_listed id (removed_ids entries) ≡ true
purge_fits entries id is = (both_true (not (is_purged entries id)) (is_listed id (removed_ids entries)) (sym (listed_to_purge entries id) ∙ is)).1

pub purged_removed : (entries : List Entry) → is_journal entries ≡ true → Purged entries
purged_removed entries legal = of_journals Purged (λ s is. cc) more entries legal
  where
    now : (done : List Entry) (s : SnapId) (w : What) → fits done w ≡ true → purges s w ≡ true → is_listed s (removed_ids done) ≡ true
    now done s (what.Purgedone id) fine same =
        subst (λ (n : ℕ). is_listed (record { 0 = n }) (removed_ids done) ≡ true) (eqb-true id.0 s.0 same) (purge_fits done id fine)
    now done s w fine same = cc

    more : (done : List Entry) (e : Entry) → Purged done → is_legal done e ≡ true → Purged (done ++ e ∷ [])
    more done e old fine s is = removed_more done e s ∙ or_left (is_listed s (removed_ids done)) (removes s e.what) (either (is_purged done s) refl (sym (purged_more done e s) ∙ is))
      where
        either : (b : Bool) → is_purged done s ≡ b → (b || purges s e.what) ≡ true → is_listed s (removed_ids done) ≡ true
        either true was is = old s was
        either false was is = now done s e.what (both_true (is_made_by (state_after done) e.client (change_in e.what)) (fits done e.what) fine).1 is

-- a live snapshot wasn't purged
pub live_unpurged : (entries : List Entry) → is_journal entries ≡ true → (s : SnapId) → is_live_snap s (state_after entries).snaps ≡ true → is_purged entries s ≡ false
live_unpurged entries legal s live = go (is_purged entries s) refl
  where
    go : (b : Bool) → is_purged entries s ≡ b → b ≡ false
    go true is =
        let dead = (removed_dead entries legal s (purged_removed entries legal s is)).1 in
        let never : true ≡ false = sym live ∙ dead in cc
    go false is = refl

-- ids begin at 2
pub made_from_two : (entries : List Entry) → is_journal entries ≡ true → (s : SnapId) → was_made s entries ≡ true → 2 ≤ s.0
made_from_two entries legal = (of_journals FromTwo (omega arith, λ s is. cc) more entries legal).1
  where
    FromTwo : List Entry → Type 0
    FromTwo done = (1 ≤ applied done) × ((s : SnapId) → was_made s done ≡ true → 2 ≤ s.0)

    more : (done : List Entry) (e : Entry) → FromTwo done → is_legal done e ≡ true → FromTwo (done ++ e ∷ [])
    more done e old fine = (omega (arith, old.0, applied_rises done e fine), λ s made. either s (was_made s done) refl (sym (made_more done e s) ∙ made))
      where
        either : (s : SnapId) (b : Bool) → was_made s done ≡ b → (b || makes_snap s e.what) ≡ true → 2 ≤ s.0
        either s true was is = old.1 s was
        either s false was is = omega (arith, old.0, (new_id done e.what s (both_true (is_made_by (state_after done) e.client (change_in e.what)) (fits done e.what) fine).1 is).0)
