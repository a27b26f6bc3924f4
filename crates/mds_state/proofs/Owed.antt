-- Who owes a flush, by what a file's context lists.
use Rattle.std.proofs.Common.{◌≡◌, ℕ, List, [], ◌∷◌, reverse, Bool, true, false, not, cond, ◌||◌, ◌&&◌, Option, None, Some, refl, sym, ap, ◌∙◌}
use Rattle.std.specs.Prelude.{◌==◌, find, nat_lt}
use Rattle.std.specs.List.{list_all}
use Rattle.std.proofs.lemmas.Bool.{eqb-true}
use Rattle.std.proofs.lemmas.List.{reverse-append}
use Rattle.std.proofs.lemmas.List.Folds.{list_any-append}
use Rattle.std.proofs.lemmas.Map.Views.{any-filter_same}
use Rattle.snap_ids.specs.declared.id.Ino.{Ino}
use Rattle.snap_ids.specs.declared.id.SnapId.{SnapId}
use Rattle.snap_ids.specs.Context.{is_listed}
use Rattle.plain_types.specs.declared.entry.Entry.{Entry}
use Rattle.plain_tree.specs.State.{same_ino}
use Rattle.plain_journal.specs.Coverage.{context, covering, is_purged, kept}
use Rattle.plain_journal.specs.Entries.{state_after}
use Rattle.plain_journal.specs.Legal.{is_made_file}
use Rattle.held_files.specs.Files.{is_write}
use Rattle.server_holders.specs.Answers.{owing_by}
use Rattle.step_table.specs.Capabilities.{owes, owing}
use Rattle.step_table.specs.ServerState.{Holder, Server}
use Rattle.mds_state.specs.Stands.{is_of_file}

-- a list turned round has the same ids
listed_turned : (s : SnapId) (ids : List SnapId) → is_listed s (reverse ids) ≡ is_listed s ids
listed_turned s [] = refl
listed_turned s (id ∷ ids) =
    ap (is_listed s) (reverse-append (id ∷ []) ids)
    ∙ list_any-append (λ (t : SnapId). t.0 == s.0) (reverse ids) (id ∷ [])
    ∙ ap (λ (b : Bool). b || (id.0 == s.0 || false)) (listed_turned s ids)
    ∙ turned (is_listed s ids) (id.0 == s.0)
  where
    turned : (a b : Bool) → (a || (b || false)) ≡ (b || a)
    turned true true = refl
    turned true false = refl
    turned false true = refl
    turned false false = refl

-- an id that isn't purged is kept
listed_kept : (entries : List Entry) (s : SnapId) → is_purged entries s ≡ false → (ids : List SnapId) → is_listed s (kept entries ids) ≡ is_listed s ids
listed_kept entries s fresh ids =
    any-filter_same (λ (t : SnapId). t.0 == s.0) (λ (t : SnapId). not (is_purged entries t)) true
    (λ (t : SnapId) is. ap (λ (n : ℕ). not (is_purged entries (record { 0 = n }))) (eqb-true t.0 s.0 is) ∙ ap not fresh)
    ids

-- so a context lists it exactly where it covers the file
pub listed_is : (entries : List Entry) (s : SnapId) (ino : Ino) → is_purged entries s ≡ false → is_listed s (context entries ino).ids ≡ is_listed s (covering entries ino)
listed_is entries s ino fresh = listed_turned s (kept entries (covering entries ino)) ∙ listed_kept entries s fresh (covering entries ino)

-- nobody owes a flush of a file that wasn't made
none_owes : (s : Server) (ino : Ino) (id : SnapId) → is_made_file (state_after s.entries) ino ≡ false → (holders : List Holder) → list_all (is_of_file s.entries) holders ≡ true → find (owes s ino id) holders ≡ None
none_owes s ino id unmade [] all = refl
none_owes s ino id unmade (h ∷ holders) all = go (same_ino h.ino ino) refl (is_of_file s.entries h) refl all (none_owes s ino id unmade holders) (is_write h.mode) (nat_lt h.settled.0 id.0) (is_listed id (covering s.entries ino))
  where
    go : (b : Bool) → same_ino h.ino ino ≡ b → (d : Bool) → is_of_file s.entries h ≡ d → (d && list_all (is_of_file s.entries) holders) ≡ true
        → (list_all (is_of_file s.entries) holders ≡ true → find (owes s ino id) holders ≡ None)
        → (w n l : Bool) → cond (((b && w) && n) && l) (Some h) (find (owes s ino id) holders) ≡ None
    go true same true made rest more w n l =
        let made_too : is_made_file (state_after s.entries) ino ≡ true = ap (λ (n : ℕ). is_made_file (state_after s.entries) (record { 0 = n })) (sym (eqb-true h.ino.0 ino.0 same)) ∙ made in
        let never : true ≡ false = sym made_too ∙ unmade in cc
    go true same false made rest more w n l = cc
    go false other true made rest more w n l = more rest
    go false other false made rest more w n l = cc

none_uncovered : (id : SnapId) (w : Option (ℕ × SnapId)) → owing_by false id w ≡ None
none_uncovered id None = refl
none_uncovered id (Some w) = go (nat_lt w.1.0 id.0)
  where
    go : (b : Bool) → cond (b && false) (Some w.0) None ≡ None
    go true = refl
    go false = refl

module _ (s : Server) (ino : Ino) (id : SnapId) (w : Option (ℕ × SnapId)) (same : owing_by (is_listed id (covering s.entries ino)) id w ≡ owing s ino id) where
  -- the file's writer owes its flush where the snapshot covers it
  pub owes_covered : (covers made : Bool) → covers ≡ (made && is_listed id (covering s.entries ino)) → covers ≡ true → owing_by true id w ≡ owing s ino id
  owes_covered covers made is here = ap (λ (b : Bool). owing_by b id w) (sym (right made (is_listed id (covering s.entries ino)) (sym is ∙ here))) ∙ same
    where
      right : (a b : Bool) → (a && b) ≡ true → b ≡ true
      right true b is = is
      right false b is = cc

  -- and else nobody does
  pub owes_uncovered : (covers : Bool) → list_all (is_of_file s.entries) s.holders ≡ true → covers ≡ (is_made_file (state_after s.entries) ino && is_listed id (covering s.entries ino)) → covers ≡ false → None ≡ owing s ino id
  owes_uncovered covers all is missing = go (is_made_file (state_after s.entries) ino) refl (is_listed id (covering s.entries ino)) refl (sym is ∙ missing)
    where
      go : (a : Bool) → is_made_file (state_after s.entries) ino ≡ a → (b : Bool) → is_listed id (covering s.entries ino) ≡ b → (a && b) ≡ false → None ≡ owing s ino id
      go true made true listed both = cc
      go true made false listed both = sym (none_uncovered id w) ∙ ap (λ (b : Bool). owing_by b id w) (sym listed) ∙ same
      go false unmade b listed both = ap (λ (found : Option Holder). elim found as (λ _. Option ℕ) [ None ↦ None | Some h ↦ Some h.client ]) (sym (none_owes s ino id unmade s.holders all))
