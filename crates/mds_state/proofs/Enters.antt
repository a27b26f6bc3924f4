-- One more entry that is written down.
use Rattle.std.proofs.Common.{◌≡◌, ℕ, ◌+◌, List, [], ◌∷◌, ◌++◌, length, filter, Bool, true, false, cond, Option, None, refl, sym, ap, subst, ◌∙◌, arith, append_assoc, length-append}
use Rattle.std.specs.List.{cons_option}
use Rattle.std.proofs.lemmas.List.{append-nil, drop-append-le}
use Rattle.std.proofs.lemmas.List.Elements.{filter-append, filter_map-append}
use Rattle.snap_ids.specs.declared.id.SnapId.{SnapId}
use Rattle.plain_types.specs.declared.entry.Entry.{Entry}
use Rattle.plain_types.specs.declared.entry.What.{What}
use Rattle.plain_types.specs.declared.entry.What.TheVariants as what
use Rattle.plain_journal.specs.Table.{prepares, next_snap, operation_by, outstanding_from, removed_by}
use Rattle.journal_table.specs.Stands.{TableStands}
use Rattle.journal_table.proofs.Steps.{leads_on}
use Rattle.meta_state.specs.Stands as meta
use Rattle.snap_table.specs.Table.{Table}
use Rattle.server_sessions.specs.Calls.{IsOf, AllOf}
use Rattle.step_table.specs.Background.{removed}
use Rattle.mds_state.specs.Parts.{WrittenParts}
use Rattle.mds_state.specs.Stands.{AllFollow, MayFollow, WrittenStands}
use Rattle.mds_state.specs.Written.{next_by, removed_in, Entered}

next_one : (w : What) (n : ℕ) → next_by w n ≡ cond (prepares w) (n + 1) n
next_one (what.PrepareCreate id) n = refl
next_one w n = refl

next_more : (entries : List Entry) (e : Entry) → next_snap (entries ++ e ∷ []) ≡ next_by e.what (next_snap entries)
next_more entries e =
    ap (λ n. 2 + n) (ap length (filter-append (λ (entry : Entry). prepares entry.what) entries (e ∷ [])) ∙ length-append (filter (λ (entry : Entry). prepares entry.what) entries) (filter (λ (entry : Entry). prepares entry.what) (e ∷ [])))
    ∙ counted (prepares e.what) refl ∙ sym (next_one e.what (next_snap entries))
  where
    counted : (b : Bool) → prepares e.what ≡ b → 2 + (length (filter (λ (entry : Entry). prepares entry.what) entries) + length (filter (λ (entry : Entry). prepares entry.what) (e ∷ []))) ≡ cond (prepares e.what) (next_snap entries + 1) (next_snap entries)
    counted true test = rw test (omega arith)
    counted false test = rw test (omega arith)

out_more : (number : ℕ) (before : Option (SnapId × ℕ)) (entries : List Entry) (e : Entry) → outstanding_from number before (entries ++ e ∷ []) ≡ operation_by e.what (number + length entries) (outstanding_from number before entries)
out_more number before [] e = let same : number + 0 ≡ number = omega arith in ap (λ (n : ℕ). operation_by e.what n before) (sym same)
out_more number before (x ∷ entries) e =
    out_more (number + 1) (operation_by x.what number before) entries e
    ∙ (let same : (number + 1) + length entries ≡ number + length (x ∷ entries) = omega arith in ap (λ (n : ℕ). operation_by e.what n (outstanding_from number before (x ∷ entries))) same)

removed_one : (w : What) → cons_option (removed_by w) [] ≡ removed_in w
removed_one (what.Rmsnap id) = refl
removed_one w = refl

removed_more : (entries : List Entry) (e : Entry) → removed (entries ++ e ∷ []) ≡ removed entries ++ removed_in e.what
removed_more entries e = filter_map-append (λ (entry : Entry). removed_by entry.what) entries (e ∷ []) ∙ ap (λ (ids : List SnapId). removed entries ++ ids) (removed_one e.what)

all_more : (clients : ℕ) (entries : List Entry) (e : Entry) → AllOf clients entries → IsOf clients e → AllOf clients (entries ++ e ∷ [])
all_more clients [] e all is = (is, tt)
all_more clients (x ∷ entries) e all is = (all.0, all_more clients entries e all.1 is)

follow_end : (clients : ℕ) (done entries : List Entry) (e : Entry) → AllFollow clients done entries → MayFollow clients (done ++ entries) e → AllFollow clients done (entries ++ e ∷ [])
follow_end clients done [] e all may = (subst (λ (l : List Entry). MayFollow clients l e) (append-nil done) may, tt)
follow_end clients done (x ∷ entries) e all may =
    (all.0, follow_end clients (done ++ x ∷ []) entries e all.1 (subst (λ (l : List Entry). MayFollow clients l e) (sym (append_assoc done (x ∷ []) entries)) may))

pub enters : (e : Entry) (old new : WrittenParts) (clients : ℕ) (entries : List Entry) (done : ℕ) → Entered e old new → WrittenStands old clients entries done → MayFollow clients entries e → WrittenStands new clients (entries ++ e ∷ []) done
enters e old new clients entries done entered stands may = record {
  tree = tree;
  table = subst (λ (t : Table). TableStands t (entries ++ e ∷ [])) (sym entered.table) (leads_on old.table entries e tree.journal stands.table may.ruled);
  next = entered.next ∙ ap (next_by e.what) stands.next ∙ sym (next_more entries e);
  operation = entered.operation entries stands.tree may.legal ∙ (λ i. operation_by e.what (counted i) (stands.operation i)) ∙ sym (out_more 1 None entries e);
  durable = entered.durable ∙ stands.durable;
  buffered = entered.buffered ∙ ap (λ (es : List Entry). es ++ e ∷ []) stands.buffered ∙ sym (drop-append-le done entries (e ∷ []) (omega (arith, stands.count)));
  count = omega (arith, ap length entered.buffered, length-append old.buffered (e ∷ []), length-append entries (e ∷ []), stands.count);
  removing = entered.removing ∙ ap (λ (ids : List SnapId). ids ++ removed_in e.what) stands.removing ∙ sym (removed_more old.buffered e) ∙ ap removed (sym entered.buffered);
  of_clients = all_more clients entries e stands.of_clients may.whose;
  all = follow_end clients [] entries e stands.all may;
}
  where
    tree : meta.StandsFor new.tree (entries ++ e ∷ [])
    tree = entered.tree entries stands.tree may.legal

    counted : length (entries ++ e ∷ []) ≡ 1 + length entries
    counted = omega (arith, length-append entries (e ∷ []))
