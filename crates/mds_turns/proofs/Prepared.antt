-- What is prepared, and which operation is outstanding with that.
use Rattle.std.proofs.Common.{◌≡◌, ℕ, List, [], ◌∷◌, fold, true, Option, None, Some, option_map, refl, sym, ap, ◌∙◌}
use Rattle.snap_ids.specs.declared.id.SnapId.{SnapId}
use Rattle.plain_types.specs.declared.entry.Entry.{Entry}
use Rattle.plain_types.specs.declared.entry.What.{What}
use Rattle.plain_types.specs.declared.entry.What.TheVariants as what
use Rattle.plain_types.specs.declared.request.Request.{Request}
use Rattle.plain_types.specs.declared.request.Request.TheVariants as request
use Rattle.plain_journal.specs.Table.{outstanding}
use Rattle.snap_table.specs.declared.op.TableOp.{TableOp}
use Rattle.snap_table.specs.declared.op.TableOp.TheVariants.{Create, Destroy}
use Rattle.snap_table.specs.Op.{id_of}
use Rattle.journal_table.specs.Stands.{operation, operation_by}
use Rattle.journal_table.proofs.Steps.{same_operation}
use Rattle.run_laws.specs.Prepared.{asks_for, is_mkdir, is_rmdir, prepared, prepared_by}
use Rattle.step_table.specs.ServerState.{Asked, Server}
use Rattle.mds_changes.specs.Changes.{is_change}
use Rattle.mds_turns.specs.Finishing.{IsPrepared}

-- what prepares an operation
abbrev pub said_of : TableOp → What
said_of (Create id) = what.PrepareCreate id
said_of (Destroy id) = what.PrepareDestroy id

same_by : (w : What) (o : Option TableOp) → prepared_by w (option_map said_of o) ≡ option_map said_of (operation_by w o)
same_by (what.PrepareCreate id) o = refl
same_by (what.PrepareDestroy id) o = refl
same_by (what.Mksnap id dir name) o = refl
same_by (what.Rmsnap id) o = refl
same_by (what.Rollback id) o = refl
same_by w o = refl

same_from : (entries : List Entry) (said : Option What) (o : Option TableOp) → said ≡ option_map said_of o
    → fold (λ (before : Option What) (entry : Entry). prepared_by entry.what before) said entries ≡ option_map said_of (fold (λ (before : Option TableOp) (entry : Entry). operation_by entry.what before) o entries)
same_from [] said o is = is
same_from (e ∷ entries) said o is = same_from entries (prepared_by e.what said) (operation_by e.what o) (ap (prepared_by e.what) is ∙ same_by e.what o)

prepared_is : (entries : List Entry) → prepared entries ≡ option_map said_of (operation entries)
prepared_is entries = same_from entries None None refl

-- the operation that is outstanding has the id
out_is : (entries : List Entry) (id : SnapId) (number : ℕ) → outstanding entries ≡ Some (id, number) → option_map id_of (operation entries) ≡ Some id
out_is entries id number is = same_operation entries ∙ ap (option_map (λ (o : SnapId × ℕ). o.0)) is

not_both : (asked : Request) → is_mkdir asked ≡ true → is_rmdir asked ≡ true → ⊥
not_both (request.Mkdir path) makes removes = cc
not_both asked makes removes = cc

module _ (s : Server) (a : Asked) (id : SnapId) (was : IsPrepared s a id) where
  -- what was prepared, by the operation
  asks : (o : TableOp) → operation s.entries ≡ Some o → asks_for (said_of o) a.request ≡ true
  asks o is = was.asks (said_of o) (prepared_is s.entries ∙ ap (option_map said_of) is)

  has : (o : TableOp) → operation s.entries ≡ Some o → id_of o ≡ id
  has o is = let same : Some (id_of o) ≡ Some id = sym (ap (option_map id_of) is) ∙ out_is s.entries id was.number was.out in cc

  making_by : (o : Option TableOp) → operation s.entries ≡ o → is_mkdir a.request ≡ true → operation s.entries ≡ Some (Create id)
  making_by None is makes = let none : option_map id_of None ≡ Some id = sym (ap (option_map id_of) is) ∙ out_is s.entries id was.number was.out in cc
  making_by (Some (Create new)) is makes = is ∙ ap (λ (i : SnapId). Some (Create i)) (has (Create new) is)
  making_by (Some (Destroy old)) is makes = absurd (not_both a.request makes (asks (Destroy old) is))

  -- a creation for a `mkdir`, a removal for an `rmdir`
  pub making : is_mkdir a.request ≡ true → operation s.entries ≡ Some (Create id)
  making makes = making_by (operation s.entries) refl makes

  removing_by : (o : Option TableOp) → operation s.entries ≡ o → is_rmdir a.request ≡ true → operation s.entries ≡ Some (Destroy id)
  removing_by None is removes = let none : option_map id_of None ≡ Some id = sym (ap (option_map id_of) is) ∙ out_is s.entries id was.number was.out in cc
  removing_by (Some (Destroy old)) is removes = is ∙ ap (λ (i : SnapId). Some (Destroy i)) (has (Destroy old) is)
  removing_by (Some (Create new)) is removes = absurd (not_both a.request (asks (Create new) is) removes)

  pub removing : is_rmdir a.request ≡ true → operation s.entries ≡ Some (Destroy id)
  removing removes = removing_by (operation s.entries) refl removes

  change_by : (o : Option TableOp) → operation s.entries ≡ o → is_change a.request ≡ true
  change_by None is = let none : option_map id_of None ≡ Some id = sym (ap (option_map id_of) is) ∙ out_is s.entries id was.number was.out in cc
  change_by (Some (Create new)) is = makes a.request (asks (Create new) is)
    where
      makes : (asked : Request) → is_mkdir asked ≡ true → is_change asked ≡ true
      makes (request.Mkdir path) one = refl
      makes asked one = cc
  change_by (Some (Destroy old)) is = removes a.request (asks (Destroy old) is)
    where
      removes : (asked : Request) → is_rmdir asked ≡ true → is_change asked ≡ true
      removes (request.Rmdir path) one = refl
      removes asked one = cc

  -- the request asks for a change
  pub is_one : is_change a.request ≡ true
  is_one = change_by (operation s.entries) refl
