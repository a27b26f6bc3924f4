use Rattle.std.proofs.Common.{Result, Ok, Err, IfOk, IfErr, sym, ◌∙◌}
use Rattle.snap_ids.specs.declared.id.SnapId.{SnapId}
use Rattle.snap_realm.specs.declared.error.RealmError.{RealmError}
use Rattle.snap_realm.proofs.Named.{id_law}
use Rattle.snap_realm.proofs.tree.RealmTree.drop_snap.Goals as goal

ok_weaker : (P Q : SnapId → Type 0) (r : Result SnapId RealmError) → ((x : SnapId) → P x → Q x) → IfOk r P → IfOk r Q
ok_weaker P Q (Ok x) next h = next x h
ok_weaker P Q (Err e) next h = tt

err_weaker : (P Q : RealmError → Type 0) (r : Result SnapId RealmError) → ((x : RealmError) → P x → Q x) → IfErr r P → IfErr r Q
err_weaker P Q (Ok x) next h = tt
err_weaker P Q (Err e) next h = next e h

pub returns-clause-id : goal.returns-clause-id
returns-clause-id c = ok_weaker _ _ c.unname.result (λ id h family stands. sym (id_law c.args.self.now family stands c.args.dir c.args.name.now) ∙ h) c.unname.ensures.id

pub returns-clause-no_snap : goal.returns-clause-no_snap
returns-clause-no_snap c = err_weaker _ _ c.unname.result (λ error h. (h.0, λ family stands. sym (id_law c.args.self.now family stands c.args.dir c.args.name.now) ∙ h.1)) c.unname.ensures.no_snap
