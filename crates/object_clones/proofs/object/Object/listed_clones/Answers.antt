use Rattle.std.proofs.Common.{◌≡◌, ◌++◌, ◌∷◌, [], List, Option, map, append-nil, sym, ◌∙◌, ap}
use Rattle.std.specs.Option.{option_map, option_to_list}
use Rattle.std.proofs.lemmas.List.{take_all}
use Rattle.snap_ids.specs.declared.id.SnapId.{SnapId}
use Rattle.object_clones.specs.declared.object.Saved.{Saved}
use Rattle.object_clones.proofs.Clones.{pairs_all, saved_pair}
use Rattle.object_clones.proofs.object.Object.listed_clones.Goals as goal
use Rattle.object_clones.proofs.object.Object.listed_clones.Goals.{in-Some+in_ok-listed-2+in_ok-push-2, in_default}

pub returns : goal.returns
returns c =
    let older : List Saved = c.args.self.now.older.items in
    let all : c.loop-saved.clones ≡ map saved_pair older = c.loop-saved.invariant ∙ ap (map saved_pair)
    (take_all c.loop-saved.saved-index c.deref-saved-items.result.now c.loop-saved-test.false ∙ c.deref-saved-items.ensures.value) in
    let last : c.match-self.clones ≡ map saved_pair older ++ option_to_list (option_map saved_pair c.args.self.now.newest) =
    elim c.match-self.branch [
      | in-Some+in_ok-listed-2+in_ok-push-2 w ↦ w.clones-is ∙ w.in_ok-push-2.ensures.ok
          ∙ ap (λ (ps : List (SnapId × List SnapId)). ps ++ w.in_ok-listed-2.field-0 ∷ []) all
          ∙ ap (λ (p : SnapId × List SnapId). map saved_pair older ++ p ∷ []) w.in_ok-listed-2.ensures
          ∙ ap (λ (o : Option Saved). map saved_pair older ++ option_to_list (option_map saved_pair o)) (sym w.in-Some.is)
      | in_default w ↦ w.clones-is ∙ all ∙ sym (append-nil (map saved_pair older))
          ∙ ap (λ (o : Option Saved). map saved_pair older ++ option_to_list (option_map saved_pair o)) (sym w.in_default.is)
    ] in
    last ∙ sym (pairs_all older c.args.self.now.newest)
