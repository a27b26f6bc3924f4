use Rattle.std.proofs.Common.{◌≡◌, ◌<◌, ◌++◌, List, Bool, map, filter, length, get_or, set, take, drop, append-nil, sym, ◌∙◌, ap, rules, arith}
use Rattle.std.proofs.lemmas.Fn.{filter_same}
use Rattle.std.proofs.lemmas.List.{map-set, get_or-map, length-map, take_at, take_all, drop_all}
use Rattle.std.proofs.lemmas.List.Edits.{map_over_more}
use Rattle.object_clones.specs.declared.object.Saved.{Saved}
use Rattle.object_clones.specs.Objects.{Kept, kept, without, serves_some}
use Rattle.object_clones.proofs.Clones.{filter-map}
use Rattle.object_clones.proofs.object.purge_all.Goals as goal

pub loop-saved-preserved : goal.loop-saved-preserved
loop-saved-preserved c =
    let items : List Saved = c.loop-saved.saved-items in
    let i = c.loop-saved.saved-index in
    let xs : List Kept = map kept c.args.clones.now.items in
    let x : Saved = c.saved-item.result in
    let long : length xs ≡ length c.deref_mut-saved-items.result.now = length-map c.args.clones.now.items kept ∙ ap length (sym c.deref_mut-saved-items.ensures.value) in
    let within : i < length items = omega (arith, c.loop-saved-test.true, c.loop-saved.auto.saved-items) in
    let at : kept x ≡ get_or (map kept items) i (kept x) = ap kept c.saved-item.is ∙ sym (get_or-map kept items i x (kept x) within) in
    map-set kept items i c.purge.new.self
    ∙ ap (λ (k : Kept). set (map kept items) i k) (c.purge.ensures ∙ ap (λ (y : Saved). without c.args.s (kept y)) (sym c.saved-item.is))
    ∙ map_over_more (without c.args.s) xs (map kept items) i (kept x) (omega (arith, long, c.loop-saved-test.true)) c.loop-saved.invariant at

pub returns : goal.returns
returns c =
    let items : List Saved = c.loop-saved.saved-items in
    let i = c.loop-saved.saved-index in
    let xs : List Kept = map kept c.args.clones.now.items in
    let long : length xs ≡ length c.deref_mut-saved-items.result.now = length-map c.args.clones.now.items kept ∙ ap length (sym c.deref_mut-saved-items.ensures.value) in
    let whole : take c.args.clones.now.len (items ++ drop (length items) c.args.clones.now.items) ≡ items =
    take_at items (drop (length items) c.args.clones.now.items) c.args.clones.now.len
    (omega (arith, c.loop-saved.auto.saved-items, ap length c.deref_mut-saved-items.ensures.value, c.args.clones.now.ok)) in
    let test : Saved → Bool = λ saved. serves_some (kept saved) in
    let done : map kept items ≡ map (without c.args.s) xs = c.loop-saved.invariant
    ∙ ap (λ ys. map (without c.args.s) ys ++ drop i xs) (take_all i xs (omega (arith, long, c.loop-saved-test.false)))
    ∙ ap (λ ys. map (without c.args.s) xs ++ ys) (drop_all i xs (omega (arith, long, c.loop-saved-test.false)))
    ∙ append-nil (map (without c.args.s) xs) in
    ap (map kept) (filter_same _ test _ (λ x b q k. search rules) _ _ c.retain.ensures.filtered ∙ ap (filter test) whole)
    ∙ filter-map kept serves_some items ∙ ap (filter serves_some) done
