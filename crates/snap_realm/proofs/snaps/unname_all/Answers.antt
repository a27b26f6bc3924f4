use Rattle.std.proofs.Common.{◌≡◌, ◌++◌, List, map, length, set, take, drop, append-nil, sym, ◌∙◌, ap, arith}
use Rattle.std.proofs.lemmas.List.{take_at, take_all, drop_all}
use Rattle.std.proofs.lemmas.List.Edits.{map_over_more}
use Rattle.realm_story.specs.declared.records.Snap.{Snap}
use Rattle.snap_realm.specs.Walks.{unnamed}
use Rattle.snap_realm.proofs.snaps.unname_all.Goals as goal

pub loop-snap-preserved : goal.loop-snap-preserved
loop-snap-preserved c =
    let items : List Snap = c.loop-snap.snap-items in
    let i = c.loop-snap.snap-index in
    let xs : List Snap = c.args.snaps.now.items in
    let x : Snap = c.snap-item.result in
    let long : length xs ≡ length c.deref_mut-snap-items.result.now = ap length (sym c.deref_mut-snap-items.ensures.value) in
    ap (λ (y : Snap). set items i y) (c.unname.ensures ∙ ap (unnamed c.args.dir c.args.name.now) (sym c.snap-item.is))
    ∙ map_over_more (unnamed c.args.dir c.args.name.now) xs items i x (omega (arith, long, c.loop-snap-test.true)) c.loop-snap.invariant c.snap-item.is

pub returns : goal.returns
returns c =
    let items : List Snap = c.loop-snap.snap-items in
    let i = c.loop-snap.snap-index in
    let xs : List Snap = c.args.snaps.now.items in
    let long : length xs ≡ length c.deref_mut-snap-items.result.now = ap length (sym c.deref_mut-snap-items.ensures.value) in
    let whole : take c.args.snaps.now.len (items ++ drop (length items) c.args.snaps.now.items) ≡ items =
    take_at items (drop (length items) c.args.snaps.now.items) c.args.snaps.now.len
    (omega (arith, c.loop-snap.auto.snap-items, ap length c.deref_mut-snap-items.ensures.value, c.args.snaps.now.ok)) in
    let f = unnamed c.args.dir c.args.name.now in
    whole ∙ c.loop-snap.invariant
    ∙ ap (λ ys. map f ys ++ drop i xs) (take_all i xs (omega (arith, long, c.loop-snap-test.false)))
    ∙ ap (λ ys. map f xs ++ ys) (drop_all i xs (omega (arith, long, c.loop-snap-test.false)))
    ∙ append-nil (map f xs)
