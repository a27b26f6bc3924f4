use Rattle.std.proofs.Common.{◌≡◌, ◌++◌, List, map, length, set, take, drop, append-nil, sym, ◌∙◌, ap, rules, arith}
use Rattle.std.specs.List.{filter}
use Rattle.std.proofs.lemmas.Fn.{filter_same}
use Rattle.std.proofs.lemmas.List.{take_at, take_all, drop_all}
use Rattle.std.proofs.lemmas.List.Edits.{map_over_more}
use Rattle.dentry_tree.specs.Dentries.{Dentry}
use Rattle.dentry_tree.specs.Places.{trimmed, has_versions}
use Rattle.dentry_tree.proofs.places.trim.Goals as goal

pub loop-dentry-preserved : goal.loop-dentry-preserved
loop-dentry-preserved c =
    let items : List Dentry = c.loop-dentry.dentry-items in
    let i = c.loop-dentry.dentry-index in
    let xs : List Dentry = c.args.dentries.now.items in
    let x : Dentry = c.dentry-item.result in
    let long : length xs ≡ length c.deref_mut-dentry-items.result.now = ap length (sym c.deref_mut-dentry-items.ensures.value) in
    ap (λ (d : Dentry). set items i d) (c.trim.ensures ∙ ap (trimmed c.args.live.now) (sym c.dentry-item.is))
    ∙ map_over_more (trimmed c.args.live.now) xs items i x (omega (arith, long, c.loop-dentry-test.true)) c.loop-dentry.invariant c.dentry-item.is

pub returns : goal.returns
returns c =
    let items : List Dentry = c.loop-dentry.dentry-items in
    let i = c.loop-dentry.dentry-index in
    let xs : List Dentry = c.args.dentries.now.items in
    let long : length xs ≡ length c.deref_mut-dentry-items.result.now = ap length (sym c.deref_mut-dentry-items.ensures.value) in
    let whole : take c.args.dentries.now.len (items ++ drop (length items) xs) ≡ items =
    take_at items (drop (length items) xs) c.args.dentries.now.len
    (omega (arith, c.loop-dentry.auto.dentry-items, ap length c.deref_mut-dentry-items.ensures.value, c.args.dentries.now.ok)) in
    let done : items ≡ map (trimmed c.args.live.now) xs = c.loop-dentry.invariant
    ∙ ap (λ ys. map (trimmed c.args.live.now) ys ++ drop i xs) (take_all i xs (omega (arith, long, c.loop-dentry-test.false)))
    ∙ ap (λ ys. map (trimmed c.args.live.now) xs ++ ys) (drop_all i xs (omega (arith, long, c.loop-dentry-test.false)))
    ∙ append-nil (map (trimmed c.args.live.now) xs) in
    filter_same _ has_versions _ (λ x b q k. search rules) _ _ c.retain.ensures.filtered ∙ ap (filter has_versions) (whole ∙ done)
