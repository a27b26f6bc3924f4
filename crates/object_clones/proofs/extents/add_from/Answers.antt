use Rattle.std.proofs.Common.{◌≡◌, ℕ, ◌+◌, ◌-◌, ◌≤◌, ◌<◌, max, length, take, drop, nat_lt, if◌then◌else◌, arith, ◌∙◌, sym, ap, length-drop}
use Rattle.std.proofs.lemmas.List.{take_rest}
use Rattle.object_log.specs.Bytes.{laid}
use Rattle.object_clones.specs.Extents.{Rise, byte_in, byte_over}
use Rattle.object_clones.proofs.Rises.{rise_upto}
use Rattle.object_clones.proofs.Steps.{byte_more, rise_more, rise_none, rest_more, rest_same}
use Rattle.object_clones.proofs.extents.add_from.Goals as goal
use Rattle.object_clones.proofs.extents.add_from.Goals.{then-skipped-len+in_ok-add, else-skipped-len}

pub loop-other-preserved : goal.loop-other-preserved
loop-other-preserved c =
    let e = c.other-item.result in
    let es = c.args.others.now in
    let i = c.loop-other.other-index in
    let from = c.args.from in
    let skipped = c.saturating_sub-skipped.result in
    let first : ℕ → ℕ = λ place. byte_in place c.args.extents.now.items in
    let more : (place : ℕ) → byte_over place (first place) (take (i + 1) es) ≡ laid place e.offset e.bytes.items (byte_over place (first place) (take i es)) =
    λ place. byte_more es i place (first place) e c.loop-other-test.true c.other-item.is in
    let becomes : (place new : ℕ) → new ≡ (if nat_lt place from then first place else laid place e.offset e.bytes.items (byte_over place (first place) (take i es)))
    → new ≡ (if nat_lt place from then first place else byte_over place (first place) (take (i + 1) es)) =
    λ place new is. is ∙ ap (λ (b : ℕ). if nat_lt place from then first place else b) (sym (more place)) in
    let skips : skipped ≡ from - e.offset = c.saturating_sub-skipped.ensures in
    elim c.if-skipped-len.branch [
      | then-skipped-len+in_ok-add w ↦
          let bs : w.deref.result.now ≡ e.bytes.items = w.deref.ensures.value in
          let short : skipped < length e.bytes.items = omega (arith, w.if-skipped-len.true, c.len.ensures, w.deref.ensures.len, ap length bs) in
          let part : take (length w.deref.result.now - skipped) (drop skipped w.deref.result.now) ≡ drop skipped e.bytes.items =
          take_rest w.deref.result.now skipped ∙ ap (drop skipped) bs in
          let at : w.max.result ≡ max e.offset from = w.max.ensures in
          record {
            bytes = λ place. rw w.extents-is (becomes place _ (rest_more place from e.offset skipped (byte_in place c.loop-other.extents.items) _
                (byte_over place (first place) (take i es)) (first place) e.bytes.items skips short (c.loop-other.invariant.bytes place)
                (w.in_ok-add.ensures.laid place ∙ ap (λ bytes. laid place w.max.result bytes (byte_in place c.loop-other.extents.items)) part
                ∙ ap (λ n. laid place n (drop skipped e.bytes.items) (byte_in place c.loop-other.extents.items)) at)));
            rise = λ upto r s. let t = c.loop-other.invariant.rise upto r s in
                let u : (t.0 ≤ e.offset) × (0 < length e.bytes.items) × Rise (e.offset + length e.bytes.items) upto (drop (i + 1) es) =
                rise_more es i t.0 upto e c.loop-other-test.true c.other-item.is t.2 in (
                  e.offset + length e.bytes.items,
                  rw w.extents-is (rise_upto _ 0 _ _ (w.in_ok-add.ensures.rise 0 (max from t.0) t.1 (omega (arith, u.0, at)))
                      (omega (arith, ap length part, length-drop skipped e.bytes.items, at))),
                  u.2,
                );
          }
      | else-skipped-len w ↦
          let bs : length e.bytes.items ≡ c.len.result = omega (arith, c.len.ensures, e.bytes.ok) in
          record {
            bytes = λ place. rw w.extents-is (becomes place _ (rest_same place from e.offset _ (byte_over place (first place) (take i es)) (first place) e.bytes.items
                (omega (arith, bs, skips, w.if-skipped-len.false)) (c.loop-other.invariant.bytes place)));
            rise = λ upto r s. let t = c.loop-other.invariant.rise upto r s in
                let u : (t.0 ≤ e.offset) × (0 < length e.bytes.items) × Rise (e.offset + length e.bytes.items) upto (drop (i + 1) es) =
                rise_more es i t.0 upto e c.loop-other-test.true c.other-item.is t.2 in (
                  e.offset + length e.bytes.items,
                  rw w.extents-is (rise_upto c.loop-other.extents.items 0 (max from t.0) _ t.1 (omega (arith, u.0))),
                  u.2,
                );
          }
    ]

pub returns-clause-rise : goal.returns-clause-rise
returns-clause-rise c = λ upto r s. let t = c.loop-other.invariant.rise upto r s in
    rise_upto c.loop-other.extents.items 0 (max c.args.from t.0) _ t.1 (omega (arith, rise_none c.args.others.now c.loop-other.other-index t.0 upto c.loop-other-test.false t.2))
