use Rattle.std.proofs.Common.{◌≡◌, ℕ, ◌+◌, ◌-◌, ◌≤◌, ◌<◌, min, length, take, drop, arith, ◌∙◌, sym, ap, length-take}
use Rattle.object_log.specs.Bytes.{laid, cut_off}
use Rattle.object_clones.specs.Extents.{Rise, byte_in}
use Rattle.object_log.proofs.Laid.{laid_cut, cut_laid}
use Rattle.object_clones.proofs.Rises.{rise_upto, rise_from}
use Rattle.object_clones.proofs.Steps.{byte_more, rise_more}
use Rattle.object_clones.proofs.extents.before.Goals as goal
use Rattle.object_clones.proofs.extents.before.Goals.{then-extent-limit+in_ok-add, else-extent-limit}

pub loop-extent-preserved : goal.loop-extent-preserved
loop-extent-preserved c =
    let e = c.extent-item.result in
    let es = c.args.extents.now in
    let i = c.loop-extent.extent-index in
    let more : (place : ℕ) → byte_in place (take (i + 1) es) ≡ laid place e.offset e.bytes.items (byte_in place (take i es)) =
    λ place. byte_more es i place 0 e c.loop-extent-test.true c.extent-item.is in
    elim c.if-extent-limit.branch [
      | then-extent-limit+in_ok-add w ↦
          let count = w.min-count.result in
          let bs : w.deref.result.now ≡ e.bytes.items = w.deref.ensures.value in
          let n : count ≡ min (length e.bytes.items) (c.args.limit - e.offset) = omega (arith, w.min-count.ensures, w.len.ensures, w.deref.ensures.len, ap length bs) in
          let long : length (take count w.deref.result.now) ≡ count = omega (arith, length-take count w.deref.result.now, ap length bs, n) in
          record {
            bytes = λ place. rw w.kept-is (w.in_ok-add.ensures.laid place
                ∙ ap (laid place e.offset (take count w.deref.result.now)) (c.loop-extent.invariant.bytes place)
                ∙ ap (λ bytes. laid place e.offset (take count bytes) (cut_off place c.args.limit (byte_in place (take i es)))) bs
                ∙ laid_cut place e.offset c.args.limit count e.bytes.items (byte_in place (take i es)) w.if-extent-limit.true n
                ∙ ap (cut_off place c.args.limit) (sym (more place)));
            rise = λ upto r. let s = c.loop-extent.invariant.rise upto r in
                let t : (s.0 ≤ e.offset) × (0 < length e.bytes.items) × Rise (e.offset + length e.bytes.items) upto (drop (i + 1) es) =
                rise_more es i s.0 upto e c.loop-extent-test.true c.extent-item.is s.3 in (
                  e.offset + length (take count w.deref.result.now),
                  omega arith,
                  rw w.kept-is (w.in_ok-add.ensures.rise 0 s.0 s.2 t.0),
                  rise_from (drop (i + 1) es) (e.offset + length e.bytes.items) upto _ t.2 (omega arith),
                );
          }
      | else-extent-limit w ↦ record {
        bytes = λ place. rw w.kept-is (c.loop-extent.invariant.bytes place
            ∙ cut_laid place e.offset c.args.limit e.bytes.items (byte_in place (take i es)) w.if-extent-limit.false
            ∙ ap (cut_off place c.args.limit) (sym (more place)));
        rise = λ upto r. let s = c.loop-extent.invariant.rise upto r in
            let t : (s.0 ≤ e.offset) × (0 < length e.bytes.items) × Rise (e.offset + length e.bytes.items) upto (drop (i + 1) es) =
            rise_more es i s.0 upto e c.loop-extent-test.true c.extent-item.is s.3 in
            (s.0, s.1, rw w.kept-is s.2, rise_from (drop (i + 1) es) (e.offset + length e.bytes.items) upto s.0 t.2 (omega arith));
      }
    ]

pub returns-clause-rise : goal.returns-clause-rise
returns-clause-rise c = λ upto r. let s = c.loop-extent.invariant.rise upto r in rise_upto c.loop-extent.kept.items 0 s.0 _ s.2 s.1
