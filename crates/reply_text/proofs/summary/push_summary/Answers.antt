use Rattle.std.proofs.Common.{◌≡◌, ◌++◌, codes, ◌∙◌}
use Rattle.std.specs.List.{count_by}
use Rattle.reply_text.specs.Count.{count_line}
use Rattle.reply_text.specs.Summary.{is_removal}
use Rattle.reply_text.proofs.Listed.{seen}
use Rattle.reply_text.proofs.Pieces.{in_six}
use Rattle.reply_text.proofs.summary.push_summary.Goals as goal

-- the lines stand one behind another
pub returns : goal.returns
returns c =
    let removed : c.in_ok-removed.removed ≡ count_by (is_removal c.args.script.now.lines) (seen c.args.replies.now) = c.in_ok-removed.ensures ∙ (λ i. count_by (is_removal (c.as_slice.ensures i)) (seen c.args.replies.now)) in
    in_six c.args.out.now.items _ _ _ _ _ (codes "done\n") _ _ _ _ _ _ c.in_ok-push_count.ensures c.in_ok-push_count-2.ensures c.in_ok-push_count-3.ensures c.in_ok-push_count-4.ensures c.in_ok-push_count-5.ensures c.in_ok-extend_from_slice.ensures.items
    ∙ (λ i. c.args.out.now.items ++ (count_line (codes "clients") (c.from.ensures i) ++ count_line (codes "lines") (c.len.ensures i) ++ count_line (codes "snapshots") (c.count_snaps.ensures i) ++ count_line (codes "removed") (removed i) ++ count_line (codes "refused") (c.count_refused.ensures i) ++ codes "done\n"))
