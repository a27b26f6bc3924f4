use Rattle.std.proofs.Common.{ℕ, ◌++◌, codes, decimal, ap, ◌∙◌}
use Rattle.std.proofs.lemmas.Result.{IfOk-weaker}
use Rattle.reply_text.specs.Answer.{mode_text}
use Rattle.reply_text.proofs.Pieces.{in_three}
use Rattle.reply_text.proofs.answer.push_file.Goals as goal

-- the pieces stand one behind another
pub returns : goal.returns
returns c =
    IfOk-weaker c.push_counted.result _ _ (λ _ e.
    in_three c.args.out.now.items (codes "stat file ") (mode_text c.args.mode) (codes " ") (decimal c.from.result) c.extend_from_slice.new.self.items c.push_mode.new.out.items c.push_counted.new.out.items c.in_ok-extend_from_slice.ensures.items c.in_ok-push_mode.ensures e
    ∙ ap (λ (n : ℕ). c.args.out.now.items ++ (codes "stat file " ++ mode_text c.args.mode ++ codes " " ++ decimal n)) c.from.ensures) c.push_counted.ensures
