use Rattle.std.proofs.Common.{◌∙◌, string_bytes}
use Rattle.std.proofs.lemmas.Result.{IfOk-weaker}
use Rattle.serde_json.specs.View.{view}
use Rattle.reply_text.proofs.Compact.{said_float, compact_reply}
use Rattle.reply_text.proofs.objects.object_string.Goals as goal

-- the value's text is the reply's object
pub returns : goal.returns
returns c =
    IfOk-weaker c.to_string.result _ _ (λ s h.
    h (said_float (view c.in_ok-value.value) c.args.reply.now.client c.args.reply.now.line (string_bytes c.in_ok-text.text) c.in_ok-value.ensures)
    ∙ compact_reply c.args.reply.now (view c.in_ok-value.value) (string_bytes c.in_ok-text.text) c.in_ok-value.ensures c.in_ok-text.ensures.text c.in_ok-text.ensures.plain) c.to_string.ensures.text
