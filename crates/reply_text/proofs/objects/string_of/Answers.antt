use Rattle.std.proofs.Common.{sym, ap, ◌∙◌}
use Rattle.std.specs.Prelude.{is_ok}
use Rattle.std.proofs.lemmas.Bool.{false≢true}
use Rattle.reply_text.proofs.PlainTexts.{plain_utf8}
use Rattle.reply_text.proofs.objects.string_of.Goals as goal

-- such bytes are UTF-8
pub unreachable-requires : goal.unreachable-requires
unreachable-requires c = false≢true (sym (ap is_ok c.in-Err.is) ∙ c.from_utf8.ensures.succeeds (plain_utf8 c.args.bytes.items c.requires))
