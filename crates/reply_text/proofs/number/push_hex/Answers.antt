use Rattle.std.proofs.Common.{arith}
use Rattle.reply_text.proofs.Pieces.{on_ok_from}
use Rattle.reply_text.proofs.PlainTexts.{plain_hex}
use Rattle.reply_text.proofs.number.push_hex.Goals as goal

-- hex digits are plain
pub returns-clause-plain : goal.returns-clause-plain
returns-clause-plain c = on_ok_from c.extend_from_slice.result (plain_hex c.args.bytes.now (λ i. omega (arith, c.type_inv.bytes i)))
