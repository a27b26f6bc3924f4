use Rattle.std.proofs.Common.{◌≡◌, ◌++◌, take, flat_map}
use Rattle.reply_text.specs.Answer.{entry_text}
use Rattle.reply_text.specs.Plain.{IsPlain}
use Rattle.reply_text.proofs.answer.push_entries.Given as goal

-- the entries so far are written, and they are plain
abbrev pub invariant-loop-entry : goal.invariant-loop-entry
invariant-loop-entry l = record {
  written : l.out.items ≡ l.fn.out.items ++ flat_map entry_text (take l.entry-index l.entries);
  plain : IsPlain (flat_map entry_text (take l.entry-index l.entries));
}
