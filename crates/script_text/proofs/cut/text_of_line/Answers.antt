use Rattle.std.proofs.Common.{sym}
use Rattle.script_text.proofs.Cuts.{text_of_line-whole, text_without_feed, text_without_both}
use Rattle.script_text.proofs.cut.text_of_line.Goals as goal

pub returns-in_default-clause-text : goal.returns-in_default-clause-text
returns-in_default-clause-text c = sym (text_of_line-whole c.args.line.now (rw c.as_slice.ensures at c.in_default.ensures.cases))

pub returns-in-Some-strip_suffix-clause-text : goal.returns-in-Some-strip_suffix-clause-text
returns-in-Some-strip_suffix-clause-text c =
    let feed = rw c.as_slice.ensures at c.in-Some.ensures.cases in
    let both = rw c.as_slice-2.ensures at c.in-Some-strip_suffix.ensures.cases in
    text_without_both c.args.line.now c.in-Some.text.now _ feed.0 feed.1 both.0 both.1

pub returns-in-None-clause-text : goal.returns-in-None-clause-text
returns-in-None-clause-text c =
    let feed = rw c.as_slice.ensures at c.in-Some.ensures.cases in
    let alone = rw c.as_slice-2.ensures at c.in-None.ensures.cases in
    text_without_feed c.args.line.now c.in-Some.text.now feed.0 feed.1 alone
