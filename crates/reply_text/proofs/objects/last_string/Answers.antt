use Rattle.std.proofs.Common.{◌≡◌, true, codes, rules}
use Rattle.serde_json.specs.Data.{boolean, object, member, no_members}
use Rattle.serde_json.specs.View.{view}
use Rattle.serde_json.specs.declared.value.Value.{the_lemmas}
use Rattle.serde_json.proofs.OnLiterals.{serde_json_on_literals}
use Rattle.reply_text.proofs.objects.last_string.Goals as goal

pub returns : goal.returns
unfolding serde_json_on_literals
returns c =
    let built : view c.in_ok-json.field-0 ≡ object (member (codes "done") (boolean true) no_members) = search (rules, the_lemmas) in
    search rules
