-- The text of a run, in each of its forms.
use Rattle.std.specs.Prelude.{ℕ, List, ◌++◌, codes, flat_map}
use Rattle.plain_types.specs.declared.history.Event.{Event}
use Rattle.plain_types.specs.declared.history.Replied.{Replied}
use Rattle.plain_types.specs.declared.script.Script.{Script}
use Rattle.reply_text.specs.Json.{json_reply}
use Rattle.reply_text.specs.Reply.{plain_reply, printed}
use Rattle.reply_text.specs.Step.{client_line, event_line, object_line, restart_line}
use Rattle.reply_text.specs.Count.{count_line}
use Rattle.reply_text.specs.Summary.{summary_text}
use Rattle.reply_text.specs.declared.form.Form.{Form}
use Rattle.reply_text.specs.declared.form.Form.TheVariants.{Plain, Json, Steps, Summary}

-- a line for each reply, and `done`
abbrev pub plain_text : List Replied → List ℕ
plain_text replies = flat_map plain_reply replies ++ codes "done\n"

-- an object for each reply, and a last one
abbrev pub json_text : List Replied → List ℕ
json_text replies = flat_map json_reply replies ++ codes "{\"done\":true}\n"

-- the script as it is read, but for its schedule; in place of that the steps that were made
abbrev pub steps_text : Script → List Event → List ℕ
steps_text script history =
    count_line (codes "clients") script.clients
    ++ object_line script.object
    ++ flat_map restart_line script.restarts
    ++ flat_map client_line script.lines
    ++ codes "schedule\n"
    ++ flat_map (event_line script.clients) history

-- the text of a run in a form
abbrev pub text : Script → List Event → Form → List ℕ
text script history Plain = plain_text (printed script history)
text script history Json = json_text (printed script history)
text script history Steps = steps_text script history
text script history Summary = summary_text script (printed script history)
