-- Replies as JSON.
use Rattle.std.specs.Prelude.{ℕ, List, ◌++◌, codes, decimal}
use Rattle.plain_types.specs.declared.history.Replied.{Replied}
use Rattle.reply_text.specs.Answer.{answer_text}

-- a reply as a JSON object, its answer as it is: an answer has no byte that JSON would write in another way
abbrev pub json_object : Replied → List ℕ
json_object reply =
    codes "{\"client\":" ++ decimal reply.client
    ++ codes ",\"line\":" ++ decimal reply.line
    ++ codes ",\"reply\":\"" ++ answer_text reply.answer ++ codes "\"}"

-- the line of a reply
abbrev pub json_reply : Replied → List ℕ
json_reply reply = json_object reply ++ codes "\n"
