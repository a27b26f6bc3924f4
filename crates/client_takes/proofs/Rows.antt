-- The rows of answers, where nothing is under way any more.
use Rattle.std.proofs.Common.{◌≡◌, ℕ, List, Bool, true, false, true≢false, cond, None, Some, refl, sym, ap, ◌∙◌, subst}
use Rattle.std.specs.Prelude.{◌&&◌, Result, IfOk}
use Rattle.std.specs.List.{list_any}
use Rattle.snap_ids.specs.declared.id.Ino.{Ino}
use Rattle.snap_ids.specs.declared.id.SnapId.{SnapId}
use Rattle.snap_ids.specs.declared.memory.NoMemory.{NoMemory}
use Rattle.plain_types.specs.declared.answer.Answer.{Answer}
use Rattle.plain_types.specs.declared.answer.Answer.TheVariants as answer
use Rattle.plain_types.specs.declared.message.Stamp.{Stamp}
use Rattle.plain_types.specs.declared.request.Request.{Request}
use Rattle.plain_types.specs.declared.request.Request.TheVariants as request
use Rattle.plain_types.specs.declared.script.Line.{Line}
use Rattle.held_files.specs.Files.{is_ino}
use Rattle.step_table.specs.Row.{Row}
use Rattle.step_table.specs.ClientState.{Under, Idle, Open, AtStore, Client, replies, stays}
use Rattle.step_table.specs.ClientTakes.{handles_after, is_success, with_found, found, asks_anew, take_answer, takes_answer, take_reply}
use Rattle.client_state.specs.declared.acted.Acted.{Acted}
use Rattle.client_state.specs.Acts.{row_of}
use Rattle.client_takes.specs.Takes.{found_again, is_asked, answer_row, takes_reply}

-- another row that is the same
pub also : (new : Client) (result : Result Acted NoMemory) (a b : Row Client) → a ≡ b
    → IfOk result (λ acted. row_of new acted ≡ a) → IfOk result (λ acted. row_of new acted ≡ b)
also new result a b same is = subst (λ (r : Row Client). IfOk result (λ acted. row_of new acted ≡ r)) same is

-- what is open after an answer, and whether the answer can be taken, goes by other parts of the client
handles_same : (c : Client) (said : Answer) (asked : Request) → handles_after (record c { under = Idle }) said asked ≡ handles_after c said asked
handles_same c (answer.Opened ino) (request.Open handle path writable) = refl
handles_same c (answer.Opened ino) asked = refl
handles_same c answer.Done (request.Close handle) = refl
handles_same c answer.Done asked = refl
handles_same c said asked = refl

pub taken_same : (c : Client) (said : Answer) → takes_answer (record c { under = Idle }) said ≡ takes_answer c said
taken_same c (answer.FoundLive ino perm size write_held) = refl
taken_same c said = refl

-- the row of an answer goes by what else the client knows than what was under way
answer_same : (c : Client) (number : ℕ) (text : Line) (asked : Request) (let_go : List Ino) (stamp : Stamp) (said : Answer)
    → take_answer (record c { under = Idle }) number text asked let_go stamp said ≡ take_answer c number text asked let_go stamp said
answer_same c number text asked let_go stamp (answer.FoundLive ino perm size write_held) = refl
answer_same c number text asked let_go stamp (answer.FoundSnap ino snap size) = refl
answer_same c number text asked let_go stamp (answer.FoundObject ino index) = refl
answer_same c number text asked let_go stamp said =
    ap (λ h. replies (record c { under = Idle; handles = h }) number (is_success asked said) stamp.entry said) (handles_same c said asked)

-- an answer of another kind ends the line
pub rest_is : (c : Client) (number : ℕ) (text : Line) (asked : Request) (let_go : List Ino) (stamp : Stamp) (said : Answer) → c.under ≡ Idle
    → ((ino : Ino) (perm size : ℕ) (write_held : Bool) → said ≡ answer.FoundLive ino perm size write_held → ⊥)
    → ((ino : Ino) (snap : SnapId) (size : ℕ) → said ≡ answer.FoundSnap ino snap size → ⊥)
    → ((ino : Ino) (index : ℕ) → said ≡ answer.FoundObject ino index → ⊥)
    → replies (record c { handles = handles_after c said asked }) number (is_success asked said) stamp.entry said
    ≡ take_answer c number text asked let_go stamp said
rest_is c number text asked let_go stamp (answer.FoundLive ino perm size write_held) idle live snap object = absurd (live ino perm size write_held refl)
rest_is c number text asked let_go stamp (answer.FoundSnap ino id size) idle live snap object = absurd (snap ino id size refl)
rest_is c number text asked let_go stamp (answer.FoundObject ino index) idle live snap object = absurd (object ino index refl)
rest_is c number text asked let_go stamp said idle live snap object =
    ap (λ (u : Under). replies (record c { under = u; handles = handles_after c said asked }) number (is_success asked said) stamp.entry said) idle

-- a file that was found live, and wasn't let go
pub live_is : (c : Client) (number : ℕ) (text : Line) (asked : Request) (let_go : List Ino) (stamp : Stamp) (ino : Ino) (perm size : ℕ) (write_held : Bool)
    → found_again let_go (answer.FoundLive ino perm size write_held) ≡ None
    → with_found (found c ino size stamp.snap write_held) number asked stamp.entry ino perm
    ≡ take_answer c number text asked let_go stamp (answer.FoundLive ino perm size write_held)
live_is c number text asked let_go stamp ino perm size write_held = by (list_any (is_ino ino) let_go)
  where
    by : (b : Bool) → cond b (Some ino) None ≡ None
        → with_found (found c ino size stamp.snap write_held) number asked stamp.entry ino perm
        ≡ cond b (asks_anew c number text asked ino) (with_found (found c ino size stamp.snap write_held) number asked stamp.entry ino perm)
    by true none = absurd (cc)
    by false none = refl

-- a file that was found live, and was let go
pub again_is : (c : Client) (number : ℕ) (text : Line) (asked : Request) (let_go : List Ino) (stamp : Stamp) (said : Answer) (ino : Ino)
    → found_again let_go said ≡ Some ino → asks_anew c number text asked ino ≡ take_answer c number text asked let_go stamp said
again_is c number text asked let_go stamp (answer.FoundLive file perm size write_held) ino is = by (list_any (is_ino file) let_go) is
  where
    by : (b : Bool) → cond b (Some file) None ≡ Some ino
        → asks_anew c number text asked ino
        ≡ cond b (asks_anew c number text asked file) (with_found (found c file size stamp.snap write_held) number asked stamp.entry file perm)
    by true some = let same : ino ≡ file = cc in ap (asks_anew c number text asked) same
    by false some = absurd (cc)
again_is c number text asked let_go stamp said ino is = absurd (cc)

-- the row of a reply that is taken
pub reply_is : (c : Client) (tid : ℕ) (stamp : Stamp) (said : Answer) (under : Under) → (is_asked tid under && takes_answer c said) ≡ true
    → answer_row (record c { under = Idle }) stamp said under ≡ take_reply c tid stamp said under
reply_is c tid stamp said (Open number open_tid text asked let_go) is =
    answer_same c number text asked let_go stamp said
    ∙ ap (λ b. cond b (take_answer c number text asked let_go stamp said) (stays c)) (sym is)
reply_is c tid stamp said Idle is = absurd (true≢false (sym is))
reply_is c tid stamp said (AtStore number entry ino head) is = absurd (true≢false (sym is))

pub reply_of : (new c at : Client) (result : Result Acted NoMemory) (tid : ℕ) (stamp : Stamp) (said : Answer) (under : Under)
    → at ≡ record c { under = Idle } → under ≡ c.under → takes_reply c tid said ≡ true
    → IfOk result (λ acted. row_of new acted ≡ answer_row at stamp said under)
    → IfOk result (λ acted. row_of new acted ≡ take_reply c tid stamp said c.under)
reply_of new c at result tid stamp said under is was test row =
    also new result _ _ ((λ i. answer_row (is i) stamp said (was i)) ∙ reply_is c tid stamp said c.under test) row
