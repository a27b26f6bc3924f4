-- The rows that acts make. Each is said of the state c that the fields v are seen as.
use Rattle.std.proofs.Common.{◌≡◌, ℕ, ◌+◌, Bool, true, false, List, [], ◌∷◌, ◌++◌, Option, Result, Ok, Err, IfOk, refl, ap, subst, ◌∙◌}
use Rattle.snap_ids.specs.declared.id.Ino.{Ino}
use Rattle.snap_ids.specs.declared.memory.NoMemory.{NoMemory}
use Rattle.plain_types.specs.declared.answer.Answer.{Answer}
use Rattle.plain_types.specs.declared.change.Change.{Change}
use Rattle.plain_types.specs.declared.message.Claim.{Claim}
use Rattle.plain_types.specs.declared.message.FlushMsg.{FlushMsg}
use Rattle.plain_types.specs.declared.message.ToServer.{ToServer}
use Rattle.plain_types.specs.declared.message.ToServer.TheVariants.{Connect, Ask, Flush, DropRead}
use Rattle.plain_types.specs.declared.message.ToStore.{ToStore}
use Rattle.plain_types.specs.declared.message.ToStore.TheVariants.{ReadHead}
use Rattle.plain_types.specs.declared.request.Request.{Request}
use Rattle.plain_types.specs.declared.request.Request.TheVariants as request
use Rattle.plain_types.specs.declared.script.Line.{Line}
use Rattle.plain_types.specs.declared.script.Line.TheVariants as line
use Rattle.held_files.specs.Files.{claims}
use Rattle.step_table.specs.Row.{Row}
use Rattle.step_table.specs.ClientState.{Client, Under, Idle, Open, AtStore, to_server, tells, replies, asks, asks_store, reads_head, size_of, connects, open_request, sent_again}
use Rattle.step_table.specs.ClientLines.{flushes_with, asks_barrier}
use Rattle.step_table.specs.ClientTakes.{asks_anew}
use Rattle.client_state.specs.declared.acted.Acted.{Acted}
use Rattle.client_state.specs.Acts.{row_of, edited}
use Rattle.client_state.specs.Made.{only_sends, only_replies, order_to, editing}

-- the row of what was made is the one that is wanted, in the state that the fields are seen as
abbrev pub Makes : Result Acted NoMemory → Client → Row Client → Type 0
Makes r new row = IfOk r (λ acted. row_of new acted ≡ row)

abbrev pub IsMade : Result Acted NoMemory → Acted → Type 0
IsMade r made = IfOk r (λ acted. acted ≡ made)

pub made : (r : Result Acted NoMemory) (new : Client) (what : Acted) (row : Row Client) → row_of new what ≡ row → IsMade r what → Makes r new row
made (Ok acted) new what row e h = ap (row_of new) h ∙ e
made (Err fail) new what row e h = tt

pub told : (r : Result Acted NoMemory) (c : Client) (said : ToServer) → IsMade r (only_sends (to_server said)) → Makes r c (tells c said)
told r c said h = made r c _ (tells c said) refl h

pub ordered : (r : Result Acted NoMemory) (v c : Client) → v ≡ c → (order : ToStore) → IsMade r (only_sends (order_to v.store order)) → Makes r c (asks_store c order)
ordered r v c is order h = subst (λ (s : Client). Makes r s (asks_store s order)) is (made r v _ (asks_store v order) refl h)

pub replied : (r : Result Acted NoMemory) (v c : Client) → v ≡ c → (line : ℕ) (changed : Bool) (entry : ℕ) (answer : Answer)
    → IsMade r (only_replies (record { client = v.number; line = line; changed = changed; entry = entry; answer = answer }))
    → Makes r c (replies c line changed entry answer)
replied r v c is line changed entry answer h =
    subst (λ (s : Client). Makes r s (replies s line changed entry answer)) is (made r v _ (replies v line changed entry answer) refl h)

-- a request is asked under the next number
pub asked : (r : Result Acted NoMemory) (v c : Client) → v ≡ c → (number tid : ℕ) (line : Line) (request copy : Request) (under : Under) → tid ≡ v.tid + 1
    → copy ≡ request → under ≡ Open number tid line request [] → IsMade r (only_sends (to_server (Ask v.conn tid copy)))
    → Makes r (record v { tid = tid; under = under }) (asks c number line request)
asked r v c is number tid line request copy under e same u h =
    subst (λ (s : Client). Makes r (record v { tid = tid; under = under }) (asks s number line request)) is
    (made r (record v { tid = tid; under = under }) _ (asks v number line request)
    (ap (λ (w : Under). tells (record v { tid = tid; under = w }) (Ask v.conn tid copy)) u
    ∙ (λ i. tells (record v { tid = e i; under = Open number (e i) line request [] }) (Ask v.conn (e i) (same i)))) h)

pub barrier_asked : (r : Result Acted NoMemory) (v c new : Client) → v ≡ c → (number barrier : ℕ) → barrier ≡ v.barriers + 1
    → Makes r new (asks (record v { barriers = barrier }) number line.Barrier (request.Barrier barrier))
    → Makes r new (asks_barrier c number)
barrier_asked r v c new is number barrier e h =
    subst (λ (s : Client). Makes r new (asks_barrier s number)) is
    (subst (λ (b : ℕ). Makes r new (asks (record v { barriers = b }) number line.Barrier (request.Barrier b))) e h)

-- the file is let go again before the client asks
pub asked_anew : (r : Result Acted NoMemory) (v c new : Client) → v ≡ c → (number : ℕ) (line : Line) (asked : Request) (ino : Ino) (acted : Acted)
    → row_of new acted ≡ asks c number line asked
    → IsMade r (record acted { sent = to_server (DropRead v.conn ino) ∷ acted.sent })
    → Makes r new (asks_anew c number line asked ino)
asked_anew r v c new is number line asked ino acted row h =
    made r new _ (asks_anew c number line asked ino)
    ((λ i. record (row i) { sent = to_server (DropRead (is i).conn ino) ∷ (row i).sent })) h

-- the store is asked for live bytes
pub head_read : (r : Result Acted NoMemory) (v c : Client) → v ≡ c → (number entry : ℕ) (ino : Ino) (size : ℕ) → size ≡ size_of c ino
    → IsMade r (only_sends (order_to v.store (ReadHead number ino size)))
    → Makes r (record v { under = AtStore number entry ino true }) (reads_head c number entry ino)
head_read r v c is number entry ino size held h =
    made r (record v { under = AtStore number entry ino true }) _ (reads_head c number entry ino)
    (λ i. asks_store (record (is i) { under = AtStore number entry ino true }) (ReadHead number ino (held i))) h

pub store_read : (r : Result Acted NoMemory) (v c : Client) → v ≡ c → (number entry : ℕ) (ino : Ino) (order : ToStore)
    → IsMade r (only_sends (order_to v.store order))
    → Makes r (record v { under = AtStore number entry ino false }) (asks_store (record c { under = AtStore number entry ino false }) order)
store_read r v c is number entry ino order h =
    made r (record v { under = AtStore number entry ino false }) _ _
    (λ i. asks_store (record (is i) { under = AtStore number entry ino false }) order) h

-- a flush is sent and kept
pub flushed : (r : Result Acted NoMemory) (v c : Client) → v ≡ c → (flush : FlushMsg) (flushes : ℕ) (unacked : List FlushMsg) → flushes ≡ v.flushes + 1
    → unacked ≡ v.unacked ++ flush ∷ [] → IsMade r (only_sends (to_server (Flush v.conn flush)))
    → Makes r (record v { flushes = flushes; unacked = unacked }) (flushes_with c flush)
flushed r v c is flush flushes unacked e more h =
    subst (λ (s : Client). Makes r (record v { flushes = flushes; unacked = unacked }) (flushes_with s flush)) is
    (made r (record v { flushes = flushes; unacked = unacked }) _ (flushes_with v flush)
    (λ i. tells (record v { flushes = e i; unacked = more i }) (Flush v.conn flush)) h)

-- the client connects anew
pub connected : (r : Result Acted NoMemory) (v c : Client) → v ≡ c → (conn : ℕ) (under : Under) (held : List Claim) (flushes : List FlushMsg)
    (asking : Option (ℕ × Request)) → conn ≡ v.conn + 1 → under ≡ sent_again v.under → held ≡ claims v.files → flushes ≡ v.unacked → asking ≡ open_request v.under
    → IsMade r (only_sends (to_server (Connect conn held flushes asking)))
    → Makes r (record v { conn = conn; frozen = true; under = under }) (connects c)
connected r v c is conn under held flushes asking e u f k o h =
    subst (λ (s : Client). Makes r (record v { conn = conn; frozen = true; under = under }) (connects s)) is
    (made r (record v { conn = conn; frozen = true; under = under }) _ (connects v)
    (λ i. tells (record v { conn = e i; frozen = true; under = u i }) (Connect (e i) (f i) (k i) (o i))) h)

-- a change takes effect
pub is_edited : (r : Result Acted NoMemory) (v c : Client) → v ≡ c → (number : ℕ) (change : Change) → IsMade r (editing v.number number change)
    → Makes r (record v { under = Idle }) (edited c number change)
is_edited r v c is number change h =
    subst (λ (s : Client). Makes r (record v { under = Idle }) (edited s number change)) is
    (made r (record v { under = Idle }) _ (edited v number change) refl h)
