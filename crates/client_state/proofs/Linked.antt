-- What a client's connection, its flushes and its lines make of its state c, which the fields v are seen as.
use Rattle.std.proofs.Common.{◌≡◌, ℕ, ◌+◌, Bool, true, false, List, [], ◌∷◌, Option, None, Some, is_some, Result, Ok, Err, IfOk, refl, ap, subst, ◌∙◌}
use Rattle.snap_ids.specs.declared.id.Ino.{Ino}
use Rattle.snap_ids.specs.declared.id.SnapId.{SnapId}
use Rattle.snap_ids.specs.declared.id.TheConstants.{NOSNAP}
use Rattle.snap_ids.specs.declared.memory.NoMemory.{NoMemory}
use Rattle.plain_types.specs.declared.answer.Answer.TheVariants.{Done}
use Rattle.plain_types.specs.declared.message.ToServer.TheVariants.{DropRead}
use Rattle.plain_types.specs.declared.script.Line.{Line}
use Rattle.plain_types.specs.declared.script.Line.TheVariants as line
use Rattle.step_table.specs.Row.{Row}
use Rattle.step_table.specs.ClientState.{Client, Under, Idle, Open, AtStore, to_server, tells, replies, connects, sent_again, context_in, Edit, edit_of, edits, reads_head}
use Rattle.step_table.specs.ClientLines.{breaks, flushes_with, mark_flush, release_flush, lets_go, with_let_go}
use Rattle.step_table.specs.ClientTakes.{goes_on}
use Rattle.client_state.specs.declared.acted.Acted.{Acted}
use Rattle.client_state.specs.Acts.{row_of, under_fits}
use Rattle.client_state.specs.Made.{only_sends}
use Rattle.client_state.proofs.Rows.{Makes, IsMade, made}

pub fits_again : (under : Under) → under_fits under ≡ true → under_fits (sent_again under) ≡ true
fits_again Idle h = refl
fits_again (Open number tid text asked let_go) h = h
fits_again (AtStore number entry ino head) h = refl

pub fits_let_go : (ino : Ino) (under : Under) → under_fits under ≡ true → under_fits (with_let_go ino under) ≡ true
fits_let_go ino Idle h = refl
fits_let_go ino (Open number tid text asked let_go) h = h
fits_let_go ino (AtStore number entry file head) h = refl

-- the link was broken by a line
pub broken : (c mid : Client) (number : ℕ) (acted reply : Acted) → row_of mid acted ≡ connects c → row_of mid reply ≡ replies mid number false 0 Done
    → row_of mid (record acted { replies = reply.replies }) ≡ breaks c number
broken c mid number acted reply link answered =
    (λ i. record (link i) { replies = (answered i).replies })
    ∙ (λ i. record (connects c) { replies = record { client = (link i).state.number; line = number; changed = false; entry = 0; answer = Done } ∷ [] })

pub mark_sent : (r : Result Acted NoMemory) (v c new : Client) → v ≡ c → (ino : Ino) (follows upto : SnapId) (size number : ℕ) → number ≡ v.flushes + 1
    → Makes r new (flushes_with c (record { number = number; ino = ino; follows = follows; upto = upto; size = size; release = false }))
    → Makes r new (flushes_with c (mark_flush c ino follows upto size))
mark_sent r v c new is ino follows upto size number e h =
    subst (λ (n : ℕ). Makes r new (flushes_with c (record { number = n; ino = ino; follows = follows; upto = upto; size = size; release = false })))
    (e ∙ ap (λ (s : Client). s.flushes + 1) is) h

pub release_sent : (r : Result Acted NoMemory) (v mid c new : Client) → v ≡ c → (ino : Ino) (size number : ℕ) (follows : SnapId) → number ≡ v.flushes + 1
    → follows ≡ (context_in c.contexts ino).seq → mid ≡ lets_go c ino
    → Makes r new (flushes_with mid (record { number = number; ino = ino; follows = follows; upto = NOSNAP; size = size; release = true }))
    → Makes r new (flushes_with (lets_go c ino) (release_flush c ino size))
release_sent r v mid c new is ino size number follows e f m h =
    subst (λ (row : Row Client). Makes r new row)
    ((λ i. flushes_with (m i) (record { number = e i; ino = ino; follows = f i; upto = NOSNAP; size = size; release = true }))
    ∙ (λ i. flushes_with (lets_go c ino) (record { number = (is i).flushes + 1; ino = ino; follows = (context_in c.contexts ino).seq; upto = NOSNAP; size = size; release = true }))) h

pub drop_sent : (r : Result Acted NoMemory) (v mid c : Client) → v ≡ mid → (ino : Ino) → mid ≡ lets_go c ino
    → IsMade r (only_sends (to_server (DropRead v.conn ino))) → Makes r mid (tells (lets_go c ino) (DropRead c.conn ino))
drop_sent r v mid c is ino m h =
    made r mid _ (tells (lets_go c ino) (DropRead c.conn ino)) (λ i. tells (m i) (DropRead ((is ∙ m) i).conn ino)) h

-- what an edit makes, whatever edit the line is
abbrev pub MakesEdit : Result Acted NoMemory → Client → Client → ℕ → Ino → Option Edit → Type 0
MakesEdit r new c number ino o = IfOk r (λ acted. (e : Edit) → o ≡ Some e → row_of new acted ≡ edits c number ino e)

pub is_no_edit : (text : Line) → ((handle offset : ℕ) (bytes : List ℕ) → text ≡ line.Write handle offset bytes → ⊥)
    → ((handle size : ℕ) → text ≡ line.Truncate handle size → ⊥) → false ≡ is_some (edit_of text)
is_no_edit (line.Write handle offset bytes) w t = absurd (w handle offset bytes refl)
is_no_edit (line.Truncate handle size) w t = absurd (t handle size refl)
is_no_edit other w t = refl

pub goes_on_editing : (r : Result Acted NoMemory) (c new : Client) (number : ℕ) (ino : Ino) (o : Option Edit) (edit : Bool) → edit ≡ is_some o → edit ≡ true
    → MakesEdit r new c number ino o → Makes r new (goes_on c number ino o)
goes_on_editing (Err fail) c new number ino o edit e so h = tt
goes_on_editing (Ok acted) c new number ino None edit e so h = absurd (cc)
goes_on_editing (Ok acted) c new number ino (Some made) edit e so h = h made refl

pub goes_on_reading : (r : Result Acted NoMemory) (c new : Client) (number : ℕ) (ino : Ino) (o : Option Edit) (edit : Bool) → edit ≡ is_some o → edit ≡ false
    → Makes r new (reads_head c number 0 ino) → Makes r new (goes_on c number ino o)
goes_on_reading r c new number ino None edit e so h = h
goes_on_reading r c new number ino (Some made) edit e so h = absurd (cc)
