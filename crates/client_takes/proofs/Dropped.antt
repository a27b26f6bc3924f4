-- A message that isn't taken changes nothing but what was heard.
use Rattle.std.proofs.Common.{◌≡◌, ℕ, Bool, true, false, true≢false, cond, refl, ap}
use Rattle.std.specs.Prelude.{◌&&◌}
use Rattle.snap_ids.specs.declared.id.Ino.{Ino}
use Rattle.snap_ids.specs.declared.values.Mode.{Mode}
use Rattle.plain_types.specs.declared.answer.Answer.{Answer}
use Rattle.plain_types.specs.declared.message.FileTrace.{FileTrace}
use Rattle.plain_types.specs.declared.message.FromStore.{FromStore}
use Rattle.plain_types.specs.declared.message.FromStore.TheVariants.{Stored}
use Rattle.plain_types.specs.declared.message.Stamp.{Stamp}
use Rattle.plain_types.specs.declared.message.ToClient.{ToClient}
use Rattle.plain_types.specs.declared.message.ToClient.TheVariants.{Reply, Grant}
use Rattle.step_table.specs.Messages.{to_client_fits, from_store_fits}
use Rattle.step_table.specs.ClientState.{Under, Idle, Open, AtStore, Client, stays, replies, edit_of}
use Rattle.step_table.specs.ClientTakes.{goes_on, granted, take_grant, take_answer, takes_answer, take_reply, may_take, having_heard, take_own, on_told, store_answer, take_read, take_stored, on_stored}
use Rattle.client_takes.specs.Takes.{is_asked, takes_grant, takes_own, takes_told, is_answered, takes_said, takes_stored}

reply_dropped : (c : Client) (tid : ℕ) (stamp : Stamp) (said : Answer) (under : Under) → (is_asked tid under && takes_answer c said) ≡ false
    → take_reply c tid stamp said under ≡ stays c
reply_dropped c tid stamp said (Open number open_tid text asked let_go) is =
    ap (λ b. cond b (take_answer c number text asked let_go stamp said) (stays c)) is
reply_dropped c tid stamp said Idle is = refl
reply_dropped c tid stamp said (AtStore number entry ino head) is = refl

grant_dropped : (c : Client) (tid : ℕ) (stamp : Stamp) (ino : Ino) (mode : Mode) (size : ℕ) (file : FileTrace) (under : Under)
    → takes_grant c.files tid ino mode under ≡ false → take_grant c tid stamp ino mode size file under ≡ stays c
grant_dropped c tid stamp ino mode size file (Open number open_tid text asked let_go) is =
    ap (λ b. cond b (goes_on (granted c ino mode size stamp.snap file) number ino (edit_of text)) (stays c)) is
grant_dropped c tid stamp ino mode size file Idle is = refl
grant_dropped c tid stamp ino mode size file (AtStore number entry other head) is = refl

own_dropped : (c : Client) (told : ToClient) → takes_own c told ≡ false → take_own c told ≡ stays c
own_dropped c (Reply conn tid stamp said) is = reply_dropped c tid stamp said c.under is
own_dropped c (Grant conn tid stamp ino mode size file) is = grant_dropped c tid stamp ino mode size file c.under is
own_dropped c told is = absurd (true≢false is)

pub told_dropped : (c : Client) (told : ToClient) → takes_told c told ≡ false → on_told c told ≡ stays (having_heard c told)
told_dropped c told is = by (may_take c told && to_client_fits told) is
  where
    by : (b : Bool) → (b && takes_own (having_heard c told) told) ≡ false
        → cond b (take_own (having_heard c told) told) (stays (having_heard c told)) ≡ stays (having_heard c told)
    by true is = own_dropped (having_heard c told) told is
    by false is = refl

read_dropped : (c : Client) (said : FromStore) (under : Under) → is_answered said under ≡ false → take_read c said under ≡ stays c
read_dropped c said (AtStore number entry ino head) is =
    ap (λ b. cond b (replies (record c { under = Idle }) number false entry (store_answer c ino head said)) (stays c)) is
read_dropped c said Idle is = refl
read_dropped c said (Open number tid text asked let_go) is = refl

said_dropped : (c : Client) (said : FromStore) → takes_said c said ≡ false → take_stored c said ≡ stays c
said_dropped c (Stored ino) is = absurd (true≢false is)
said_dropped c said is = read_dropped c said c.under is

pub stored_dropped : (c : Client) (said : FromStore) → takes_stored c said ≡ false → on_stored c said ≡ stays c
stored_dropped c said is = by (from_store_fits said) is
  where
    by : (b : Bool) → (b && takes_said c said) ≡ false → cond b (take_stored c said) (stays c) ≡ stays c
    by true is = said_dropped c said is
    by false is = refl
