-- A message that is made, and a client that is told.
use Rattle.std.proofs.Common.{◌≡◌, ℕ, List, [], ◌∷◌, ◌++◌, Option, None, Some, length, refl, sym, ap, subst, ◌∙◌}
use Rattle.std.specs.Prelude.{true, ◌&&◌}
use Rattle.std.specs.List.{list_all}
use Rattle.std.proofs.lemmas.List.{map-append}
use Rattle.std.proofs.lemmas.List.Folds.{list_all-append}
use Rattle.plain_types.specs.declared.answer.Answer.{Answer}
use Rattle.plain_types.specs.declared.history.Sent.{Sent}
use Rattle.snap_ids.specs.declared.id.Ino.{Ino}
use Rattle.snap_ids.specs.declared.id.SnapId.{SnapId}
use Rattle.snap_ids.specs.declared.values.Mode.{Mode}
use Rattle.step_table.specs.Acts.{act, AnswerIt, GrantIt, answer_hand, grant_hand}
use Rattle.step_table.specs.Messages.{plain_sent}
use Rattle.step_table.specs.ServerState.{Asked, Server, Told, Answered, Granted, number_of, send, send_client, message_of, tell_at, tell}
use Rattle.mds_state.specs.Noted.{delete_noted, purge_noted}
use Rattle.mds_state.specs.Parts.{Parts}
use Rattle.mds_state.specs.Stands.{letter_traces_fit, plain_mail, sent_traces_fit, StandsFor}

all_end : (mail : List (ℕ × Sent)) (letter : ℕ × Sent) → list_all letter_traces_fit mail ≡ true → letter_traces_fit letter ≡ true → list_all letter_traces_fit (mail ++ letter ∷ []) ≡ true
all_end mail letter all fits = list_all-append letter_traces_fit mail (letter ∷ []) ∙ (λ i. all i && (fits i && true))

-- a message is made
pub mailed : (p : Parts) (taken : Option Asked) (s : Server) (number : ℕ) (own letter : Sent) → StandsFor p taken s → number ≡ length s.entries → plain_sent own ≡ letter → sent_traces_fit own ≡ true → StandsFor (record p { mail = p.mail ++ (number, own) ∷ [] }) taken (send s letter)
mailed p taken s number own letter stands many plain fits = record {
  clients = stands.clients;
  written = stands.written;
  sessions = stands.sessions;
  tenures = stands.tenures;
  mail = map-append plain_mail p.mail ((number, own) ∷ []) ∙ (λ i. stands.mail i ++ (many i, plain i) ∷ []);
  traces = all_end p.mail (number, own) stands.traces fits;
  hand = stands.hand;
  held = stands.held;
  deferred = stands.deferred;
  operation = stands.operation;
  purging = stands.purging;
  deleting = stands.deleting;
}

-- the request in hand is done with
pub freed : (p : Parts) (taken : Option Asked) (s : Server) → StandsFor p taken s → StandsFor p None (record s { hand = None })
freed p taken s stands = record {
  clients = stands.clients;
  written = stands.written;
  sessions = stands.sessions;
  tenures = stands.tenures;
  mail = stands.mail;
  traces = stands.traces;
  hand = refl;
  held = stands.held;
  deferred = stands.deferred;
  operation = stands.operation;
  purging = stands.purging;
  deleting = stands.deleting;
}

module _ (p : Parts) (taken : Option Asked) (s : Server) (client : ℕ) (told : Told) where
  -- a client that is connected is told
  pub tells : (conn : ℕ) → number_of s.current client ≡ Some conn → StandsFor p taken (send_client s client (message_of s conn told)) → StandsFor p taken (tell s client told)
  tells conn is sent = subst (λ (o : Option ℕ). StandsFor p taken (tell_at s client told o)) (sym is) sent

  -- and who isn't connected is told nothing
  pub untold : number_of s.current client ≡ None → StandsFor p taken s → StandsFor p taken (tell s client told)
  untold is stands = subst (λ (o : Option ℕ). StandsFor p taken (tell_at s client told o)) (sym is) stands

module _ (p q : Parts) (a : Asked) (s : Server) (stands : StandsFor p (Some a) s) where
  -- the request in hand is answered, or granted
  pub answers : (answer : Answer) → StandsFor q None (tell (record s { hand = None }) a.client (Answered a.tid answer)) → StandsFor q None (act s (AnswerIt answer))
  answers answer done = subst (λ (h : Option Asked). StandsFor q None (answer_hand s answer h)) (sym stands.hand) done

  pub grants : (ino : Ino) (mode : Mode) → StandsFor q None (tell (record s { hand = None }) a.client (Granted a.tid ino mode)) → StandsFor q None (act s (GrantIt ino mode))
  grants ino mode done = subst (λ (h : Option Asked). StandsFor q None (grant_hand s ino mode h)) (sym stands.hand) done

-- orders to the store are noted
pub purge_sent : (p : Parts) (taken : Option Asked) (s : Server) (id : SnapId) → StandsFor p taken s → StandsFor (record p { purging = p.purging ++ id ∷ [] }) taken (purge_noted s id)
purge_sent p taken s id stands = record {
  clients = stands.clients;
  written = stands.written;
  sessions = stands.sessions;
  tenures = stands.tenures;
  mail = stands.mail;
  traces = stands.traces;
  hand = stands.hand;
  held = stands.held;
  deferred = stands.deferred;
  operation = stands.operation;
  purging = ap (λ (ids : List SnapId). ids ++ id ∷ []) stands.purging;
  deleting = stands.deleting;
}

pub delete_sent : (p : Parts) (taken : Option Asked) (s : Server) (ino : Ino) → StandsFor p taken s → StandsFor (record p { deleting = p.deleting ++ ino ∷ [] }) taken (delete_noted s ino)
delete_sent p taken s ino stands = record {
  clients = stands.clients;
  written = stands.written;
  sessions = stands.sessions;
  tenures = stands.tenures;
  mail = stands.mail;
  traces = stands.traces;
  hand = stands.hand;
  held = stands.held;
  deferred = stands.deferred;
  operation = stands.operation;
  purging = stands.purging;
  deleting = ap (λ (inos : List Ino). inos ++ ino ∷ []) stands.deleting;
}
