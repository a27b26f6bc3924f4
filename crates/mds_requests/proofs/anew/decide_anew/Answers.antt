use Rattle.std.proofs.Common.{◌≡◌, ◌<◌, ◌≤◌, ℕ, ◌+◌, List, ◌∷◌, drop, drop-cons, get_or, length, refl, ◌∙◌, subst, arith, add-one}
use Rattle.std.proofs.lemmas.List.{drop_all}
use Rattle.mds_requests.proofs.Turned.{Left, left_first, left_none, left_next, left_sound}
use Rattle.mds_requests.proofs.anew.decide_anew.Goals as goal

pub loop-client-init : goal.loop-client-init
loop-client-init c = record {
  clients = refl;
  left = λ s stands ready. left_first s c.args.state.now c.deref-client-items.result.now stands ready.fit ready.once (c.deref-client-items.ensures.value ∙ c.in_ok-clients.ensures s s.hand stands);
}

pub treat_held-requires : goal.treat_held-requires
treat_held-requires c =
    let may = c.requires.may in
    record {
      sound = left_sound may.state c.loop-client.state c.loop-client.opened (drop c.loop-client.client-index c.deref-client-items.result.now)
          (c.loop-client.invariant.left may.state may.stands may.ready);
    }

step : (items : List ℕ) (i : ℕ) → i < length items → drop i items ≡ get_or items i 0 ∷ drop (i + 1) items
step items i less = rw (add-one, drop-cons items i 0) refl

pub loop-client-preserved : goal.loop-client-preserved
loop-client-preserved c =
    let items = c.deref-client-items.result.now in
    let i = c.loop-client.client-index in
    let less : c.loop-client.client-index < length c.deref-client-items.result.now = omega arith in
    record {
      clients = c.in_ok-more.ensures.clients ∙ c.loop-client.invariant.clients;
      left = λ s stands ready. left_next s c.loop-client.state c.treat_held.new.state c.loop-client.opened c.in_ok-more.more c.either-opened.result (get_or items i 0) (drop (i + 1) items)
          ready.past c.in_ok-more.ensures.acts c.either-opened.ensures
          (subst (λ (clients : List ℕ). Left s c.loop-client.state c.loop-client.opened clients) (step items i less) (c.loop-client.invariant.left s stands ready));
    }

pub returns-clause-acts : goal.returns-clause-acts
returns-clause-acts c =
    let items = c.deref-client-items.result.now in
    let none : length c.deref-client-items.result.now ≤ c.loop-client.client-index = omega arith in
    λ s stands ready. left_none s c.loop-client.state c.loop-client.opened
    (subst (λ (clients : List ℕ). Left s c.loop-client.state c.loop-client.opened clients) (drop_all c.loop-client.client-index items none) (c.loop-client.invariant.left s stands ready))
