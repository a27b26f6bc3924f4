-- What a client says can be taken: the numbers in the flushes that it keeps can be, and each Connect that is on its way says
-- what the client has now.
use Rattle.std.proofs.Common.{◌≡◌, ◌≤◌, ◌<◌, ℕ, ◌+◌, List, [], ◌∷◌, take, drop, not, true, Option, None, Some, refl, sym, ◌∙◌, ap, subst, IfSome, inl, inr, arith}
use Rattle.std.proofs.lemmas.List.{take-append-drop}
use Rattle.std.specs.List.{AllByRecursion, list_all}
use Rattle.snap_ids.specs.declared.id.TheConstants.{NOSNAP}
use Rattle.plain_types.specs.declared.entry.Entry.{Entry}
use Rattle.plain_types.specs.declared.history.Event.{Event}
use Rattle.plain_types.specs.declared.history.Step.{Step}
use Rattle.plain_types.specs.declared.message.Claim.{Claim}
use Rattle.plain_types.specs.declared.message.FlushMsg.{FlushMsg}
use Rattle.plain_types.specs.declared.message.ToClient.{ToClient}
use Rattle.plain_types.specs.declared.message.ToServer.{ToServer}
use Rattle.plain_types.specs.declared.message.ToServer.TheVariants.{Connect, Ask, Flush, DropRead, Purged, Deleted}
use Rattle.plain_types.specs.declared.request.Request.{Request}
use Rattle.plain_types.specs.declared.script.Script.{Script}
use Rattle.plain_journal.specs.Entries.{applied}
use Rattle.plain_journal.specs.Table.{next_snap}
use Rattle.held_files.specs.Files.{claims}
use Rattle.step_table.specs.Messages.{claim_fits, flush_fits, to_server_fits}
use Rattle.step_table.specs.Row.{Row}
use Rattle.step_table.specs.ServerRows.{on_commit, on_restart, on_tend}
use Rattle.step_table.specs.ClientState.{Client}
use Rattle.step_table.specs.ClientLines.{on_op, on_flush}
use Rattle.step_table.specs.ClientTakes.{on_told, on_stored}
use Rattle.step_table.specs.World.{client, journal, start, after, lines_of}
use Rattle.run_laws.specs.Links.{View, EachClient, Offer, IsOffer, Behind, Up, offer, mine}
use Rattle.run_laws.specs.Moments.{steps_of, world_after}
use Rattle.run_laws.proofs.Holds.{Stays, Sends, Takes, op_stays, flush_sends, told_takes, stored_stays}
use Rattle.run_laws.proofs.Knowing.{Knowing, AllGood, knowing, first_knowing}
use Rattle.run_laws.proofs.Linked.{at_start, links_law}
use Rattle.run_laws.proofs.Views.{KeptByRows, run_keeps}
use Rattle.id_laws.specs.Fits.{SaysWhatCanBeTaken}
use Rattle.id_laws.specs.Upto.{ClaimUpto}
use Rattle.id_laws.proofs.Finals.{keeps_law}
use Rattle.id_laws.proofs.Fitting.{applied_next}
use Rattle.id_laws.proofs.Keeps.{claims_upto}
use Rattle.id_laws.proofs.Lists.{all_append, all_filter}
use Rattle.id_laws.proofs.Sizes.{below, both, all_true}

-- the flushes that a client keeps
abbrev Fits : FlushMsg → Type 0
Fits f = flush_fits f ≡ true

abbrev KeptFit : Client → Type 0
KeptFit c = AllByRecursion Fits c.unacked

-- with what is known of the client, of what it has and sends
abbrev Speaking : View
Speaking n c up down s = Knowing n c up down s × KeptFit c

stays_fit : (entries : List Entry) (c : Client) (r : Row Client) → KeptFit c → Stays entries c r → KeptFit r.state
stays_fit entries c r all stays = subst (AllByRecursion Fits) (sym stays.unacked) all

sends_fit : (entries : List Entry) (c : Client) (r : Row Client) → KeptFit c → Sends entries c r → KeptFit r.state
sends_fit entries c r all (inl stays) = stays_fit entries c r all stays
sends_fit entries c r all (inr flushed) = subst (AllByRecursion Fits) (sym flushed.unacked) (all_append Fits c.unacked (flushed.flush ∷ []) all (flushed.fits, tt))

takes_fit : (entries : List Entry) (c : Client) (m : ToClient) (r : Row Client) → KeptFit c → Takes entries c m r → KeptFit r.state
takes_fit entries c m r all (inl stays) = stays_fit entries c r all stays
takes_fit entries c m r all (inr settles) = subst (AllByRecursion Fits) (sym settles.unacked) (all_filter Fits (λ (f : FlushMsg). not (settles.which f.number)) c.unacked all)

two : {X : Type 0} (o : Option X) (P Q R : X → Type 0) → ((x : X) → Q x → R x) → IfSome o P → IfSome o Q → IfSome o (λ x. P x × R x)
two None P Q R go one other = tt
two (Some x) P Q R go one other = (one, go x other)

with : {X C : Type 0} (o : Option X) (P : X → Type 0) → IfSome o P → C → IfSome o (λ x. P x × C)
with None P one other = tt
with (Some x) P one other = (one, other)

speaking : KeptByRows Speaking
speaking = record {
  op = λ n c up down s k. two (on_op c) _ (Stays (take s.durable s.entries) c) (λ r. KeptFit r.state) (λ r is. stays_fit (take s.durable s.entries) c r k.1 is) (knowing.op n c up down s k.0) (op_stays (take s.durable s.entries) c c.lines k.0.1.holds);
  flush = λ n c up down s k. two (on_flush c) _ _ (λ r. KeptFit r.state) (λ r is. sends_fit (take s.durable s.entries) c r k.1 is.1) (knowing.flush n c up down s k.0) (flush_sends (take s.durable s.entries) c k.0.1.holds);
  told = λ n c up m down s k. (knowing.told n c up m down s k.0, takes_fit (take s.durable s.entries) c m (on_told c m) k.1 (told_takes (take s.durable s.entries) c m k.0.1.down.0 k.0.1.holds));
  stored = λ n c m up down s k. (knowing.stored n c m up down s k.0, stays_fit (take s.durable s.entries) c (on_stored c m) k.1 (stored_stays (take s.durable s.entries) c m k.0.1.holds));
  own = λ n c m up down s k. (knowing.own n c m up down s k.0, k.1);
  other = λ n x c m up down s other k. (knowing.other n x c m up down s other k.0, k.1);
  reported = λ n c m up down s k. (knowing.reported n c m up down s k.0, k.1);
  committed = λ n c up down s k. with (on_commit s) _ (knowing.committed n c up down s k.0) k.1;
  tended = λ n c up down s k. with (on_tend s) _ (knowing.tended n c up down s k.0) k.1;
  restarted = λ n c up down s j k. with (on_restart s j) _ (knowing.restarted n c up down s j k.0) k.1;
}

speaks : (script : Script) (steps : List Step) → EachClient Speaking (after (start script) steps)
speaks script steps = run_keeps Speaking speaking (start script) steps (at_start Speaking script (λ n is. (first_knowing n (script.clients + 1) (lines_of n script.lines) script, tt)))

-- what is on its way
offered : (o : Offer) (k conn : ℕ) (said : List Claim) (flushes : List FlushMsg) (asked : Option (ℕ × Request)) → list_all claim_fits o.claims ≡ true → list_all flush_fits o.flushes ≡ true → IsOffer o k conn said flushes asked → to_server_fits (Connect conn said flushes asked) ≡ true
offered o k conn said flushes asked one other is = both (list_all claim_fits said) (list_all flush_fits flushes) (ap (list_all claim_fits) is.claims ∙ one) (ap (list_all flush_fits) is.flushes ∙ other)

behind_can : (o : Offer) (k : ℕ) (up : List ToServer) → list_all claim_fits o.claims ≡ true → list_all flush_fits o.flushes ≡ true → Behind o k up → AllByRecursion (λ (said : ToServer). to_server_fits said ≡ true) up
behind_can o k [] one other is = tt
behind_can o k (Connect conn said flushes asked ∷ up) one other is = (offered o (k + 1) conn said flushes asked one other is.0, behind_can o (k + 1) up one other is.1)
behind_can o k (Ask conn tid request ∷ up) one other is = absurd is
behind_can o k (Flush conn f ∷ up) one other is = absurd is
behind_can o k (DropRead conn ino ∷ up) one other is = absurd is
behind_can o k (Purged id ∷ up) one other is = absurd is
behind_can o k (Deleted ino ∷ up) one other is = absurd is

up_can : (entries : List Entry) (o : Offer) (k : ℕ) (up : List ToServer) → list_all claim_fits o.claims ≡ true → list_all flush_fits o.flushes ≡ true → AllGood entries up → Up o k up → AllByRecursion (λ (said : ToServer). to_server_fits said ≡ true) up
up_can entries o k [] one other good is = tt
up_can entries o k (Connect conn said flushes asked ∷ up) one other good is = (offered o (k + 1) conn said flushes asked one other is.1, behind_can o (k + 1) up one other is.2)
up_can entries o k (Ask conn tid request ∷ up) one other good is = (refl, up_can entries o k up one other good is.1)
up_can entries o k (Flush conn f ∷ up) one other good is = (good.0.1, up_can entries o k up one other good.1 is.1)
up_can entries o k (DropRead conn ino ∷ up) one other good is = (refl, up_can entries o k up one other good is.1)
up_can entries o k (Purged id ∷ up) one other good is = absurd is
up_can entries o k (Deleted ino ∷ up) one other good is = absurd is

three : {X : Type 0} (o : Option X) (P Q R S : X → Type 0) → ((x : X) → P x → Q x → R x → S x) → IfSome o P → IfSome o Q → IfSome o R → IfSome o S
three None P Q R S go p q r = tt
three (Some x) P Q R S go p q r = go x p q r

pub says_can : (script : Script) (history : List Event) → next_snap (journal (world_after script history)) ≤ NOSNAP.0 → EachClient SaysWhatCanBeTaken (world_after script history)
says_can script history few n =
    let w = world_after script history in
    let next = applied_next script history (journal w) (drop w.server.durable w.server.entries) (sym (take-append-drop w.server.durable w.server.entries)) in
    let less : applied (journal w) < NOSNAP.0 = omega (arith, next, few) in
    three (client w.clients n) _ _ _ (λ (c : Client). AllByRecursion (λ (said : ToServer). to_server_fits said ≡ true) (mine n w.up))
    (λ c link speaks keeps. up_can (journal w) (offer c) link.base (mine n w.up)
    (all_true (ClaimUpto (applied (journal w))) claim_fits (λ claim is. below claim.settled.0 (applied (journal w)) NOSNAP.0 is less) (claims c.files) (claims_upto (applied (journal w)) c.files keeps.files))
    (all_true Fits flush_fits (λ f is. is) c.unacked speaks.1)
    speaks.0.1.up link.up)
    (links_law script history n) (speaks script (steps_of history) n) (keeps_law script history n)
