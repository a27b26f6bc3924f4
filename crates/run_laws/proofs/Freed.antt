-- What a client lets go while its request is open, and what is granted to it: the laws.
use Rattle.std.proofs.Common.{◌≡◌, ◌≤◌, ℕ, zero, suc, List, [], ◌∷◌, ◌++◌, take, true, false, true≢false, Option, None, Some, refl, sym, ◌∙◌, subst, IfSome, arith, ◌⊎◌, inl, inr}
use Rattle.std.specs.List.{list_any}
use Rattle.snap_ids.specs.declared.id.Ino.{Ino}
use Rattle.snap_ids.specs.declared.values.Mode.TheVariants.{Read, Write}
use Rattle.plain_types.specs.declared.history.Event.{Event}
use Rattle.plain_types.specs.declared.message.FlushMsg.{FlushMsg}
use Rattle.plain_types.specs.declared.message.ToClient.{ToClient}
use Rattle.plain_types.specs.declared.message.ToServer.{ToServer}
use Rattle.plain_types.specs.declared.request.Request.{Request}
use Rattle.plain_types.specs.declared.request.Request.TheVariants as request
use Rattle.plain_types.specs.declared.script.Script.{Script}
use Rattle.plain_journal.specs.Table.{last_flush}
use Rattle.held_files.specs.Files.{HeldFiles, is_held}
use Rattle.step_table.specs.Capabilities.{OneWriter}
use Rattle.step_table.specs.ServerState.{Holder, number_of, is_holder}
use Rattle.step_table.specs.ClientState.{Client, Under, Open}
use Rattle.run_laws.specs.Holding.{is_given}
use Rattle.run_laws.specs.LetGo.{AllGivenAfter, GivenAfterRelease, TableCoversGiven, is_drop, reads_at, CapIsWanted, GoneIsFree, LetGoIsRemembered, LetGoIsFree, DroppedIsFree, GrantIsAsked}
use Rattle.run_laws.specs.Links.{EachClient, mail_of}
use Rattle.run_laws.specs.Moments.{steps_of, world_after}
use Rattle.run_laws.specs.Tenures.{AllReleased, gone_in}
use Rattle.run_laws.proofs.Covers.{share_any, held_reader}
use Rattle.run_laws.proofs.Files.{held_not}
use Rattle.run_laws.proofs.Holders.{or_false}
use Rattle.run_laws.proofs.Leaving.{Known, known_hold}
use Rattle.run_laws.proofs.Linked.{each_part}
use Rattle.run_laws.proofs.Pairs.{sharers_hold, not_given}
use Rattle.run_laws.proofs.Shares.{shares, gives, AllGive, reader_shares}
use Rattle.run_laws.proofs.Sharers.{Sharer}
use Rattle.run_laws.proofs.Sharing.{CapFree, Frees, Covered, CoverBy, DroppedBy, DownAfter}

pub remembered_law : (script : Script) (history : List Event) → EachClient LetGoIsRemembered (world_after script history)
remembered_law script history = each_part Sharer LetGoIsRemembered (world_after script history) (λ n c up down s so. so.1.0.lets) (sharers_hold script (steps_of history))

pub asked_law : (script : Script) (history : List Event) → EachClient GrantIsAsked (world_after script history)
asked_law script history = each_part Sharer GrantIsAsked (world_after script history) (λ n c up down s so. so.1.0.grants) (sharers_hold script (steps_of history))

wanted : (files : HeldFiles) (gone : List Ino) (asked : Request) → CapFree files gone asked → CapIsWanted files gone asked
wanted files gone (request.Cap file Read) free = (held_not file files free.0, free.1)
wanted files gone (request.Cap file Write) free = held_reader file files free
wanted files gone asked free = tt

gone_free : (files : HeldFiles) (under : Under) → Frees files under → GoneIsFree files under
gone_free files (Open number tid text asked gone) frees = ((λ ino is. held_not ino files (frees.0 ino is)), wanted files gone asked frees.1)
gone_free files under frees = tt

pub let_go_law : (script : Script) (history : List Event) → EachClient LetGoIsFree (world_after script history)
let_go_law script history = each_part Sharer LetGoIsFree (world_after script history) (λ n c up down s so. gone_free c.files c.under so.1.0.frees) (sharers_hold script (steps_of history))

none_is : {k : ℕ} → k ≤ 0 → k ≡ 0
none_is few = omega (arith, few)

dropped_free : (n : ℕ) (c : Client) (up : List ToServer) (p : List ToClient) (holders : List Holder) → OneWriter holders → (o : Option ℕ) → DroppedBy (Covered c.conn (gone_in c.under) c.files p) up (λ ino. shares n ino holders) o
    → IfSome o (λ k. (ino : Ino) → list_any (is_drop k ino) up ≡ true → list_any (reads_at n ino) holders ≡ true → (is_held ino c.files ≡ false) × (list_any (is_given c.conn (gone_in c.under) ino) p ≡ false))
dropped_free n c up p holders one None dropped = tt
dropped_free n c up p holders one (Some k) dropped = λ ino any reads. let none = dropped ino any (reader_shares n ino holders one reads) in
    (held_not ino c.files (none_is none.0), not_given c.conn (gone_in c.under) ino p none.1)

given_covered : (n : ℕ) (c : Client) (p : List ToClient) (holders : List Holder) (o : Option ℕ) → CoverBy (Covered c.conn (gone_in c.under) c.files p) (λ ino. shares n ino holders) o
    → IfSome o (λ k. (ino : Ino) → list_any (is_given c.conn (gone_in c.under) ino) p ≡ true → list_any (is_holder n ino) holders ≡ true)
given_covered n c p holders None cover = tt
given_covered n c p holders (Some k) cover = λ ino any. by_share ino any (shares n ino holders) refl
  where
    by_share : (ino : Ino) → list_any (is_given c.conn (gone_in c.under) ino) p ≡ true → (k : ℕ) → shares n ino holders ≡ k → list_any (is_holder n ino) holders ≡ true
    by_share ino any zero none = absurd (true≢false (sym any ∙ not_given c.conn (gone_in c.under) ino p (subst (λ (k : ℕ). AllGive c.conn (gone_in c.under) ino k p) none (cover ino).1)))
    by_share ino any (suc k) some = share_any n ino holders (omega (arith, some))

pub covered_law : (script : Script) (history : List Event) → EachClient TableCoversGiven (world_after script history)
covered_law script history = each_part Sharer TableCoversGiven (world_after script history)
    (λ n c up down s so. given_covered n c (down ++ mail_of n s.mail) s.holders (number_of s.current n) so.1.0.cover) (sharers_hold script (steps_of history))

given_after : (conn : ℕ) (gone : List Ino) (kept : List FlushMsg) (last : ℕ) (p : List ToClient) → DownAfter conn gone kept last p → AllGivenAfter conn gone kept last p
given_after conn gone kept last [] all = tt
given_after conn gone kept last (m ∷ p) all = ((λ ino is. either ino is (all.0 ino)), given_after conn gone kept last p all.1)
  where
    either : (ino : Ino) → is_given conn gone ino m ≡ true → (gives conn gone ino m ≡ 0) ⊎ AllReleased ino last kept → AllReleased ino last kept
    either ino is (inl none) = absurd (true≢false (sym is ∙ (or_false (is_given conn gone ino m) false (not_given conn gone ino (m ∷ []) (omega (arith, none), tt))).0))
    either ino is (inr all) = all

pub after_law : (script : Script) (history : List Event) → EachClient GivenAfterRelease (world_after script history)
after_law script history = each_part Sharer GivenAfterRelease (world_after script history)
    (λ n c up down s so. given_after c.conn (gone_in c.under) c.unacked (last_flush (take s.durable s.entries) n) down so.1.1.coming) (sharers_hold script (steps_of history))

pub dropped_law : (script : Script) (history : List Event) → EachClient DroppedIsFree (world_after script history)
dropped_law script history = each_part Known DroppedIsFree (world_after script history)
    (λ n c up down s k. dropped_free n c up (down ++ mail_of n s.mail) s.holders k.0.0.1.1.0 (number_of s.current n) k.0.1.1.0.dropped) (known_hold script (steps_of history))
