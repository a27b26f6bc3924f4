-- What a client holds, and what it is given, was made: the laws.
use Rattle.std.proofs.Common.{◌≡◌, ℕ, List, [], ◌∷◌, take, Bool, true, false, true≢false, cond, Some, refl, sym, ap, subst, IfSome, arith}
use Rattle.std.proofs.lemmas.Bool.Decides.{nat_tests}
use Rattle.std.specs.Prelude.{◌&&◌, ◌||◌, ◌==◌, is_some}
use Rattle.std.specs.List.{list_any}
use Rattle.snap_ids.specs.declared.id.Ino.{Ino}
use Rattle.plain_types.specs.declared.answer.Answer.{Answer}
use Rattle.plain_types.specs.declared.answer.Answer.TheVariants as answer
use Rattle.plain_types.specs.declared.entry.Entry.{Entry}
use Rattle.plain_types.specs.declared.history.Event.{Event}
use Rattle.plain_types.specs.declared.message.ToClient.{ToClient}
use Rattle.plain_types.specs.declared.message.ToClient.TheVariants.{Reply, Grant}
use Rattle.plain_types.specs.declared.request.Request.{Request}
use Rattle.plain_types.specs.declared.request.Request.TheVariants as request
use Rattle.plain_types.specs.declared.script.Script.{Script}
use Rattle.plain_tree.specs.State.{same_ino}
use Rattle.held_files.specs.Files.{HeldFiles, is_ino, file_of, is_held, is_write}
use Rattle.step_table.specs.Capabilities.{OneWriter, clash}
use Rattle.step_table.specs.ServerState.{Asked, Holder, is_holder}
use Rattle.step_table.specs.World.{start}
use Rattle.run_laws.specs.Links.{EachClient}
use Rattle.run_laws.specs.Moments.{steps_of, world_after}
use Rattle.run_laws.specs.Tenures.{IsMade, HeldIsMade, HeldOnce, found_file, given_file, AllGivenMade, GivenIsMade, AllHoldMade, EachOnce, CapIsMade, AllAskMade}
use Rattle.run_laws.proofs.Held.{AllHeld}
use Rattle.run_laws.proofs.Holders.{or_false}
use Rattle.run_laws.proofs.Holds.{NamesKnown}
use Rattle.run_laws.proofs.Known.{Known, known_made}
use Rattle.run_laws.proofs.Kept.{writer_law}
use Rattle.run_laws.proofs.Knowing.{AllKnown, Knowing, knowing_holds}
use Rattle.run_laws.proofs.Linked.{each_part}
use Rattle.run_laws.proofs.Pairs.{sharers_hold}
use Rattle.run_laws.proofs.Ruled.{SaysKnown, CapAt}
use Rattle.run_laws.proofs.Seats.{AllHolders, AllAsk, Seats, seats_gives}
use Rattle.run_laws.proofs.Serving.{run_serves, no_client_start}
use Rattle.run_laws.proofs.Sharers.{Sharer}
use Rattle.run_laws.proofs.Shares.{or_none}

-- a file that is held is one of the list
held_known : (entries : List Entry) (ino : Ino) (files : HeldFiles) → AllHeld entries files → is_held ino files ≡ true → Known entries ino
held_known entries ino [] all is = absurd (true≢false (sym is))
held_known entries ino (f ∷ files) all is = by_test (is_ino ino f.0) same is (held_known entries ino files all.1)
  where
    same : is_ino ino f.0 ≡ true → Known entries ino
    same test = subst (Known entries) (ap (λ (n : ℕ). let i : Ino = record { 0 = n } in i) (grind (arith, nat_tests, test))) all.0.0

    by_test : (b : Bool) → (b ≡ true → Known entries ino) → is_some (cond b (Some f.1) (file_of ino files)) ≡ true → (is_held ino files ≡ true → Known entries ino) → Known entries ino
    by_test true here is go = here refl
    by_test false here is go = go is

answer_made : (entries : List Entry) (said : Answer) → SaysKnown entries said → IfSome (found_file said) (IsMade entries)
answer_made entries (answer.FoundLive ino perm size write_held) is = known_made entries ino is
answer_made entries said is = tt

given_made : (entries : List Entry) (m : ToClient) → NamesKnown entries m → IfSome (given_file m) (IsMade entries)
given_made entries (Grant conn tid st ino mode size file) is = known_made entries ino is
given_made entries (Reply conn tid st said) is = answer_made entries said is
given_made entries m is = tt

all_given : (entries : List Entry) (down : List ToClient) → AllKnown entries down → AllGivenMade entries down
all_given entries [] all = tt
all_given entries (m ∷ down) all = (given_made entries m all.0, all_given entries down all.1)

pub held_law : (script : Script) (history : List Event) → EachClient HeldIsMade (world_after script history)
held_law script history = each_part Knowing HeldIsMade (world_after script history)
    (λ n c up down s k ino is. known_made (take s.durable s.entries) ino (held_known (take s.durable s.entries) ino c.files k.1.holds.files is))
    (knowing_holds script (steps_of history))

pub given_law : (script : Script) (history : List Event) → EachClient GivenIsMade (world_after script history)
given_law script history = each_part Knowing GivenIsMade (world_after script history)
    (λ n c up down s k. all_given (take s.durable s.entries) down k.1.down) (knowing_holds script (steps_of history))

pub once_law : (script : Script) (history : List Event) → EachClient HeldOnce (world_after script history)
once_law script history = each_part Sharer HeldOnce (world_after script history) (λ n c up down s so. so.0) (sharers_hold script (steps_of history))

-- the server's table, and the requests that it keeps
hold_made : (entries : List Entry) (current : List (ℕ × ℕ)) (holders : List Holder) → AllHolders entries current holders → AllHoldMade entries current holders
hold_made entries current [] all = tt
hold_made entries current (h ∷ holders) all = ((known_made entries h.ino all.0.0, all.0.1), hold_made entries current holders all.1)

cap_made : (entries : List Entry) (asked : Request) → CapAt entries asked → CapIsMade entries asked
cap_made entries (request.Cap ino mode) is = known_made entries ino is
cap_made entries asked is = tt

ask_made : (entries : List Entry) (current : List (ℕ × ℕ)) (list : List Asked) → AllAsk entries current list → AllAskMade entries current list
ask_made entries current [] all = tt
ask_made entries current (a ∷ list) all = ((cap_made entries a.request all.0.0, all.0.1), ask_made entries current list all.1)

seats_hold : (script : Script) (history : List Event) → Seats (world_after script history).server
seats_hold script history = run_serves seats_gives (start script) (steps_of history) (no_client_start script) (record { in_hand = tt; in_held = tt; in_deferred = tt; in_operation = tt; table = tt })

pub table_law : (script : Script) (history : List Event) → let s = (world_after script history).server in AllHoldMade s.entries s.current s.holders
table_law script history = let s = (world_after script history).server in hold_made s.entries s.current s.holders (seats_hold script history).table

pub held_asked_law : (script : Script) (history : List Event) → let s = (world_after script history).server in AllAskMade s.entries s.current s.held
held_asked_law script history = let s = (world_after script history).server in ask_made s.entries s.current s.held (seats_hold script history).in_held

pub deferred_asked_law : (script : Script) (history : List Event) → let s = (world_after script history).server in AllAskMade s.entries s.current s.deferred
deferred_asked_law script history = let s = (world_after script history).server in ask_made s.entries s.current s.deferred (seats_hold script history).in_deferred

not_again : (h g : Holder) → clash h g ≡ false → is_holder h.client h.ino g ≡ false
not_again h g none = by_tests (same_ino h.ino g.ino) (same_ino g.ino h.ino) (h.client == g.client) (g.client == h.client) (is_write h.mode) (is_write g.mode) (grind (arith, nat_tests)) (grind (arith, nat_tests)) none
  where
    by_tests : (a b d e w v : Bool) → a ≡ b → d ≡ e → (a && (w || v || d)) ≡ false → (e && b) ≡ false
    by_tests a b d false w v same one none = refl
    by_tests a false d true w v same one none = refl
    by_tests true true true true true v same one none = absurd (true≢false none)
    by_tests true true true true false true same one none = absurd (true≢false none)
    by_tests true true true true false false same one none = absurd (true≢false none)
    by_tests false true d true w v same one none = absurd (true≢false (sym same))
    by_tests true true false true w v same one none = absurd (true≢false (sym one))

none_again : (h : Holder) (holders : List Holder) → list_any (clash h) holders ≡ false → list_any (is_holder h.client h.ino) holders ≡ false
none_again h [] none = refl
none_again h (g ∷ holders) none = let parts = or_false (clash h g) (list_any (clash h) holders) none in or_none (is_holder h.client h.ino g) (list_any (is_holder h.client h.ino) holders) (not_again h g parts.0) (none_again h holders parts.1)

each_once : (holders : List Holder) → OneWriter holders → EachOnce holders
each_once [] one = tt
each_once (h ∷ holders) one = (none_again h holders one.0, each_once holders one.1)

pub table_once_law : (script : Script) (history : List Event) → EachOnce (world_after script history).server.holders
table_once_law script history = each_once (world_after script history).server.holders (writer_law script history)
