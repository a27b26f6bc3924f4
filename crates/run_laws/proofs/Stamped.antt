-- The stamps of what is sent along a legal history.
use Rattle.std.proofs.Common.{◌≡◌, ◌≤◌, ℕ, List, [], ◌∷◌, ◌++◌, map, length, take, Bool, true, false, cond, Option, None, Some, refl, sym, ap, ◌∙◌, subst, IfSome, arith, inl, inr}
use Rattle.std.proofs.lemmas.List.{length-take-le, map-append}
use Rattle.std.proofs.lemmas.List.Elements.{filter_map-append}
use Rattle.std.proofs.lemmas.Bool.Decides.{nat_tests}
use Rattle.std.specs.Prelude.{◌==◌, filter_map}
use Rattle.std.specs.List.{cons_option}
use Rattle.plain_types.specs.declared.entry.Entry.{Entry}
use Rattle.plain_types.specs.declared.history.Event.{Event}
use Rattle.plain_types.specs.declared.history.Sent.{Sent}
use Rattle.plain_types.specs.declared.message.Message.{Message}
use Rattle.plain_types.specs.declared.message.Message.TheVariants as message
use Rattle.plain_types.specs.declared.message.ToClient.{ToClient}
use Rattle.plain_types.specs.declared.message.ToClient.TheVariants.{Reply, Grant, Recall, Notice, FlushAck, Welcome, Restarted}
use Rattle.plain_types.specs.declared.script.Script.{Script}
use Rattle.plain_types.specs.declared.message.Stamp.{Stamp}
use Rattle.plain_tree.specs.History.{stamp_of}
use Rattle.plain_journal.specs.Entries.{applied}
use Rattle.step_table.specs.Legal.{LegalFrom, IsEventOf, Legal, sent_between, message_to}
use Rattle.step_table.specs.Messages.{plain_sent, plain_message, plainly_told}
use Rattle.step_table.specs.Restarts.{is_restart}
use Rattle.step_table.specs.World.{World, Made, row, after_row, after, start, journal}
use Rattle.run_laws.specs.Moments.{steps_of, world_after}
use Rattle.run_laws.specs.Stamps.{told_by, told_in, sent_to, entry_of, NeverFall, AllStampsOf}
use Rattle.run_laws.proofs.Serving.{NoClient, Served, served, run_serves, no_client_run, no_client_start}
use Rattle.run_laws.proofs.Growing.{take_take, world_append}
use Rattle.run_laws.proofs.Mail.{GoneAt, Gone, Mailed, HandedOut, mailed_gives, state_gives}

-- a legal history goes on from the world after its first events
pub legal_rest : (w : World) (history more : List Event) → LegalFrom w (history ++ more) → LegalFrom (after w (steps_of history)) more
legal_rest w [] more legal = legal
legal_rest w (event ∷ history) more legal = by_row (row w event.step) (λ next. legal_rest next history more) legal
  where
    by_row : (o : Option Made) → ((next : World) → LegalFrom next (history ++ more) → LegalFrom (after next (steps_of history)) more) → (elim o as (λ x. Type 0) [ None ↦ ⊥ | Some made ↦ IsEventOf event made × LegalFrom made.world (history ++ more) ]) → LegalFrom (after (after_row w o) (steps_of history)) more
    by_row None go legal = absurd legal
    by_row (Some made) go legal = go made.world legal.1

-- the message said plainly has the same stamp
plain_entry : (told : ToClient) → stamp_of (plainly_told told) ≡ stamp_of told
plain_entry (Reply conn tid stamp answer) = refl
plain_entry (Grant conn tid stamp ino mode size file) = refl
plain_entry (Recall conn stamp ino) = refl
plain_entry (Notice conn stamp update) = refl
plain_entry (FlushAck conn stamp number) = refl
plain_entry (Welcome conn stamp flushed update) = refl
plain_entry (Restarted stamp) = refl

-- the stamps of what goes to a client
abbrev stamps_for : ℕ → List Sent → List ℕ
stamps_for n sent = map entry_of (filter_map told_by (filter_map (message_to n) sent))

plain_stamps : (n : ℕ) (sent : List Sent) → stamps_for n (map plain_sent sent) ≡ stamps_for n sent
plain_stamps n [] = refl
plain_stamps n (m ∷ sent) = by_test (m.to == n) m.message (plain_stamps n sent)
  where
    rest : List ℕ
    rest = stamps_for n sent

    by_message : (x : Message) → stamps_for n (map plain_sent sent) ≡ stamps_for n sent → map entry_of (filter_map told_by (plain_message x ∷ filter_map (message_to n) (map plain_sent sent))) ≡ map entry_of (filter_map told_by (x ∷ filter_map (message_to n) sent))
    by_message (message.ToClient told) e = ap (λ (st : Stamp). st.entry ∷ stamps_for n (map plain_sent sent)) (plain_entry told) ∙ ap (λ (l : List ℕ). entry_of told ∷ l) e
    by_message (message.ToServer said) e = e
    by_message (message.ToStore order) e = e
    by_message (message.FromStore said) e = e

    by_test : (b : Bool) (x : Message) → stamps_for n (map plain_sent sent) ≡ stamps_for n sent → map entry_of (filter_map told_by (cons_option (cond b (Some (plain_message x)) None) (filter_map (message_to n) (map plain_sent sent)))) ≡ map entry_of (filter_map told_by (cons_option (cond b (Some x) None) (filter_map (message_to n) sent)))
    by_test true x e = by_message x e
    by_test false x e = e

same_stamps : (n : ℕ) (a b : List Sent) → map plain_sent a ≡ map plain_sent b → stamps_for n a ≡ stamps_for n b
same_stamps n a b same = sym (plain_stamps n a) ∙ ap (stamps_for n) same ∙ plain_stamps n b

-- what goes doesn't fall
gone_never : (n : ℕ) (entries : List Entry) (low high : ℕ) (sent : List Sent) (rest : List ℕ) → Gone entries low high sent → ((next : ℕ) → next ≤ high → NeverFall next rest) → NeverFall low (stamps_for n sent ++ rest)
gone_never n entries low high [] rest gone then = then low gone
gone_never n entries low high (m ∷ sent) rest gone then = by_message m.message (m.to == n) (λ next gone. gone_never n entries next high sent rest gone then) gone
  where
    less : (least next : ℕ) (numbers : List ℕ) → least ≤ next → NeverFall next numbers → NeverFall least numbers
    less least next [] is never = tt
    less least next (x ∷ numbers) is never = (let more = never.0 in omega (arith, is, more), never.1)

    by_message : (x : Message) (b : Bool) → ((next : ℕ) → Gone entries next high sent → NeverFall next (stamps_for n sent ++ rest)) → GoneAt entries low high (told_by x) (λ next. Gone entries next high sent) → NeverFall low (map entry_of (filter_map told_by (cons_option (cond b (Some x) None) (filter_map (message_to n) sent))) ++ rest)
    by_message (message.ToClient told) true go gone = (gone.0, go (entry_of told) gone.3)
    by_message (message.ToClient told) false go gone = less low (entry_of told) (stamps_for n sent ++ rest) gone.0 (go (entry_of told) gone.3)
    by_message (message.ToServer said) true go gone = go low gone
    by_message (message.ToStore order) true go gone = go low gone
    by_message (message.FromStore said) true go gone = go low gone
    by_message (message.ToServer said) false go gone = go low gone
    by_message (message.ToStore order) false go gone = go low gone
    by_message (message.FromStore said) false go gone = go low gone

never_lower : (low high : ℕ) (numbers : List ℕ) → low ≤ high → NeverFall high numbers → NeverFall low numbers
never_lower low high [] less never = tt
never_lower low high (n ∷ numbers) less never = (let more = never.0 in omega (arith, less, more), never.1)

filter_append : (a b : List Message) → map entry_of (filter_map told_by (a ++ b)) ≡ map entry_of (filter_map told_by a) ++ map entry_of (filter_map told_by b)
filter_append a b = ap (map entry_of) (filter_map-append told_by a b) ∙ map-append entry_of (filter_map told_by a) (filter_map told_by b)

never_from : (n : ℕ) (history : List Event) (w : World) → LegalFrom w history → NoClient w → Mailed w.server → (low : ℕ) → low ≤ w.server.durable → NeverFall low (map entry_of (sent_to n history))
never_from n [] w legal alone mailed low less = tt
never_from n (event ∷ history) w legal alone mailed low less =
    subst (NeverFall low) (sym (filter_append (cond (event.node == 0) (filter_map (message_to n) event.sent) []) (sent_between 0 n history)))
    (by_row (row w event.step) (λ next legal alone mailed low less. never_from n history next legal alone mailed low less) (served mailed_gives w event.step alone mailed) (no_client_run w (event.step ∷ []) alone) legal)
  where
    Goal : Type 0
    Goal = NeverFall low (map entry_of (filter_map told_by (cond (event.node == 0) (filter_map (message_to n) event.sent) [])) ++ map entry_of (sent_to n history))

    by_row : (o : Option Made) → ((next : World) → LegalFrom next history → NoClient next → Mailed next.server → (low : ℕ) → low ≤ next.server.durable → NeverFall low (map entry_of (sent_to n history))) → IfSome o (Served (HandedOut (is_restart event.step)) w) → NoClient (after_row w o) → (elim o as (λ x. Type 0) [ None ↦ ⊥ | Some made ↦ IsEventOf event made × LegalFrom made.world history ]) → Goal
    by_row None go given alone legal = absurd legal
    by_row (Some made) go (inl given) alone legal = rw here sent
      where
        here : (event.node == 0) ≡ true
        here = let at : event.node ≡ 0 = legal.0.node ∙ given.node in grind (arith, nat_tests, at)

        after_it : HandedOut (is_restart event.step) w.server given.row
        after_it = given.gives

        more : (next : ℕ) → next ≤ given.row.state.durable → NeverFall next (map entry_of (sent_to n history))
        more next most = go made.world legal.1 alone (rw given.state after_it.0) next (rw given.state most)

        sent : NeverFall low (stamps_for n event.sent ++ map entry_of (sent_to n history))
        sent = rw (same_stamps n event.sent given.row.sent (legal.0.sent ∙ ap (map plain_sent) given.sent))
            (never_lower low w.server.durable _ less (gone_never n given.row.state.entries w.server.durable given.row.state.durable given.row.sent (map entry_of (sent_to n history)) after_it.1 more))
    by_row (Some made) go (inr given) alone legal = rw away (go made.world legal.1 alone (rw given.state mailed) low (rw given.state less))
      where
        not_it : event.node ≡ 0 → ⊥
        not_it is = given.away (sym legal.0.node ∙ is)

        away : (event.node == 0) ≡ false
        away = grind (arith, nat_tests, not_it)

pub start_mailed : (script : Script) → Mailed (start script).server
start_mailed script = record { low = omega arith; fits = omega arith; waiting = tt }

pub stamps_law : (script : Script) (history : List Event) → Legal history script → (n : ℕ) → NeverFall 0 (map entry_of (sent_to n history))
stamps_law script history legal n = never_from n history (start script) legal.rows (no_client_start script) (start_mailed script) 0 (omega arith)

-- what goes is stamped with what is durable
gone_stamps : (entries : List Entry) (low high : ℕ) (sent : List Sent) → high ≤ length entries → Gone entries low high sent → AllStampsOf (take high entries) (told_in sent)
gone_stamps entries low high [] fits gone = tt
gone_stamps entries low high (m ∷ sent) fits gone = by_message m.message (λ next gone. gone_stamps entries next high sent fits gone) gone
  where
    by_message : (x : Message) → ((next : ℕ) → Gone entries next high sent → AllStampsOf (take high entries) (told_in sent)) → GoneAt entries low high (told_by x) (λ next. Gone entries next high sent) → AllStampsOf (take high entries) (cons_option (told_by x) (told_in sent))
    by_message (message.ToClient told) go gone =
        ((let long = length-take-le high entries fits in let most = gone.1 in omega (arith, long, most), gone.2 ∙ ap applied (sym (take_take (entry_of told) high entries gone.1 fits))), go (entry_of told) gone.3)
    by_message (message.ToServer said) go gone = go low gone
    by_message (message.ToStore order) go gone = go low gone
    by_message (message.FromStore said) go gone = go low gone

plain_all : (entries : List Entry) (sent : List Sent) → AllStampsOf entries (told_in (map plain_sent sent)) → AllStampsOf entries (told_in sent)
plain_all entries [] all = tt
plain_all entries (m ∷ sent) all = by_message m.message (plain_all entries sent) all
  where
    by_message : (x : Message) → (AllStampsOf entries (told_in (map plain_sent sent)) → AllStampsOf entries (told_in sent)) → AllStampsOf entries (cons_option (told_by (plain_message x)) (told_in (map plain_sent sent))) → AllStampsOf entries (cons_option (told_by x) (told_in sent))
    by_message (message.ToClient told) go all =
        ((subst (λ (st : Stamp). st.entry ≤ length entries) (plain_entry told) all.0.0, subst (λ (st : Stamp). st.snap.0 ≡ applied (take st.entry entries)) (plain_entry told) all.0.1), go all.1)
    by_message (message.ToServer said) go all = go all
    by_message (message.ToStore order) go all = go all
    by_message (message.FromStore said) go all = go all

all_plain : (entries : List Entry) (sent : List Sent) → AllStampsOf entries (told_in sent) → AllStampsOf entries (told_in (map plain_sent sent))
all_plain entries [] all = tt
all_plain entries (m ∷ sent) all = by_message m.message (all_plain entries sent) all
  where
    by_message : (x : Message) → (AllStampsOf entries (told_in sent) → AllStampsOf entries (told_in (map plain_sent sent))) → AllStampsOf entries (cons_option (told_by x) (told_in sent)) → AllStampsOf entries (cons_option (told_by (plain_message x)) (told_in (map plain_sent sent)))
    by_message (message.ToClient told) go all =
        ((subst (λ (st : Stamp). st.entry ≤ length entries) (sym (plain_entry told)) all.0.0, subst (λ (st : Stamp). st.snap.0 ≡ applied (take st.entry entries)) (sym (plain_entry told)) all.0.1), go all.1)
    by_message (message.ToServer said) go all = go all
    by_message (message.ToStore order) go all = go all
    by_message (message.FromStore said) go all = go all

pub event_stamps : (w : World) (event : Event) → LegalFrom w (event ∷ []) → NoClient w → Mailed w.server → event.node ≡ 0 → AllStampsOf (journal (after w (event.step ∷ []))) (told_in event.sent)
event_stamps w event legal alone mailed at = by_row (row w event.step) (served mailed_gives w event.step alone mailed) legal
  where
    by_row : (o : Option Made) → IfSome o (Served (HandedOut (is_restart event.step)) w) → (elim o as (λ x. Type 0) [ None ↦ ⊥ | Some made ↦ IsEventOf event made × LegalFrom made.world [] ]) → AllStampsOf (journal (after_row w o)) (told_in event.sent)
    by_row None given legal = absurd legal
    by_row (Some made) (inl given) legal =
        plain_all (journal made.world) event.sent (subst (λ (l : List Sent). AllStampsOf (journal made.world) (told_in l)) (sym (legal.0.sent ∙ ap (map plain_sent) given.sent))
        (all_plain (journal made.world) given.row.sent (rw given.state (gone_stamps given.row.state.entries w.server.durable given.row.state.durable given.row.sent given.gives.0.fits given.gives.1))))
    by_row (Some made) (inr given) legal = absurd (given.away (sym legal.0.node ∙ at))

pub told_law : (script : Script) (history : List Event) (event : Event) → Legal (history ++ event ∷ []) script → event.node ≡ 0 → AllStampsOf (journal (world_after script (history ++ event ∷ []))) (told_in event.sent)
told_law script history event legal at =
    subst (λ (w : World). AllStampsOf (journal w) (told_in event.sent)) (sym (world_append script history (event ∷ [])))
    (event_stamps (world_after script history) event (legal_rest (start script) history (event ∷ []) legal.rows) (no_client_run (start script) (steps_of history) (no_client_start script))
    (run_serves (state_gives mailed_gives) (start script) (steps_of history) (no_client_start script) (start_mailed script)) at)
