-- The outstanding operation asks for what is prepared, along each run.
use Rattle.std.proofs.Common.{◌≡◌, ℕ, ◌+◌, List, [], ◌∷◌, ◌++◌, true, false, true≢false, Option, None, Some, refl, sym, subst, IfSome, arith}
use Rattle.std.proofs.lemmas.List.Sums.{fold-append}
use Rattle.std.proofs.lemmas.Bool.Decides.{nat_tests}
use Rattle.plain_types.specs.declared.change.Change.{Change}
use Rattle.plain_types.specs.declared.change.Change.TheVariants as change
use Rattle.plain_types.specs.declared.entry.Entry.{Entry}
use Rattle.plain_types.specs.declared.entry.What.{What}
use Rattle.plain_types.specs.declared.entry.What.TheVariants.{PrepareCreate, PrepareDestroy, Mksnap, Rmsnap, Rollback}
use Rattle.plain_types.specs.declared.history.Event.{Event}
use Rattle.plain_types.specs.declared.history.Step.{Step}
use Rattle.plain_types.specs.declared.message.ToClient.{ToClient}
use Rattle.plain_types.specs.declared.message.ToServer.{ToServer}
use Rattle.plain_types.specs.declared.request.Request.{Request}
use Rattle.plain_types.specs.declared.script.Script.{Script}
use Rattle.step_table.specs.ServerState.{Asked, Server, Told, Answered, Granted, WantedBack, Changed, Acked, tell, tell_at, number_of, up_to, welcome}
use Rattle.step_table.specs.Acts.{Act, TellRecall, TellAck, AnswerIt, GrantIt, MakeEffect, Prepare, TakeOperation, Buffer, act, of_client, answer_hand, grant_hand, effect_hand, buffer_for, written_down, prepare_hand, entry_for, buffer}
use Rattle.step_table.specs.Flushes.{connected}
use Rattle.step_table.specs.ClientState.{Client, new_client}
use Rattle.step_table.specs.ClientLines.{on_op, on_flush}
use Rattle.step_table.specs.World.{start, after, lines_of}
use Rattle.run_laws.specs.Moments.{steps_of, world_after}
use Rattle.run_laws.specs.Links.{View, EachClient}
use Rattle.run_laws.specs.Prepared.{prepared_by, prepared, asks_for, AsPrepared}
use Rattle.run_laws.specs.Tables.{is_prepare}
use Rattle.run_laws.proofs.Acts.{notices_keep}
use Rattle.run_laws.proofs.Clients.{Keeps, ActsNow, op_acts, flush_acts}
use Rattle.run_laws.proofs.Linked.{in_hand, if_row, at_start, first_link, each_part}
use Rattle.run_laws.proofs.Requested.{first_requested}
use Rattle.run_laws.proofs.Effects.{EffectFits}
use Rattle.run_laws.proofs.Views.{Client's, run_keeps}
use Rattle.run_laws.proofs.ViewActs.{KeptViews, RulesFit, rows_of_acts, both, given}
use Rattle.run_laws.proofs.Once.{FitsFor, Whole, whole, rules}

-- the request asks for what is prepared, if anything is
abbrev pub Suits : Request → Option What → Type 0
Suits asked None = Unit {0}
Suits asked (Some said) = asks_for said asked ≡ true

abbrev pub SuitedAt : ℕ → List Entry → Option Asked → Type 0
SuitedAt n entries None = Unit {0}
SuitedAt n entries (Some a) = of_client n a ≡ true → Suits a.request (prepared entries)

abbrev pub Suited : ℕ → Server → Type 0
Suited n s = SuitedAt n s.entries s.operation

-- one entry more
pub prepared_more : (entries : List Entry) (e : Entry) → prepared (entries ++ e ∷ []) ≡ prepared_by e.what (prepared entries)
prepared_more entries e = fold-append _ None entries (e ∷ [])

other_entry : (asked : Request) (before : Option What) (said : What) → is_prepare said ≡ false → Suits asked before → Suits asked (prepared_by said before)
other_entry asked before (PrepareCreate id) is suits = absurd (true≢false is)
other_entry asked before (PrepareDestroy id) is suits = absurd (true≢false is)
other_entry asked before (Mksnap id dir name) is suits = tt
other_entry asked before (Rmsnap id) is suits = tt
other_entry asked before (Rollback id) is suits = tt
other_entry asked before said is suits = suits

new_entry : (asked : Request) (before : Option What) (said : What) → asks_for said asked ≡ true → Suits asked (prepared_by said before)
new_entry asked before (PrepareCreate id) is = is
new_entry asked before (PrepareDestroy id) is = is
new_entry asked before said is = absurd (true≢false (sym is))

more : (n : ℕ) (entries : List Entry) (e : Entry) (o : Option Asked) → is_prepare e.what ≡ false → SuitedAt n entries o → SuitedAt n (entries ++ e ∷ []) o
more n entries e None is suited = tt
more n entries e (Some a) is suited = λ mine_it. subst (Suits a.request) (sym (prepared_more entries e)) (other_entry a.request (prepared entries) e.what is (suited mine_it))

-- acts
tell_suited : (n : ℕ) (s : Server) (x : ℕ) (told : Told) → Suited n s → Suited n (tell s x told)
tell_suited n s x told suited = by_number (number_of s.current x)
  where
    by_number : (o : Option ℕ) → Suited n (tell_at s x told o)
    by_number None = suited
    by_number (Some conn) = suited

buffers : (n : ℕ) (s : Server) (e : Entry) → SuitedAt n (s.entries ++ e ∷ []) s.operation → Suited n (buffer s e)
buffers n s e now = notices_keep (Suited n) (λ t x inos so. tell_suited n t x (Changed inos) so) s.entries (up_to s.clients) (record s { entries = s.entries ++ e ∷ [] }) now

pub written_not : (made : Change) → IfSome (written_down made) (λ said. is_prepare said ≡ false)
written_not made = by_change made
  where
    by_change : (made : Change) → IfSome (written_down made) (λ said. is_prepare said ≡ false)
    by_change (change.WriteFile handle offset bytes) = tt
    by_change (change.Truncate handle size) = tt
    by_change made = refl

one : (n : ℕ) (s : Server) (a : Act) → EffectFits n s a → Suited n s → Suited n (act s a)
one n s (TellRecall x ino) fit suited = tell_suited n s x (WantedBack ino) suited
one n s (TellAck x number) fit suited = tell_suited n s x (Acked number) suited
one n s (AnswerIt said) fit suited = by_hand s.hand
  where
    by_hand : (o : Option Asked) → Suited n (answer_hand s said o)
    by_hand None = suited
    by_hand (Some a) = tell_suited n (record s { hand = None }) a.client (Answered a.tid said) suited
one n s (GrantIt ino mode) fit suited = by_hand s.hand
  where
    by_hand : (o : Option Asked) → Suited n (grant_hand s ino mode o)
    by_hand None = suited
    by_hand (Some a) = tell_suited n (record s { hand = None }) a.client (Granted a.tid ino mode) suited
one n s (MakeEffect made) fit suited = by_hand s.hand
  where
    by_said : (a : Asked) (o : Option What) → IfSome o (λ said. is_prepare said ≡ false) → Suited n (buffer_for s a o)
    by_said a None is = suited
    by_said a (Some said) is = buffers n s (entry_for a said) (more n s.entries (entry_for a said) s.operation is suited)

    by_hand : (o : Option Asked) → Suited n (effect_hand s made o)
    by_hand None = suited
    by_hand (Some a) = by_said a (written_down made) (written_not made)
one n s (Prepare said) fit suited = by_hand s.hand refl
  where
    by_hand : (o : Option Asked) → s.hand ≡ o → Suited n (prepare_hand s said o)
    by_hand None is = suited
    by_hand (Some a) is = buffers n (record s { operation = Some a; hand = None }) (entry_for a said) (λ mine_it. subst (Suits a.request) (sym (prepared_more s.entries (entry_for a said))) (new_entry a.request (prepared s.entries) said (fit.2 a is mine_it)))
one n s TakeOperation fit suited = tt
one n s (Buffer e) fit suited = buffers n s e (more n s.entries e s.operation fit.1 suited)
one n s a fit suited = suited

-- with what is known of requests
abbrev pub Operation : View
Operation n c up down s = Suited n s

abbrev pub All : View
All n c up down s = Whole n c up down s × Operation n c up down s

kept : KeptViews FitsFor All Operation
kept = record {
  op = λ n c up down s all. if_row (on_op c) (ActsNow c) (Client's Operation n up down s) (λ r does. all.1) (op_acts c c.lines all.0.0.1.opened);
  flush = λ n c up down s all. if_row (on_flush c) (λ r. (c.frozen ≡ false) × Keeps c r) (Client's Operation n up down s) (λ r does. all.1) (flush_acts c);
  told = λ n c up m down s all. all.1;
  stored = λ n c m up down s all. all.1;
  one = λ n c up down s a fit all. one n s a fit all.1;
  pops = λ n c m up down s all. all.1;
  accepts = λ n c conn said flushes asked up down s all. in_hand (Suited n) (λ t hand so. so) (welcome (connected s n conn) n conn) n asked all.1;
  accepts_other = λ n x c conn asked up down s other all. in_hand (Suited n) (λ t hand so. so) (welcome (connected s x conn) x conn) x asked all.1;
  asks = λ n c conn tid asked up down s is all. all.1;
  asks_other = λ n x c tid asked up down s other all. all.1;
  hands = λ n c up down s all. all.1;
  durable = λ n c up down s all. all.1;
  survives = λ n c up down s k fits all. tt;
}

pub all_kept : KeptViews FitsFor All All
all_kept = both (given (λ n c up down s all. all.0) (λ n c s a fit. fit) whole) kept

pub all_rules : RulesFit FitsFor All
all_rules = record {
  anew = λ n c up down s all. rules.anew n c up down s all.0;
  asks = λ n c conn tid asked up down s is all. rules.asks n c conn tid asked up down s is all.0;
  asks_other = λ n x c tid asked up down s other all. rules.asks_other n x c tid asked up down s other all.0;
  brings = λ n c conn said flushes asked up down s all. rules.brings n c conn said flushes asked up down s all.0;
  brings_other = λ n x c conn asked up down s other all. rules.brings_other n x c conn asked up down s other all.0;
  comes = rules.comes;
  flushes = rules.flushes;
  drops = rules.drops;
  reports = rules.reports;
  restarts = rules.restarts;
  turns = λ n c up down s all. rules.turns n c up down s all.0;
}

pub first_all : (script : Script) (n : ℕ) → number_of (start script).server.current n ≡ Some 1 → All n (new_client n (script.clients + 1) (lines_of n script.lines)) [] [] (start script).server
first_all script n is = (
  (
    (
      (tt, first_link (new_client n (script.clients + 1) (lines_of n script.lines)) _ refl is),
      first_requested n (new_client n (script.clients + 1) (lines_of n script.lines)) (start script).server refl refl refl refl refl refl refl,
    ),
    record { upto = tt; rising = tt; new = tt },
  ),
  tt,
)

all_hold : (script : Script) (steps : List Step) → EachClient All (after (start script) steps)
all_hold script steps = run_keeps All (rows_of_acts All all_kept all_rules) (start script) steps (at_start All script (first_all script))

as_prepared : (n : ℕ) (c : Client) (up : List ToServer) (down : List ToClient) (s : Server) → All n c up down s → AsPrepared n c up down s
as_prepared n c up down s all a said is mine_it prepares =
    subst (Suits a.request) prepares (subst (SuitedAt n s.entries) is all.1 (grind (arith, nat_tests, mine_it)))

pub prepared_law : (script : Script) (history : List Event) → EachClient AsPrepared (world_after script history)
prepared_law script history = each_part All AsPrepared (world_after script history) as_prepared (all_hold script (steps_of history))
