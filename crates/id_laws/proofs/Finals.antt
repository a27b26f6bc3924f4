-- The laws: along each run the newest id is the last one.
use Rattle.std.proofs.Common.{◌≡◌, ◌≤◌, ◌<◌, ℕ, List, [], ◌∷◌, ◌++◌, append_assoc, take, drop, Bool, true, false, cond, Option, None, Some, refl, sym, ap, ◌∙◌, subst, IfSome, arith}
use Rattle.std.proofs.lemmas.List.{append-nil, take-append-drop}
use Rattle.std.proofs.lemmas.List.Sums.{fold-append}
use Rattle.std.proofs.lemmas.Bool.Decides.{nat_tests}
use Rattle.std.specs.Prelude.{◌&&◌, ◌||◌, nat_le}
use Rattle.std.specs.List.{AllByRecursion}
use Rattle.snap_ids.specs.declared.id.Ino.{Ino}
use Rattle.snap_ids.specs.declared.id.SnapId.{SnapId}
use Rattle.snap_ids.specs.declared.id.TheConstants.{NOSNAP}
use Rattle.plain_types.specs.declared.entry.Entry.{Entry}
use Rattle.plain_types.specs.declared.entry.What.{What}
use Rattle.plain_types.specs.declared.entry.What.TheVariants.{Mksnap, Settle, Release}
use Rattle.plain_types.specs.declared.history.Event.{Event}
use Rattle.plain_types.specs.declared.message.ToClient.{ToClient}
use Rattle.plain_types.specs.declared.script.Script.{Script}
use Rattle.plain_tree.specs.State.{same_ino}
use Rattle.plain_journal.specs.Entries.{applied_by, applied}
use Rattle.journal_shapes.specs.Past.{is_past, past_from, flushes_are_past}
use Rattle.step_table.specs.ClientState.{Client}
use Rattle.step_table.specs.World.{World, client, journal}
use Rattle.run_laws.specs.Links.{EachClient, mine}
use Rattle.run_laws.specs.Moments.{steps_of, world_after}
use Rattle.run_laws.specs.Stamps.{entry_of}
use Rattle.run_laws.proofs.Rises.{along, above_law}
use Rattle.id_laws.specs.Made.{IsOfMade, ToldOfMade, KeepsMade, SaysMade}
use Rattle.id_laws.specs.Upto.{ToldUpto, SaidUpto, KeepsUpto}
use Rattle.id_laws.proofs.Entering.{NamesUpto, AllNameUpto, names_front, names_at}
use Rattle.id_laws.proofs.Lists.{all_weaker, every_client, every_mine}
use Rattle.id_laws.proofs.Newest.{newest_by, newest, newest_append}
use Rattle.id_laws.proofs.Posted.{TellsUpto}
use Rattle.id_laws.proofs.Worlds.{fine}

-- one entry more
applied_more : (entries : List Entry) (e : Entry) → applied (entries ++ e ∷ []) ≡ applied_by (applied entries) e.what
applied_more entries e = fold-append _ 1 entries (e ∷ [])

newest_more : (entries : List Entry) (e : Entry) → newest (entries ++ e ∷ []) ≡ newest_by (newest entries) e.what
newest_more entries e = newest_append 1 entries (e ∷ [])

-- an id above the last one is the newest
same_by : (last : ℕ) (w : What) → ((id : SnapId) (dir : Ino) (name : List ℕ) → w ≡ Mksnap id dir name → last < id.0) → newest_by last w ≡ applied_by last w
same_by last (Mksnap id dir name) above = let one = above id dir name refl in omega (arith, one)
same_by last w above = refl

pub newest_is : (script : Script) (history : List Event) (done later : List Entry) → (world_after script history).server.entries ≡ done ++ later → newest done ≡ applied done
newest_is script history done later entries = along (world_after script history).server.entries (λ (l : List Entry). newest l ≡ applied l) one [] done later refl entries
  where
    one : (before later : List Entry) (e : Entry) → (world_after script history).server.entries ≡ before ++ e ∷ later → newest before ≡ applied before → newest (before ++ e ∷ []) ≡ applied (before ++ e ∷ [])
    one before later e split is =
        newest_more before e ∙ ap (λ (n : ℕ). newest_by n e.what) is
        ∙ same_by (applied before) e.what (λ id dir name makes. above_law script history before later e id dir name split makes)
        ∙ sym (applied_more before e)

-- the server's flushes
past_of : (last : ℕ) (ino : Ino) (w : What) → NamesUpto last w → is_past last ino w ≡ true
past_of last ino (Settle file follows upto size) is = by_test (same_ino file ino)
  where
    first : nat_le follows.0 last ≡ true
    first = let less = is.0 in grind (arith, nat_tests, less)

    second : nat_le upto.0 last ≡ true
    second = let less = is.1 in grind (arith, nat_tests, less)

    by_test : (b : Bool) → cond b (nat_le follows.0 last && (nat_le upto.0 last || nat_le NOSNAP.0 upto.0)) true ≡ true
    by_test true = rw (first, second) refl
    by_test false = refl
past_of last ino (Release file follows size) is = by_test (same_ino file ino)
  where
    by_test : (b : Bool) → cond b (nat_le follows.0 last) true ≡ true
    by_test true = let less = is.0 in grind (arith, nat_tests, less)
    by_test false = refl
past_of last ino w is = refl

both_true : (a b : Bool) → a ≡ true → b ≡ true → (a && b) ≡ true
both_true a b one two = rw (one, two) refl

past_rest : (script : Script) (history : List Event) (ino : Ino) (done rest later : List Entry) → (world_after script history).server.entries ≡ done ++ (rest ++ later) → AllNameUpto (newest done) rest → past_from (applied done) rest ino ≡ true
past_rest script history ino done [] later entries all = refl
past_rest script history ino done (e ∷ rest) later entries all = both_true (is_past (applied done) ino e.what) (past_from (applied_by (applied done) e.what) rest ino)
    (past_of (applied done) ino e.what (subst (λ (n : ℕ). NamesUpto n e.what) (newest_is script history done (e ∷ (rest ++ later)) entries) all.0))
    (subst (λ (n : ℕ). past_from n rest ino ≡ true) (applied_more done e)
    (past_rest script history ino (done ++ e ∷ []) rest later (entries ∙ sym (append_assoc done (e ∷ []) (rest ++ later))) (subst (λ (n : ℕ). AllNameUpto n rest) (sym (newest_more done e)) all.1)))

pub entered_law : (script : Script) (history : List Event) (ino : Ino) → flushes_are_past (world_after script history).server.entries ino ≡ true
entered_law script history ino = past_rest script history ino [] (world_after script history).server.entries [] (sym (append-nil (world_after script history).server.entries)) (fine script (steps_of history)).entered

names_made : (script : Script) (history : List Event) (before later : List Entry) (e : Entry) → (world_after script history).server.entries ≡ before ++ e ∷ later → NamesUpto (applied before) e.what
names_made script history before later e entries = subst (λ (n : ℕ). NamesUpto n e.what) (newest_is script history before (e ∷ later) entries)
    (names_at 1 before later e (subst (AllNameUpto 1) entries (fine script (steps_of history)).entered))

pub settled_law : (script : Script) (history : List Event) (before later : List Entry) (e : Entry) (ino : Ino) (follows upto : SnapId) (size : ℕ)
    → (world_after script history).server.entries ≡ before ++ e ∷ later → e.what ≡ Settle ino follows upto size → (follows.0 ≤ applied before) × (upto.0 ≤ applied before)
settled_law script history before later e ino follows upto size entries is = let names : NamesUpto (applied before) (Settle ino follows upto size) = subst (NamesUpto (applied before)) is (names_made script history before later e entries) in (names.0, names.1)

pub released_law : (script : Script) (history : List Event) (before later : List Entry) (e : Entry) (ino : Ino) (follows : SnapId) (size : ℕ)
    → (world_after script history).server.entries ≡ before ++ e ∷ later → e.what ≡ Release ino follows size → follows.0 ≤ applied before
released_law script history before later e ino follows size entries is = let names : NamesUpto (applied before) (Release ino follows size) = subst (NamesUpto (applied before)) is (names_made script history before later e entries) in names.0

-- the durable entries are the first ones
split : (w : World) → w.server.entries ≡ journal w ++ drop w.server.durable w.server.entries
split w = sym (take-append-drop w.server.durable w.server.entries)

pub durable_law : (script : Script) (history : List Event) (ino : Ino) → flushes_are_past (journal (world_after script history)) ino ≡ true
durable_law script history ino =
    let w = world_after script history in
    past_rest script history ino [] (journal w) (drop w.server.durable w.server.entries) (split w)
    (names_front 1 (journal w) (drop w.server.durable w.server.entries) (subst (AllNameUpto 1) (split w) (fine script (steps_of history)).entered))

-- what is told
told_made : (script : Script) (history : List Event) (told : ToClient) → TellsUpto (journal (world_after script history)) told → IsOfMade (journal (world_after script history)) told
told_made script history told is = (is.0, subst (λ (n : ℕ). ToldUpto n told) (newest_is script history (take (entry_of told) (journal w)) (drop (entry_of told) (journal w) ++ drop w.server.durable w.server.entries) whole ∙ sym is.0.1) is.1.0)
  where
    w : World
    w = world_after script history

    whole : w.server.entries ≡ take (entry_of told) (journal w) ++ (drop (entry_of told) (journal w) ++ drop w.server.durable w.server.entries)
    whole = split w ∙ ap (λ (l : List Entry). l ++ drop w.server.durable w.server.entries) (sym (take-append-drop (entry_of told) (journal w)))
        ∙ append_assoc (take (entry_of told) (journal w)) (drop (entry_of told) (journal w)) (drop w.server.durable w.server.entries)

any_client : {X : Type 0} (o : Option X) (P : X → Type 0) → ((x : X) → P x) → IfSome o P
any_client None P go = tt
any_client (Some x) P go = go x

pub told_law : (script : Script) (history : List Event) → EachClient ToldOfMade (world_after script history)
told_law script history n =
    let w = world_after script history in
    any_client (client w.clients n) (λ (c : Client). AllByRecursion (IsOfMade (journal w)) (mine n w.down)) (λ c.
    all_weaker (TellsUpto (journal w)) (IsOfMade (journal w)) (told_made script history) (mine n w.down) (every_mine (TellsUpto (journal w)) n w.down (fine script (steps_of history)).around.tells))

-- what is kept and said
last_is : (script : Script) (history : List Event) → newest (journal (world_after script history)) ≡ applied (journal (world_after script history))
last_is script history = let w = world_after script history in newest_is script history (journal w) (drop w.server.durable w.server.entries) (split w)

pub keeps_law : (script : Script) (history : List Event) → EachClient KeepsMade (world_after script history)
keeps_law script history n =
    let w = world_after script history in
    subst (λ (last : ℕ). IfSome (client w.clients n) (KeepsUpto last)) (last_is script history) (every_client (KeepsUpto (newest (journal w))) n w.clients (fine script (steps_of history)).around.keeps)

pub says_law : (script : Script) (history : List Event) → EachClient SaysMade (world_after script history)
says_law script history n =
    let w = world_after script history in
    any_client (client w.clients n) (λ (c : Client). AllByRecursion (SaidUpto (applied (journal w))) (mine n w.up)) (λ c.
    subst (λ (last : ℕ). AllByRecursion (SaidUpto last) (mine n w.up)) (last_is script history) (every_mine (SaidUpto (newest (journal w))) n w.up (fine script (steps_of history)).around.says))
