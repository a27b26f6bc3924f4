-- Snapshots are made under rising ids, along each run, and so the ids in stamps never fall.
use Rattle.std.proofs.Common.{◌≡◌, ◌≤◌, ◌<◌, ℕ, ◌+◌, List, [], ◌∷◌, ◌++◌, append_assoc, length, length-append, map, take, drop, Bool, true, false, cond, Option, None, Some, refl, sym, ap, ◌∙◌, subst, arith}
use Rattle.std.proofs.lemmas.List.{append-nil, take-append-le, take-append-drop}
use Rattle.std.proofs.lemmas.List.Sums.{fold-append}
use Rattle.std.proofs.lemmas.Bool.Decides.{nat_tests}
use Rattle.std.proofs.lemmas.List.Elements.{filter_map-append}
use Rattle.std.specs.Prelude.{◌==◌, filter, filter_map}
use Rattle.std.specs.List.{cons_option}
use Rattle.snap_ids.specs.declared.id.Ino.{Ino}
use Rattle.snap_ids.specs.declared.id.SnapId.{SnapId}
use Rattle.plain_types.specs.declared.entry.Entry.{Entry}
use Rattle.plain_types.specs.declared.entry.What.{What}
use Rattle.plain_types.specs.declared.entry.What.TheVariants.{PrepareCreate, PrepareDestroy, Mksnap, Rmsnap, Rollback}
use Rattle.plain_types.specs.declared.history.Event.{Event}
use Rattle.plain_types.specs.declared.history.Sent.{Sent}
use Rattle.plain_types.specs.declared.message.Message.{Message}
use Rattle.plain_types.specs.declared.message.Message.TheVariants as message
use Rattle.plain_types.specs.declared.message.ToClient.{ToClient}
use Rattle.plain_types.specs.declared.script.Script.{Script}
use Rattle.plain_journal.specs.Entries.{applied, applied_by}
use Rattle.plain_journal.specs.Table.{next_snap, prepares}
use Rattle.step_table.specs.Legal.{LegalFrom, IsEventOf, Legal, sent_between, message_to}
use Rattle.step_table.specs.ServerState.{Server}
use Rattle.step_table.specs.World.{World, Made, row, after, start, journal}
use Rattle.run_laws.specs.Moments.{steps_of, world_after}
use Rattle.run_laws.specs.Stamps.{told_by, told_in, sent_to, entry_of, NeverFall, IsStampOf, AllStampsOf}
use Rattle.run_laws.specs.Prepared.{prepared_by, prepared, snap_of}
use Rattle.run_laws.proofs.Growing.{take_take, world_append, durable_stays}
use Rattle.run_laws.proofs.Kept.{given_law}
use Rattle.run_laws.proofs.Makes.{creation_law}
use Rattle.run_laws.proofs.Operations.{prepared_more}
use Rattle.run_laws.proofs.Serving.{run_serves, no_client_run, no_client_start}
use Rattle.run_laws.proofs.Mail.{mailed_gives, state_gives}
use Rattle.run_laws.proofs.Stamped.{legal_rest, event_stamps, start_mailed}

-- what holds of no entries and is kept by each holds of each front
pub along : (entries : List Entry) (P : List Entry → Type 0) → ((before later : List Entry) (e : Entry) → entries ≡ before ++ e ∷ later → P before → P (before ++ e ∷ [])) → (done rest later : List Entry) → P done → entries ≡ done ++ (rest ++ later) → P (done ++ rest)
along entries P step done [] later holds is = subst P (sym (append-nil done)) holds
along entries P step done (e ∷ rest) later holds is =
    subst P (append_assoc done (e ∷ []) rest) (along entries P step (done ++ e ∷ []) rest later (step done (rest ++ later) e is holds) (is ∙ sym (append_assoc done (e ∷ []) (rest ++ later))))

-- one entry more
applied_more : (entries : List Entry) (e : Entry) → applied (entries ++ e ∷ []) ≡ applied_by (applied entries) e.what
applied_more entries e = fold-append _ 1 entries (e ∷ [])

abbrev next_by : What → ℕ → ℕ
next_by (PrepareCreate id) n = n + 1
next_by w n = n

counted : (w : What) (n : ℕ) → cond (prepares w) (n + 1) n ≡ next_by w n
counted (PrepareCreate id) n = refl
counted w n = refl

count_more : (entries : List Entry) (e : Entry) → length (filter (λ (entry : Entry). prepares entry.what) (entries ++ e ∷ [])) ≡ cond (prepares e.what) (length (filter (λ (entry : Entry). prepares entry.what) entries) + 1) (length (filter (λ (entry : Entry). prepares entry.what) entries))
count_more [] e = by_test (prepares e.what)
  where
    by_test : (b : Bool) → length (cond b (e ∷ []) []) ≡ cond b (0 + 1) 0
    by_test true = refl
    by_test false = refl
count_more (x ∷ entries) e = by_test (prepares x.what) (prepares e.what) (count_more entries e)
  where
    some : List Entry → List Entry
    some l = filter (λ (entry : Entry). prepares entry.what) l

    by_test : (b d : Bool) → length (some (entries ++ e ∷ [])) ≡ cond d (length (some entries) + 1) (length (some entries)) → length (cond b (x ∷ some (entries ++ e ∷ [])) (some (entries ++ e ∷ []))) ≡ cond d (length (cond b (x ∷ some entries) (some entries)) + 1) (length (cond b (x ∷ some entries) (some entries)))
    by_test true true is = omega (arith, is)
    by_test true false is = omega (arith, is)
    by_test false d is = is

next_more : (entries : List Entry) (e : Entry) → next_snap (entries ++ e ∷ []) ≡ next_by e.what (next_snap entries)
next_more entries e = ap (λ (k : ℕ). 2 + k) (count_more entries e) ∙ by_test (prepares e.what) (length (filter (λ (entry : Entry). prepares entry.what) entries)) ∙ counted e.what (next_snap entries)
  where
    by_test : (b : Bool) (k : ℕ) → 2 + cond b (k + 1) k ≡ cond b (2 + k + 1) (2 + k)
    by_test true k = omega arith
    by_test false k = refl

-- the id of a snapshot that is prepared is above the last one that was made, and was given
abbrev Between : ℕ → ℕ → Option What → Type 0
Between low high (Some (PrepareCreate id)) = (low < id.0) × (id.0 < high)
Between low high o = Unit {0}

abbrev BoundedAt : ℕ → ℕ → Option What → Type 0
BoundedAt low high o = (low < high) × Between low high o

abbrev Bounded : List Entry → Type 0
Bounded entries = BoundedAt (applied entries) (next_snap entries) (prepared entries)

abbrev GivenFits : What → ℕ → Option What → Type 0
GivenFits (PrepareCreate id) n o = id.0 ≡ n
GivenFits (Mksnap id dir name) n o = o ≡ Some (PrepareCreate id)
GivenFits w n o = Unit {0}

bounded_by : (w : What) (a n : ℕ) (o : Option What) → GivenFits w n o → BoundedAt a n o → BoundedAt (applied_by a w) (next_by w n) (prepared_by w o)
bounded_by (PrepareCreate id) a n o is b = (omega (arith, low), (omega (arith, low, same), omega (arith, same)))
  where
    low : a < n
    low = b.0

    same : id.0 ≡ n
    same = is
bounded_by (PrepareDestroy id) a n o is b = (b.0, tt)
bounded_by (Mksnap id dir name) a n o is b = (between.1, tt)
  where
    between : Between a n (Some (PrepareCreate id))
    between = subst (Between a n) is b.1
bounded_by (Rmsnap id) a n o is b = (b.0, tt)
bounded_by (Rollback id) a n o is b = (b.0, tt)
bounded_by w a n o is b = b

fits_given : (script : Script) (history : List Event) (before later : List Entry) (e : Entry) → (world_after script history).server.entries ≡ before ++ e ∷ later → GivenFits e.what (next_snap before) (prepared before)
fits_given script history before later e entries = by_what e.what refl
  where
    by_what : (w : What) → e.what ≡ w → GivenFits w (next_snap before) (prepared before)
    by_what (PrepareCreate id) is = given_law script history before later e id entries is
    by_what (Mksnap id dir name) is = creation_law script history before later e id dir name entries is
    by_what w is = tt

bounded : (script : Script) (history : List Event) (before later : List Entry) → (world_after script history).server.entries ≡ before ++ later → Bounded before
bounded script history before later entries = along (world_after script history).server.entries Bounded one [] before later (omega arith, tt) entries
  where
    one : (before later : List Entry) (e : Entry) → (world_after script history).server.entries ≡ before ++ e ∷ later → Bounded before → Bounded (before ++ e ∷ [])
    one before later e entries b =
        subst (λ (a : ℕ). BoundedAt a (next_snap (before ++ e ∷ [])) (prepared (before ++ e ∷ []))) (sym (applied_more before e))
        (subst (λ (n : ℕ). BoundedAt (applied_by (applied before) e.what) n (prepared (before ++ e ∷ []))) (sym (next_more before e))
        (subst (λ (o : Option What). BoundedAt (applied_by (applied before) e.what) (next_by e.what (next_snap before)) o) (sym (prepared_more before e))
        (bounded_by e.what (applied before) (next_snap before) (prepared before) (fits_given script history before later e entries) b)))

between_at : (script : Script) (history : List Event) (before later : List Entry) (e : Entry) (id : SnapId) (dir : Ino) (name : List ℕ)
    → (world_after script history).server.entries ≡ before ++ e ∷ later → e.what ≡ Mksnap id dir name → (applied before < id.0) × (id.0 < next_snap before)
between_at script history before later e id dir name entries is = subst (Between (applied before) (next_snap before)) (creation_law script history before later e id dir name entries is) (bounded script history before (e ∷ later) entries).1

pub above_law : (script : Script) (history : List Event) (before later : List Entry) (e : Entry) (id : SnapId) (dir : Ino) (name : List ℕ)
    → (world_after script history).server.entries ≡ before ++ e ∷ later → e.what ≡ Mksnap id dir name → applied before < id.0
above_law script history before later e id dir name entries is = (between_at script history before later e id dir name entries is).0

pub below_law : (script : Script) (history : List Event) (before later : List Entry) (e : Entry) (id : SnapId) (dir : Ino) (name : List ℕ)
    → (world_after script history).server.entries ≡ before ++ e ∷ later → e.what ≡ Mksnap id dir name → id.0 < next_snap before
below_law script history before later e id dir name entries is = (between_at script history before later e id dir name entries is).1

-- the last id never falls along the entries
pub applied_rises : (script : Script) (history : List Event) (done rest later : List Entry) → (world_after script history).server.entries ≡ done ++ (rest ++ later) → applied done ≤ applied (done ++ rest)
applied_rises script history done rest later entries = along (world_after script history).server.entries (λ (l : List Entry). applied done ≤ applied l) one done rest later (omega arith) entries
  where
    joined : (a b c : ℕ) → a ≤ b → b ≤ c → a ≤ c
    joined a b c less next = omega (arith, less, next)

    more : (before later : List Entry) (e : Entry) → (world_after script history).server.entries ≡ before ++ e ∷ later → (w : What) → e.what ≡ w → applied before ≤ applied_by (applied before) w
    more before later e entries (Mksnap id dir name) is = let above = above_law script history before later e id dir name entries is in omega (arith, above)
    more before later e entries w is = omega arith

    one : (before later : List Entry) (e : Entry) → (world_after script history).server.entries ≡ before ++ e ∷ later → applied done ≤ applied before → applied done ≤ applied (before ++ e ∷ [])
    one before later e entries less = subst (λ (k : ℕ). applied done ≤ k) (sym (applied_more before e)) (joined (applied done) (applied before) (applied_by (applied before) e.what) less (more before later e entries e.what refl))

-- of two snapshots the one that is made later has the greater id
pub rising_law : (script : Script) (history : List Event) (before between later : List Entry) (e f : Entry) (id other : SnapId) (dir to_dir : Ino) (name to_name : List ℕ)
    → (world_after script history).server.entries ≡ before ++ e ∷ (between ++ f ∷ later) → e.what ≡ Mksnap id dir name → f.what ≡ Mksnap other to_dir to_name → id.0 < other.0
rising_law script history before between later e f id other dir to_dir name to_name entries is then = joined id.0 (applied (before ++ e ∷ [])) (applied ((before ++ e ∷ []) ++ between)) other.0 first upto above
  where
    joined : (a b c d : ℕ) → b ≡ a → b ≤ c → c < d → a < d
    joined a b c d same less below = omega (arith, same, less, below)

    split : (world_after script history).server.entries ≡ (before ++ e ∷ []) ++ (between ++ f ∷ later)
    split = entries ∙ sym (append_assoc before (e ∷ []) (between ++ f ∷ later))

    first : applied (before ++ e ∷ []) ≡ id.0
    first = applied_more before e ∙ ap (applied_by (applied before)) is

    upto : applied (before ++ e ∷ []) ≤ applied ((before ++ e ∷ []) ++ between)
    upto = applied_rises script history (before ++ e ∷ []) between (f ∷ later) split

    above : applied ((before ++ e ∷ []) ++ between) < other.0
    above = above_law script history ((before ++ e ∷ []) ++ between) later f other to_dir to_name (split ∙ sym (append_assoc (before ++ e ∷ []) between (f ∷ later))) then

-- the stamps of all that was sent are stamps of the journal
stamp_more : (entries more : List Entry) (told : ToClient) → IsStampOf entries told → IsStampOf (entries ++ more) told
stamp_more entries more told is = (grind (arith, length-append, fits), is.1 ∙ ap applied (sym (take-append-le (entry_of told) entries more is.0)))
  where
    fits : entry_of told ≤ length entries
    fits = is.0

stamps_more : (entries more : List Entry) (list : List ToClient) → AllStampsOf entries list → AllStampsOf (entries ++ more) list
stamps_more entries more [] all = tt
stamps_more entries more (told ∷ list) all = (stamp_more entries more told all.0, stamps_more entries more list all.1)

stamps_append : (entries : List Entry) (xs ys : List ToClient) → AllStampsOf entries xs → AllStampsOf entries ys → AllStampsOf entries (xs ++ ys)
stamps_append entries [] ys all rest = rest
stamps_append entries (x ∷ xs) ys all rest = (all.0, stamps_append entries xs ys all.1 rest)

stamps_to : (n : ℕ) (entries : List Entry) (sent : List Sent) → AllStampsOf entries (told_in sent) → AllStampsOf entries (filter_map told_by (filter_map (message_to n) sent))
stamps_to n entries [] all = tt
stamps_to n entries (m ∷ sent) all = by_message m.message (m.to == n) (stamps_to n entries sent) all
  where
    by_message : (x : Message) (b : Bool) → (AllStampsOf entries (told_in sent) → AllStampsOf entries (filter_map told_by (filter_map (message_to n) sent))) → AllStampsOf entries (cons_option (told_by x) (told_in sent)) → AllStampsOf entries (filter_map told_by (cons_option (cond b (Some x) None) (filter_map (message_to n) sent)))
    by_message (message.ToClient told) true go all = (all.0, go all.1)
    by_message (message.ToClient told) false go all = go all.1
    by_message (message.ToServer said) true go all = go all
    by_message (message.ToStore order) true go all = go all
    by_message (message.FromStore said) true go all = go all
    by_message (message.ToServer said) false go all = go all
    by_message (message.ToStore order) false go all = go all
    by_message (message.FromStore said) false go all = go all

first_legal : (w : World) (event : Event) (rest : List Event) → LegalFrom w (event ∷ rest) → LegalFrom w (event ∷ [])
first_legal w event rest legal = by_row (row w event.step) legal
  where
    by_row : (o : Option Made) → (elim o as (λ x. Type 0) [ None ↦ ⊥ | Some made ↦ IsEventOf event made × LegalFrom made.world rest ]) → (elim o as (λ x. Type 0) [ None ↦ ⊥ | Some made ↦ IsEventOf event made × LegalFrom made.world [] ])
    by_row None legal = legal
    by_row (Some made) legal = (legal.0, tt)

all_stamped : (script : Script) (n : ℕ) (rest done : List Event) → LegalFrom (world_after script done) rest → AllStampsOf (journal (world_after script (done ++ rest))) (sent_to n rest)
all_stamped script n [] done legal = tt
all_stamped script n (event ∷ rest) done legal =
    subst (AllStampsOf (journal (world_after script (done ++ event ∷ rest)))) (sym (filter_map-append told_by (cond (event.node == 0) (filter_map (message_to n) event.sent) []) (sent_between 0 n rest)))
    (stamps_append (journal (world_after script (done ++ event ∷ rest))) (filter_map told_by (cond (event.node == 0) (filter_map (message_to n) event.sent) [])) (sent_to n rest) (here (event.node == 0) refl)
    (subst (λ (l : List Event). AllStampsOf (journal (world_after script l)) (sent_to n rest)) (append_assoc done (event ∷ []) rest) (all_stamped script n rest (done ++ event ∷ []) legal_then)))
  where
    same : world_after script (done ++ event ∷ []) ≡ after (world_after script done) (steps_of (event ∷ []))
    same = world_append script done (event ∷ [])

    legal_then : LegalFrom (world_after script (done ++ event ∷ [])) rest
    legal_then = subst (λ (w : World). LegalFrom w rest) (sym same) (legal_rest (world_after script done) (event ∷ []) rest legal)

    then : event.node ≡ 0 → AllStampsOf (journal (world_after script (done ++ event ∷ []))) (told_in event.sent)
    then at = subst (λ (w : World). AllStampsOf (journal w) (told_in event.sent)) (sym same)
        (event_stamps (world_after script done) event (first_legal (world_after script done) event rest legal) (no_client_run (start script) (steps_of done) (no_client_start script))
        (run_serves (state_gives mailed_gives) (start script) (steps_of done) (no_client_start script) (start_mailed script)) at)

    grown : (more : List Entry) × (journal (world_after script (done ++ event ∷ rest)) ≡ journal (world_after script (done ++ event ∷ [])) ++ more)
    grown = subst (λ (l : List Event). (more : List Entry) × (journal (world_after script l) ≡ journal (world_after script (done ++ event ∷ [])) ++ more)) (append_assoc done (event ∷ []) rest) (durable_stays script (done ++ event ∷ []) rest)

    here : (b : Bool) → (event.node == 0) ≡ b → AllStampsOf (journal (world_after script (done ++ event ∷ rest))) (filter_map told_by (cond b (filter_map (message_to n) event.sent) []))
    here true test = stamps_to n _ event.sent (subst (λ (l : List Entry). AllStampsOf l (told_in event.sent)) (sym grown.1) (stamps_more (journal (world_after script (done ++ event ∷ []))) grown.0 (told_in event.sent) (then (is_zero event.node test))))
      where
        is_zero : (x : ℕ) → (x == 0) ≡ true → x ≡ 0
        is_zero x test = grind (arith, nat_tests, test)
    here false test = tt

-- the ids never fall, since the numbers of entries don't
front_rises : (script : Script) (history : List Event) (i j : ℕ) → i ≤ j → j ≤ length (journal (world_after script history)) → applied (take i (journal (world_after script history))) ≤ applied (take j (journal (world_after script history)))
front_rises script history i j less fits = subst (λ (l : List Entry). applied (take i all) ≤ applied l) whole (applied_rises script history (take i all) (drop i (take j all)) (drop j all ++ drop s.durable s.entries) split)
  where
    s : Server
    s = (world_after script history).server

    all : List Entry
    all = journal (world_after script history)

    whole : take i all ++ drop i (take j all) ≡ take j all
    whole = ap (λ (l : List Entry). l ++ drop i (take j all)) (sym (take_take i j all less fits)) ∙ take-append-drop i (take j all)

    split : s.entries ≡ take i all ++ (drop i (take j all) ++ (drop j all ++ drop s.durable s.entries))
    split = sym (sym (append_assoc (take i all) (drop i (take j all)) (drop j all ++ drop s.durable s.entries))
        ∙ ap (λ (l : List Entry). l ++ (drop j all ++ drop s.durable s.entries)) whole
        ∙ sym (append_assoc (take j all) (drop j all) (drop s.durable s.entries))
        ∙ ap (λ (l : List Entry). l ++ drop s.durable s.entries) (take-append-drop j all)
        ∙ take-append-drop s.durable s.entries)

snaps_from : (script : Script) (history : List Event) (low : ℕ) (list : List ToClient) → low ≤ length (journal (world_after script history)) → AllStampsOf (journal (world_after script history)) list → NeverFall low (map entry_of list) → NeverFall (applied (take low (journal (world_after script history)))) (map snap_of list)
snaps_from script history low [] fits all never = tt
snaps_from script history low (told ∷ list) fits all never =
    subst (λ (k : ℕ). (applied (take low (journal (world_after script history))) ≤ k) × NeverFall k (map snap_of list)) (sym all.0.1)
    (front_rises script history low (entry_of told) never.0 all.0.0, snaps_from script history (entry_of told) list all.0.0 all.1 never.1)

pub snaps_law : (script : Script) (history : List Event) → Legal history script → (n : ℕ) → NeverFall 0 (map entry_of (sent_to n history)) → NeverFall 1 (map snap_of (sent_to n history))
snaps_law script history legal n never = snaps_from script history 0 (sent_to n history) (omega arith) (all_stamped script n history [] legal.rows) never
