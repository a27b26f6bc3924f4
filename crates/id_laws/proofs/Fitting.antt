-- The laws on numbers: what is told is bounded by the last snapshot of the entries that it was told after, and by the sizes of
-- their flushes.
use Rattle.std.proofs.Common.{◌≡◌, ◌≤◌, ◌<◌, ℕ, ◌+◌, List, [], ◌∷◌, ◌++◌, take, drop, filter, length, Bool, true, false, cond, Option, None, Some, refl, sym, ap, subst, IfSome, arith}
use Rattle.std.proofs.lemmas.List.{append-nil, take-append-drop}
use Rattle.std.proofs.lemmas.List.Sums.{fold-append}
use Rattle.snap_ids.specs.declared.id.Ino.{Ino}
use Rattle.snap_ids.specs.declared.id.SnapId.{SnapId}
use Rattle.snap_ids.specs.declared.id.TheConstants.{NOSNAP}
use Rattle.plain_types.specs.declared.entry.Entry.{Entry}
use Rattle.plain_types.specs.declared.entry.What.{What}
use Rattle.plain_types.specs.declared.entry.What.TheVariants.{Mksnap, Settle, Release}
use Rattle.plain_types.specs.declared.history.Event.{Event}
use Rattle.plain_types.specs.declared.history.Sent.{Sent}
use Rattle.plain_types.specs.declared.message.ToClient.{ToClient}
use Rattle.plain_types.specs.declared.script.Script.{Script}
use Rattle.plain_tree.specs.History.{stamp_of}
use Rattle.plain_journal.specs.Entries.{applied_by, applied}
use Rattle.plain_journal.specs.Table.{prepares, next_snap}
use Rattle.step_table.specs.Messages.{is_id, told_fits}
use Rattle.step_table.specs.World.{journal}
use Rattle.run_laws.specs.Moments.{steps_of, world_after}
use Rattle.run_laws.specs.Stamps.{told_by, entry_of}
use Rattle.run_laws.proofs.Rises.{along, below_law}
use Rattle.id_laws.specs.Fits.{CanBeTaken, AllCanBeTaken, MailCanBeTaken}
use Rattle.id_laws.proofs.Entering.{NamesUpto, AllNameUpto}
use Rattle.id_laws.proofs.Finals.{newest_is}
use Rattle.id_laws.proofs.Keeps.{every_weaker}
use Rattle.id_laws.proofs.Newest.{newest_by, newest, newest_take}
use Rattle.id_laws.proofs.Posted.{TellsUpto, SentUpto, MailUpto, stamp_upto}
use Rattle.id_laws.proofs.Sizes.{larger_by, largest_from, largest, largest_grows, below, both, told_can}
use Rattle.id_laws.proofs.Worlds.{fine}

-- the sizes of flushes that were entered can be
larger : (last n : ℕ) (w : What) → NamesUpto last w → n ≤ 65536 → larger_by n w ≤ 65536
larger last n (Settle ino follows upto size) is less = let size = is.2 in omega (arith, less, size)
larger last n (Release ino follows size) is less = let size = is.1 in omega (arith, less, size)
larger last n w is less = less

largest_can : (last n : ℕ) (entries : List Entry) → AllNameUpto last entries → n ≤ 65536 → largest_from n entries ≤ 65536
largest_can last n [] all less = less
largest_can last n (e ∷ entries) all less = largest_can (newest_by last e.what) (larger_by n e.what) entries all.1 (larger last n e.what all.0 less)

sizes_can : (script : Script) (history : List Event) → largest (world_after script history).server.entries ≤ 65536
sizes_can script history = largest_can 1 0 (world_after script history).server.entries (fine script (steps_of history)).entered (omega arith)

-- the last snapshot's id is below the next one
next_grows : (xs ys : List Entry) → next_snap xs ≤ next_snap (xs ++ ys)
next_grows [] ys = omega arith
next_grows (x ∷ xs) ys = by_test (prepares x.what) (next_grows xs ys)
  where
    some : List Entry → List Entry
    some l = filter (λ (entry : Entry). prepares entry.what) l

    by_test : (b : Bool) → 2 + length (some xs) ≤ 2 + length (some (xs ++ ys)) → 2 + length (cond b (x ∷ some xs) (some xs)) ≤ 2 + length (cond b (x ∷ some (xs ++ ys)) (some (xs ++ ys)))
    by_test true less = omega (arith, less)
    by_test false less = less

applied_more : (entries : List Entry) (e : Entry) → applied (entries ++ e ∷ []) ≡ applied_by (applied entries) e.what
applied_more entries e = fold-append _ 1 entries (e ∷ [])

pub applied_next : (script : Script) (history : List Event) (done later : List Entry) → (world_after script history).server.entries ≡ done ++ later → applied done < next_snap done
applied_next script history done later entries = along (world_after script history).server.entries (λ (l : List Entry). applied l < next_snap l) one [] done later (omega arith) entries
  where
    by_what : (w : What) (last next : ℕ) → last < next → ((id : SnapId) (dir : Ino) (name : List ℕ) → w ≡ Mksnap id dir name → id.0 < next) → applied_by last w < next
    by_what (Mksnap id dir name) last next less made = made id dir name refl
    by_what w last next less made = less

    one : (before later : List Entry) (e : Entry) → (world_after script history).server.entries ≡ before ++ e ∷ later → applied before < next_snap before → applied (before ++ e ∷ []) < next_snap (before ++ e ∷ [])
    one before later e split less = subst (λ (a : ℕ). a < next_snap (before ++ e ∷ [])) (sym (applied_more before e))
        (let now = by_what e.what (applied before) (next_snap before) less (λ id dir name is. below_law script history before later e id dir name split is) in let grown = next_grows before (e ∷ []) in omega (arith, now, grown))

-- what is told after a front of the entries that names only ids that can be
told_after : (done : List Entry) → newest done < NOSNAP.0 → largest done ≤ 65536 → (told : ToClient) → TellsUpto done told → CanBeTaken told
told_after done less size told is = both (is_id (stamp_of told).snap) (told_fits told)
    (below (stamp_of told).snap.0 (newest done) NOSNAP.0 (stamp_upto done told is) less)
    (told_can (newest made) (largest made) (let front = newest_take (entry_of told) done in omega (arith, front, less)) (let grown = largest_grows made (drop (entry_of told) done) in let same : largest (made ++ drop (entry_of told) done) ≡ largest done = ap largest (take-append-drop (entry_of told) done) in omega (arith, grown, same, size)) told is.1.1)
  where
    made : List Entry
    made = take (entry_of told) done

front_can : (script : Script) (history : List Event) (done later : List Entry) → (world_after script history).server.entries ≡ done ++ later → next_snap done ≤ NOSNAP.0 → (newest done < NOSNAP.0) × (largest done ≤ 65536)
front_can script history done later entries few = (
  let same = newest_is script history done later entries in let next = applied_next script history done later entries in omega (arith, same, next, few),
  let grown = largest_grows done later in let all = sizes_can script history in let same : largest (world_after script history).server.entries ≡ largest (done ++ later) = ap largest entries in omega (arith, grown, all, same),
)

pub sent_law : (script : Script) (history : List Event) → next_snap (journal (world_after script history)) ≤ NOSNAP.0 → AllCanBeTaken (world_after script history).down
sent_law script history few =
    let w = world_after script history in
    let can = front_can script history (journal w) (drop w.server.durable w.server.entries) (sym (take-append-drop w.server.durable w.server.entries)) few in
    every_weaker (TellsUpto (journal w)) CanBeTaken (told_after (journal w) can.0 can.1) w.down (fine script (steps_of history)).around.tells

waiting : (entries : List Entry) → newest entries < NOSNAP.0 → largest entries ≤ 65536 → (mail : List (ℕ × Sent)) → MailUpto entries mail → MailCanBeTaken mail
waiting entries less size [] all = tt
waiting entries less size (m ∷ mail) all = (by_told (told_by m.1.message) all.1, waiting entries less size mail all.2)
  where
    by_told : (o : Option ToClient) → SentUpto (take m.0 entries) o → IfSome o CanBeTaken
    by_told None is = tt
    by_told (Some told) is = told_after (take m.0 entries) (let front = newest_take m.0 entries in omega (arith, front, less))
        (let grown = largest_grows (take m.0 entries) (drop m.0 entries) in let same : largest (take m.0 entries ++ drop m.0 entries) ≡ largest entries = ap largest (take-append-drop m.0 entries) in omega (arith, grown, same, size)) told is

pub waits_law : (script : Script) (history : List Event) → next_snap (world_after script history).server.entries ≤ NOSNAP.0 → MailCanBeTaken (world_after script history).server.mail
waits_law script history few =
    let w = world_after script history in
    let can = front_can script history w.server.entries [] (sym (append-nil w.server.entries)) few in
    waiting w.server.entries can.0 can.1 w.server.mail (fine script (steps_of history)).posted
