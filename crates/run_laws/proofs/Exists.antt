-- What a client has open, and what it asks a capability for, is a file that the entries made.
use Rattle.std.proofs.Common.{◌≡◌, ℕ, List, [], ◌∷◌, ◌++◌, append_assoc, append-nil, filter, Bool, true, false, true≢false, not, cond, Option, None, Some, refl, sym, subst, IfSome}
use Rattle.std.specs.Prelude.{◌&&◌, ◌||◌, is_some}
use Rattle.snap_ids.specs.declared.id.Ino.{Ino}
use Rattle.snap_ids.specs.declared.values.Kind.{Kind}
use Rattle.snap_ids.specs.declared.values.Kind.TheVariants.{Dir, File}
use Rattle.snap_ids.specs.declared.values.Mode.TheVariants.{Read, Write}
use Rattle.plain_types.specs.declared.change.Change.{Change}
use Rattle.plain_types.specs.declared.change.Change.TheVariants as change
use Rattle.plain_types.specs.declared.entry.Entry.{Entry}
use Rattle.plain_types.specs.declared.history.Event.{Event}
use Rattle.plain_types.specs.declared.request.Request.{Request}
use Rattle.plain_types.specs.declared.request.Request.TheVariants as request
use Rattle.plain_types.specs.declared.script.Line.{Line}
use Rattle.plain_types.specs.declared.script.Line.TheVariants as line
use Rattle.plain_types.specs.declared.script.Script.{Script}
use Rattle.plain_tree.specs.Change.{is_file, is_handle, open_of}
use Rattle.plain_tree.specs.State.{Handle, kind_in, is_there}
use Rattle.plain_journal.specs.Entries.{change_in, state_after}
use Rattle.plain_journal.specs.Legal.{is_made_by}
use Rattle.step_table.specs.ServerState.{Server}
use Rattle.step_table.specs.ClientState.{Client, Under, Idle, Open, AtStore, Edit, edit_of, open_request}
use Rattle.step_table.specs.ClientLines.{opened}
use Rattle.step_table.specs.World.{World, client}
use Rattle.run_laws.specs.Links.{EachClient, mine}
use Rattle.run_laws.specs.Moments.{world_after}
use Rattle.run_laws.specs.OpenHandles.{opens_by, opens_after, is_open, left_open}
use Rattle.run_laws.specs.OpenLines.{IsOf, Writes, EditsFile, ReadsFile, BelongsTo, BelongsUnder, OfItsLine}
use Rattle.run_laws.specs.Requests.{is_of}
use Rattle.run_laws.specs.Tenures.{IsMade, CapIsMade}
use Rattle.run_laws.specs.LetGo.{AllOfMade, AsksOfMade}
use Rattle.run_laws.proofs.Belonging.{line_law}
use Rattle.run_laws.proofs.Entered.{AllFollow, entered}
use Rattle.run_laws.proofs.Known.{Known, known_more, known_made}
use Rattle.run_laws.proofs.Opening.{open_law}

-- handles of known files
abbrev AllKnown : List Entry → List Handle → Type 0
AllKnown entries [] = Unit {0}
AllKnown entries (h ∷ handles) = Known entries h.ino × AllKnown entries handles

known_later : (entries : List Entry) (e : Entry) (handles : List Handle) → AllKnown entries handles → AllKnown (entries ++ e ∷ []) handles
known_later entries e [] all = tt
known_later entries e (h ∷ handles) all = (known_more entries (e ∷ []) h.ino all.0, known_later entries e handles all.1)

known_end : (entries : List Entry) (handles : List Handle) (h : Handle) → Known entries h.ino → AllKnown entries handles → AllKnown entries (handles ++ h ∷ [])
known_end entries [] h is all = (is, tt)
known_end entries (g ∷ handles) h is all = (all.0, known_end entries handles h is all.1)

known_filter : (entries : List Entry) (p : Handle → Bool) (handles : List Handle) → AllKnown entries handles → AllKnown entries (filter p handles)
known_filter entries p [] all = tt
known_filter entries p (h ∷ handles) all = by_test (p h) (known_filter entries p handles all.1)
  where
    by_test : (b : Bool) → AllKnown entries (filter p handles) → AllKnown entries (cond b (h ∷ filter p handles) (filter p handles))
    by_test true rest = (all.0, rest)
    by_test false rest = rest

-- a file that is opened is one
opens_known : (entries : List Entry) (a : Bool) (ino : Ino) → not (a || not (is_file (state_after entries) ino)) ≡ true → Known entries ino
opens_known entries true ino is = absurd (true≢false (sym is))
opens_known entries false ino is = by_kind (kind_in (state_after entries).inodes ino) refl is
  where
    by_kind : (k : Kind) → kind_in (state_after entries).inodes ino ≡ k → not (not (elim k as (λ _. Bool) [ Dir ↦ false | File ↦ is_there (state_after entries).entries ino ])) ≡ true → Known entries ino
    by_kind File at is = at
    by_kind Dir at is = absurd (true≢false (sym is))

known_opened : (n x : ℕ) (entries : List Entry) (e : Entry) (o : Option Change) (before : List Handle) → is_made_by (state_after entries) x o ≡ true → AllKnown (entries ++ e ∷ []) before → AllKnown (entries ++ e ∷ []) (opens_after n o before)
known_opened n x entries e None before may all = all
known_opened n x entries e (Some made) before may all = by_change made may
  where
    by_change : (made : Change) → is_made_by (state_after entries) x (Some made) ≡ true → AllKnown (entries ++ e ∷ []) (opens_by n made before)
    by_change (change.OpenFile handle ino writable) may = known_end (entries ++ e ∷ []) before _ (known_more entries (e ∷ []) ino (opens_known entries (is_some (open_of (state_after entries).handles x handle)) ino may)) all
    by_change (change.CloseFile handle) may = known_filter (entries ++ e ∷ []) (λ opened. not (is_handle n handle opened)) before all
    by_change made may = all

left_known : (n : ℕ) (o : Option (ℕ × Request)) (done entries : List Entry) (before : List Handle) → AllFollow done entries → AllKnown done before → AllKnown (done ++ entries) (left_open n o before entries)
left_known n o done [] before follow all = subst (λ (l : List Entry). AllKnown l before) (sym (append-nil done)) all
left_known n o done (e ∷ entries) before follow all =
    subst (λ (l : List Entry). AllKnown l (left_open n o (cond (is_of n e && not (is_open o e.number)) (opens_after n (change_in e.what) before) before) entries)) (append_assoc done (e ∷ []) entries)
    (left_known n o (done ++ e ∷ []) entries (cond (is_of n e && not (is_open o e.number)) (opens_after n (change_in e.what) before) before) follow.1 (by_test (is_of n e && not (is_open o e.number))))
  where
    later : AllKnown (done ++ e ∷ []) before
    later = known_later done e before all

    by_test : (b : Bool) → AllKnown (done ++ e ∷ []) (cond b (opens_after n (change_in e.what) before) before)
    by_test true = known_opened n e.client done e (change_in e.what) before follow.0.0 later
    by_test false = later

handles_known : (script : Script) (history : List Event) (n : ℕ) (c : Client) → client (world_after script history).clients n ≡ Some c → AllKnown (world_after script history).server.entries c.handles
handles_known script history n c is = subst (AllKnown s.entries) (sym has) (left_known n (open_request c.under) [] s.entries [] (entered script history) tt)
  where
    s : Server
    s = (world_after script history).server

    has : c.handles ≡ left_open n (open_request c.under) [] s.entries
    has = subst (λ (o : Option Client). IfSome o (λ c. c.handles ≡ left_open n (open_request c.under) [] s.entries)) is (open_law script history n)

-- so what is found among them is
found_known : (entries : List Entry) (x handle : ℕ) (handles : List Handle) → AllKnown entries handles → IfSome (open_of handles x handle) (λ h. Known entries h.ino)
found_known entries x handle [] all = tt
found_known entries x handle (h ∷ handles) all = by_test (is_handle x handle h) (found_known entries x handle handles all.1)
  where
    by_test : (b : Bool) → IfSome (open_of handles x handle) (λ h. Known entries h.ino) → IfSome (cond b (Some h) (open_of handles x handle)) (λ h. Known entries h.ino)
    by_test true rest = all.0
    by_test false rest = rest

asked_known : (entries : List Entry) (c : Client) (text : Line) (asked : Request) → AllKnown entries c.handles → BelongsTo c text asked → CapIsMade entries asked
asked_known entries c text (request.Cap ino Write) all belongs = by_edit (edit_of text) belongs
  where
    by_handle : (o : Option Handle) → IfSome o (λ h. Known entries h.ino) → Writes ino o → IsMade entries ino
    by_handle None known writes = absurd writes
    by_handle (Some h) known writes = known_made entries ino (subst (Known entries) writes.0 known)

    by_edit : (o : Option Edit) → EditsFile c ino o → IsMade entries ino
    by_edit None edits = absurd edits
    by_edit (Some e) edits = by_handle (opened c e.handle) (found_known entries c.number e.handle c.handles all) edits
asked_known entries c text (request.Cap ino Read) all belongs = by_line text belongs
  where
    by_handle : (o : Option Handle) → IfSome o (λ h. Known entries h.ino) → IsOf ino o → IsMade entries ino
    by_handle None known is = absurd is
    by_handle (Some h) known is = known_made entries ino (subst (Known entries) is known)

    by_line : (text : Line) → ReadsFile c ino text → IsMade entries ino
    by_line (line.Read handle) reads = by_handle (opened c handle) (found_known entries c.number handle c.handles all) reads
    by_line text reads = absurd reads
asked_known entries c text asked all belongs = tt

all_made : (entries : List Entry) (handles : List Handle) → AllKnown entries handles → AllOfMade entries handles
all_made entries [] all = tt
all_made entries (h ∷ handles) all = (known_made entries h.ino all.0, all_made entries handles all.1)

pub made_law : (script : Script) (history : List Event) → EachClient AsksOfMade (world_after script history)
made_law script history n = found (client w.clients n) refl (line_law script history n)
  where
    w : World
    w = world_after script history

    under_made : (c : Client) (under : Under) → AllKnown w.server.entries c.handles → BelongsUnder c under → IfSome (open_request under) (λ r. CapIsMade w.server.entries r.1)
    under_made c Idle all belongs = tt
    under_made c (AtStore number entry ino head) all belongs = tt
    under_made c (Open number tid text asked gone) all belongs = asked_known w.server.entries c text asked all belongs

    found : (o : Option Client) → client w.clients n ≡ o → IfSome o (λ c. OfItsLine n c (mine n w.up) (mine n w.down) w.server) → IfSome o (λ c. AsksOfMade n c (mine n w.up) (mine n w.down) w.server)
    found None is line = tt
    found (Some c) is line = let all = handles_known script history n c is in (all_made w.server.entries c.handles all, under_made c c.under all line)
