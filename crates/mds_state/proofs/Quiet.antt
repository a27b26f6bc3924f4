-- An entry that changes no file's context is buffered: nobody is told.
use Rattle.std.proofs.Common.{◌≡◌, ℕ, ◌<◌, ◌≤◌, List, [], ◌∷◌, ◌++◌, map, filter, Bool, true, false, not, cond, Option, None, Some, refl, sym, ap, subst, ◌∙◌, arith}
use Rattle.std.proofs.lemmas.Bool.{eqb-true}
use Rattle.std.proofs.lemmas.Bool.Decides.{nat_tests}
use Rattle.std.specs.Prelude.{◌&&◌, ◌==◌, bytes_eq, nat_eq}
use Rattle.snap_ids.specs.declared.id.Ino.{Ino}
use Rattle.snap_ids.specs.declared.id.SnapId.{SnapId}
use Rattle.snap_ids.specs.Context.{Context}
use Rattle.plain_types.specs.declared.change.Change.{Change}
use Rattle.plain_types.specs.declared.change.Change.TheVariants as change
use Rattle.plain_types.specs.declared.entry.Entry.{Entry}
use Rattle.plain_types.specs.declared.entry.What.{What}
use Rattle.plain_types.specs.declared.entry.What.TheVariants as what
use Rattle.plain_journal.specs.Coverage.{context}
use Rattle.plain_journal.specs.Entries.{change_in}
use Rattle.plain_journal.specs.Table.{is_flush, last_flush}
use Rattle.journal_laws.specs.Entries.{changes_contexts}
use Rattle.journal_laws.proofs.Steady.{steady_in}
use Rattle.session_link.specs.Sessions.{Link}
use Rattle.server_sessions.specs.Calls.{at_client, called, IsOf}
use Rattle.server_sessions.proofs.Steps.{entry_leads}
use Rattle.step_table.specs.Acts.{act, Buffer, MakeEffect, Prepare, same_ids, same_context, tell_changed, notices, buffer, written_down, entry_for, buffer_for, effect_hand, prepare_hand}
use Rattle.step_table.specs.ServerState.{Asked, Server, up_to, written_by}
use Rattle.mds_state.specs.Parts.{WrittenParts, Parts}
use Rattle.mds_state.specs.Stands.{bare, entered, WrittenStands, StandsFor}
use Rattle.mds_state.proofs.Known.{files_more}
use Rattle.mds_state.proofs.Seats.{flushed_is}

same_number : (n : ℕ) → nat_eq n n ≡ true
same_number n = grind (arith, nat_tests)

itself : (ids : List SnapId) → same_ids ids ids ≡ true
itself [] = refl
itself (id ∷ ids) = (λ i. same_number id.0 i && bytes_eq (map (λ (s : SnapId). s.0) ids) (map (λ (s : SnapId). s.0) ids)) ∙ itself ids

same_one : (c : Context) → same_context c c ≡ true
same_one c = (λ i. same_number c.seq.0 i && same_ids c.ids c.ids) ∙ itself c.ids

-- nothing changed, so nobody is told
module _ (before : List Entry) (s : Server) (same : (ino : Ino) → context s.entries ino ≡ context before ino) where
  none_changed : (inos : List Ino) → filter (λ ino. not (same_context (context before ino) (context s.entries ino))) inos ≡ []
  none_changed [] = refl
  none_changed (ino ∷ inos) =
      ap (λ (b : Bool). cond (not b) (ino ∷ filter (λ i. not (same_context (context before i) (context s.entries i))) inos) (filter (λ i. not (same_context (context before i) (context s.entries i))) inos))
      (ap (same_context (context before ino)) (same ino) ∙ same_one (context before ino))
      ∙ none_changed inos

  pub quiet : (clients : List ℕ) → notices before s clients ≡ s
  quiet [] = refl
  quiet (client ∷ clients) =
      ap (λ (inos : List Ino). notices before (tell_changed s client inos) clients) (none_changed (written_by s client))
      ∙ quiet clients

-- one more entry
pub enters_in : (p : Parts) (taken : Option Asked) (s : Server) (e : Entry) (w : WrittenParts) (sessions : List Link)
    → StandsFor p taken s → WrittenStands w s.clients (s.entries ++ e ∷ []) s.durable → sessions ≡ called e p.sessions → IsOf s.clients e
    → StandsFor (record p { written = w; sessions = sessions }) taken (entered s e)
enters_in p taken s e w sessions stands written links whose = record {
  clients = stands.clients;
  written = written;
  sessions =
      let now = entry_leads (bare s.clients s.entries s.current) (bare s.clients (s.entries ++ e ∷ []) s.current) e (record { clients = refl; current = refl; entries = refl }) p.sessions stands.sessions whose in
      record { each = links ∙ now.each; numbered = now.numbered };
  tenures =
      let t = stands.tenures in
      record { table = t.table; stands = t.stands; alone = t.alone; theirs = t.theirs; made = files_more s.entries e s.holders t.made };
  mail = stands.mail;
  traces = stands.traces;
  hand = stands.hand;
  held = stands.held;
  deferred = stands.deferred;
  operation = stands.operation;
  purging = stands.purging;
  deleting = stands.deleting;
}

-- nobody is told of it where it changes no context
pub buffers : (q : Parts) (taken : Option Asked) (s : Server) (e : Entry) → StandsFor q taken (entered s e) → changes_contexts e.what ≡ false → StandsFor q taken (act s (Buffer e))
buffers q taken s e stands steady =
    subst (λ (t : Server). StandsFor q taken t)
    (sym (quiet s.entries (entered s e) (λ ino. steady_in s.entries e ino stands.written.tree.journal steady) (up_to s.clients))) stands

-- the number of a flush that comes next is above the last one of its session
pub flush_above : (p : Parts) (taken : Option Asked) (s : Server) (e : Entry) → StandsFor p taken s → IsOf s.clients e → (is_flush e.what ≡ true → last_flush s.entries e.client < e.number) → is_flush e.what ≡ true → (at_client p.sessions e.client).last_flush < e.number
flush_above p taken s e stands whose above flushes =
    subst (λ (n : ℕ). n < e.number) (sym (flushed_is p taken s stands e.client (from_one (e.client == 0) refl) upto (at_client p.sessions e.client) refl)) (above flushes)
  where
    from_one : (b : Bool) → (e.client == 0) ≡ b → 1 ≤ e.client
    from_one true none = let never : false ≡ true = sym (whose.1 (eqb-true e.client 0 none)).0 ∙ flushes in cc
    from_one false some = grind (arith, nat_tests)

    upto : e.client ≤ p.clients
    upto = subst (λ (n : ℕ). e.client ≤ n) (sym stands.clients) whose.0

-- what an entry says is what is written down of it
said : (w : What) (made : Change) → change_in w ≡ Some made → written_down made ≡ Some w
said (what.Mkdir dir name ino) made is = let same : change.Mkdir dir name ino ≡ made = cc in ap written_down (sym same)
said (what.Create dir name ino mode) made is = let same : change.Create dir name ino mode ≡ made = cc in ap written_down (sym same)
said (what.Link ino dir name) made is = let same : change.Link ino dir name ≡ made = cc in ap written_down (sym same)
said (what.Unlink dir name) made is = let same : change.Unlink dir name ≡ made = cc in ap written_down (sym same)
said (what.Rmdir dir name) made is = let same : change.Rmdir dir name ≡ made = cc in ap written_down (sym same)
said (what.Rename dir name to_dir to_name) made is = let same : change.Rename dir name to_dir to_name ≡ made = cc in ap written_down (sym same)
said (what.Chmod ino mode) made is = let same : change.Chmod ino mode ≡ made = cc in ap written_down (sym same)
said (what.OpenFile handle ino writable) made is = let same : change.OpenFile handle ino writable ≡ made = cc in ap written_down (sym same)
said (what.CloseFile handle) made is = let same : change.CloseFile handle ≡ made = cc in ap written_down (sym same)
said (what.Mksnap id dir name) made is = let same : change.Mksnap id dir name ≡ made = cc in ap written_down (sym same)
said (what.Rmsnap id) made is = let same : change.Rmsnap id ≡ made = cc in ap written_down (sym same)
said w made is = cc

-- the request in hand has its effect
pub effects : (p q : Parts) (a : Asked) (s : Server) (e : Entry) (made : Change) → StandsFor p (Some a) s → change_in e.what ≡ Some made → e ≡ entry_for a e.what → StandsFor q (Some a) (act s (Buffer e)) → StandsFor q (Some a) (act s (MakeEffect made))
effects p q a s e made stands says own done =
    subst (λ (h : Option Asked). StandsFor q (Some a) (effect_hand s made h)) (sym stands.hand)
    (subst (λ (w : Option What). StandsFor q (Some a) (buffer_for s a w)) (sym (said e.what made says))
    (subst (λ (x : Entry). StandsFor q (Some a) (buffer s x)) own done))

-- the request in hand becomes the outstanding operation
pub prepares : (p q : Parts) (a : Asked) (s : Server) (e : Entry) → StandsFor p (Some a) s → e ≡ entry_for a e.what → StandsFor q None (act (record s { operation = Some a; hand = None }) (Buffer e)) → StandsFor q None (act s (Prepare e.what))
prepares p q a s e stands own done =
    subst (λ (h : Option Asked). StandsFor q None (prepare_hand s e.what h)) (sym stands.hand)
    (subst (λ (x : Entry). StandsFor q None (buffer (record s { operation = Some a; hand = None }) x)) own done)
