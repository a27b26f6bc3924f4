-- The files whose context has changed, found among what was held for Write with its contexts, are the table's.
use Rattle.std.proofs.Common.{◌≡◌, ◌≤◌, length, arith, ℕ, List, [], ◌∷◌, ◌++◌, map, filter, Bool, true, false, not, cond, ◌&&◌, Option, None, Some, refl, sym, ap, subst, ◌∙◌, suc, ◌+◌}
use Rattle.std.specs.Prelude.{◌==◌}
use Rattle.std.specs.List.{list_all}
use Rattle.std.proofs.lemmas.List.{map-append}
use Rattle.snap_ids.specs.declared.id.Ino.{Ino}
use Rattle.plain_types.specs.declared.entry.Entry.{Entry}
use Rattle.plain_types.specs.declared.message.FileTrace.{FileTrace}
use Rattle.plain_journal.specs.Coverage.{context}
use Rattle.plain_journal.specs.Entries.{state_after}
use Rattle.plain_journal.specs.Legal.{is_journal, is_made_file}
use Rattle.cap_state.specs.Table.{Holding, writes}
use Rattle.step_table.specs.Acts.{changed_files, notices, same_context, tell_changed}
use Rattle.step_table.specs.ServerState.{Asked, Server, Changed, number_of, tell, tell_at, trace_of, up_to}
use Rattle.step_table.specs.Messages.{plain_trace}
use Rattle.mds_state.specs.Changed.{Kept, MayTell, changed_in, is_changed, is_made_kept, kept_in}
use Rattle.mds_state.specs.Parts.{Parts, TenureParts}
use Rattle.mds_state.specs.Stands.{StandsFor, TenuresStand}
use Rattle.mds_state.specs.Writers.{is_made_held, is_writers, written_in}
use Rattle.server_holders.proofs.Any.{both_true}
use Rattle.mds_state.proofs.Known.{made_more}
use Rattle.mds_state.proofs.Writers.{written_is}

-- a file's context is another one now
abbrev differs : List Entry → List Entry → Ino → Bool
differs before now ino = not (same_context (context before ino) (context now ino))

pub changed_is : (before now : List Entry) (client : ℕ) (held : List Holding) → changed_in now client (kept_in before held) ≡ filter (differs before now) (written_in client held)
changed_is before now client [] = refl
changed_is before now client (h ∷ held) = go (h.0 == client) refl (writes h.1.mode) (differs before now h.1.ino) refl (changed_is before now client held)
  where
    kept : Kept
    kept = (h.0, h.1.ino, context before h.1.ino)

    go : (a : Bool) → (h.0 == client) ≡ a → (b d : Bool) → differs before now h.1.ino ≡ d
        → changed_in now client (kept_in before held) ≡ filter (differs before now) (written_in client held)
        → changed_in now client (map (λ (k : Holding). (k.0, k.1.ino, context before k.1.ino)) (cond b (h ∷ filter (λ (k : Holding). writes k.1.mode) held) (filter (λ (k : Holding). writes k.1.mode) held)))
        ≡ filter (differs before now) (map (λ (k : Holding). k.1.ino) (cond (a && b) (h ∷ filter (is_writers client) held) (filter (is_writers client) held)))
    go true mine true true other rest =
        ap (λ (b : Bool). map (λ (k : Kept). k.1) (cond b (kept ∷ filter (is_changed now client) (kept_in before held)) (filter (is_changed now client) (kept_in before held)))) ((λ i. mine i && other i))
        ∙ ap (λ (inos : List Ino). h.1.ino ∷ inos) rest
        ∙ ap (λ (b : Bool). cond b (h.1.ino ∷ filter (differs before now) (written_in client held)) (filter (differs before now) (written_in client held))) (sym other)
    go true mine true false other rest =
        ap (λ (b : Bool). map (λ (k : Kept). k.1) (cond b (kept ∷ filter (is_changed now client) (kept_in before held)) (filter (is_changed now client) (kept_in before held)))) ((λ i. mine i && other i))
        ∙ rest
        ∙ ap (λ (b : Bool). cond b (h.1.ino ∷ filter (differs before now) (written_in client held)) (filter (differs before now) (written_in client held))) (sym other)
    go true mine false d other rest = rest
    go false mine true d other rest =
        ap (λ (b : Bool). map (λ (k : Kept). k.1) (cond (b && differs before now h.1.ino) (kept ∷ filter (is_changed now client) (kept_in before held)) (filter (is_changed now client) (kept_in before held)))) mine
        ∙ rest
    go false mine false d other rest = rest

-- so they are the table's
pub changed_are : (t : TenureParts) (s : Server) (before : List Entry) (client : ℕ) → is_journal s.entries ≡ true → TenuresStand t s.clients s.entries s.holders
    → changed_in s.entries client (kept_in before t.holdings) ≡ changed_files before s client
changed_are t s before client legal is =
    changed_is before s.entries client t.holdings ∙ ap (filter (differs before s.entries)) (sym (written_is t s client legal is))

-- Who is told changes neither the entries nor the holders: a client's changed files are the same before and after it.
pub still_changed : (before : List Entry) (s : Server) (other : ℕ) (inos : List Ino) (client : ℕ) → changed_files before (tell_changed s other inos) client ≡ changed_files before s client
still_changed before s other [] client = refl
still_changed before s other (ino ∷ inos) client = go (number_of s.current other)
  where
    go : (o : Option ℕ) → changed_files before (tell_at s other (Changed (ino ∷ inos)) o) client ≡ changed_files before s client
    go None = refl
    go (Some conn) = refl

-- clients are told one after the other
pub notices_more : (before : List Entry) (s : Server) (clients : List ℕ) (client : ℕ)
    → notices before s (clients ++ client ∷ []) ≡ tell_changed (notices before s clients) client (changed_files before (notices before s clients) client)
notices_more before s [] client = refl
notices_more before s (c ∷ clients) client = notices_more before (tell_changed s c (changed_files before s c)) clients client

-- the first holding, and those behind it
pub kept_more : (entries : List Entry) (h : Holding) (held : List Holding) → kept_in entries (h ∷ []) ++ kept_in entries held ≡ kept_in entries (h ∷ held)
kept_more entries h held = go (writes h.1.mode)
  where
    each : List Holding → List Kept
    each holdings = map (λ (k : Holding). (k.0, k.1.ino, context entries k.1.ino)) holdings

    go : (b : Bool) → each (cond b (h ∷ []) []) ++ kept_in entries held
        ≡ each (cond b (h ∷ filter (λ (k : Holding). writes k.1.mode) held) (filter (λ (k : Holding). writes k.1.mode) held))
    go true = refl
    go false = refl

pub changed_more : (now : List Entry) (client : ℕ) (k : Kept) (kept : List Kept) → changed_in now client (k ∷ []) ++ changed_in now client kept ≡ changed_in now client (k ∷ kept)
changed_more now client k kept = go (is_changed now client k)
  where
    inos : List Kept → List Ino
    inos ks = map (λ (j : Kept). j.1) ks

    go : (b : Bool) → inos (cond b (k ∷ []) []) ++ changed_in now client kept ≡ inos (cond b (k ∷ filter (is_changed now client) kept) (filter (is_changed now client) kept))
    go true = refl
    go false = refl

pub traces_more : (s : Server) (client : ℕ) (k : Kept) (kept : List Kept)
    → map (trace_of s) (changed_in s.entries client (k ∷ [])) ++ map (trace_of s) (changed_in s.entries client kept) ≡ map (trace_of s) (changed_in s.entries client (k ∷ kept))
traces_more s client k kept =
    sym (map-append (trace_of s) (changed_in s.entries client (k ∷ [])) (changed_in s.entries client kept))
    ∙ ap (map (trace_of s)) (changed_more s.entries client k kept)

module _ (p : Parts) (taken : Option Asked) (s : Server) (client : ℕ) where
  -- a client without such a file is told nothing
  pub silent : (inos : List Ino) (files : List FileTrace) → map plain_trace files ≡ map (trace_of s) inos → files ≡ [] → StandsFor p taken s → StandsFor p taken (tell_changed s client inos)
  silent [] files same none stands = stands
  silent (ino ∷ inos) files same none stands = let never : [] ≡ map (trace_of s) (ino ∷ inos) = sym (ap (map plain_trace) none) ∙ same in cc

  -- and another one is told of them
  pub spoken : (inos : List Ino) (files : List FileTrace) → map plain_trace files ≡ map (trace_of s) inos → 1 ≤ length files → StandsFor p taken (tell s client (Changed inos)) → StandsFor p taken (tell_changed s client inos)
  spoken [] [] same some told = absurd (omega (arith, some))
  spoken [] (file ∷ files) same some told = cc
  spoken (ino ∷ inos) files same some told = told

-- Notices change neither the clients nor the entries nor the holders.
pub told_entries : (s : Server) (client : ℕ) (inos : List Ino) → (tell_changed s client inos).entries ≡ s.entries
told_entries s client [] = refl
told_entries s client (ino ∷ inos) = go (number_of s.current client)
  where
    go : (o : Option ℕ) → (tell_at s client (Changed (ino ∷ inos)) o).entries ≡ s.entries
    go None = refl
    go (Some conn) = refl

pub noticed_entries : (before : List Entry) (s : Server) (clients : List ℕ) → (notices before s clients).entries ≡ s.entries
noticed_entries before s [] = refl
noticed_entries before s (c ∷ clients) =
    noticed_entries before (tell_changed s c (changed_files before s c)) clients ∙ told_entries s c (changed_files before s c)

pub noticed_changed : (before : List Entry) (s : Server) (clients : List ℕ) (client : ℕ) → changed_files before (notices before s clients) client ≡ changed_files before s client
noticed_changed before s [] client = refl
noticed_changed before s (c ∷ clients) client =
    noticed_changed before (tell_changed s c (changed_files before s c)) clients client ∙ still_changed before s c (changed_files before s c) client

-- one more client is told: of its files whose context has changed, as they were found before anybody was told
pub notices_next : (t : TenureParts) (s : Server) (before : List Entry) (kept : List Kept) (clients : List ℕ) (client : ℕ) → is_journal s.entries ≡ true → TenuresStand t s.clients s.entries s.holders
    → kept ≡ kept_in before t.holdings
    → tell_changed (notices before s clients) client (changed_in (notices before s clients).entries client kept) ≡ notices before s (clients ++ client ∷ [])
notices_next t s before kept clients client legal is same =
    ap (tell_changed (notices before s clients) client)
    ((λ i. changed_in (noticed_entries before s clients i) client (same i))
    ∙ changed_are t s before client legal is
    ∙ sym (noticed_changed before s clients client))
    ∙ sym (notices_more before s clients client)

pub up_more : (n : ℕ) → up_to (n + 1) ≡ up_to n ++ (n + 1) ∷ []
up_more n = let next : n + 1 ≡ suc n = omega arith in ap up_to next

-- who may be told may be told further
pub may_next : (p q : Parts) (kept : List Kept) (client : ℕ) → MayTell p kept
    → ((s : Server) (taken : Option Asked) → StandsFor p taken s → list_all (is_made_kept s.entries) kept ≡ true → StandsFor q taken (tell_changed s client (changed_in s.entries client kept)))
    → MayTell q kept
may_next p q kept client may told = record {
  taken = may.taken;
  state = tell_changed may.state client (changed_in may.state.entries client kept);
  stands = told may.state may.taken may.stands may.made;
  made =
      subst (λ (entries : List Entry). list_all (is_made_kept entries) kept ≡ true)
      (sym (told_entries may.state client (changed_in may.state.entries client kept))) may.made;
}

-- what was kept before an entry was made, and so it was after it
pub kept_made : (entries : List Entry) (e : Entry) (held : List Holding) → list_all (is_made_held entries) held ≡ true → list_all (is_made_kept (entries ++ e ∷ [])) (kept_in entries held) ≡ true
kept_made entries e [] all = refl
kept_made entries e (h ∷ held) all =
    let both = both_true (is_made_held entries h) (list_all (is_made_held entries) held) all in
    go (writes h.1.mode) (made_more entries e h.1.ino both.0) (kept_made entries e held both.1)
  where
    each : List Holding → List Kept
    each holdings = map (λ (k : Holding). (k.0, k.1.ino, context entries k.1.ino)) holdings

    go : (b : Bool) → is_made_file (state_after (entries ++ e ∷ [])) h.1.ino ≡ true → list_all (is_made_kept (entries ++ e ∷ [])) (kept_in entries held) ≡ true
        → list_all (is_made_kept (entries ++ e ∷ [])) (each (cond b (h ∷ filter (λ (k : Holding). writes k.1.mode) held) (filter (λ (k : Holding). writes k.1.mode) held))) ≡ true
    go true made rest = (λ i. made i && list_all (is_made_kept (entries ++ e ∷ [])) (kept_in entries held)) ∙ rest
    go false made rest = rest
