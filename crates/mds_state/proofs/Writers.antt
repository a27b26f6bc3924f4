-- The files that a client holds for Write: the table has them in the order in which they were made, and the holdings by
-- rising inode. That is the same order.
use Rattle.std.proofs.Common.{◌≡◌, ℕ, ◌<◌, List, [], ◌∷◌, map, filter, Bool, true, false, cond, ◌&&◌, ◌||◌, not, ◌++◌, refl, sym, ap, ◌∙◌, arith, eqb-true}
use Rattle.std.specs.Prelude.{◌==◌}
use Rattle.std.specs.List.{list_any, list_all, AllByRecursion}
use Rattle.std.proofs.lemmas.Bool.Decides.{nat_tests}
use Rattle.std.proofs.lemmas.List.{map-append}
use Rattle.std.proofs.lemmas.Map.Views.{any-filter_same}
use Rattle.snap_ids.specs.declared.id.Ino.{Ino}
use Rattle.snap_ids.specs.declared.values.Kind.{Kind}
use Rattle.snap_ids.specs.declared.values.Kind.TheVariants.{Dir, File}
use Rattle.snap_ids.specs.declared.values.Mode.{Mode}
use Rattle.snap_ids.specs.declared.values.Mode.TheVariants.{Read, Write}
use Rattle.plain_types.specs.declared.entry.Entry.{Entry}
use Rattle.plain_tree.specs.State.{Inode, kind_in, same_ino}
use Rattle.plain_journal.specs.Coverage.{is_made}
use Rattle.plain_journal.specs.Entries.{state_after}
use Rattle.plain_journal.specs.Legal.{is_journal, is_made_file}
use Rattle.cap_state.specs.Table as table
use Rattle.cap_state.specs.Table.{Holding, MayPrecede, IsTable, writes}
use Rattle.held_files.specs.Files.{is_write}
use Rattle.server_holders.proofs.Any.{all_any, any_filter, any_map, any_same, both_true}
use Rattle.server_holders.proofs.Rising.{Rises, has, same_rising}
use Rattle.step_table.specs.ServerState.{Holder, Server, is_writer, trace_of, written_by}
use Rattle.mds_state.specs.Parts.{TenureParts}
use Rattle.mds_state.specs.Stands.{TenuresStand, is_of_file}
use Rattle.mds_state.specs.Writers.{is_made_held, is_writers, written_in}
use Rattle.mds_state.proofs.Rising.{raw, inos_of, rises_after, rises_some, same_raw}

-- what one client holds rises
below : (c : ℕ) (g h : Holding) → (g.0 == c) ≡ true → (h.0 == c) ≡ true → MayPrecede g h → g.1.ino.0 < h.1.ino.0
below c g h here here_too order = let before = order.before in grind (arith, nat_tests)

above_held : (c : ℕ) (g : Holding) → (g.0 == c) ≡ true → (held : List Holding) → AllByRecursion (MayPrecede g) held → AllByRecursion (λ m. g.1.ino.0 < m) (raw (written_in c held))
above_held c g here [] order = tt
above_held c g here (h ∷ held) order = go (h.0 == c) refl (writes h.1.mode) (above_held c g here held order.1)
  where
    go : (a : Bool) → (h.0 == c) ≡ a → (b : Bool) → AllByRecursion (λ m. g.1.ino.0 < m) (raw (written_in c held))
        → AllByRecursion (λ m. g.1.ino.0 < m) (raw (map (λ (k : Holding). k.1.ino) (cond (a && b) (h ∷ filter (is_writers c) held) (filter (is_writers c) held))))
    go true is true rest = (below c g h here is order.0, rest)
    go true is false rest = rest
    go false is b rest = rest

held_rises : (c : ℕ) (held : List Holding) → IsTable held → Rises (raw (written_in c held))
held_rises c [] is = tt
held_rises c (h ∷ held) is = go (h.0 == c) refl (writes h.1.mode) (held_rises c held is.1)
  where
    go : (a : Bool) → (h.0 == c) ≡ a → (b : Bool) → Rises (raw (written_in c held))
        → Rises (raw (map (λ (k : Holding). k.1.ino) (cond (a && b) (h ∷ filter (is_writers c) held) (filter (is_writers c) held))))
    go true here true rest = (above_held c h here held is.0, rest)
    go true here false rest = rest
    go false here b rest = rest

-- and a file is among it where the client holds it for Write
in_held : (c n : ℕ) (held : List Holding) → has n (raw (written_in c held)) ≡ list_any (table.is_writer c (record { 0 = n })) held
in_held c n held =
    any_map (λ m. m == n) (λ (ino : Ino). ino.0) (written_in c held)
    ∙ any_map (λ (ino : Ino). ino.0 == n) (λ (h : Holding). h.1.ino) (filter (is_writers c) held)
    ∙ any_filter (λ (h : Holding). h.1.ino.0 == n) (is_writers c) held
    ∙ any_same (λ (h : Holding). is_writers c h && h.1.ino.0 == n) (table.is_writer c (record { 0 = n })) held (λ h. turned (h.0 == c) (writes h.1.mode) (h.1.ino.0 == n))
  where
    turned : (a b d : Bool) → ((a && b) && d) ≡ ((a && d) && b)
    turned true true true = refl
    turned true true false = refl
    turned true false true = refl
    turned true false false = refl
    turned false b d = refl

module _ (c : ℕ) (entries : List Entry) (holders : List Holder) (made : list_all (is_of_file entries) holders ≡ true) where
  -- who writes a file writes one that was made
  file_made : (ino : Ino) → list_any (is_writer c ino) holders ≡ true → is_made (state_after entries) ino ≡ true
  file_made ino writer = of_file (kind_in (state_after entries).inodes ino) (is_made (state_after entries) ino) (found holders made writer)
    where
      of_file : (k : Kind) (b : Bool) → elim k as (λ _. Bool) [ Dir ↦ false | File ↦ b ] ≡ true → b ≡ true
      of_file Dir b is = cc
      of_file File b is = is

      found : (hs : List Holder) → list_all (is_of_file entries) hs ≡ true → list_any (is_writer c ino) hs ≡ true → is_made_file (state_after entries) ino ≡ true
      found [] all any = cc
      found (h ∷ hs) all any = go (h.client == c) (same_ino h.ino ino) refl (is_write h.mode) any (both_true (is_of_file entries h) (list_all (is_of_file entries) hs) all) (found hs)
        where
          go : (a b : Bool) → same_ino h.ino ino ≡ b → (d : Bool) → (((a && b) && d) || list_any (is_writer c ino) hs) ≡ true
              → (is_of_file entries h ≡ true) × (list_all (is_of_file entries) hs ≡ true)
              → (list_all (is_of_file entries) hs ≡ true → list_any (is_writer c ino) hs ≡ true → is_made_file (state_after entries) ino ≡ true)
              → is_made_file (state_after entries) ino ≡ true
          go true true same true any all more = ap (λ (n : ℕ). is_made_file (state_after entries) (record { 0 = n })) (sym (eqb-true h.ino.0 ino.0 same)) ∙ all.0
          go true true same false any all more = more all.1 any
          go true false same d any all more = more all.1 any
          go false b same d any all more = more all.1 any

  in_made : (n : ℕ) → has n (raw (filter (λ ino. list_any (is_writer c ino) holders) (inos_of (state_after entries).inodes))) ≡ list_any (is_writer c (record { 0 = n })) holders
  in_made n =
      any_map (λ m. m == n) (λ (ino : Ino). ino.0) (filter (λ ino. list_any (is_writer c ino) holders) (inos_of (state_after entries).inodes))
      ∙ any-filter_same (λ (ino : Ino). ino.0 == n) (λ ino. list_any (is_writer c ino) holders) (list_any (is_writer c (record { 0 = n })) holders)
      (λ (ino : Ino) is. ap (λ (m : ℕ). list_any (is_writer c (record { 0 = m })) holders) (eqb-true ino.0 n is)) (inos_of (state_after entries).inodes)
      ∙ ap (λ (b : Bool). list_any (is_writer c (record { 0 = n })) holders && b) (any_map (λ (ino : Ino). ino.0 == n) (λ (inode : Inode). inode.ino) (state_after entries).inodes)
      ∙ both (list_any (is_writer c (record { 0 = n })) holders) (is_made (state_after entries) (record { 0 = n })) (file_made (record { 0 = n }))
    where
      both : (a b : Bool) → (a ≡ true → b ≡ true) → (a && b) ≡ a
      both true b then = then refl
      both false b then = refl

-- so the two are the same
pub written_is : (t : TenureParts) (s : Server) (c : ℕ) → is_journal s.entries ≡ true → TenuresStand t s.clients s.entries s.holders → written_by s c ≡ written_in c t.holdings
written_is t s c legal is =
    same_raw (written_by s c) (written_in c t.holdings)
    (same_rising (raw (written_by s c)) (raw (written_in c t.holdings))
    (rises_some (λ ino. list_any (is_writer c ino) s.holders) (inos_of (state_after s.entries).inodes) (rises_after s.entries legal))
    (held_rises c t.holdings is.table)
    (λ n. in_made c s.entries s.holders is.made n ∙ sym (same_writer n) ∙ sym (in_held c n t.holdings)))
  where
    same_writer : (n : ℕ) → list_any (table.is_writer c (record { 0 = n })) t.holdings ≡ list_any (is_writer c (record { 0 = n })) s.holders
    same_writer n =
        is.stands (λ h m. table.is_writer c (record { 0 = n }) h)
        ∙ any_same (λ (h : Holder). (h.client == c && h.ino.0 == n) && writes h.mode) (is_writer c (record { 0 = n })) s.holders (λ h. ap (λ (b : Bool). (h.client == c && h.ino.0 == n) && b) (same_test h.mode))
      where
        same_test : (m : Mode) → writes m ≡ is_write m
        same_test Read = refl
        same_test Write = refl

-- each file that is held was made
pub held_made : (t : TenureParts) (clients : ℕ) (entries : List Entry) (holders : List Holder) → TenuresStand t clients entries holders → list_all (is_made_held entries) t.holdings ≡ true
held_made t clients entries holders is =
    all_any (is_made_held entries) t.holdings
    ∙ ap not (is.stands (λ h m. not (is_made_held entries h)))
    ∙ sym (all_any (is_of_file entries) holders)
    ∙ is.made

-- the first holding's file, and those behind it
pub written_more : (client : ℕ) (h : Holding) (held : List Holding) → written_in client (h ∷ held) ≡ written_in client (h ∷ []) ++ written_in client held
written_more client h held = go (is_writers client h)
  where
    go : (b : Bool) → map (λ (k : Holding). k.1.ino) (cond b (h ∷ filter (is_writers client) held) (filter (is_writers client) held))
        ≡ map (λ (k : Holding). k.1.ino) (cond b (h ∷ []) []) ++ written_in client held
    go true = refl
    go false = refl

pub told_more : (s : Server) (client : ℕ) (h : Holding) (held : List Holding)
    → map (trace_of s) (written_in client (h ∷ [])) ++ map (trace_of s) (written_in client held) ≡ map (trace_of s) (written_in client (h ∷ held))
told_more s client h held = sym (map-append (trace_of s) (written_in client (h ∷ [])) (written_in client held)) ∙ ap (map (trace_of s)) (sym (written_more client h held))
