-- What stays true of a table, whatever is asked of it.
use Rattle.std.proofs.Common.{◌≡◌, ℕ, Bool, true, false, not, ◌||◌, ◌==◌, if◌then◌else◌, List, [], ◌∷◌, ◌++◌, find, option_map, Option, None, Some, refl, ap, ◌∙◌}
use Rattle.std.specs.List.{AllByRecursion, filter, list_any}
use Rattle.snap_ids.specs.declared.id.Ino.{Ino}
use Rattle.snap_ids.specs.declared.id.SnapId.{SnapId}
use Rattle.snap_ids.specs.declared.values.Mode.{Mode}
use Rattle.snap_ids.specs.declared.values.Mode.TheVariants.{Read}
use Rattle.plain_types.specs.declared.message.Claim.{Claim}
use Rattle.cap_state.specs.Table.{Holding, is_of, is_at, writes, stands_before, stands_behind, MayPrecede, IsTable, with_holding, against, mode_of, granted, after_by, after_ask, bars, is_free, holders_of, claimed, of_others, rebuilt, writer_of}
use Rattle.cap_state.proofs.Lists.{all_weaker, filter_none, filter_all}
use Rattle.cap_state.proofs.Order.{before_not_behind, behind_not_before, behind_behind, else_behind, table_filter, table_with}
use Rattle.cap_state.proofs.Edits.{granted_by}
use Rattle.cap_state.proofs.Apart.{apart_from_unbarred, table_granted}

-- a request leaves a table
after_table : (client : ℕ) (claim : Claim) (held : List Holding) (clients : List ℕ) → against client claim.ino claim.mode held ≡ clients → IsTable held → IsTable (after_by clients held (granted client claim held))
after_table client claim held [] none table = table_granted client claim held none table
after_table client claim held (c ∷ clients) some table = table

pub table_asked : (client : ℕ) (ino : Ino) (mode : Mode) (applied : SnapId) (held : List Holding) → IsTable held → IsTable (after_ask client ino mode applied held)
table_asked client ino mode applied held table =
    after_table client (record { ino = ino; mode = mode; settled = applied }) held (against client ino mode held) refl table

-- so do claims
claim_table : (client : ℕ) (claim : Claim) (held : List Holding) (b : Bool) → list_any (bars client claim.mode) (holders_of claim.ino held) ≡ b → IsTable held → IsTable (if not b then with_holding (client, claim) held else held)
claim_table client claim held true some table = table
claim_table client claim held false none table = table_with (client, claim) held (apart_from_unbarred client claim held none) table

table_claimed : (client : ℕ) (claims : List Claim) (held : List Holding) → IsTable held → IsTable (claimed client claims held)
table_claimed client [] held table = table
table_claimed client (claim ∷ claims) held table =
    table_claimed client claims (if is_free client claim held then with_holding (client, claim) held else held) (claim_table client claim held (list_any (bars client claim.mode) (holders_of claim.ino held)) refl table)

pub table_rebuilt : (client : ℕ) (claims : List Claim) (held : List Holding) → IsTable held → IsTable (rebuilt client claims held)
table_rebuilt client claims held table = table_claimed client claims (of_others client held) (table_filter (λ h. not (h.0 == client)) held table)

-- the first holding of a file for Write
abbrev first_writer : Ino → List Holding → Option Holding
first_writer file held = find (λ h. writes h.1.mode) (holders_of file held)

module _ (file : Ino) where
  -- it isn't one for Read in front
  reader_by : (b : Bool) (h : Holding) (held : List Holding) → is_of file h ≡ b → writes h.1.mode ≡ false → first_writer file (h ∷ held) ≡ first_writer file held
  reader_by true h held here reads = rw (here, reads) refl
  reader_by false h held here reads = rw here refl

  reader_first : (h : Holding) (held : List Holding) → writes h.1.mode ≡ false → first_writer file (h ∷ held) ≡ first_writer file held
  reader_first h held reads = reader_by (is_of file h) h held refl reads

  -- the same holding in front of two lists with the same one
  same_by : (b : Bool) (h : Holding) (held others : List Holding) → is_of file h ≡ b → first_writer file held ≡ first_writer file others → first_writer file (h ∷ held) ≡ first_writer file (h ∷ others)
  same_by true h held others here same = rw (here, same) refl
  same_by false h held others here same = rw here same

  module _ (h : Holding) (reads : writes h.1.mode ≡ false) where
    abbrev before : Holding → Bool
    before = stands_before h.0 h.1.ino

    abbrev behind : Holding → Bool
    behind = stands_behind h.0 h.1.ino

    -- one more holding for Read changes nothing
    one_with : (b : Bool) (g : Holding) (held : List Holding) → before g ≡ b → is_at h.0 h.1.ino g ≡ false → AllByRecursion (MayPrecede g) held → first_writer file (with_holding h held) ≡ first_writer file held → first_writer file (with_holding h (g ∷ held)) ≡ first_writer file (g ∷ held)
    one_with true g held is off order same =
        let in_front : with_holding h (g ∷ held) ≡ g ∷ with_holding h held = rw (is, before_not_behind h.0 h.1.ino g is) refl in
        ap (first_writer file) in_front ∙ same_by (is_of file g) g (with_holding h held) held refl same
    one_with false g held is off order same =
        let later : AllByRecursion (λ k. behind k ≡ true) (g ∷ held) = (else_behind h.0 h.1.ino g is off, all_weaker (MayPrecede g) (λ k. behind k ≡ true) (λ k m. behind_behind h.0 h.1.ino g k m.before is) held order) in
        let none : filter before (g ∷ held) ≡ [] = filter_none before (g ∷ held) (all_weaker (λ k. behind k ≡ true) (λ k. before k ≡ false) (behind_not_before h.0 h.1.ino) (g ∷ held) later) in
        ap (λ hs. first_writer file (hs ++ h ∷ filter behind (g ∷ held))) none ∙ ap (λ hs. first_writer file (h ∷ hs)) (filter_all behind (g ∷ held) later) ∙ reader_first h (g ∷ held) reads

    with_reader : (held : List Holding) → AllByRecursion (λ g. is_at h.0 h.1.ino g ≡ false) held → IsTable held → first_writer file (with_holding h held) ≡ first_writer file held
    with_reader [] off table = reader_first h [] reads
    with_reader (g ∷ held) off table = one_with (before g) g held refl off.0 table.0 (with_reader held off.1 table.1)

-- a client that holds a file in no mode has no holding of it
off_by : (client : ℕ) (ino : Ino) (h : Holding) (held : List Holding) (b : Bool) → is_at client ino h ≡ b → mode_of client ino (h ∷ held) ≡ None → (mode_of client ino held ≡ None → AllByRecursion (λ g. is_at client ino g ≡ false) held) → AllByRecursion (λ g. is_at client ino g ≡ false) (h ∷ held)
off_by client ino h held true is none more = absurd (let impossible : Some h.1.mode ≡ None = rw is at none in cc)
off_by client ino h held false is none more = (is, more (rw is at none))

off_from_none : (client : ℕ) (ino : Ino) (held : List Holding) → mode_of client ino held ≡ None → AllByRecursion (λ g. is_at client ino g ≡ false) held
off_from_none client ino [] none = tt
off_from_none client ino (h ∷ held) none = off_by client ino h held (is_at client ino h) refl none (off_from_none client ino held)

or_true : (b : Bool) → (b || true) ≡ true
or_true true = refl
or_true false = refl

module _ (client : ℕ) (ino : Ino) (applied : SnapId) (held : List Holding) (file : Ino) (table : IsTable held) where
  abbrev asked : Claim
  asked = record { ino = ino; mode = Read; settled = applied }

  abbrev writer_in : Option Holding → Option (ℕ × SnapId)
  writer_in h = option_map (λ (g : Holding). (g.0, g.1.settled)) h

  by_mode : (old : Option Mode) → mode_of client ino held ≡ old → writer_of file (granted client asked held) ≡ writer_of file held
  by_mode (Some old) is = ap (writer_of file) (granted_by client asked held 0 true (Some old) is (or_true (writes old)))
  by_mode None is =
      ap (writer_of file) (granted_by client asked held 0 false None is refl)
      ∙ ap writer_in (with_reader file (client, asked) refl held (off_from_none client ino held is) table)

  by_clients : (clients : List ℕ) → writer_of file (after_by clients held (granted client asked held)) ≡ writer_of file held
  by_clients [] = by_mode (mode_of client ino held) refl
  by_clients (c ∷ clients) = refl

  -- a request for Read leaves each holder for Write
  pub reads_keep_writers : writer_of file (after_ask client ino Read applied held) ≡ writer_of file held
  reads_keep_writers = by_clients (against client ino Read held)
