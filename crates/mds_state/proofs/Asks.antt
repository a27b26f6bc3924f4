-- What comes of a request for a file.
use Rattle.std.proofs.Common.{◌≡◌, ℕ, ◌≤◌, List, [], ◌∷◌, find, Bool, true, false, not, Option, None, Some, refl, sym, ap, subst, ◌∙◌}
use Rattle.std.specs.Prelude.{◌&&◌, if◌then◌else◌}
use Rattle.std.specs.List.{list_any}
use Rattle.snap_ids.specs.declared.id.Ino.{Ino}
use Rattle.snap_ids.specs.declared.id.SnapId.{SnapId}
use Rattle.snap_ids.specs.declared.values.Mode.{Mode}
use Rattle.snap_ids.specs.declared.values.Mode.TheVariants.{Read, Write}
use Rattle.plain_journal.specs.Entries.{applied, state_after}
use Rattle.plain_journal.specs.Legal.{is_made_file}
use Rattle.held_files.specs.Files.{is_write}
use Rattle.cap_state.specs.Table.{Holding, IsTable, mode_of, after_ask, answer_to}
use Rattle.cap_state.specs.declared.caps.Asked.TheVariants.{Grant, Recall}
use Rattle.server_holders.specs.Answers.{reads}
use Rattle.server_holders.specs.Stands.{Marks, HoldersStand, marks_after}
use Rattle.server_holders.proofs.One.{test, by_found, one_holder}
use Rattle.step_table.specs.Acts.{Raise, acts}
use Rattle.step_table.specs.Capabilities.{OneWriter, against, in_conflict, give_to, give}
use Rattle.step_table.specs.Requests.{opens}
use Rattle.step_table.specs.ServerState.{Asked, Holder, Server, is_holder}
use Rattle.mds_state.specs.declared.tenures.Given.{Given}
use Rattle.mds_state.specs.declared.tenures.Given.TheVariants.{Held, Raised, Against}
use Rattle.mds_state.specs.Given.{IsGiven, after_given}
use Rattle.mds_state.specs.Parts.{TenureParts, Parts, marks_in}
use Rattle.mds_state.specs.Stands.{StandsFor}
use Rattle.mds_state.specs.Tenures.{raises_to, granted_parts, Asks}
use Rattle.mds_state.proofs.Acted.{held_so, with_sound, given_alone}
use Rattle.mds_state.proofs.Marks.{marks_given_are}
use Rattle.mds_state.proofs.Tenured.{sound, sound_given}

abbrev is_reader : Holder → Bool
is_reader h = not (is_write h.mode)

raises_by : (m : Option Mode) (mode : Mode) → raises_to m mode ≡ (is_write mode && reads m)
raises_by None Read = refl
raises_by None Write = refl
raises_by (Some Read) Read = refl
raises_by (Some Read) Write = refl
raises_by (Some Write) Read = refl
raises_by (Some Write) Write = refl

module _ (s : Server) (client : ℕ) (ino : Ino) (mode : Mode) where
  opens_by : (o : Option Holder) → list_any opens (give_to s client ino mode o) ≡ (is_write mode && test is_reader o)
  opens_by None = none mode
    where
      none : (m : Mode) → false ≡ (is_write m && false)
      none Read = refl
      none Write = refl
  opens_by (Some h) = raise (is_write mode && not (is_write h.mode))
    where
      raise : (b : Bool) → list_any opens (if b then Raise client ino (record { 0 = applied s.entries }) ∷ [] else []) ≡ b
      raise true = refl
      raise false = refl

  -- a Read is raised exactly where the table opens something
  opens_is : (m : Option Mode) → OneWriter s.holders → reads m ≡ list_any (λ (h : Holder). is_holder client ino h && not (is_write h.mode)) s.holders → list_any opens (give s client ino mode) ≡ raises_to m mode
  opens_is m one same =
      opens_by (find (is_holder client ino) s.holders)
      ∙ ap (λ b. is_write mode && b) (sym (same ∙ by_found is_reader (is_holder client ino) s.holders (one_holder client ino s.holders one)))
      ∙ sym (raises_by m mode)

module _ (p : Parts) (taken : Option Asked) (s : Server) (stands : StandsFor p taken s) (client : ℕ) (ino : Ino) (mode : Mode) (new : TenureParts)
    (granted : in_conflict s client ino mode ≡ false → answer_to client ino mode p.tenures.holdings ≡ Grant)
    (refused : in_conflict s client ino mode ≡ true → answer_to client ino mode p.tenures.holdings ≡ Recall (against s client ino mode)) where
  abbrev last : SnapId
  last = record { 0 = applied s.entries }

  pub given_so : (given : Given) → Asks given client ino mode last p.tenures new → reads (mode_of client ino p.tenures.holdings) ≡ list_any (λ (h : Holder). is_holder client ino h && not (is_write h.mode)) s.holders → IsGiven given s client ino mode
  given_so Held asks same = by_test (in_conflict s client ino mode) refl
    where
      by_test : (b : Bool) → in_conflict s client ino mode ≡ b → IsGiven Held s client ino mode
      by_test true is = let never = refused is in let first = asks.0 in cc
      by_test false is = (is, opens_is s client ino mode (mode_of client ino p.tenures.holdings) stands.tenures.alone same ∙ asks.1)
  given_so Raised asks same = by_test (in_conflict s client ino mode) refl
    where
      by_test : (b : Bool) → in_conflict s client ino mode ≡ b → IsGiven Raised s client ino mode
      by_test true is = let never = refused is in let first = asks.0 in cc
      by_test false is = (is, opens_is s client ino mode (mode_of client ino p.tenures.holdings) stands.tenures.alone same ∙ asks.1)
  given_so (Against clients) asks same = by_test (in_conflict s client ino mode) refl
    where
      by_test : (b : Bool) → in_conflict s client ino mode ≡ b → IsGiven (Against clients) s client ino mode
      by_test true is = let told = refused is in let first = asks.0 in (is, cc)
      by_test false is = let told = granted is in let first = asks.0 in cc

  module _ (from_one : 1 ≤ client) (upto : client ≤ s.clients) (file : is_made_file (state_after s.entries) ino ≡ true)
      (tab : IsTable (after_ask client ino mode last p.tenures.holdings))
      (law : in_conflict s client ino mode ≡ false → HoldersStand (after_ask client ino mode last p.tenures.holdings) (marks_after client ino mode p.tenures.holdings (marks_in p.tenures.marks)) (acts s (give s client ino mode)).holders)
      (nothing : in_conflict s client ino mode ≡ true → after_ask client ino mode last p.tenures.holdings ≡ p.tenures.holdings) where
    grants : in_conflict s client ino mode ≡ false → StandsFor (record p { tenures = granted_parts client ino mode last p.tenures }) taken (acts s (give s client ino mode))
    grants free =
        subst (λ (t : Server). StandsFor (record p { tenures = granted_parts client ino mode last p.tenures }) taken t) (sym (given_alone s client ino mode))
        (held_so p taken s (granted_parts client ino mode last p.tenures) after stands
        (with_sound (granted_parts client ino mode last p.tenures) s.clients s.entries after tab
        (subst (λ (m : Marks). HoldersStand (after_ask client ino mode last p.tenures.holdings) m after) (sym (marks_given_are client ino mode p.tenures)) (law free))
        (sound_given s client ino mode from_one upto file free (sound p.tenures s.clients s.entries s.holders stands.tenures))))
      where
        after : List Holder
        after = (acts s (give s client ino mode)).holders

    put : (t : TenureParts) (q : Server) → new ≡ t → StandsFor (record p { tenures = t }) taken q → StandsFor (record p { tenures = new }) taken q
    put t q is done = subst (λ (x : TenureParts). StandsFor (record p { tenures = x }) taken q) (sym is) done

    pub gives : (given : Given) → Asks given client ino mode last p.tenures new → IsGiven given s client ino mode → StandsFor (record p { tenures = new }) taken (after_given given s client ino mode)
    gives Held asks is = put (granted_parts client ino mode last p.tenures) (acts s (give s client ino mode)) asks.2 (grants is.0)
    gives Raised asks is = put (granted_parts client ino mode last p.tenures) (acts s (give s client ino mode)) asks.2 (grants is.0)
    gives (Against clients) asks is =
        put (record { holdings = after_ask client ino mode last p.tenures.holdings; marks = p.tenures.marks }) s asks.1
        (put_back (after_ask client ino mode last p.tenures.holdings) (nothing is.0))
      where
        put_back : (held : List Holding) → held ≡ p.tenures.holdings → StandsFor (record p { tenures = record { holdings = held; marks = p.tenures.marks } }) taken s
        put_back held same = subst (λ (h : List Holding). StandsFor (record p { tenures = record { holdings = h; marks = p.tenures.marks } }) taken s) (sym same) stands
