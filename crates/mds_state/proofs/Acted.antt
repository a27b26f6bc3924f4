-- Acts on what is held.
use Rattle.std.proofs.Common.{◌≡◌, ℕ, ◌≤◌, List, [], ◌∷◌, ◌++◌, map, find, filter, Bool, true, false, not, Option, None, Some, refl, sym, subst}
use Rattle.std.specs.Prelude.{◌&&◌, ◌==◌, if◌then◌else◌}
use Rattle.std.specs.List.{list_any, list_all}
use Rattle.snap_ids.specs.declared.id.Ino.{Ino}
use Rattle.snap_ids.specs.declared.id.SnapId.{SnapId}
use Rattle.snap_ids.specs.declared.values.Mode.{Mode}
use Rattle.plain_types.specs.declared.entry.Entry.{Entry}
use Rattle.plain_types.specs.declared.message.Claim.{Claim}
use Rattle.plain_journal.specs.Entries.{applied, state_after}
use Rattle.plain_journal.specs.Legal.{is_made_file}
use Rattle.held_files.specs.Files.{is_write}
use Rattle.cap_state.specs.Table as table
use Rattle.cap_state.specs.Table.{Holding, IsTable}
use Rattle.server_holders.specs.Stands.{Marks, HoldersStand, marked, unmarked, none_marked}
use Rattle.step_table.specs.Acts.{Hold, Raise, LetGo, LetAllGo, MarkRecalled, Settled, act, acts, each, recalled, settled}
use Rattle.step_table.specs.Capabilities.{clash, give_to, give}
use Rattle.step_table.specs.Flushes.{claimed, take_claim}
use Rattle.step_table.specs.ServerState.{Asked, Holder, Server, is_holder}
use Rattle.mds_state.specs.Parts.{TenureParts, Parts, marks_in}
use Rattle.mds_state.specs.Stands.{TenuresStand, StandsFor}
use Rattle.mds_state.specs.Tenures.{let_go_parts, rebuilt_parts}
use Rattle.mds_state.proofs.Marks.{marked_is, unmarked_is, none_marked_is}
use Rattle.mds_state.proofs.Tenured.{Sound, sound, sound_marked, sound_settled, sound_filter, sound_claimed}

-- other files are held
pub held_so : (p : Parts) (taken : Option Asked) (s : Server) (t : TenureParts) (holders : List Holder) → StandsFor p taken s → TenuresStand t s.clients s.entries holders → StandsFor (record p { tenures = t }) taken (record s { holders = holders })
held_so p taken s t holders stands tenures = record {
  clients = stands.clients;
  written = stands.written;
  sessions = stands.sessions;
  tenures = tenures;
  mail = stands.mail;
  traces = stands.traces;
  hand = stands.hand;
  held = stands.held;
  deferred = stands.deferred;
  operation = stands.operation;
  purging = stands.purging;
  deleting = stands.deleting;
}

pub with_sound : (t : TenureParts) (clients : ℕ) (entries : List Entry) (holders : List Holder) → IsTable t.holdings → HoldersStand t.holdings (marks_in t.marks) holders → Sound clients entries holders → TenuresStand t clients entries holders
with_sound t clients entries holders tab stands is = record { table = tab; stands = stands; alone = is.alone; theirs = is.theirs; made = is.made }

module _ (p : Parts) (taken : Option Asked) (s : Server) (stands : StandsFor p taken s) where
  abbrev was : TenureParts
  was = p.tenures

  old : Sound s.clients s.entries s.holders
  old = sound was s.clients s.entries s.holders stands.tenures

  -- a client is asked to give a file back
  pub marks : (client : ℕ) (ino : Ino) → HoldersStand was.holdings (marked client ino (marks_in was.marks)) (act s (MarkRecalled client ino)).holders → StandsFor (record p { tenures = record { holdings = was.holdings; marks = was.marks ++ (client, ino) ∷ [] } }) taken (act s (MarkRecalled client ino))
  marks client ino law =
      held_so p taken s (record { holdings = was.holdings; marks = was.marks ++ (client, ino) ∷ [] }) (map (recalled client ino) s.holders) stands
      (with_sound (record { holdings = was.holdings; marks = was.marks ++ (client, ino) ∷ [] }) s.clients s.entries (map (recalled client ino) s.holders) stands.tenures.table
      (subst (λ (m : Marks). HoldersStand was.holdings m (map (recalled client ino) s.holders)) (sym (marked_is was.marks client ino)) law)
      (sound_marked s.clients s.entries client ino s.holders old))

  -- a flush settles a file
  pub settles : (client : ℕ) (ino : Ino) (upto : SnapId) → IsTable (table.flushed client ino upto was.holdings) → HoldersStand (table.flushed client ino upto was.holdings) (marks_in was.marks) (act s (Settled client ino upto)).holders → StandsFor (record p { tenures = record was { holdings = table.flushed client ino upto was.holdings } }) taken (act s (Settled client ino upto))
  settles client ino upto tab law =
      held_so p taken s (record was { holdings = table.flushed client ino upto was.holdings }) (map (settled client ino upto) s.holders) stands
      (with_sound (record was { holdings = table.flushed client ino upto was.holdings }) s.clients s.entries (map (settled client ino upto) s.holders) tab law
      (sound_settled s.clients s.entries client ino upto s.holders old))

  -- a file is let go
  pub lets_go : (client : ℕ) (ino : Ino) → IsTable (table.without client ino was.holdings) → HoldersStand (table.without client ino was.holdings) (unmarked client ino (marks_in was.marks)) (act s (LetGo client ino)).holders → StandsFor (record p { tenures = let_go_parts client ino was }) taken (act s (LetGo client ino))
  lets_go client ino tab law =
      held_so p taken s (let_go_parts client ino was) (filter (λ h. not (is_holder client ino h)) s.holders) stands
      (with_sound (let_go_parts client ino was) s.clients s.entries (filter (λ h. not (is_holder client ino h)) s.holders) tab
      (subst (λ (m : Marks). HoldersStand (table.without client ino was.holdings) m (filter (λ h. not (is_holder client ino h)) s.holders)) (sym (unmarked_is was.marks client ino)) law)
      (sound_filter s.clients s.entries (λ h. not (is_holder client ino h)) s.holders old))

-- what is claimed changes the holders alone
pub claims_alone : (client : ℕ) (claims : List Claim) (s : Server) → acts s (each (take_claim client) s claims) ≡ record s { holders = (acts s (each (take_claim client) s claims)).holders }
claims_alone client [] s = refl
claims_alone client (k ∷ claims) s = go (list_any (clash (claimed client k)) s.holders) (λ t. claims_alone client claims t)
  where
    go : (b : Bool) → ((t : Server) → acts t (each (take_claim client) t claims) ≡ record t { holders = (acts t (each (take_claim client) t claims)).holders }) → acts s ((if b then [] else Hold (claimed client k) ∷ []) ++ each (take_claim client) (acts s (if b then [] else Hold (claimed client k) ∷ [])) claims) ≡ record s { holders = (acts s ((if b then [] else Hold (claimed client k) ∷ []) ++ each (take_claim client) (acts s (if b then [] else Hold (claimed client k) ∷ [])) claims)).holders }
    go true rest = rest s
    go false rest = rest (act s (Hold (claimed client k)))

-- and so does what is given
pub given_alone : (s : Server) (client : ℕ) (ino : Ino) (mode : Mode) → acts s (give s client ino mode) ≡ record s { holders = (acts s (give s client ino mode)).holders }
given_alone s client ino mode = go (find (is_holder client ino) s.holders)
  where
    raise : (b : Bool) → acts s (if b then Raise client ino (record { 0 = applied s.entries }) ∷ [] else []) ≡ record s { holders = (acts s (if b then Raise client ino (record { 0 = applied s.entries }) ∷ [] else [])).holders }
    raise true = refl
    raise false = refl

    go : (o : Option Holder) → acts s (give_to s client ino mode o) ≡ record s { holders = (acts s (give_to s client ino mode o)).holders }
    go None = refl
    go (Some h) = raise (is_write mode && not (is_write h.mode))

-- a client comes back
pub comes_back : (p : Parts) (taken : Option Asked) (s : Server) (client : ℕ) (claims : List Claim) → StandsFor p taken s → 1 ≤ client → client ≤ s.clients
    → list_all (λ (k : Claim). is_made_file (state_after s.entries) k.ino) claims ≡ true
    → IsTable (table.rebuilt client claims p.tenures.holdings)
    → HoldersStand (table.rebuilt client claims p.tenures.holdings) (none_marked client (marks_in p.tenures.marks)) (acts (act s (LetAllGo client)) (each (take_claim client) (act s (LetAllGo client)) claims)).holders
    → StandsFor (record p { tenures = rebuilt_parts client claims p.tenures }) taken (acts (act s (LetAllGo client)) (each (take_claim client) (act s (LetAllGo client)) claims))
comes_back p taken s client claims stands from_one upto made tab law =
    subst (λ (t : Server). StandsFor (record p { tenures = rebuilt_parts client claims p.tenures }) taken t) (sym (claims_alone client claims (act s (LetAllGo client))))
    (held_so p taken s (rebuilt_parts client claims p.tenures) after stands
    (with_sound (rebuilt_parts client claims p.tenures) s.clients s.entries after tab
    (subst (λ (m : Marks). HoldersStand (table.rebuilt client claims p.tenures.holdings) m after) (sym (none_marked_is p.tenures.marks client)) law)
    (sound_claimed s.clients s.entries client from_one upto claims (act s (LetAllGo client)) made
    (sound_filter s.clients s.entries (λ h. not (h.client == client)) s.holders (sound p.tenures s.clients s.entries s.holders stands.tenures)))))
  where
    after : List Holder
    after = (acts (act s (LetAllGo client)) (each (take_claim client) (act s (LetAllGo client)) claims)).holders
