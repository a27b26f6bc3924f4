-- Who holds what, from one act to the next.
use Rattle.std.proofs.Common.{◌≡◌, ℕ, ◌≤◌, List, [], ◌∷◌, ◌++◌, map, find, Bool, true, false, not, cond, Option, None, Some, refl, sym, subst, arith}
use Rattle.std.proofs.lemmas.Bool.Decides.{nat_tests}
use Rattle.std.specs.Prelude.{◌||◌, ◌&&◌, ◌==◌, nat_lt, nat_le, filter, if◌then◌else◌}
use Rattle.std.specs.List.{list_any, list_all}
use Rattle.snap_ids.specs.declared.id.Ino.{Ino}
use Rattle.snap_ids.specs.declared.id.SnapId.{SnapId}
use Rattle.snap_ids.specs.declared.values.Mode.{Mode}
use Rattle.snap_ids.specs.declared.values.Mode.TheVariants.{Read, Write}
use Rattle.plain_types.specs.declared.entry.Entry.{Entry}
use Rattle.plain_types.specs.declared.message.Claim.{Claim}
use Rattle.plain_journal.specs.Entries.{applied, state_after}
use Rattle.plain_journal.specs.Legal.{is_made_file}
use Rattle.held_files.specs.Files.{is_write}
use Rattle.server_holders.specs.Answers.{are_clients}
use Rattle.step_table.specs.Acts.{Act, Hold, Raise, act, acts, each, recalled, settled, raised}
use Rattle.step_table.specs.Capabilities.{OneWriter, clash, is_against, in_conflict, tenure, give_to, give}
use Rattle.step_table.specs.Flushes.{claimed, take_claim}
use Rattle.step_table.specs.ServerState.{Holder, Server, is_holder}
use Rattle.mds_state.specs.Parts.{TenureParts}
use Rattle.mds_state.specs.Stands.{is_of_file, TenuresStand}
use Rattle.mds_state.proofs.Alone.{neither, both, one_append, one_filter, one_same, one_raised, all_append, all_filter, all_map}

-- each holder is a client, of these many
abbrev pub is_theirs : ℕ → Holder → Bool
is_theirs clients h = nat_lt 0 h.client && nat_le h.client clients

-- what is true of holders beside their table
pub record Sound (clients : ℕ) (entries : List Entry) (holders : List Holder) : Type 0 where
  pub alone : OneWriter holders
  pub theirs : are_clients clients holders ≡ true
  pub made : list_all (is_of_file entries) holders ≡ true

pub sound : (t : TenureParts) (clients : ℕ) (entries : List Entry) (holders : List Holder) → TenuresStand t clients entries holders → Sound clients entries holders
sound t clients entries holders stands = record { alone = stands.alone; theirs = stands.theirs; made = stands.made }

module _ (clients : ℕ) (entries : List Entry) where
  sound_map : (f : Holder → Holder) → ((h g : Holder) → clash (f h) (f g) ≡ clash h g) → ((h : Holder) → is_theirs clients (f h) ≡ is_theirs clients h) → ((h : Holder) → is_of_file entries (f h) ≡ is_of_file entries h) → (holders : List Holder) → Sound clients entries holders → Sound clients entries (map f holders)
  sound_map f same theirs made holders s = record {
    alone = one_same f same holders s.alone;
    theirs = all_map (is_theirs clients) f theirs holders s.theirs;
    made = all_map (is_of_file entries) f made holders s.made;
  }

  pub sound_marked : (client : ℕ) (ino : Ino) (holders : List Holder) → Sound clients entries holders → Sound clients entries (map (recalled client ino) holders)
  sound_marked client ino holders s = sound_map (recalled client ino) (λ h g. refl) (λ h. refl) (λ h. refl) holders s

  pub sound_settled : (client : ℕ) (ino : Ino) (upto : SnapId) (holders : List Holder) → Sound clients entries holders → Sound clients entries (map (settled client ino upto) holders)
  sound_settled client ino upto holders s = sound_map (settled client ino upto) (λ h g. refl) (λ h. refl) (λ h. refl) holders s

  pub sound_filter : (test : Holder → Bool) (holders : List Holder) → Sound clients entries holders → Sound clients entries (filter test holders)
  sound_filter test holders s = record {
    alone = one_filter test holders s.alone;
    theirs = all_filter (is_theirs clients) test holders s.theirs;
    made = all_filter (is_of_file entries) test holders s.made;
  }

  sound_more : (h : Holder) (holders : List Holder) → list_any (clash h) holders ≡ false → is_theirs clients h ≡ true → is_of_file entries h ≡ true → Sound clients entries holders → Sound clients entries (holders ++ h ∷ [])
  sound_more h holders apart theirs made s = record {
    alone = one_append holders h s.alone apart;
    theirs = all_append (is_theirs clients) holders h s.theirs theirs;
    made = all_append (is_of_file entries) holders h s.made made;
  }

-- nobody is against it, and the client doesn't hold the file
no_clash : (client : ℕ) (ino : Ino) (mode : Mode) (upto : SnapId) (holders : List Holder) → list_any (is_against client ino mode) holders ≡ false → find (is_holder client ino) holders ≡ None → list_any (clash (record { client = client; ino = ino; mode = mode; settled = upto; recalled = false })) holders ≡ false
no_clash client ino mode upto [] none free = refl
no_clash client ino mode upto (h ∷ holders) none free = go (is_holder client ino h) refl free (λ later apart. no_clash client ino mode upto holders later apart)
  where
    new : Holder
    new = record { client = client; ino = ino; mode = mode; settled = upto; recalled = false }

    one : (w v : Bool) (a b c d : ℕ) → (a == b && c == d) ≡ false → (not (a == b) && c == d && (w || v)) ≡ false → (d == c && (w || v || b == a)) ≡ false
    one true v a b c d other apart = grind (arith, nat_tests)
    one false true a b c d other apart = grind (arith, nat_tests)
    one false false a b c d other apart = grind (arith, nat_tests)

    go : (b : Bool) → is_holder client ino h ≡ b → cond b (Some h) (find (is_holder client ino) holders) ≡ None → (list_any (is_against client ino mode) holders ≡ false → find (is_holder client ino) holders ≡ None → list_any (clash new) holders ≡ false) → list_any (clash new) (h ∷ holders) ≡ false
    go true is free rest = cc
    go false is free rest =
        let parts = neither (is_against client ino mode h) (list_any (is_against client ino mode) holders) none in
        rw (one (is_write mode) (is_write h.mode) h.client client h.ino.0 ino.0 is parts.0, rest parts.1 free) refl

is_client : (client clients : ℕ) → 1 ≤ client → client ≤ clients → (nat_lt 0 client && nat_le client clients) ≡ true
is_client client clients from_one upto = grind (arith, nat_tests)

module _ (s : Server) (client : ℕ) (ino : Ino) (mode : Mode) (from_one : 1 ≤ client) (upto : client ≤ s.clients) (file : is_made_file (state_after s.entries) ino ≡ true) (free : in_conflict s client ino mode ≡ false) (is : Sound s.clients s.entries s.holders) where
  -- what a client is given
  pub sound_given : Sound s.clients s.entries (acts s (give s client ino mode)).holders
  sound_given = go (find (is_holder client ino) s.holders) refl
    where
      raise : (m : Mode) (b : Bool) → in_conflict s client ino m ≡ false → Sound s.clients s.entries (acts s (if is_write m && not b then Raise client ino (record { 0 = applied s.entries }) ∷ [] else [])).holders
      raise Read b none = is
      raise Write true none = is
      raise Write false none = record {
        alone = one_raised client ino (record { 0 = applied s.entries }) s.holders none is.alone;
        theirs = all_map (is_theirs s.clients) (raised client ino (record { 0 = applied s.entries })) (λ h. refl) s.holders is.theirs;
        made = all_map (is_of_file s.entries) (raised client ino (record { 0 = applied s.entries })) (λ h. refl) s.holders is.made;
      }

      go : (o : Option Holder) → find (is_holder client ino) s.holders ≡ o → Sound s.clients s.entries (acts s (give_to s client ino mode o)).holders
      go None none =
          sound_more s.clients s.entries (tenure s client ino mode) s.holders (no_clash client ino mode (record { 0 = applied s.entries }) s.holders free none) (is_client client s.clients from_one upto) file is
      go (Some h) found = raise mode (is_write h.mode) free

acts_more : (s : Server) (first next : List Act) → acts s (first ++ next) ≡ acts (acts s first) next
acts_more s [] next = refl
acts_more s (a ∷ first) next = acts_more (act s a) first next

-- what a client claims
module _ (clients : ℕ) (entries : List Entry) (client : ℕ) (from_one : 1 ≤ client) (upto : client ≤ clients) where
  pub sound_claimed : (claims : List Claim) (s : Server) → list_all (λ (k : Claim). is_made_file (state_after entries) k.ino) claims ≡ true → Sound clients entries s.holders → Sound clients entries (acts s (each (take_claim client) s claims)).holders
  sound_claimed [] s made is = is
  sound_claimed (k ∷ claims) s made is =
      let l = both (is_made_file (state_after entries) k.ino) (list_all (λ (c : Claim). is_made_file (state_after entries) c.ino) claims) made in
      subst (λ (t : Server). Sound clients entries t.holders) (sym (acts_more s (take_claim client s k) (each (take_claim client) (acts s (take_claim client s k)) claims)))
      (sound_claimed claims (acts s (take_claim client s k)) l.1 (one (list_any (clash (claimed client k)) s.holders) refl l.0))
    where
      one : (b : Bool) → list_any (clash (claimed client k)) s.holders ≡ b → is_made_file (state_after entries) k.ino ≡ true → Sound clients entries (acts s (if b then [] else Hold (claimed client k) ∷ [])).holders
      one true clashes made = is
      one false apart made = sound_more clients entries (claimed client k) s.holders apart (is_client client clients from_one upto) made is
