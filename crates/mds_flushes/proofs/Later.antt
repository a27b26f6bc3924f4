-- What flushes and claims keep: connections, and that a file was made.
use Rattle.std.proofs.Common.{◌≡◌, ◌<◌, ℕ, List, [], ◌∷◌, ◌++◌, Bool, true, false, Option, None, Some, refl, sym, subst, ◌∙◌}
use Rattle.std.specs.Prelude.{◌&&◌, if◌then◌else◌, nat_le}
use Rattle.std.specs.List.{list_all}
use Rattle.snap_ids.specs.declared.id.Ino.{Ino}
use Rattle.plain_types.specs.declared.entry.Entry.{Entry}
use Rattle.plain_types.specs.declared.message.Claim.{Claim}
use Rattle.plain_types.specs.declared.message.FlushMsg.{FlushMsg}
use Rattle.plain_journal.specs.Entries.{state_after}
use Rattle.plain_journal.specs.Legal.{is_made_file}
use Rattle.plain_journal.specs.Table.{last_flush}
use Rattle.server_holders.proofs.Any.{both_true}
use Rattle.step_table.specs.Acts.{Act, Buffer, LetAllGo, LetGo, Settled, act, acts, changed_files, each, notices, tell_changed}
use Rattle.step_table.specs.Flushes.{flush_settles, knows_file, take_brought, take_claim, take_flush}
use Rattle.step_table.specs.ServerState.{Changed, Server, connection, number_of, tell_at, up_to}
use Rattle.mds_state.specs.Stands.{bare, entered}
use Rattle.mds_state.proofs.Acted.{claims_alone}
use Rattle.mds_state.proofs.Changed.{noticed_entries}
use Rattle.mds_state.proofs.Known.{made_more}
use Rattle.mds_flushes.specs.Takes.{is_known}
use Rattle.mds_flushes.proofs.Follows.{entry_of}

-- a state with the same connections, in which a file that was made is one
pub record Later (s t : Server) : Type 0 where
  pub current : t.current ≡ s.current
  pub known : (ino : Ino) → knows_file s ino ≡ true → knows_file t ino ≡ true

pub both_later : (s t u : Server) → Later s t → Later t u → Later s u
both_later s t u first next = record { current = next.current ∙ first.current; known = λ ino is. next.known ino (first.known ino is) }

pub acts_more : (s : Server) (first next : List Act) → acts s (first ++ next) ≡ acts (acts s first) next
acts_more s [] next = refl
acts_more s (a ∷ first) next = acts_more (act s a) first next

told_current : (s : Server) (client : ℕ) (inos : List Ino) → (tell_changed s client inos).current ≡ s.current
told_current s client [] = refl
told_current s client (ino ∷ inos) = go (number_of s.current client)
  where
    go : (o : Option ℕ) → (tell_at s client (Changed (ino ∷ inos)) o).current ≡ s.current
    go None = refl
    go (Some conn) = refl

noticed_current : (before : List Entry) (s : Server) (clients : List ℕ) → (notices before s clients).current ≡ s.current
noticed_current before s [] = refl
noticed_current before s (c ∷ clients) =
    noticed_current before (tell_changed s c (changed_files before s c)) clients ∙ told_current s c (changed_files before s c)

buffer_later : (s : Server) (e : Entry) → Later s (act s (Buffer e))
buffer_later s e = record {
  current = noticed_current s.entries (entered s e) (up_to s.clients);
  known = λ ino is.
      subst (λ (entries : List Entry). is_made_file (state_after entries) ino ≡ true)
      (sym (noticed_entries s.entries (entered s e) (up_to s.clients))) (made_more s.entries e ino is);
}

module _ (client : ℕ) (f : FlushMsg) (s : Server) where
  settle_later : Later s (act s (flush_settles client f))
  settle_later = go f.release
    where
      go : (b : Bool) → Later s (act s (if b then LetGo client f.ino else Settled client f.ino f.upto))
      go true = record { current = refl; known = λ ino is. is }
      go false = record { current = refl; known = λ ino is. is }

module _ (client : ℕ) (f : FlushMsg) (s : Server) where
  take_later : (b : Bool) → Later s (acts s (if b then [] else Buffer (entry_of client f) ∷ flush_settles client f ∷ []))
  take_later true = record { current = refl; known = λ ino is. is }
  take_later false = both_later s (act s (Buffer (entry_of client f))) _ (buffer_later s (entry_of client f)) (settle_later client f (act s (Buffer (entry_of client f))))

  end_later : (b : Bool) → Later s (acts s (if b then [] else Settled client f.ino f.upto ∷ []))
  end_later true = record { current = refl; known = λ ino is. is }
  end_later false = record { current = refl; known = λ ino is. is }

pub brought_later : (client : ℕ) (f : FlushMsg) (s : Server) → Later s (acts s (take_brought client s f))
brought_later client f s =
    subst (Later s) (sym (acts_more s (take_flush client s f) (if f.release then [] else Settled client f.ino f.upto ∷ [])))
    (both_later s (acts s (take_flush client s f)) _ (take_later client f s (nat_le f.number (last_flush s.entries client)))
    (end_later client f (acts s (take_flush client s f)) f.release))

pub flushes_later : (client : ℕ) (flushes : List FlushMsg) (s : Server) → Later s (acts s (each (take_brought client) s flushes))
flushes_later client [] s = record { current = refl; known = λ ino is. is }
flushes_later client (f ∷ flushes) s =
    let now = acts s (take_brought client s f) in
    subst (Later s) (sym (acts_more s (take_brought client s f) (each (take_brought client) now flushes)))
    (both_later s now _ (brought_later client f s) (flushes_later client flushes now))

-- a client that comes back lets all go, and holds what it claims
pub claims_later : (client : ℕ) (claims : List Claim) (s : Server) → Later s (acts (act s (LetAllGo client)) (each (take_claim client) (act s (LetAllGo client)) claims))
claims_later client claims s = subst (Later s) (sym (claims_alone client claims (act s (LetAllGo client)))) (record { current = refl; known = λ ino is. is })

-- so flushes that are left are of files that were made
pub all_later : (s t : Server) → Later s t → (flushes : List FlushMsg) → list_all (is_known s) flushes ≡ true → list_all (is_known t) flushes ≡ true
all_later s t later [] all = refl
all_later s t later (f ∷ flushes) all =
    let both = both_true (is_known s f) (list_all (is_known s) flushes) all in
    (λ i. later.known f.ino both.0 i && all_later s t later flushes both.1 i)

-- and a new connection's number is above the current one
pub newer_later : (s t : Server) (client conn : ℕ) → Later s t → connection s client < conn → connection t client < conn
newer_later s t client conn later newer = subst (λ (current : List (ℕ × ℕ)). connection (bare 0 [] current) client < conn) (sym later.current) newer
