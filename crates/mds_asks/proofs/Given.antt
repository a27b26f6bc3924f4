-- What comes of a request for a file, and at a barrier.
use Rattle.std.proofs.Common.{◌≡◌, ℕ, List, [], ◌∷◌, ◌++◌, Bool, true, false, Option, None, Some, refl, sym, ap, subst, ◌∙◌}
use Rattle.std.specs.Prelude.{◌||◌, if◌then◌else◌, nat_le}
use Rattle.std.specs.List.{list_any}
use Rattle.std.proofs.lemmas.List.Folds.{list_any-append}
use Rattle.snap_ids.specs.declared.id.Ino.{Ino}
use Rattle.snap_ids.specs.declared.values.Mode.{Mode}
use Rattle.snap_ids.specs.declared.values.Mode.TheVariants.{Read}
use Rattle.plain_types.specs.declared.answer.Answer.{Answer}
use Rattle.plain_types.specs.declared.answer.Answer.TheVariants.{Done, FoundLive}
use Rattle.plain_types.specs.declared.entry.Entry.{Entry}
use Rattle.plain_journal.specs.Entries.{state_after}
use Rattle.plain_journal.specs.Legal.{is_made_file}
use Rattle.plain_journal.specs.Table.{barrier}
use Rattle.step_table.specs.Acts.{Act, AnswerIt, Wait, act, acts}
use Rattle.step_table.specs.Capabilities.{against, ask_cap, ask_found, found_live, give, recalls}
use Rattle.step_table.specs.Requests.{at_barrier, opens}
use Rattle.step_table.specs.ServerState.{Asked, Server, is_writer}
use Rattle.mds_state.specs.Acted.{Acted}
use Rattle.mds_state.specs.Looks.{HasFile}
use Rattle.mds_state.specs.Parts.{Parts}
use Rattle.mds_state.specs.Stands.{StandsFor}
use Rattle.mds_state.proofs.Acted.{given_alone}
use Rattle.mds_asks.specs.Others.{AreOthers, IsAsked, after_asked}
use Rattle.mds_asks.specs.Treated.{HoldsNext, IsTreated}
use Rattle.mds_asks.specs.declared.treated.Treated.{Treated}
use Rattle.mds_asks.proofs.Acting.{acts_joined, one_act, stands_so}
use Rattle.mds_asks.proofs.Recalled.{chosen_are, recalls_open_nothing}

or_none : (b : Bool) → (b || false) ≡ b
or_none true = refl
or_none false = refl

-- what is given leaves the entries
pub given_entries : (s : Server) (client : ℕ) (ino : Ino) (mode : Mode) → (acts s (give s client ino mode)).entries ≡ s.entries
given_entries s client ino mode = ap (λ (t : Server). t.entries) (given_alone s client ino mode)

-- so the file is one that was made
pub still_made : (s : Server) (client : ℕ) (ino : Ino) (mode : Mode) → is_made_file (state_after s.entries) ino ≡ true → is_made_file (state_after (acts s (give s client ino mode)).entries) ino ≡ true
still_made s client ino mode made = subst (λ (entries : List Entry). is_made_file (state_after entries) ino ≡ true) (sym (given_entries s client ino mode)) made

pub has_file : (p : Parts) (taken : Option Asked) (s : Server) (ino : Ino) → StandsFor p taken s → is_made_file (state_after s.entries) ino ≡ true → HasFile p.written ino
has_file p taken s ino stands made = record { clients = s.clients; entries = s.entries; done = s.durable; stands = stands.written; made = made }

module _ (p : Parts) (a : Asked) (s : Server) (ino : Ino) (mode : Mode) (granted : Act) where
  -- nobody is in conflict
  pub free : (opened : Bool) → IsAsked (Some opened) s a.client ino mode → opens granted ≡ false → StandsFor p None (act (acts s (give s a.client ino mode)) granted) → Acted p s (ask_cap s a.client ino mode granted) opened
  free opened asks closed stands =
      subst (λ (b : Bool). Acted p s (if b then recalls s ino (against s a.client ino mode) ++ Wait ∷ [] else give s a.client ino mode ++ granted ∷ []) opened) (sym asks.0) (
        subst (λ (t : Server). StandsFor p t.hand t) (sym (acts_joined s (give s a.client ino mode) (granted ∷ []))) (stands_so p None (act (acts s (give s a.client ino mode)) granted) stands),
        sym (list_any-append opens (give s a.client ino mode) (granted ∷ []) ∙ (λ i. asks.1 i || (closed i || false)) ∙ or_none opened),
      )

  -- somebody is
  pub refused : IsAsked None s a.client ino mode → StandsFor p (Some a) (after_asked None s a.client ino mode) → HoldsNext p a s (ask_cap s a.client ino mode granted)
  refused some stands = record {
    made = recalls s ino (against s a.client ino mode);
    same = ap (λ (b : Bool). if b then recalls s ino (against s a.client ino mode) ++ Wait ∷ [] else give s a.client ino mode ++ granted ∷ []) (sym some);
    opens_nothing = recalls_open_nothing s ino (against s a.client ino mode);
    stands = stands;
  }

module _ (p : Parts) (a : Asked) (s : Server) where
  -- a writer is answered
  pub writes_it : (ino : Ino) (answer : Answer) → list_any (is_writer a.client ino) s.holders ≡ true → answer ≡ found_live s ino true → StandsFor p None (act s (AnswerIt answer)) → Acted p s (ask_found s a.client ino) false
  writes_it ino answer is same stands =
      subst (λ (b : Bool). Acted p s (if b then AnswerIt (found_live s ino true) ∷ [] else ask_cap s a.client ino Read (AnswerIt (found_live s ino false))) false) (sym is)
      (one_act p None s (AnswerIt (found_live s ino true)) (subst (λ (x : Answer). StandsFor p None (act s (AnswerIt x))) same stands) refl)

  -- another asks for Read
  pub reads_it : (ino : Ino) (answer : Answer) (treated : Treated) → list_any (is_writer a.client ino) s.holders ≡ false → answer ≡ found_live s ino false → IsTreated p a s (ask_cap s a.client ino Read (AnswerIt answer)) treated → IsTreated p a s (ask_found s a.client ino) treated
  reads_it ino answer treated is same acted =
      subst (λ (b : Bool). IsTreated p a s (if b then AnswerIt (found_live s ino true) ∷ [] else ask_cap s a.client ino Read (AnswerIt (found_live s ino false))) treated) (sym is)
      (subst (λ (x : Answer). IsTreated p a s (ask_cap s a.client ino Read (AnswerIt x)) treated) same acted)

  -- a barrier was passed, or wasn't
  pub passed : (number : ℕ) → nat_le number (barrier s.entries) ≡ true → StandsFor p None (act s (AnswerIt Done)) → Acted p s (at_barrier s number) false
  passed number is stands = subst (λ (b : Bool). Acted p s (if b then AnswerIt Done ∷ [] else Wait ∷ []) false) (sym is) (one_act p None s (AnswerIt Done) stands refl)

  pub waits_there : (number : ℕ) → nat_le number (barrier s.entries) ≡ false → StandsFor p (Some a) s → HoldsNext p a s (at_barrier s number)
  waits_there number is stands = record {
    made = [];
    same = ap (λ (b : Bool). if b then AnswerIt Done ∷ [] else Wait ∷ []) (sym is);
    opens_nothing = refl;
    stands = stands;
  }

  -- the request is held
  pub held_last : (q : Parts) (list : List Act) → HoldsNext p a s list → ((t : Server) → StandsFor p (Some a) t → StandsFor q None (act t Wait)) → Acted q s list false
  held_last q list is waits =
      subst (λ (l : List Act). Acted q s l false) is.same (
        subst (λ (t : Server). StandsFor q t.hand t) (sym (acts_joined s is.made (Wait ∷ []))) (stands_so q None (act (acts s is.made) Wait) (waits (acts s is.made) is.stands)),
        sym (list_any-append opens is.made (Wait ∷ []) ∙ ap (λ (b : Bool). b || false) is.opens_nothing),
      )

-- the same of a file that its client writes
abbrev as_writer : Answer → Answer
as_writer (FoundLive ino perm size held) = FoundLive ino perm size true
as_writer answer = answer

pub written : (s : Server) (ino : Ino) (perm size : ℕ) → FoundLive ino perm size false ≡ found_live s ino false → FoundLive ino perm size true ≡ found_live s ino true
written s ino perm size same = ap as_writer same

-- those against a request are clients, each named once
pub against_are : (s : Server) (clients client : ℕ) (ino : Ino) (mode : Mode) (others : List ℕ) → clients ≡ s.clients → others ≡ against s client ino mode → AreOthers clients others
against_are s clients client ino mode others many are =
    subst (λ (n : ℕ). AreOthers n others) (sym many) (subst (AreOthers s.clients) (sym are) (chosen_are s.clients _))
