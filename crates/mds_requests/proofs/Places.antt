-- Acts only move requests: what is true of each request at the server stays so.
use Rattle.std.proofs.Common.{ℕ, List, [], ◌∷◌, ◌++◌, filter, drop, Bool, true, false, not, cond, Option, None, Some, refl}
use Rattle.std.specs.List.{AllByRecursion}
use Rattle.plain_types.specs.declared.entry.Entry.{Entry}
use Rattle.plain_types.specs.declared.entry.What.{What}
use Rattle.step_table.specs.ServerState.{Asked, Server, Told, Answered, Granted, WantedBack, Changed, Acked, tell, tell_at, number_of, up_to}
use Rattle.step_table.specs.Acts.{Act, TellRecall, TellAck, AnswerIt, GrantIt, MakeEffect, Prepare, Wait, Defer, DeferFirst, TakeHeld, TakeDeferred, TakeOperation, Buffer, act, acts, answer_hand, grant_hand, effect_hand, buffer_for, written_down, prepare_hand, entry_for, buffer, of_client, first_of, as_list}
use Rattle.mds_state.specs.Fits.{IsFit, WaitingFit}
use Rattle.mds_requests.specs.Ready.{HandFits}
use Rattle.mds_requests.proofs.Later.{later_same, act_later, notices_keep, fit_later}

-- it is true of the one in hand, of those held and deferred, and of that of the operation
abbrev pub Places : (Asked → Type 0) → Server → Type 0
Places P s = AllByRecursion P (as_list s.hand) × AllByRecursion P s.held × AllByRecursion P s.deferred × AllByRecursion P (as_list s.operation)

module _ (P : Asked → Type 0) where
  all_append : (xs ys : List Asked) → AllByRecursion P xs → AllByRecursion P ys → AllByRecursion P (xs ++ ys)
  all_append [] ys one two = two
  all_append (x ∷ xs) ys one two = (one.0, all_append xs ys one.1 two)

  all_filter : (test : Asked → Bool) (xs : List Asked) → AllByRecursion P xs → AllByRecursion P (filter test xs)
  all_filter test [] all = tt
  all_filter test (x ∷ xs) all = by_test (test x) (all_filter test xs all.1)
    where
      by_test : (b : Bool) → AllByRecursion P (filter test xs) → AllByRecursion P (cond b (x ∷ filter test xs) (filter test xs))
      by_test true more = (all.0, more)
      by_test false more = more

  all_first : (xs : List Asked) → AllByRecursion P xs → AllByRecursion P (as_list (first_of xs))
  all_first [] all = tt
  all_first (x ∷ xs) all = (all.0, tt)

  all_but_first : (xs : List Asked) → AllByRecursion P xs → AllByRecursion P (drop 1 xs)
  all_but_first [] all = tt
  all_but_first (x ∷ xs) all = all.1

  told_places : (s : Server) (x : ℕ) (told : Told) → Places P s → Places P (tell s x told)
  told_places s x told is = by_number (number_of s.current x)
    where
      by_number : (o : Option ℕ) → Places P (tell_at s x told o)
      by_number None = is
      by_number (Some conn) = is

  buffer_places : (s : Server) (e : Entry) → Places P s → Places P (buffer s e)
  buffer_places s e is = notices_keep (Places P) (λ u x inos so. told_places u x (Changed inos) so) s.entries (up_to s.clients) (record s { entries = s.entries ++ e ∷ [] }) is

  pub act_places : (s : Server) (a : Act) → Places P s → Places P (act s a)
  act_places s (TellRecall x ino) is = told_places s x (WantedBack ino) is
  act_places s (TellAck x number) is = told_places s x (Acked number) is
  act_places s (AnswerIt said) is = by_hand s.hand
    where
      by_hand : (o : Option Asked) → Places P (answer_hand s said o)
      by_hand None = is
      by_hand (Some a) = told_places (record s { hand = None }) a.client (Answered a.tid said) (tt, is.1, is.2, is.3)
  act_places s (GrantIt ino mode) is = by_hand s.hand
    where
      by_hand : (o : Option Asked) → Places P (grant_hand s ino mode o)
      by_hand None = is
      by_hand (Some a) = told_places (record s { hand = None }) a.client (Granted a.tid ino mode) (tt, is.1, is.2, is.3)
  act_places s (MakeEffect made) is = by_hand s.hand
    where
      by_said : (a : Asked) (o : Option What) → Places P (buffer_for s a o)
      by_said a None = is
      by_said a (Some said) = buffer_places s (entry_for a said) is

      by_hand : (o : Option Asked) → Places P (effect_hand s made o)
      by_hand None = is
      by_hand (Some a) = by_said a (written_down made)
  act_places s (Prepare said) is = by_hand s.hand is.0
    where
      by_hand : (o : Option Asked) → AllByRecursion P (as_list o) → Places P (prepare_hand s said o)
      by_hand None hand = is
      by_hand (Some a) hand = buffer_places (record s { operation = Some a; hand = None }) (entry_for a said) (tt, is.1, is.2, hand)
  act_places s (Buffer e) is = buffer_places s e is
  act_places s Wait is = (tt, all_append s.held (as_list s.hand) is.1 is.0, is.2, is.3)
  act_places s Defer is = (tt, is.1, all_append s.deferred (as_list s.hand) is.2 is.0, is.3)
  act_places s DeferFirst is = (tt, is.1, all_append (as_list s.hand) s.deferred is.0 is.2, is.3)
  act_places s (TakeHeld x) is = (all_first (filter (of_client x) s.held) (all_filter (of_client x) s.held is.1), all_filter (λ a. not (of_client x a)) s.held is.1, is.2, is.3)
  act_places s TakeDeferred is = (all_first s.deferred is.2, is.1, all_but_first s.deferred is.2, is.3)
  act_places s TakeOperation is = (is.3, is.1, is.2, tt)
  act_places s a is = is

-- a property that gives another
all_to : (P Q : Asked → Type 0) → ((a : Asked) → P a → Q a) → (xs : List Asked) → AllByRecursion P xs → AllByRecursion Q xs
all_to P Q go [] all = tt
all_to P Q go (x ∷ xs) all = (go x all.0, all_to P Q go xs all.1)

pub places_to : (P Q : Asked → Type 0) (s : Server) → ((a : Asked) → P a → Q a) → Places P s → Places Q s
places_to P Q s go is = (all_to P Q go (as_list s.hand) is.0, all_to P Q go s.held is.1, all_to P Q go s.deferred is.2, all_to P Q go (as_list s.operation) is.3)

-- all requests at the server fit
pub all_fit : (list : List Act) (s : Server) → Places (IsFit s) s → Places (IsFit (acts s list)) (acts s list)
all_fit [] s is = is
all_fit (a ∷ list) s is =
    all_fit list (act s a) (places_to (IsFit s) (IsFit (act s a)) (act s a) (λ b. fit_later s (act s a) b (act_later s a)) (act_places (IsFit s) s a is))

pub placed : (s : Server) → HandFits s → WaitingFit s → Places (IsFit s) s
placed s hand waiting = (hand, waiting.held, waiting.deferred, waiting.operation)

pub waiting_of : (s : Server) → Places (IsFit s) s → WaitingFit s
waiting_of s is = record { held = is.1; deferred = is.2; operation = is.3 }

-- those that wait still do where the hand is emptied
pub emptied : (s : Server) → WaitingFit s → Places (IsFit (record s { hand = None })) (record s { hand = None })
emptied s waiting =
    places_to (IsFit s) (IsFit (record s { hand = None })) (record s { hand = None }) (λ a. fit_later s (record s { hand = None }) a (later_same s (record s { hand = None }) refl refl))
    (tt, waiting.held, waiting.deferred, waiting.operation)
