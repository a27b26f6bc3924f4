-- What becomes of the held requests where one is treated.
use Rattle.std.proofs.Common.{◌≡◌, ℕ, List, [], ◌∷◌, ◌++◌, Bool, true, false, not, cond, Option, None, Some, refl, ap, ◌∙◌, ◌⊎◌, inl, inr}
use Rattle.std.proofs.lemmas.List.Folds.{list_any-append}
use Rattle.std.specs.Prelude.{◌&&◌, ◌||◌, nat_le, find, Result, Ok, Err}
use Rattle.std.specs.List.{list_any}
use Rattle.snap_ids.specs.declared.id.Ino.{Ino}
use Rattle.snap_ids.specs.declared.values.Kind.{Kind}
use Rattle.snap_ids.specs.declared.values.Kind.TheVariants.{Dir, File}
use Rattle.snap_ids.specs.declared.values.Mode.{Mode}
use Rattle.snap_ids.specs.declared.values.Mode.TheVariants.{Read}
use Rattle.plain_types.specs.declared.answer.Answer.{Answer}
use Rattle.plain_types.specs.declared.answer.Answer.TheVariants.{Done}
use Rattle.plain_types.specs.declared.answer.Refusal.{Refusal}
use Rattle.plain_types.specs.declared.change.Change.{Change}
use Rattle.plain_types.specs.declared.change.Change.TheVariants as change
use Rattle.plain_types.specs.declared.entry.Entry.{Entry}
use Rattle.plain_types.specs.declared.entry.What.{What}
use Rattle.plain_types.specs.declared.entry.What.TheVariants.{PrepareCreate, PrepareDestroy}
use Rattle.plain_types.specs.declared.request.Query.TheVariants as query
use Rattle.plain_types.specs.declared.request.Request.{Request}
use Rattle.plain_types.specs.declared.request.Request.TheVariants as request
use Rattle.plain_tree.specs.Query.{Found, InLive, SnapsOf, InTree}
use Rattle.plain_tree.specs.Request.{change_asked}
use Rattle.plain_tree.specs.State.{kind_in}
use Rattle.plain_journal.specs.Answers.{found, answer_to}
use Rattle.plain_journal.specs.Entries.{state_after, tree_at}
use Rattle.plain_journal.specs.Table.{barrier}
use Rattle.held_files.specs.Files.{is_write}
use Rattle.step_table.specs.ServerState.{Asked, Holder, Server, Told, Answered, Granted, WantedBack, Changed, Acked, tell, tell_at, number_of, up_to, all_connected, is_holder, is_writer}
use Rattle.step_table.specs.Acts.{Act, TellRecall, TellAck, AnswerIt, GrantIt, MakeEffect, Prepare, Wait, Defer, TakeHeld, Buffer, MarkRecalled, LetAllGo, act, acts, as_list, answer_hand, grant_hand, effect_hand, buffer_for, written_down, prepare_hand, entry_for, buffer}
use Rattle.step_table.specs.Capabilities.{in_conflict, against, is_recalled, recall, recalls, give_to, give, ask_cap, found_live, ask_found, owing}
use Rattle.step_table.specs.Requests.{treat, treat_known, treat_new, kept_answer, is_operation, decided, make, is_busy, next_id, by_kind, settled_answer, look_at, opens}
use Rattle.mds_requests.proofs.Later.{notices_keep}

pub acts_append : (xs ys : List Act) (s : Server) → acts s (xs ++ ys) ≡ acts (acts s xs) ys
acts_append [] ys s = refl
acts_append (a ∷ xs) ys s = acts_append xs ys (act s a)

or_none : (a b : Bool) → a ≡ false → b ≡ false → (a || b) ≡ false
or_none a b none other = rw (none, other) refl

-- recalls leave the hand
recalls_hand : (s : Server) (ino : Ino) (clients : List ℕ) (t : Server) → (acts t (recalls s ino clients)).hand ≡ t.hand
recalls_hand s ino [] t = refl
recalls_hand s ino (x ∷ clients) t = ap (λ (u : Server). u.hand) (acts_append (recall s ino x) (recalls s ino clients) t) ∙ recalls_hand s ino clients (acts t (recall s ino x)) ∙ by_test (is_recalled s ino x)
  where
    by_number : (o : Option ℕ) → (tell_at (act t (MarkRecalled x ino)) x (WantedBack ino) o).hand ≡ t.hand
    by_number None = refl
    by_number (Some conn) = refl

    by_test : (b : Bool) → (acts t (cond b [] (MarkRecalled x ino ∷ TellRecall x ino ∷ []))).hand ≡ t.hand
    by_test true = refl
    by_test false = by_number (number_of t.current x)

-- acts that leave what is held
abbrev pub IsStill : Act → Type 0
IsStill Wait = ⊥
IsStill (TakeHeld x) = ⊥
IsStill (LetAllGo x) = ⊥
IsStill a = Unit {0}

abbrev Same : List Asked → Server → Type 0
Same held t = t.held ≡ held

told_same : (held : List Asked) (t : Server) (x : ℕ) (told : Told) → Same held t → Same held (tell t x told)
told_same held t x told is = by_number (number_of t.current x)
  where
    by_number : (o : Option ℕ) → Same held (tell_at t x told o)
    by_number None = is
    by_number (Some conn) = is

buffer_same : (held : List Asked) (t : Server) (e : Entry) → Same held t → Same held (buffer t e)
buffer_same held t e is = notices_keep (Same held) (λ u x inos so. told_same held u x (Changed inos) so) t.entries (up_to t.clients) (record t { entries = t.entries ++ e ∷ [] }) is

pub held_still : (s : Server) (a : Act) → IsStill a → (act s a).held ≡ s.held
held_still s (TellRecall x ino) is = told_same s.held s x (WantedBack ino) refl
held_still s (TellAck x number) is = told_same s.held s x (Acked number) refl
held_still s (AnswerIt said) is = by_hand s.hand
  where
    by_hand : (o : Option Asked) → Same s.held (answer_hand s said o)
    by_hand None = refl
    by_hand (Some a) = told_same s.held (record s { hand = None }) a.client (Answered a.tid said) refl
held_still s (GrantIt ino mode) is = by_hand s.hand
  where
    by_hand : (o : Option Asked) → Same s.held (grant_hand s ino mode o)
    by_hand None = refl
    by_hand (Some a) = told_same s.held (record s { hand = None }) a.client (Granted a.tid ino mode) refl
held_still s (MakeEffect made) is = by_hand s.hand
  where
    by_said : (a : Asked) (o : Option What) → Same s.held (buffer_for s a o)
    by_said a None = refl
    by_said a (Some said) = buffer_same s.held s (entry_for a said) refl

    by_hand : (o : Option Asked) → Same s.held (effect_hand s made o)
    by_hand None = refl
    by_hand (Some a) = by_said a (written_down made)
held_still s (Prepare said) is = by_hand s.hand
  where
    by_hand : (o : Option Asked) → Same s.held (prepare_hand s said o)
    by_hand None = refl
    by_hand (Some a) = buffer_same s.held (record s { operation = Some a; hand = None }) (entry_for a said) refl
held_still s (Buffer e) is = buffer_same s.held s e refl
held_still s Wait is = absurd is
held_still s (TakeHeld x) is = absurd is
held_still s (LetAllGo x) is = absurd is
held_still s a is = refl

abbrev pub AllStill : List Act → Type 0
AllStill [] = Unit {0}
AllStill (a ∷ list) = IsStill a × AllStill list

pub all_still : (list : List Act) (s : Server) → AllStill list → (acts s list).held ≡ s.held
all_still [] s all = refl
all_still (a ∷ list) s all = all_still list (act s a) all.1 ∙ held_still s a all.0

pub still_append : (xs ys : List Act) → AllStill xs → AllStill ys → AllStill (xs ++ ys)
still_append [] ys all more = more
still_append (a ∷ xs) ys all more = (all.0, still_append xs ys all.1 more)

pub still_if : (b : Bool) (xs ys : List Act) → AllStill xs → AllStill ys → AllStill (cond b xs ys)
still_if true xs ys here other = here
still_if false xs ys here other = other

pub still_recalls : (s : Server) (ino : Ino) (clients : List ℕ) → AllStill (recalls s ino clients)
still_recalls s ino [] = tt
still_recalls s ino (x ∷ clients) = still_append (recall s ino x) (recalls s ino clients) (still_if (is_recalled s ino x) [] (MarkRecalled x ino ∷ TellRecall x ino ∷ []) tt (tt, (tt, tt))) (still_recalls s ino clients)

recalls_shut : (s : Server) (ino : Ino) (clients : List ℕ) → list_any opens (recalls s ino clients) ≡ false
recalls_shut s ino [] = refl
recalls_shut s ino (x ∷ clients) = list_any-append opens (recall s ino x) (recalls s ino clients) ∙ or_none (list_any opens (recall s ino x)) (list_any opens (recalls s ino clients)) (by_test (is_recalled s ino x)) (recalls_shut s ino clients)
  where
    by_test : (b : Bool) → list_any opens (cond b [] (MarkRecalled x ino ∷ TellRecall x ino ∷ [])) ≡ false
    by_test true = refl
    by_test false = refl

pub still_give : (s : Server) (x : ℕ) (ino : Ino) (mode : Mode) → AllStill (give s x ino mode)
still_give s x ino mode = by_holder (find (is_holder x ino) s.holders)
  where
    by_holder : (o : Option Holder) → AllStill (give_to s x ino mode o)
    by_holder None = (tt, tt)
    by_holder (Some h) = still_if (is_write mode && not (is_write h.mode)) _ [] (tt, tt) tt

-- What becomes of the request in hand: what is held stays, or it waits too and nothing was opened.
abbrev pub Ends : Server → List Act → Type 0
Ends s list = ((acts s list).held ≡ s.held) ⊎ (((acts s list).held ≡ s.held ++ as_list s.hand) × (list_any opens list ≡ false))

stays : (s : Server) (list : List Act) → AllStill list → Ends s list
stays s list all = inl (all_still list s all)

waits : (s : Server) → Ends s (Wait ∷ [])
waits s = inr (refl, refl)

ends_cap : (s : Server) (x : ℕ) (ino : Ino) (mode : Mode) (granted : Act) → IsStill granted → Ends s (ask_cap s x ino mode granted)
ends_cap s x ino mode granted still = by_test (in_conflict s x ino mode)
  where
    list : List Act
    list = recalls s ino (against s x ino mode)

    both : (held other : List Asked) (hand was : Option Asked) → held ≡ other → hand ≡ was → held ++ as_list hand ≡ other ++ as_list was
    both held other hand was one two = rw (one, two) refl

    by_test : (b : Bool) → Ends s (cond b (list ++ Wait ∷ []) (give s x ino mode ++ granted ∷ []))
    by_test true = inr (
      ap (λ (t : Server). t.held) (acts_append list (Wait ∷ []) s) ∙ both (acts s list).held s.held (acts s list).hand s.hand (all_still list s (still_recalls s ino (against s x ino mode))) (recalls_hand s ino (against s x ino mode) s),
      list_any-append opens list (Wait ∷ []) ∙ or_none (list_any opens list) false (recalls_shut s ino (against s x ino mode)) refl,
    )
    by_test false = stays s (give s x ino mode ++ granted ∷ []) (still_append (give s x ino mode) (granted ∷ []) (still_give s x ino mode) (still, tt))

ends_kind : (s : Server) (k : Kind) (xs ys : List Act) → Ends s xs → Ends s ys → Ends s (by_kind k xs ys)
ends_kind s Dir xs ys first other = first
ends_kind s File xs ys first other = other

ends_look : (s : Server) (a : Asked) (said : Answer) (o : Result Found Refusal) → Ends s (look_at s a said o)
ends_look s a said (Ok (InLive ino)) = ends_kind s (kind_in (state_after s.entries).inodes ino) (AnswerIt said ∷ []) (ask_found s a.client ino) (stays s (AnswerIt said ∷ []) (tt, tt)) (by_test (list_any (is_writer a.client ino) s.holders))
  where
    by_test : (b : Bool) → Ends s (cond b (AnswerIt (found_live s ino true) ∷ []) (ask_cap s a.client ino Read (AnswerIt (found_live s ino false))))
    by_test true = stays s (AnswerIt (found_live s ino true) ∷ []) (tt, tt)
    by_test false = ends_cap s a.client ino Read (AnswerIt (found_live s ino false)) tt
ends_look s a said (Ok (InTree id ino)) = ends_kind s (kind_in (tree_at s.entries id).inodes ino) (AnswerIt said ∷ []) (AnswerIt (settled_answer said (owing s ino id)) ∷ []) (stays s (AnswerIt said ∷ []) (tt, tt)) (stays s (AnswerIt (settled_answer said (owing s ino id)) ∷ []) (tt, tt))
ends_look s a said (Ok (SnapsOf dir)) = stays s (AnswerIt said ∷ []) (tt, tt)
ends_look s a said (Err refusal) = stays s (AnswerIt said ∷ []) (tt, tt)

still_make : (s : Server) (alone : Bool) (made : Change) → AllStill (make alone s made)
still_make s alone (change.Mksnap id dir name) = still_if (is_busy alone s) (Defer ∷ []) (Prepare (PrepareCreate id) ∷ []) (tt, tt) (tt, tt)
still_make s alone (change.Rmsnap id) = still_if (is_busy alone s) (Defer ∷ []) (Prepare (PrepareDestroy id) ∷ []) (tt, tt) (tt, tt)
still_make s alone made = (tt, (tt, tt))

pub still_decided : (s : Server) (alone : Bool) (o : Option (Result Change Refusal)) → AllStill (decided alone s o)
still_decided s alone None = tt
still_decided s alone (Some (Err refusal)) = (tt, tt)
still_decided s alone (Some (Ok made)) = still_make s alone made

ends_new : (s : Server) (alone : Bool) (a : Asked) (asked : Request) → Ends s (treat_new alone s a asked)
ends_new s alone a (request.Cap ino mode) = ends_cap s a.client ino mode (GrantIt ino mode) tt
ends_new s alone a (request.Cat path) = ends_look s a (answer_to s.entries (query.Cat path)) (found s.entries path)
ends_new s alone a (request.Stat path) = ends_look s a (answer_to s.entries (query.Stat path)) (found s.entries path)
ends_new s alone a (request.List path) = inl (held_still s (AnswerIt (answer_to s.entries (query.List path))) tt)
ends_new s alone a (request.Realm path) = inl (held_still s (AnswerIt (answer_to s.entries (query.Realm path))) tt)
ends_new s alone a (request.Clones path index) = inl (held_still s (AnswerIt (answer_to s.entries (query.Clones path index))) tt)
ends_new s alone a (request.Barrier number) = by_test (nat_le number (barrier s.entries))
  where
    by_test : (b : Bool) → Ends s (cond b (AnswerIt Done ∷ []) (Wait ∷ []))
    by_test true = stays s (AnswerIt Done ∷ []) (tt, tt)
    by_test false = waits s
ends_new s alone a asked = stays s (decided alone s (change_asked (state_after s.entries) a.client (next_id s) asked)) (still_decided s alone (change_asked (state_after s.entries) a.client (next_id s) asked))

pub ends_treat : (s : Server) (alone : Bool) (a : Asked) → Ends s (treat alone s a)
ends_treat s alone a = by_test (all_connected s)
  where
    by_operation : (b : Bool) → Ends s (cond b [] (treat_new alone s a a.request))
    by_operation true = inl refl
    by_operation false = ends_new s alone a a.request

    by_kept : (o : Option Answer) → Ends s (treat_known alone s a o)
    by_kept (Some said) = stays s (AnswerIt said ∷ []) (tt, tt)
    by_kept None = by_operation (is_operation s a)

    by_test : (b : Bool) → Ends s (cond b (treat_known alone s a (kept_answer s a)) (Wait ∷ []))
    by_test true = by_kept (kept_answer s a)
    by_test false = waits s
