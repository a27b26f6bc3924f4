-- The effects of a client's requests have rising numbers, along each run.
use Rattle.std.proofs.Common.{◌≡◌, ◌<◌, ◌≤◌, ℕ, ◌+◌, List, [], ◌∷◌, ◌++◌, drop, take, Bool, true, false, true≢false, cond, Option, None, Some, is_some, refl, sym, ◌∙◌, subst, arith}
use Rattle.std.proofs.lemmas.List.{take-append-drop}
use Rattle.std.proofs.lemmas.Bool.Decides.{nat_tests}
use Rattle.std.specs.Prelude.{◌==◌, ◌&&◌, fold, if◌then◌else◌}
use Rattle.plain_types.specs.declared.answer.Answer.{Answer}
use Rattle.plain_types.specs.declared.change.Change.{Change}
use Rattle.plain_types.specs.declared.entry.Entry.{Entry}
use Rattle.plain_types.specs.declared.entry.What.{What}
use Rattle.plain_types.specs.declared.request.Request.{Request}
use Rattle.plain_tree.specs.Line.{answer_to}
use Rattle.plain_journal.specs.Entries.{change_in}
use Rattle.plain_journal.specs.Table.{answer_kept, last_effect}
use Rattle.step_table.specs.ServerState.{Asked, Server, Told, Answered, Granted, WantedBack, Changed, Acked, tell, tell_at, number_of, up_to}
use Rattle.step_table.specs.Acts.{Act, TellRecall, TellAck, AnswerIt, GrantIt, MakeEffect, Prepare, TakeOperation, Buffer, act, of_client, as_list, answer_hand, grant_hand, effect_hand, buffer_for, written_down, prepare_hand, entry_for, buffer}
use Rattle.step_table.specs.Requests.{kept_for}
use Rattle.run_laws.specs.Requests.{IsIt, OpenAt, AllOf, count, is_of, AllUpTo, AllAbove, AllLess, Rising}
use Rattle.run_laws.specs.Prepared.{asks_for}
use Rattle.run_laws.specs.Tables.{is_prepare}
use Rattle.run_laws.proofs.Acts.{notices_keep}

-- lists of entries
pub upto_more : (n t u : ℕ) (entries : List Entry) → t ≤ u → AllUpTo n t entries → AllUpTo n u entries
upto_more n t u [] less all = tt
upto_more n t u (e ∷ entries) less all = ((λ is. let most = all.0 is in omega (arith, less, most)), upto_more n t u entries less all.1)

upto_append : (n t : ℕ) (entries : List Entry) (e : Entry) → (is_of n e ≡ true → e.number ≤ t) → AllUpTo n t entries → AllUpTo n t (entries ++ e ∷ [])
upto_append n t [] e new all = (new, tt)
upto_append n t (x ∷ entries) e new all = (all.0, upto_append n t entries e new all.1)

less_append : (n t : ℕ) (entries : List Entry) (e : Entry) → (is_of n e ≡ true → e.number < t) → AllLess n t entries → AllLess n t (entries ++ e ∷ [])
less_append n t [] e new all = (new, tt)
less_append n t (x ∷ entries) e new all = (all.0, less_append n t entries e new all.1)

above_append : (n t : ℕ) (entries : List Entry) (e : Entry) → (is_of n e ≡ true → t < e.number) → AllAbove n t entries → AllAbove n t (entries ++ e ∷ [])
above_append n t [] e new all = (new, tt)
above_append n t (x ∷ entries) e new all = (all.0, above_append n t entries e new all.1)

rising_append : (n : ℕ) (entries : List Entry) (e : Entry) → (is_of n e ≡ true → AllLess n e.number entries) → Rising n entries → Rising n (entries ++ e ∷ [])
rising_append n [] e less rising = ((λ is. tt), tt)
rising_append n (x ∷ entries) e less rising = ((λ is. above_append n x.number entries e (λ new. (less new).0 is) (rising.0 is)), rising_append n entries e (λ new. (less new).1) rising.1)

pub upto_front : (n t : ℕ) (entries more : List Entry) → AllUpTo n t (entries ++ more) → AllUpTo n t entries
upto_front n t [] more all = tt
upto_front n t (e ∷ entries) more all = (all.0, upto_front n t entries more all.1)

above_front : (n t : ℕ) (entries more : List Entry) → AllAbove n t (entries ++ more) → AllAbove n t entries
above_front n t [] more all = tt
above_front n t (e ∷ entries) more all = (all.0, above_front n t entries more all.1)

pub rising_front : (n : ℕ) (entries more : List Entry) → Rising n (entries ++ more) → Rising n entries
rising_front n [] more rising = tt
rising_front n (e ∷ entries) more rising = ((λ is. above_front n e.number entries more (rising.0 is)), rising_front n entries more rising.1)

-- The last effect has the greatest number. `before` is the last one of the entries before these.
abbrev AllNot : ℕ → List Entry → Type 0
AllNot n [] = Unit {0}
AllNot n (e ∷ entries) = (is_of n e ≡ true → ⊥) × AllNot n entries

abbrev LastOf : ℕ → ℕ → Option (ℕ × Answer) → Option (ℕ × Answer) → List Entry → Type 0
LastOf n t None None entries = AllNot n entries
LastOf n t None (Some k) entries = (k.0 ≤ t) × AllUpTo n k.0 entries
LastOf n t (Some j) None entries = ⊥
LastOf n t (Some j) (Some k) entries = (j.0 ≤ k.0) × (k.0 ≤ t) × AllUpTo n k.0 entries

abbrev Before : ℕ → ℕ → Option (ℕ × Answer) → List Entry → Type 0
Before n t None entries = Unit {0}
Before n t (Some j) entries = (j.0 ≤ t) × AllAbove n j.0 entries

abbrev pub last_from : ℕ → Option (ℕ × Answer) → List Entry → Option (ℕ × Answer)
last_from n before entries = fold (λ (before : Option (ℕ × Answer)) (entry : Entry).
    if entry.client == n then answer_kept (change_in entry.what) entry.number before else before) before entries

last_more : (n t : ℕ) (before o : Option (ℕ × Answer)) (e : Entry) (entries : List Entry) → (is_of n e ≡ true → ⊥) → LastOf n t before o entries → LastOf n t before o (e ∷ entries)
last_more n t None None e entries isnt last = (isnt, last)
last_more n t None (Some k) e entries isnt last = (last.0, ((λ is. absurd (isnt is)), last.1))
last_more n t (Some j) None e entries isnt last = absurd last
last_more n t (Some j) (Some k) e entries isnt last = (last.0, last.1, ((λ is. absurd (isnt is)), last.2))

last_new : (n t number : ℕ) (said : Answer) (before o : Option (ℕ × Answer)) (e : Entry) (entries : List Entry) → e.number ≡ number → (is_of n e ≡ true) → Before n t before (e ∷ entries) → LastOf n t (Some (number, said)) o entries → LastOf n t before o (e ∷ entries)
last_new n t number said before None e entries same is was last = absurd last
last_new n t number said None (Some k) e entries same is was last = (last.1, ((λ _. let less = last.0 in omega (arith, same, less)), last.2))
last_new n t number said (Some j) (Some k) e entries same is was last =
    (let low = was.1.0 is in let less = last.0 in omega (arith, low, same, less), last.1, ((λ _. let less = last.0 in omega (arith, same, less)), last.2))

before_tail : (n t : ℕ) (before : Option (ℕ × Answer)) (e : Entry) (entries : List Entry) → Before n t before (e ∷ entries) → Before n t before entries
before_tail n t None e entries was = tt
before_tail n t (Some j) e entries was = (was.0, was.1.1)

last_is : (n t : ℕ) (entries : List Entry) (before : Option (ℕ × Answer)) → Before n t before entries → Rising n entries → AllUpTo n t entries → LastOf n t before (last_from n before entries) entries
last_is n t [] None was rising all = tt
last_is n t [] (Some j) was rising all = (omega arith, was.0, tt)
last_is n t (e ∷ entries) before was rising all =
    by_kind (e.client == n) refl (change_in e.what) refl (λ next was. last_is n t entries next was rising.1 all.1)
  where
    by_kind : (b : Bool) → (e.client == n) ≡ b → (o : Option Change) → change_in e.what ≡ o → ((next : Option (ℕ × Answer)) → Before n t next entries → LastOf n t next (last_from n next entries) entries)
        → LastOf n t before (last_from n (cond b (answer_kept o e.number before) before) entries) (e ∷ entries)
    by_kind true test (Some made) is go =
        let here : is_of n e ≡ true = rw (is, test) refl in
        last_new n t e.number (answer_to made) before (last_from n (Some (e.number, answer_to made)) entries) e entries refl here was (go (Some (e.number, answer_to made)) (all.0 here, rising.0 here))
    by_kind true test None is go = last_more n t before (last_from n before entries) e entries (λ here. isnt here) (go before (before_tail n t before e entries was))
      where
        isnt : is_of n e ≡ true → ⊥
        isnt here = true≢false (sym here ∙ rw is refl)
    by_kind false test o is go = last_more n t before (last_from n before entries) e entries (λ here. isnt here) (go before (before_tail n t before e entries was))
      where
        second : (a b : Bool) → (a && b) ≡ true → b ≡ true
        second true b is = is
        second false b is = absurd (true≢false (sym is))

        isnt : is_of n e ≡ true → ⊥
        isnt here = true≢false (sym (second (is_some (change_in e.what)) (e.client == n) here) ∙ test)

not_less : (n t : ℕ) (entries : List Entry) → AllNot n entries → AllLess n t entries
not_less n t [] all = tt
not_less n t (e ∷ entries) all = ((λ is. absurd (all.0 is)), not_less n t entries all.1)

upto_less : (n k t : ℕ) (entries : List Entry) → k < t → AllUpTo n k entries → AllLess n t entries
upto_less n k t [] less all = tt
upto_less n k t (e ∷ entries) less all = ((λ is. let most = all.0 is in omega (arith, less, most)), upto_less n k t entries less all.1)

-- a request whose answer isn't kept has a greater number than each before it
pub new_less : (n t : ℕ) (entries : List Entry) → kept_for t (last_effect entries n) ≡ None → Rising n entries → AllUpTo n t entries → AllLess n t entries
new_less n t entries none rising all = by_last (last_effect entries n) none (last_is n t entries None tt rising all)
  where
    by_last : (o : Option (ℕ × Answer)) → kept_for t o ≡ None → LastOf n t None o entries → AllLess n t entries
    by_last None none last = not_less n t entries last
    by_last (Some k) none last = by_test (k.0 == t) refl none
      where
        by_test : (b : Bool) → (k.0 == t) ≡ b → cond b (Some k.1) None ≡ None → AllLess n t entries
        by_test true test none = cc
        by_test false test none = upto_less n k.0 t entries (let most = last.0 in grind (arith, nat_tests, test, most)) last.1

-- Of a client: no number is above the last one that it gave; they rise; and that of the outstanding operation has no effect
-- yet.
abbrev pub NewAt : ℕ → List Entry → Option Asked → Type 0
NewAt n entries None = Unit {0}
NewAt n entries (Some a) = of_client n a ≡ true → AllLess n a.tid entries

pub record EffectsAt (n tid : ℕ) (entries : List Entry) (operation : Option Asked) : Type 0 where
  pub upto : AllUpTo n tid entries
  pub rising : Rising n entries
  pub new : NewAt n entries operation

-- An act fits: it makes an effect where the request in hand has none yet, and what it buffers else is no effect. What it
-- prepares is what the request in hand asks for.
abbrev pub HandNew : ℕ → Server → Type 0
HandNew n s = (a : Asked) → s.hand ≡ Some a → of_client n a ≡ true → AllLess n a.tid s.entries

abbrev pub HandAsks : ℕ → What → Server → Type 0
HandAsks n said s = (a : Asked) → s.hand ≡ Some a → of_client n a ≡ true → asks_for said a.request ≡ true

abbrev pub EffectFits : ℕ → Server → Act → Type 0
EffectFits n s (MakeEffect change) = HandNew n s
EffectFits n s (Prepare said) = (change_in said ≡ None) × HandNew n s × HandAsks n said s
EffectFits n s (Buffer e) = (change_in e.what ≡ None) × (is_prepare e.what ≡ false)
EffectFits n s a = Unit {0}

tell_effects : (n tid : ℕ) (s : Server) (x : ℕ) (told : Told) → EffectsAt n tid s.entries s.operation → (let t = tell s x told in EffectsAt n tid t.entries t.operation)
tell_effects n tid s x told was = by_number (number_of s.current x)
  where
    by_number : (o : Option ℕ) → (let t = tell_at s x told o in EffectsAt n tid t.entries t.operation)
    by_number None = was
    by_number (Some j) = was

-- one entry more
more : (n tid : ℕ) (entries : List Entry) (operation : Option Asked) (e : Entry) → (is_of n e ≡ true → (e.number ≤ tid) × AllLess n e.number entries) → (is_of n e ≡ true → (a : Asked) → operation ≡ Some a → of_client n a ≡ true → e.number < a.tid) → EffectsAt n tid entries operation → EffectsAt n tid (entries ++ e ∷ []) operation
more n tid entries operation e fits below was = record {
  upto = upto_append n tid entries e (λ is. (fits is).0) was.upto;
  rising = rising_append n entries e (λ is. (fits is).1) was.rising;
  new = by_operation operation below was.new;
}
  where
    by_operation : (o : Option Asked) → (is_of n e ≡ true → (a : Asked) → o ≡ Some a → of_client n a ≡ true → e.number < a.tid) → NewAt n entries o → NewAt n (entries ++ e ∷ []) o
    by_operation None below new = tt
    by_operation (Some a) below new = λ mine_it. less_append n a.tid entries e (λ is. below is a refl mine_it) (new mine_it)

buffers : (n tid : ℕ) (s : Server) (e : Entry) → EffectsAt n tid (s.entries ++ e ∷ []) s.operation → (let t = buffer s e in EffectsAt n tid t.entries t.operation)
buffers n tid s e now = notices_keep (λ (t : Server). EffectsAt n tid t.entries t.operation) (λ t x inos so. tell_effects n tid t x (Changed inos) so) s.entries (up_to s.clients) (record s { entries = s.entries ++ e ∷ [] }) now

no_effect : (n : ℕ) (e : Entry) → change_in e.what ≡ None → is_of n e ≡ true → ⊥
no_effect n e is here = true≢false (sym here ∙ rw is refl)

plain : (n tid : ℕ) (s : Server) (e : Entry) → change_in e.what ≡ None → EffectsAt n tid s.entries s.operation → (let t = buffer s e in EffectsAt n tid t.entries t.operation)
plain n tid s e is was = buffers n tid s e (more n tid s.entries s.operation e (λ here. absurd (no_effect n e is here)) (λ here. absurd (no_effect n e is here)) was)

-- the client of an effect
whose : (n : ℕ) (e : Entry) → is_of n e ≡ true → (e.client == n) ≡ true
whose n e here = second (is_some (change_in e.what)) (e.client == n) here
  where
    second : (a b : Bool) → (a && b) ≡ true → b ≡ true
    second true b is = is
    second false b is = absurd (true≢false (sym is))

-- what is known of requests: those in hand have the last number, and one place at most has one
pub record Places (n tid : ℕ) (o : Option (ℕ × Request)) (s : Server) : Type 0 where
  pub opened : OpenAt tid o
  pub hand : AllOf n o (as_list s.hand)
  pub one : count n (as_list s.hand) + count n (as_list s.operation) ≤ 1

number : (tid : ℕ) (o : Option (ℕ × Request)) (a : Asked) → OpenAt tid o → IsIt o a.tid a.request → a.tid ≡ tid
number tid None a opened it = absurd it
number tid (Some r) a opened it = it.0 ∙ opened

pub effects_one : (n tid : ℕ) (o : Option (ℕ × Request)) (s : Server) (a : Act) → EffectFits n s a → Places n tid o s → EffectsAt n tid s.entries s.operation → (let t = act s a in EffectsAt n tid t.entries t.operation)
effects_one n tid o s (TellRecall x ino) fit p was = tell_effects n tid s x (WantedBack ino) was
effects_one n tid o s (TellAck x number) fit p was = tell_effects n tid s x (Acked number) was
effects_one n tid o s (AnswerIt said) fit p was = by_hand s.hand
  where
    by_hand : (h : Option Asked) → (let t = answer_hand s said h in EffectsAt n tid t.entries t.operation)
    by_hand None = was
    by_hand (Some a) = tell_effects n tid (record s { hand = None }) a.client (Answered a.tid said) was
effects_one n tid o s (GrantIt ino mode) fit p was = by_hand s.hand
  where
    by_hand : (h : Option Asked) → (let t = grant_hand s ino mode h in EffectsAt n tid t.entries t.operation)
    by_hand None = was
    by_hand (Some a) = tell_effects n tid (record s { hand = None }) a.client (Granted a.tid ino mode) was
effects_one n tid o s (Buffer e) fit p was = plain n tid s e fit.0 was
effects_one n tid o s (Prepare said) fit p was = by_hand s.hand refl
  where
    by_hand : (h : Option Asked) → s.hand ≡ h → (let t = prepare_hand s said h in EffectsAt n tid t.entries t.operation)
    by_hand None is = was
    by_hand (Some a) is = plain n tid (record s { operation = Some a; hand = None }) (entry_for a said) fit.0 (record { upto = was.upto; rising = was.rising; new = λ mine_it. fit.1 a is mine_it })
effects_one n tid o s (MakeEffect change) fit p was = by_hand s.hand refl p.hand p.one
  where
    by_said : (a : Asked) → s.hand ≡ Some a → AllOf n o (a ∷ []) → (count n (a ∷ []) + count n (as_list s.operation) ≤ 1) → (w : Option What) → (let t = buffer_for s a w in EffectsAt n tid t.entries t.operation)
    by_said a is all one None = was
    by_said a is all one (Some said) = buffers n tid s (entry_for a said) (more n tid s.entries s.operation (entry_for a said) fits below was)
      where
        fits : is_of n (entry_for a said) ≡ true → (a.tid ≤ tid) × AllLess n a.tid s.entries
        fits here = let mine_it = whose n (entry_for a said) here in let same = number tid o a p.opened (all.0 mine_it) in (omega (arith, same), fit a is mine_it)

        below : is_of n (entry_for a said) ≡ true → (x : Asked) → s.operation ≡ Some x → of_client n x ≡ true → a.tid < x.tid
        below here x at mine_x = absurd (two (subst (λ (t : Option Asked). count n (a ∷ []) + count n (as_list t) ≤ 1) at one))
          where
            e1 : count n (a ∷ []) ≡ 1
            e1 = rw (whose n (entry_for a said) here) (omega arith)

            e2 : count n (x ∷ []) ≡ 1
            e2 = rw mine_x (omega arith)

            two : count n (a ∷ []) + count n (x ∷ []) ≤ 1 → ⊥
            two less = omega (arith, less, e1, e2)

    by_hand : (h : Option Asked) → s.hand ≡ h → AllOf n o (as_list h) → (count n (as_list h) + count n (as_list s.operation) ≤ 1) → (let t = effect_hand s change h in EffectsAt n tid t.entries t.operation)
    by_hand None is all one = was
    by_hand (Some a) is all one = by_said a is all one (written_down change)
effects_one n tid o s TakeOperation fit p was = record { upto = was.upto; rising = was.rising; new = tt }
effects_one n tid o s a fit p was = was

pub effects_survive : (n tid k : ℕ) (entries : List Entry) (operation : Option Asked) → EffectsAt n tid entries operation → EffectsAt n tid (take k entries) None
effects_survive n tid k entries operation was = record {
  upto = upto_front n tid (take k entries) (drop k entries) (subst (AllUpTo n tid) (sym (take-append-drop k entries)) was.upto);
  rising = rising_front n (take k entries) (drop k entries) (subst (Rising n) (sym (take-append-drop k entries)) was.rising);
  new = tt;
}
