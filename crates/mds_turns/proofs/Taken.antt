-- A deferred request and that of the outstanding operation, when they come into the hand.
use Rattle.std.proofs.Common.{◌≡◌, ℕ, List, [], ◌∷◌, ◌++◌, drop, Bool, true, false, cond, Option, None, Some, Result, Ok, Err, is_some, refl, sym, ap, subst, ◌∙◌}
use Rattle.std.specs.Prelude.{◌==◌}
use Rattle.std.specs.List.{list_any, AllByRecursion}
use Rattle.snap_ids.specs.declared.id.SnapId.{SnapId}
use Rattle.plain_types.specs.declared.answer.Refusal.{Refusal}
use Rattle.plain_types.specs.declared.change.Change.{Change}
use Rattle.plain_types.specs.declared.change.Change.TheVariants as change
use Rattle.plain_types.specs.declared.entry.What.{What}
use Rattle.plain_journal.specs.Table.{outstanding}
use Rattle.held_files.specs.Files.{is_empty}
use Rattle.run_laws.specs.Prepared.{asks_for, prepared}
use Rattle.plain_types.specs.declared.answer.Answer.TheVariants.{Done}
use Rattle.step_table.specs.Acts.{Act, AnswerIt, DeferFirst, MakeEffect, TakeDeferred, TakeOperation, act, acts, as_list, first_of}
use Rattle.step_table.specs.Background as background
use Rattle.step_table.specs.Background.{finish}
use Rattle.step_table.specs.Requests.{opens, treat}
use Rattle.step_table.specs.ServerState.{Asked, Server}
use Rattle.mds_state.specs.Acted.{Acted, Stands}
use Rattle.mds_state.specs.Fits.{IsFit, MayTreat, WaitingFit}
use Rattle.mds_state.specs.Parts.{Parts}
use Rattle.mds_state.specs.Stands.{StandsFor}
use Rattle.mds_asks.proofs.Acting.{stands_so}
use Rattle.mds_turns.specs.Finishing.{comes_with, IsPrepared, MayFinish}
use Rattle.mds_turns.specs.Turned.{AsksForIt, Turned}

pub none_of : (o : Option Asked) → is_some o ≡ false → o ≡ None
none_of None is = refl
none_of (Some a) is = cc

pub some_of : (o : Option Asked) → is_some o ≡ true → o ≡ None → ⊥
some_of None is none = cc
some_of (Some a) is none = cc

pub empty_of : (xs : List Asked) → is_empty xs ≡ true → xs ≡ []
empty_of [] is = refl
empty_of (x ∷ xs) is = cc

pub not_empty : (xs : List Asked) → is_empty xs ≡ false → first_of xs ≡ None → ⊥
not_empty [] is none = cc
not_empty (x ∷ xs) is none = cc

pub first_is : (xs : List Asked) (a : Asked) → first_of xs ≡ Some a → xs ≡ a ∷ drop 1 xs
first_is [] a is = cc
first_is (x ∷ xs) a is = let same : x ≡ a = cc in ap (λ (y : Asked). y ∷ xs) same

-- requests fit in a state with the same clients and entries
module _ (s t : Server) (fit : (a : Asked) → IsFit s a → IsFit t a) where
  all_fit : (xs : List Asked) → AllByRecursion (IsFit s) xs → AllByRecursion (IsFit t) xs
  all_fit [] all = tt
  all_fit (x ∷ xs) all = (fit x all.0, all_fit xs all.1)

rest_fit : (s : Server) (xs : List Asked) → AllByRecursion (IsFit s) xs → AllByRecursion (IsFit s) (drop 1 xs)
rest_fit s [] all = tt
rest_fit s (x ∷ xs) all = all.1

deferred_fit : (s : Server) (a : Asked) → IsFit s a → IsFit (act s TakeDeferred) a
deferred_fit s a fit = record { from_one = fit.from_one; upto = fit.upto; known = fit.known }

operation_fit : (s : Server) (a : Asked) → IsFit s a → IsFit (act s TakeOperation) a
operation_fit s a fit = record { from_one = fit.from_one; upto = fit.upto; known = fit.known }

-- the first deferred one can be treated
pub may_treat : (p : Parts) (s : Server) (o : Option Asked) (a : Asked) → o ≡ Some a → WaitingFit s → StandsFor p o (act s TakeDeferred) → MayTreat p a
may_treat p s o a is fit stands = record {
  state = act s TakeDeferred;
  stands = subst (λ (taken : Option Asked). StandsFor p taken (act s TakeDeferred)) is stands;
  fit = deferred_fit s a first.0;
  waiting = record {
    held = all_fit s (act s TakeDeferred) (deferred_fit s) s.held fit.held;
    deferred = all_fit s (act s TakeDeferred) (deferred_fit s) (drop 1 s.deferred) (rest_fit s s.deferred fit.deferred);
    operation = all_fit s (act s TakeDeferred) (deferred_fit s) (as_list s.operation) fit.operation;
  };
}
  where
    list_is : s.deferred ≡ a ∷ drop 1 s.deferred
    list_is = first_is s.deferred a (stands.hand ∙ is)

    first : IsFit s a × AllByRecursion (IsFit s) (drop 1 s.deferred)
    first = subst (AllByRecursion (IsFit s)) list_is fit.deferred

pub fit_first : (p : Parts) (s : Server) (o : Option Asked) (a : Asked) → o ≡ Some a → WaitingFit s → StandsFor p o (act s TakeDeferred) → IsFit (act s TakeDeferred) a
fit_first p s o a is fit stands =
    let first = subst (AllByRecursion (IsFit s)) (first_is s.deferred a (stands.hand ∙ is)) fit.deferred in
    deferred_fit s a first.0

-- what it comes to is the second rule
pub treated : (p new : Parts) (s : Server) (o : Option Asked) (a : Asked) (opened : Bool) → o ≡ Some a → StandsFor p o (act s TakeDeferred) → Acted new (act s TakeDeferred) (treat true (act s TakeDeferred) a) opened → Turned new s (background.turn_deferred s s.deferred) (Some opened)
treated p new s o a opened is stands acted =
    subst (λ (list : List Asked). Turned new s (background.turn_deferred s list) (Some opened)) (sym (first_is s.deferred a (stands.hand ∙ is))) acted

-- finishing opens nothing
finish_opens : (id : SnapId) (o : Option (Result Change Refusal)) → list_any opens (finish id o) ≡ false
finish_opens id None = refl
finish_opens id (Some (Err refusal)) = refl
finish_opens id (Some (Ok (change.Rmsnap now))) = by_test (now.0 == id.0)
  where
    by_test : (b : Bool) → list_any opens (cond b (MakeEffect (change.Rmsnap now) ∷ AnswerIt Done ∷ []) (background.roll_back id ∷ DeferFirst ∷ [])) ≡ false
    by_test true = refl
    by_test false = refl
finish_opens id (Some (Ok made)) = refl

-- the operation's request
operation_is : (p : Parts) (s : Server) (o : Option Asked) (a : Asked) → o ≡ Some a → StandsFor p o (act s TakeOperation) → s.operation ≡ Some a
operation_is p s o a is stands = stands.hand ∙ is

pub fit_operation : (p : Parts) (s : Server) (o : Option Asked) (a : Asked) → o ≡ Some a → WaitingFit s → StandsFor p o (act s TakeOperation) → IsFit (act s TakeOperation) a
fit_operation p s o a is fit stands =
    let all = subst (λ (x : Option Asked). AllByRecursion (IsFit s) (as_list x)) (operation_is p s o a is stands) fit.operation in
    operation_fit s a all.0

pub is_prepared : (p : Parts) (s : Server) (o : Option Asked) (a : Asked) (id : SnapId) (number : ℕ) → o ≡ Some a → StandsFor p o (act s TakeOperation) → AsksForIt s → outstanding s.entries ≡ Some (id, number) → IsPrepared (act s TakeOperation) a id
is_prepared p s o a id number is stands asks out = record { number = number; out = out; asks = λ said prepares. asks a said (operation_is p s o a is stands) prepares }

pub may_finish : (p : Parts) (s : Server) (o : Option Asked) (a : Asked) (id : SnapId) (number : ℕ) → o ≡ Some a → StandsFor p o (act s TakeOperation) → WaitingFit s → AsksForIt s → outstanding s.entries ≡ Some (id, number) → MayFinish p a id
may_finish p s o a id number is stands fit asks out = record {
  state = act s TakeOperation;
  stands = subst (λ (taken : Option Asked). StandsFor p taken (act s TakeOperation)) is stands;
  fit = fit_operation p s o a is fit stands;
  was = is_prepared p s o a id number is stands asks out;
}

-- what it comes to is the first rule
pub finished : (p new : Parts) (s : Server) (o : Option Asked) (a : Asked) (id : SnapId) → o ≡ Some a → StandsFor p o (act s TakeOperation) → StandsFor new None (acts (act s TakeOperation) (finish id (comes_with (act s TakeOperation) a id))) → Turned new s (background.turn_operation s id s.operation) (Some false)
finished p new s o a id is stands done =
    subst (λ (x : Option Asked). Turned new s (background.turn_operation s id x) (Some false)) (sym (operation_is p s o a is stands))
    (stands_so new None (acts (act s TakeOperation) (finish id (comes_with (act s TakeOperation) a id))) done, sym (finish_opens id (comes_with s a id)))
