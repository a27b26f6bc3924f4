-- New contexts, put in place one by one.
use Rattle.std.proofs.Common.{◌≡◌, ℕ, ◌==◌, List, [], ◌∷◌, ◌++◌, if◌then◌else◌, Bool, true, false, Option, None, Some, refl, sym, ap, ◌∙◌}
use Rattle.std.proofs.lemmas.List.{append_assoc}
use Rattle.std.proofs.lemmas.Bool.{eqb-true}
use Rattle.std.specs.Map.{lookup}
use Rattle.std.specs.Ordering.{nat_cmp}
use Rattle.std.specs.BTreeMap.{is_at}
use Rattle.std.specs.List.{filter_map, cons_option}
use Rattle.std.specs.Option.{option_map}
use Rattle.snap_ids.specs.declared.id.Ino.{Ino}
use Rattle.snap_ids.specs.Context.{Context}
use Rattle.plain_types.specs.declared.message.FileTrace.{FileTrace}
use Rattle.client_realms.specs.Contexts.{held_in, context_by, newest}
use Rattle.client_realms.specs.Fresh.{after, fresh_from, fresh_of, some_of}

-- one more in place, and the others after it
pub put_one : (f ino : Ino) (context : Context) (more : List (Ino × Context)) (old : Option Context) → option_map (after f more) (option_map (λ c. if ino.0 == f.0 then context else c) old) ≡ option_map (after f ((ino, context) ∷ more)) old
put_one f ino context more None = refl
put_one f ino context more (Some c) = refl

-- none is left
pub put_none : (f : Ino) (old : Option Context) → option_map (after f []) old ≡ old
put_none f None = refl
put_none f (Some c) = refl

-- what is kept of a list is what is kept of its first item, and of the rest
with_item : {B : Type 0} (first : Option B) (rest : List B) → cons_option first rest ≡ some_of first ++ rest
with_item None rest = refl
with_item (Some b) rest = refl

filter_map_item : {A B : Type 0} (f : A → Option B) (item : A) (rest : List A) → filter_map f (item ∷ rest) ≡ some_of (f item) ++ filter_map f rest
filter_map_item f item rest = with_item (f item) (filter_map f rest)

-- one more of a list is looked at, and the rest is left
pub one_more : {A B : Type 0} (f : A → Option B) (done now whole : List B) (left rest : List A) (item : A) → done ++ filter_map f left ≡ whole → left ≡ item ∷ rest → now ≡ done ++ some_of (f item) → now ++ filter_map f rest ≡ whole
one_more f done now whole left rest item so_far cut more =
    ap (λ items. items ++ filter_map f rest) more
    ∙ append_assoc done (some_of (f item)) (filter_map f rest)
    ∙ ap (λ items. done ++ items) (sym (filter_map_item f item rest))
    ∙ ap (λ items. done ++ filter_map f items) (sym cut)
    ∙ so_far

-- a file that isn't held isn't the one that is
not_it : (files : List (ℕ × Context)) (f ino : Ino) (c : Context) → held_in files f ≡ Some c → held_in files ino ≡ None → (b : Bool) → (ino.0 == f.0) ≡ b → (x y : Context) → (if b then x else y) ≡ y
not_it files f ino c held none false test x y = refl
not_it files f ino c held none true test x y = absurd (let impossible : None ≡ Some c = sym none ∙ ap (λ n. lookup (is_at (nat_cmp n)) files) (eqb-true ino.0 f.0 test) ∙ held in cc)

-- one file of an update, held or not
one_file : (files : List (ℕ × Context)) (f : Ino) (held : Context) → held_in files f ≡ Some held → (file : FileTrace) (update : List FileTrace) (c : Context) → ((c : Context) → after f (filter_map (fresh_of files) update) c ≡ newest f update c) → (h : Option Context) → held_in files file.ino ≡ h → after f (cons_option (fresh_from file h) (filter_map (fresh_of files) update)) c ≡ newest f update (if file.ino.0 == f.0 then context_by file else c)
one_file files f held is file update c more (Some old) of_file = more (if file.ino.0 == f.0 then context_by file else c)
one_file files f held is file update c more None of_file = more c ∙ ap (newest f update) (sym (not_it files f file.ino held is of_file (file.ino.0 == f.0) refl (context_by file) c))

after_update : (files : List (ℕ × Context)) (f : Ino) (held : Context) → held_in files f ≡ Some held → (update : List FileTrace) (c : Context) → after f (filter_map (fresh_of files) update) c ≡ newest f update c
after_update files f held is [] c = refl
after_update files f held is (file ∷ update) c = one_file files f held is file update c (after_update files f held is update) (held_in files file.ino) refl

-- the new contexts of the held files are those of the update
pub updated : (files : List (ℕ × Context)) (f : Ino) (update : List FileTrace) (old : Option Context) → held_in files f ≡ old → option_map (after f (filter_map (fresh_of files) update)) old ≡ option_map (newest f update) old
updated files f update None is = refl
updated files f update (Some c) is = ap Some (after_update files f c is update c)
