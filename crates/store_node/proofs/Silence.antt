-- A store that stands for some messages also stands for them and a read.
use Rattle.std.proofs.Common.{◌≡◌, ℕ, ◌+◌, ◌*◌, Bool, true, false, ◌||◌, List, [], ◌∷◌, ◌++◌, Option, None, Some, sym, ◌∙◌, refl, ap, subst, append-nil}
use Rattle.std.proofs.lemmas.List.Sums.{fold_push}
use Rattle.std.proofs.lemmas.List.Folds.{list_any-append}
use Rattle.std.proofs.lemmas.List.Elements.{filter_map-append}
use Rattle.std.specs.List.{cons_option}
use Rattle.snap_ids.specs.declared.id.Ino.{Ino}
use Rattle.snap_ids.specs.declared.id.SnapId.{SnapId}
use Rattle.snap_ids.specs.Context.{Context}
use Rattle.plain_types.specs.declared.message.ToStore.{ToStore}
use Rattle.plain_types.specs.declared.message.ToStore.TheVariants as message
use Rattle.object_log.specs.Bytes.{byte_after, byte_of, any_context, purges, was_purged}
use Rattle.object_log.specs.Objects.{object_after, object_of, touch, touched, purged_after, never}
use Rattle.object_log.specs.Objects as log
use Rattle.object_log.specs.Reads.{context_for, contexts_for}
use Rattle.object_log.specs.Serves.{Place, place_after, nothing_there, place_of, keep_byte, made_by, still_there}
use Rattle.object_clones.specs.Objects.{Plain}
use Rattle.object_clones.specs.Purged.{has_id}
use Rattle.object_clones.specs.Store.{Shown, object_at}
use Rattle.object_clones.specs.Stands.{IsObject, StandsFor}

-- a message changes nothing
pub record Silent (m : ToStore) : Type 0 where
  pub leaves : (f : Ino) (low high : ℕ) (head : Option ℕ) → touch f low high head m ≡ None
  pub stays : (f : Ino) (counts : Context → Bool) (place b : ℕ) → byte_after f counts place b m ≡ b
  pub ignores : (f : Ino) → context_for f m ≡ None
  pub keeps : (ids : List SnapId) → purged_after ids m ≡ ids
  pub purges_none : (s : SnapId) → purges s m ≡ false

or_false : (b : Bool) → (b || (false || false)) ≡ b
or_false true = refl
or_false false = refl

same_purged : (s : SnapId) (taken : List ToStore) (m : ToStore) → purges s m ≡ false → was_purged s (taken ++ m ∷ []) ≡ was_purged s taken
same_purged s taken m none =
    list_any-append (purges s) taken (m ∷ []) ∙ ap (λ b. was_purged s taken || (b || false)) none ∙ or_false (was_purged s taken)

same_place : (f : Ino) (low high at : ℕ) (p : Place) (m : ToStore) → Silent m → place_after f low high at p m ≡ p
same_place f low high at p m silent =
    let object : object_after f low high p.object m ≡ p.object =
    ap (λ (ids : List SnapId). touched (record p.object { purged = ids }) (touch f low high p.object.head m)) (silent.keeps p.object.purged)
    ∙ ap (touched p.object) (silent.leaves f low high p.object.head) in
    let kept : (p.kept ++ keep_byte p.byte (made_by p.object (touch f low high p.object.head m))) ≡ p.kept =
    ap (λ t. p.kept ++ keep_byte p.byte (made_by p.object t)) (silent.leaves f low high p.object.head) ∙ append-nil p.kept in
    λ i. record { object = object i; byte = silent.stays f any_context at p.byte i; kept = kept i }

pub still_stands : (shown : Shown) (size : ℕ) (taken : List ToStore) (m : ToStore) → Silent m → StandsFor shown size taken
    → StandsFor shown size (taken ++ m ∷ [])
still_stands shown size taken m silent stands = record {
  of_size = stands.of_size;
  some = stands.some;
  purged = λ s. stands.purged s ∙ sym (same_purged s taken m (silent.purges_none s));
  objects = λ f index.
      let low = index * size in
      let o : Plain = object_at shown f.0 index in
      let l : log.Object = object_of size taken f index in
      let gone : SnapId → Bool = λ s. was_purged s taken in
      let byte : (Context → Bool) → ℕ → ℕ = λ counts j. byte_of taken f counts (low + j) in
      let more : (Context → Bool) → ℕ → ℕ = λ counts j. byte_of (taken ++ m ∷ []) f counts (low + j) in
      let cs : List Context = contexts_for f taken in
      let l_is : object_of size (taken ++ m ∷ []) f index ≡ l =
      fold_push (object_after f low (low + size)) never taken m
      ∙ ap (λ (ids : List SnapId). touched (record l { purged = ids }) (touch f low (low + size) l.head m)) (silent.keeps l.purged)
      ∙ ap (touched l) (silent.leaves f low (low + size) l.head) in
      let byte_is : more ≡ byte = λ i counts j. (fold_push (byte_after f counts (low + j)) 0 taken m ∙ silent.stays f counts (low + j) (byte counts j)) i in
      let cs_is : contexts_for f (taken ++ m ∷ []) ≡ cs =
      filter_map-append (context_for f) taken (m ∷ []) ∙ ap (λ c. cs ++ cons_option c []) (silent.ignores f) ∙ append-nil cs in
      let gone_is : (λ s. was_purged s (taken ++ m ∷ [])) ≡ gone = λ i s. same_purged s taken m (silent.purges_none s) i in
      let P0 : ((Context → Bool) → ℕ → ℕ) → Type 0 = λ x. IsObject size l x cs gone o in
      let P1 : log.Object → Type 0 = λ x. IsObject size x more cs gone o in
      let P2 : List Context → Type 0 = λ x. IsObject size (object_of size (taken ++ m ∷ []) f index) more x gone o in
      let P3 : (SnapId → Bool) → Type 0 = λ x. IsObject size (object_of size (taken ++ m ∷ []) f index) more (contexts_for f (taken ++ m ∷ [])) x o in
      subst P3 (sym gone_is) (subst P2 (sym cs_is) (subst P1 (sym l_is) (subst P0 (sym byte_is) (stands.objects f index))));
  kept = λ f index j h.
      let low = index * size in
      stands.kept f index j h
      ∙ ap still_there (sym (fold_push (place_after f low (low + size) (low + j)) nothing_there taken m
      ∙ same_place f low (low + size) (low + j) (place_of size taken f index (low + j)) m silent));
}

pub head_silent : (key : ℕ) (ino : Ino) (size : ℕ) → Silent (message.ReadHead key ino size)
head_silent key ino size = record {
  leaves = λ f low high head. refl;
  stays = λ f counts place b. refl;
  ignores = λ f. refl;
  keeps = λ ids. refl;
  purges_none = λ s. refl;
}

pub snap_silent : (key : ℕ) (ino : Ino) (size : ℕ) (s : SnapId) → Silent (message.ReadSnap key ino size s)
snap_silent key ino size s = record {
  leaves = λ f low high head. refl;
  stays = λ f counts place b. refl;
  ignores = λ f. refl;
  keeps = λ ids. refl;
  purges_none = λ s. refl;
}

pub list_silent : (key : ℕ) (ino : Ino) (index : ℕ) → Silent (message.ListClones key ino index)
list_silent key ino index = record {
  leaves = λ f low high head. refl;
  stays = λ f counts place b. refl;
  ignores = λ f. refl;
  keeps = λ ids. refl;
  purges_none = λ s. refl;
}
