-- The contexts of files as the entries of a map.
use Rattle.std.proofs.Common.{◌≡◌, Bool, true, false, not, cond, List, [], ◌∷◌, ◌++◌, if◌then◌else◌, None, Some, refl, sym, ap, ◌∙◌}
use Rattle.std.specs.Map.{lookup, remove_entry}
use Rattle.snap_ids.specs.declared.id.Ino.{Ino}
use Rattle.snap_ids.specs.Context.{Context}
use Rattle.held_files.specs.Files.{is_ino}
use Rattle.indexmap.specs.IndexMap.{insert_entry}
use Rattle.step_table.specs.ClientState.{context_at_first, context_in, without_context, with_context}

pub known : (ino : Ino) (contexts : List (Ino × Context)) (context : Context) → Some context ≡ lookup (is_ino ino) contexts → context ≡ context_in contexts ino
known ino [] context h = absurd (cc)
known ino (k ∷ ks) context h = by (is_ino ino k.0) (known ino ks context) h
  where
    by : (b : Bool) → (Some context ≡ lookup (is_ino ino) ks → context ≡ context_in ks ino) → Some context ≡ cond b (Some k.1) (lookup (is_ino ino) ks)
        → context ≡ (if b then k.1 else context_in ks ino)
    by true more h = cc
    by false more h = more h

pub unknown : (ino : Ino) (contexts : List (Ino × Context)) → None ≡ lookup (is_ino ino) contexts → context_at_first ≡ context_in contexts ino
unknown ino [] h = refl
unknown ino (k ∷ ks) h = by (is_ino ino k.0) (unknown ino ks) h
  where
    by : (b : Bool) → (None ≡ lookup (is_ino ino) ks → context_at_first ≡ context_in ks ino) → None ≡ cond b (Some k.1) (lookup (is_ino ino) ks)
        → context_at_first ≡ (if b then k.1 else context_in ks ino)
    by true more h = absurd (cc)
    by false more h = more h

-- where a file has no context, none is taken out
none_out : (ino : Ino) (contexts : List (Ino × Context)) → lookup (is_ino ino) contexts ≡ None → contexts ≡ without_context ino contexts
none_out ino [] h = refl
none_out ino (k ∷ ks) h = by (is_ino ino k.0) (none_out ino ks) h
  where
    by : (b : Bool) → (lookup (is_ino ino) ks ≡ None → ks ≡ without_context ino ks) → cond b (Some k.1) (lookup (is_ino ino) ks) ≡ None
        → k ∷ ks ≡ cond (not b) (k ∷ without_context ino ks) (without_context ino ks)
    by true more h = absurd (cc)
    by false more h = ap (λ (l : List (Ino × Context)). k ∷ l) (more h)

-- the one that a map takes out is the only one
pub taken_out : (ino : Ino) (contexts : List (Ino × Context)) → lookup (is_ino ino) (remove_entry (is_ino ino) contexts) ≡ None
    → remove_entry (is_ino ino) contexts ≡ without_context ino contexts
taken_out ino [] h = refl
taken_out ino (k ∷ ks) h = by (is_ino ino k.0) refl (taken_out ino ks) h
  where
    by : (b : Bool) → is_ino ino k.0 ≡ b
        → (lookup (is_ino ino) (remove_entry (is_ino ino) ks) ≡ None → remove_entry (is_ino ino) ks ≡ without_context ino ks)
        → lookup (is_ino ino) (cond b ks (k ∷ remove_entry (is_ino ino) ks)) ≡ None
        → cond b ks (k ∷ remove_entry (is_ino ino) ks) ≡ cond (not b) (k ∷ without_context ino ks) (without_context ino ks)
    by true is more h = none_out ino ks h
    by false is more h = ap (λ (l : List (Ino × Context)). k ∷ l)
        (more (sym (ap (λ b. cond b (Some k.1) (lookup (is_ino ino) (remove_entry (is_ino ino) ks))) is) ∙ h))

put_last : (ino : Ino) (context : Context) (contexts : List (Ino × Context)) → lookup (is_ino ino) contexts ≡ None
    → insert_entry is_ino contexts ino context ≡ contexts ++ (ino, context) ∷ []
put_last ino context [] h = refl
put_last ino context (k ∷ ks) h = by (is_ino ino k.0) (put_last ino context ks) h
  where
    by : (b : Bool) → (lookup (is_ino ino) ks ≡ None → insert_entry is_ino ks ino context ≡ ks ++ (ino, context) ∷ [])
        → cond b (Some k.1) (lookup (is_ino ino) ks) ≡ None
        → (if b then (k.0, context) ∷ ks else k ∷ insert_entry is_ino ks ino context) ≡ k ∷ (ks ++ (ino, context) ∷ [])
    by true more h = absurd (cc)
    by false more h = ap (λ (l : List (Ino × Context)). k ∷ l) (more h)

pub let_go : (ino : Ino) (old new : List (Ino × Context)) → new ≡ remove_entry (is_ino ino) old → lookup (is_ino ino) new ≡ None
    → new ≡ without_context ino old
let_go ino old new is none = is ∙ taken_out ino old (sym (ap (lookup (is_ino ino)) is) ∙ none)

pub put : (ino : Ino) (context : Context) (old new : List (Ino × Context)) → new ≡ remove_entry (is_ino ino) old → lookup (is_ino ino) new ≡ None
    → insert_entry is_ino new ino context ≡ with_context ino context old
put ino context old new is none = put_last ino context new none ∙ ap (λ (l : List (Ino × Context)). l ++ (ino, context) ∷ []) (let_go ino old new is none)
