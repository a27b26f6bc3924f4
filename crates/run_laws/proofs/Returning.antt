-- A client connects anew: the server's table says again what it holds.
use Rattle.std.proofs.Common.{◌≡◌, ◌≤◌, ◌<◌, ℕ, ◌+◌, List, [], ◌∷◌, ◌++◌, map, take, length, Bool, true, false, true≢false, not, cond, filter, Option, None, Some, refl, sym, ap, ◌∙◌, subst, arith, ◌⊎◌, inl, inr}
use Rattle.std.proofs.lemmas.List.{append-nil}
use Rattle.std.proofs.lemmas.Bool.Decides.{nat_tests}
use Rattle.std.specs.Prelude.{◌==◌, ◌&&◌, ◌||◌, max, nat_lt, nat_le, is_some}
use Rattle.std.specs.List.{list_any, list_all}
use Rattle.snap_ids.specs.declared.id.Ino.{Ino}
use Rattle.snap_ids.specs.declared.values.Mode.{Mode}
use Rattle.snap_ids.specs.declared.values.Mode.TheVariants.{Read, Write}
use Rattle.plain_types.specs.declared.entry.Entry.{Entry}
use Rattle.plain_types.specs.declared.message.Claim.{Claim}
use Rattle.plain_types.specs.declared.message.FlushMsg.{FlushMsg}
use Rattle.plain_types.specs.declared.message.Message.TheVariants as message
use Rattle.plain_types.specs.declared.message.ToClient.{ToClient}
use Rattle.plain_types.specs.declared.message.ToServer.{ToServer}
use Rattle.plain_types.specs.declared.message.ToServer.TheVariants.{Connect}
use Rattle.plain_types.specs.declared.request.Request.{Request}
use Rattle.plain_tree.specs.State.{same_ino}
use Rattle.plain_journal.specs.Table.{last_flush}
use Rattle.held_files.specs.Files.{HeldFile, HeldFiles, is_ino, is_write, file_of, is_held, claim_of, claims}
use Rattle.step_table.specs.Messages.{to_server_fits}
use Rattle.step_table.specs.ServerState.{Asked, Holder, Server, Changed, number_of, up_to, connection, is_holder, tell_at, welcome}
use Rattle.step_table.specs.Acts.{Act, AnswerIt, GrantIt, Buffer, Settled, LetGo, LetAllGo, Hold, act, acts, each, settled, buffer}
use Rattle.step_table.specs.Capabilities.{clash}
use Rattle.step_table.specs.Requests.{treat, is_operation}
use Rattle.step_table.specs.Flushes.{knows_file, knows_brought, flush_entry, flush_settles, take_flush, claimed, take_claim, take_brought, come_back, asked_by, brought, take_in, take_in_brought, connected, may_connect, treat_brought}
use Rattle.step_table.specs.ServerRows.{back, connect_with, drops, on_take}
use Rattle.step_table.specs.ClientState.{Client, Under, Idle, Open, AtStore, open_request}
use Rattle.run_laws.specs.Links.{View, mail_of, offer, Offer, Behind, AllOld, Flowing, Asking as AskingLink, Hailing, Link}
use Rattle.run_laws.specs.Requests.{IsIt, answers}
use Rattle.run_laws.specs.LetGo.{is_drop, Lets}
use Rattle.run_laws.proofs.Acts.{Fit, notices_keep, acts_keep, connect_keeps}
use Rattle.run_laws.proofs.Asked.{old_answered}
use Rattle.run_laws.proofs.Bounding.{NoRise, fall_act, BoundAt, Bounded, buffer_rest}
use Rattle.run_laws.proofs.Counted.{last_take, last_new}
use Rattle.run_laws.proofs.Covering.{Owns, Whole, Fine, both_fit, by_whole, Taken, other_file}
use Rattle.run_laws.specs.Tenures.{Distinct, AllReleased, gone_in}
use Rattle.run_laws.proofs.Files.{not_held, file_same}
use Rattle.run_laws.proofs.Giving.{MyFit, silent_may, silent_after, sharing_more, letting_send, calm_letting, NotGiving}
use Rattle.run_laws.proofs.Granting.{treat_my}
use Rattle.run_laws.proofs.Knowing.{Knows, KnownFits, flushing_known, flushing_fit, ruled_fit, one_knows, BroughtCap, brought_cap, brought_more, welcome_knows, take_in_knows, row_if, and_true, grown_all}
use Rattle.run_laws.proofs.Link.{behind_most}
use Rattle.run_laws.proofs.Linked.{more_mail, hello}
use Rattle.run_laws.proofs.Numbering.{acts_append, flush_is}
use Rattle.run_laws.proofs.Once.{hand_of}
use Rattle.run_laws.proofs.Parting.{none_give, none_grants, none_say}
use Rattle.run_laws.proofs.Requested.{Asking, asking, requested}
use Rattle.run_laws.proofs.Ruled.{IsFlushing, flushing_back, ruled_treat}
use Rattle.run_laws.proofs.Shares.{rank, rank_in, has, share, shares, give_more, or_none, shares_end, shares_filter, shares_others, shares_same}
use Rattle.run_laws.proofs.Sharing.{Covered, CoverBy, SharesAt, Sharing, Letting}
use Rattle.run_laws.proofs.Taking.{Fits, Flushes, ruled, connect_taken}
use Rattle.run_laws.proofs.ViewActs.{AnyOf, any_of}
use Rattle.run_laws.proofs.Views.{Server's}

-- other clients' files leave those that a client claims
abbrev pub Clear : View
Clear n c up down s = (x : ℕ) → (x == n) ≡ false → (ino : Ino) → shares x ino s.holders + has ino c.files ≤ 2

abbrev ClearOf : ℕ → List Holder → HeldFiles → Type 0
ClearOf n holders files = (x : ℕ) → (x == n) ≡ false → (ino : Ino) → shares x ino holders + has ino files ≤ 2

-- no claim clashes
both_read : (a b : Mode) → rank a + rank b ≤ 2 → (is_write a || is_write b || false) ≡ false
both_read Read Read few = refl
both_read Read Write few = absurd (omega (arith, few))
both_read Write Read few = absurd (omega (arith, few))
both_read Write Write few = absurd (omega (arith, few))

some_rank : (m : Mode) → 1 ≤ rank m
some_rank Read = omega arith
some_rank Write = omega arith

one_clear : (n : ℕ) (k : Claim) (h : Holder) → ((h.client == n) ≡ false → share h.client k.ino h + rank k.mode ≤ 2) → share n k.ino h ≡ 0 → clash (claimed n k) h ≡ false
one_clear n k h few none = by_file (same_ino k.ino h.ino) refl
  where
    turned : same_ino k.ino h.ino ≡ true → same_ino h.ino k.ino ≡ true
    turned is = grind (arith, nat_tests, is)

    itself : (h.client == h.client) ≡ true
    itself = grind (arith, nat_tests)

    other : (h.client == n) ≡ false → (n == h.client) ≡ false
    other isnt = grind (arith, nat_tests, isnt)

    by_client : same_ino k.ino h.ino ≡ true → (d : Bool) → (h.client == n) ≡ d → (is_write k.mode || is_write h.mode || n == h.client) ≡ false
    by_client is true at = let zero_now : rank h.mode ≡ 0 = sym (ap (λ (b : Bool). cond b (rank h.mode) 0) (both_are at (turned is))) ∙ none in let one = some_rank h.mode in absurd (omega (arith, zero_now, one))
      where
        both_are : {a b : Bool} → a ≡ true → b ≡ true → (a && b) ≡ true
        both_are one two = rw (one, two) refl
    by_client is false at = rw (other at) (both_read k.mode h.mode (let here : share h.client k.ino h ≡ rank h.mode = ap (λ (b : Bool). cond b (rank h.mode) 0) (both_are itself (turned is)) in let less = few at in omega (arith, here, less)))
      where
        both_are : {a b : Bool} → a ≡ true → b ≡ true → (a && b) ≡ true
        both_are one two = rw (one, two) refl

    by_file : (b : Bool) → same_ino k.ino h.ino ≡ b → (b && (is_write k.mode || is_write h.mode || n == h.client)) ≡ false
    by_file true is = by_client is (h.client == n) refl
    by_file false is = refl

no_clash : (n : ℕ) (k : Claim) (holders : List Holder) → ((x : ℕ) → (x == n) ≡ false → shares x k.ino holders + rank k.mode ≤ 2) → shares n k.ino holders ≡ 0 → list_any (clash (claimed n k)) holders ≡ false
no_clash n k [] few none = refl
no_clash n k (h ∷ holders) few none =
    or_none (clash (claimed n k) h) (list_any (clash (claimed n k)) holders) (one_clear n k h (λ other. let less = few h.client other in omega (arith, less)) (omega (arith, none)))
    (no_clash n k holders (λ x other. let less = few x other in omega (arith, less)) (omega (arith, none)))

-- a list of held files and its rest
has_tail : (ino : Ino) (f : Ino × HeldFile) (files : HeldFiles) → is_held f.0 files ≡ false → (has ino files ≤ has ino (f ∷ files)) × (is_ino ino f.0 ≡ true → has ino files ≡ 0)
has_tail ino f files none = (by_test (is_ino ino f.0) refl, λ is. zero_now is)
  where
    zero_now : is_ino ino f.0 ≡ true → has ino files ≡ 0
    zero_now is = ap rank_in (file_same ino f.0 files is) ∙ not_held f.0 files none

    by_test : (b : Bool) → is_ino ino f.0 ≡ b → has ino files ≤ rank_in (cond b (Some f.1) (file_of ino files))
    by_test true is = let z = zero_now is in omega (arith, z)
    by_test false is = omega arith

claim_share : (n : ℕ) (ino : Ino) (f : Ino × HeldFile) → share n ino (claimed n (claim_of f)) ≡ cond (is_ino ino f.0) (rank f.1.mode) 0
claim_share n ino f = ap (λ (b : Bool). cond b (rank f.1.mode) 0) (by_self (n == n) (grind (arith, nat_tests)))
  where
    turned : same_ino f.0 ino ≡ is_ino ino f.0
    turned = grind (arith, nat_tests)

    by_self : (b : Bool) → b ≡ true → (b && same_ino f.0 ino) ≡ is_ino ino f.0
    by_self true is = turned
    by_self false is = absurd (true≢false (sym is))

pub claims_done : (n : ℕ) (files : HeldFiles) (t : Server) → Distinct files → ClearOf n t.holders files → ((x : Ino) → is_held x files ≡ true → shares n x t.holders ≡ 0) → (ino : Ino) → shares n ino (acts t (each (take_claim n) t (claims files))).holders ≡ max (shares n ino t.holders) (has ino files)
claims_done n [] t once clear zero_now ino = omega arith
claims_done n (f ∷ files) t once clear zero_now ino = by_clash (list_any (clash (claimed n (claim_of f))) t.holders) none (claims_done n files (act t (Hold (claimed n (claim_of f)))) once.1 later_clear later_zero ino)
  where
    itself : is_ino f.0 f.0 ≡ true
    itself = grind (arith, nat_tests)

    held_itself : (b : Bool) → b ≡ true → is_some (cond b (Some f.1) (file_of f.0 files)) ≡ true
    held_itself true is = refl
    held_itself false is = absurd (true≢false (sym is))

    mode_itself : (b : Bool) → b ≡ true → rank_in (cond b (Some f.1) (file_of f.0 files)) ≡ rank f.1.mode
    mode_itself true is = refl
    mode_itself false is = absurd (true≢false (sym is))

    none : list_any (clash (claimed n (claim_of f))) t.holders ≡ false
    none = no_clash n (claim_of f) t.holders (λ x other. let less = clear x other f.0 in let e = mode_itself (is_ino f.0 f.0) itself in omega (arith, less, e)) (zero_now f.0 (held_itself (is_ino f.0 f.0) itself))

    other_share : (x : ℕ) (y : Ino) → (x == n) ≡ false → share x y (claimed n (claim_of f)) ≡ 0
    other_share x y other = rw (turned other) refl
      where
        turned : (x == n) ≡ false → (n == x) ≡ false
        turned isnt = grind (arith, nat_tests, isnt)

    later_clear : ClearOf n (t.holders ++ claimed n (claim_of f) ∷ []) files
    later_clear x other y = let e = shares_end x y t.holders (claimed n (claim_of f)) in let z = other_share x y other in let less = clear x other y in let few = (has_tail y f files once.0).0 in omega (arith, e, z, less, few)

    held_more : (x : Ino) → is_held x files ≡ true → is_held x (f ∷ files) ≡ true
    held_more x is = by_test (is_ino x f.0)
      where
        by_test : (b : Bool) → is_some (cond b (Some f.1) (file_of x files)) ≡ true
        by_test true = refl
        by_test false = is

    later_zero : (x : Ino) → is_held x files ≡ true → shares n x (t.holders ++ claimed n (claim_of f) ∷ []) ≡ 0
    later_zero x is = let e = shares_end n x t.holders (claimed n (claim_of f)) in let z = zero_now x (held_more x is) in let own = claim_share n x f in by_test (is_ino x f.0) refl e z own
      where
        by_test : (b : Bool) → is_ino x f.0 ≡ b → shares n x (t.holders ++ claimed n (claim_of f) ∷ []) ≡ max (shares n x t.holders) (share n x (claimed n (claim_of f))) → shares n x t.holders ≡ 0 → share n x (claimed n (claim_of f)) ≡ cond b (rank f.1.mode) 0 → shares n x (t.holders ++ claimed n (claim_of f) ∷ []) ≡ 0
        by_test true at e z own = absurd (true≢false (sym is ∙ ap is_some (file_same x f.0 files at) ∙ once.0))
        by_test false at e z own = omega (arith, e, z, own)

    sum : (b : Bool) → is_ino ino f.0 ≡ b → shares n ino (t.holders ++ claimed n (claim_of f) ∷ []) ≡ max (shares n ino t.holders) (share n ino (claimed n (claim_of f))) → share n ino (claimed n (claim_of f)) ≡ cond b (rank f.1.mode) 0 → max (shares n ino (t.holders ++ claimed n (claim_of f) ∷ [])) (has ino files) ≡ max (shares n ino t.holders) (rank_in (cond b (Some f.1) (file_of ino files)))
    sum true at e own = let z = (has_tail ino f files once.0).1 at in omega (arith, e, own, z)
    sum false at e own = omega (arith, e, own)

    by_clash : (b : Bool) → b ≡ false → shares n ino (acts (act t (Hold (claimed n (claim_of f)))) (each (take_claim n) (act t (Hold (claimed n (claim_of f)))) (claims files))).holders ≡ max (shares n ino (t.holders ++ claimed n (claim_of f) ∷ [])) (has ino files) → (let now = cond b [] (Hold (claimed n (claim_of f)) ∷ []) in shares n ino (acts t (now ++ each (take_claim n) (acts t now) (claims files))).holders ≡ max (shares n ino t.holders) (has ino (f ∷ files)))
    by_clash true is go = absurd (true≢false is)
    by_clash false is go = go ∙ sum (is_ino ino f.0) refl (shares_end n ino t.holders (claimed n (claim_of f))) (claim_share n ino f)

-- claims enter nothing
claims_entries : (n : ℕ) (said : List Claim) (t : Server) → (acts t (each (take_claim n) t said)).entries ≡ t.entries
claims_entries n [] t = refl
claims_entries n (k ∷ said) t = by_clash (list_any (clash (claimed n k)) t.holders) (claims_entries n said t) (claims_entries n said (act t (Hold (claimed n k))))
  where
    by_clash : (b : Bool) → (acts t (each (take_claim n) t said)).entries ≡ t.entries → (acts (act t (Hold (claimed n k))) (each (take_claim n) (act t (Hold (claimed n k))) said)).entries ≡ t.entries → (let now = cond b [] (Hold (claimed n k) ∷ []) in (acts t (now ++ each (take_claim n) (acts t now) said)).entries ≡ t.entries)
    by_clash true one two = one
    by_clash false one two = two

-- the flushes that it brings release no file that it holds
buffer_entries : (s : Server) (e : Entry) → (buffer s e).entries ≡ s.entries ++ e ∷ []
buffer_entries s e = notices_keep (λ t. t.entries ≡ s.entries ++ e ∷ []) (λ t x inos so. told t x inos so (number_of t.current x)) s.entries (up_to s.clients) (record s { entries = s.entries ++ e ∷ [] }) refl
  where
    told : (t : Server) (x : ℕ) (inos : List Ino) → t.entries ≡ s.entries ++ e ∷ [] → (o : Option ℕ) → (tell_at t x (Changed inos) o).entries ≡ s.entries ++ e ∷ []
    told t x inos so None = so
    told t x inos so (Some j) = so

-- what a flush that is brought leaves
record Left (n low : ℕ) (files : HeldFiles) (t : Server) : Type 0 where
  pub last : low ≤ last_flush t.entries n
  pub cover : (ino : Ino) → has ino files ≤ shares n ino t.holders

left_settled : (n low : ℕ) (files : HeldFiles) (t : Server) (f : FlushMsg) → Left n low files t → Left n low files (acts t (cond f.release [] (Settled n f.ino f.upto ∷ [])))
left_settled n low files t f was = by_test f.release
  where
    by_test : (b : Bool) → Left n low files (acts t (cond b [] (Settled n f.ino f.upto ∷ [])))
    by_test true = was
    by_test false = record { last = was.last; cover = λ ino. let e = settled_same ino in let less = was.cover ino in omega (arith, e, less) }
      where
        settled_same : (ino : Ino) → shares n ino (map (settled n f.ino f.upto) t.holders) ≡ shares n ino t.holders
        settled_same ino = shares_same n ino (settled n f.ino f.upto) t.holders (λ h. refl)

left_taken : (n low : ℕ) (files : HeldFiles) (t : Server) (f : FlushMsg) → ((ino : Ino) → (has ino files ≡ 0) ⊎ ((f.release && is_ino ino f.ino) ≡ true → f.number ≤ low)) → Left n low files t → Left n low files (acts t (take_flush n t f))
left_taken n low files t f free was = by_test (nat_le f.number (last_flush t.entries n)) refl
  where
    e : Entry
    e = record { client = n; number = f.number; what = flush_entry f }

    above : nat_le f.number (last_flush t.entries n) ≡ false → last_flush t.entries n < f.number
    above test = grind (arith, nat_tests, test)

    last_now : last_flush (buffer t e).entries n ≡ f.number
    last_now = ap (λ (l : List Entry). last_flush l n) (buffer_entries t e) ∙ last_new n t.entries e (flush_is n f)

    same : (buffer t e).holders ≡ t.holders
    same = (buffer_rest t t e (refl, refl)).1

    zero_now : last_flush t.entries n < f.number → f.release ≡ true → (ino : Ino) → is_ino ino f.ino ≡ true → has ino files ≡ 0
    zero_now new rel ino is = either (free ino)
      where
        either : (has ino files ≡ 0) ⊎ ((f.release && is_ino ino f.ino) ≡ true → f.number ≤ low) → has ino files ≡ 0
        either (inl z) = z
        either (inr few) = let less = few (rw (rel, is) refl) in let most = was.last in absurd (omega (arith, new, less, most))

    let_go : last_flush t.entries n < f.number → f.release ≡ true → (ino : Ino) → has ino files ≤ shares n ino (filter (λ h. not (is_holder n f.ino h)) (buffer t e).holders)
    let_go new rel ino = by_ino (is_ino ino f.ino) refl
      where
        by_ino : (b : Bool) → is_ino ino f.ino ≡ b → has ino files ≤ shares n ino (filter (λ h. not (is_holder n f.ino h)) (buffer t e).holders)
        by_ino true is = let z = zero_now new rel ino is in omega (arith, z)
        by_ino false is = let others = shares_others n ino (λ h. not (is_holder n f.ino h)) (buffer t e).holders (λ h at. other_file n ino f.ino h is at) in let here = ap (shares n ino) same in let less = was.cover ino in omega (arith, others, here, less)

    settles : last_flush t.entries n < f.number → (r : Bool) → f.release ≡ r → Left n low files (act (buffer t e) (cond r (LetGo n f.ino) (Settled n f.ino f.upto)))
    settles new true rel = record { last = let l = last_now in let most = was.last in omega (arith, l, most, new); cover = let_go new rel }
    settles new false rel = record {
      last = let l = last_now in let most = was.last in omega (arith, l, most, new);
      cover = λ ino. let kept = shares_same n ino (settled n f.ino f.upto) (buffer t e).holders (λ h. refl) in let here = ap (shares n ino) same in let less = was.cover ino in omega (arith, kept, here, less);
    }

    by_test : (b : Bool) → nat_le f.number (last_flush t.entries n) ≡ b → Left n low files (acts t (cond b [] (Buffer e ∷ flush_settles n f ∷ [])))
    by_test true test = was
    by_test false test = settles (above test) f.release refl

brought_left : (n low : ℕ) (files : HeldFiles) (fs : List FlushMsg) (t : Server) → ((ino : Ino) → (has ino files ≡ 0) ⊎ AllReleased ino low fs) → Left n low files t → Left n low files (acts t (each (take_brought n) t fs))
brought_left n low files [] t free was = was
brought_left n low files (f ∷ fs) t free was =
    subst (Left n low files) (sym (acts_append (take_brought n t f) (each (take_brought n) (acts t (take_brought n t f)) fs) t))
    (brought_left n low files fs (acts t (take_brought n t f)) (λ ino. later ino (free ino)) one)
  where
    later : (ino : Ino) → (has ino files ≡ 0) ⊎ AllReleased ino low (f ∷ fs) → (has ino files ≡ 0) ⊎ AllReleased ino low fs
    later ino (inl z) = inl z
    later ino (inr all) = inr all.1

    first : (ino : Ino) → (has ino files ≡ 0) ⊎ AllReleased ino low (f ∷ fs) → (has ino files ≡ 0) ⊎ ((f.release && is_ino ino f.ino) ≡ true → f.number ≤ low)
    first ino (inl z) = inl z
    first ino (inr all) = inr all.0

    one : Left n low files (acts t (take_brought n t f))
    one = subst (Left n low files) (sym (acts_append (take_flush n t f) (cond f.release [] (Settled n f.ino f.upto ∷ [])) t))
        (left_settled n low files (acts t (take_flush n t f)) f (left_taken n low files t f (λ ino. first ino (free ino)) was))

-- and raise no share
abbrev pub AllFall : List Act → Type 0
AllFall [] = Unit {0}
AllFall (a ∷ list) = NoRise a × AllFall list

pub fall_acts : (n : ℕ) (ino : Ino) (list : List Act) (t : Server) → AllFall list → shares n ino (acts t list).holders ≤ shares n ino t.holders
fall_acts n ino [] t all = omega arith
fall_acts n ino (a ∷ list) t all = let rest = fall_acts n ino list (act t a) all.1 in let one = fall_act n t a all.0 ino in omega (arith, rest, one)

fall_append : (xs ys : List Act) → AllFall xs → AllFall ys → AllFall (xs ++ ys)
fall_append [] ys all more = more
fall_append (x ∷ xs) ys all more = (all.0, fall_append xs ys all.1 more)

fall_if : (b : Bool) (xs ys : List Act) → AllFall xs → AllFall ys → AllFall (cond b xs ys)
fall_if true xs ys here other = here
fall_if false xs ys here other = other

brought_fall : (n : ℕ) (fs : List FlushMsg) (t : Server) → AllFall (each (take_brought n) t fs)
brought_fall n [] t = tt
brought_fall n (f ∷ fs) t = fall_append (take_brought n t f) (each (take_brought n) (acts t (take_brought n t f)) fs)
    (fall_append (take_flush n t f) (cond f.release [] (Settled n f.ino f.upto ∷ []))
    (fall_if (nat_le f.number (last_flush t.entries n)) [] (Buffer (record { client = n; number = f.number; what = flush_entry f }) ∷ flush_settles n f ∷ []) tt (tt, (by_test f.release, tt)))
    (fall_if f.release [] (Settled n f.ino f.upto ∷ []) tt (tt, tt)))
    (brought_fall n fs (acts t (take_brought n t f)))
  where
    by_test : (b : Bool) → NoRise (cond b (LetGo n f.ino) (Settled n f.ino f.upto))
    by_test true = tt
    by_test false = tt

-- the table after it has come back
shares_left : (n : ℕ) (ino : Ino) (holders : List Holder) → shares n ino (filter (λ h. not (h.client == n)) holders) ≡ 0
shares_left n ino [] = refl
shares_left n ino (h ∷ holders) = by_test (h.client == n) refl (shares_left n ino holders)
  where
    by_test : (b : Bool) → (h.client == n) ≡ b → shares n ino (filter (λ h. not (h.client == n)) holders) ≡ 0 → shares n ino (cond (not b) (h ∷ filter (λ h. not (h.client == n)) holders) (filter (λ h. not (h.client == n)) holders)) ≡ 0
    by_test true is rest = rest
    by_test false is rest = rw is (omega (arith, rest))

pub back_shares : (n low : ℕ) (files : HeldFiles) (kept : List FlushMsg) (s : Server) → Distinct files → ClearOf n s.holders files → low ≤ last_flush s.entries n → ((ino : Ino) → (has ino files ≡ 0) ⊎ AllReleased ino low kept) → (ino : Ino) → shares n ino (acts s (come_back s n (claims files) kept)).holders ≡ has ino files
back_shares n low files kept s once clear less free ino = subst (λ (t : Server). shares n ino t.holders ≡ has ino files) (sym (acts_append (each (take_claim n) t (claims files)) (each (take_brought n) u kept) t))
    (let most = fall_acts n ino (each (take_brought n) u kept) u (brought_fall n kept u) in
    let least = (brought_left n low files kept u free (record { last = subst (λ (l : List Entry). low ≤ last_flush l n) (sym (claims_entries n (claims files) t)) less; cover = λ x. let e = claimed_now x in omega (arith, e) })).cover ino in
    let e = claimed_now ino in omega (arith, most, least, e))
  where
    t : Server
    t = act s (LetAllGo n)

    u : Server
    u = acts t (each (take_claim n) t (claims files))

    claimed_now : (x : Ino) → shares n x u.holders ≡ has x files
    claimed_now x = let e = claims_done n files t once (λ y other z. let fewer = shares_filter y z (λ h. not (h.client == n)) s.holders in let few = clear y other z in omega (arith, fewer, few)) (λ y is. shares_left n y s.holders) x in let z = shares_left n x s.holders in omega (arith, e, z)

-- the Connect comes next, so all on the way back is old
asking_old : (o : Offer) (conn : ℕ) (said : List Claim) (flushes : List FlushMsg) (asked : Option (ℕ × Request)) (up : List ToServer) (k : Option ℕ) (p : List ToClient) → Link o (Connect conn said flushes asked ∷ up) k p → AllOld o.conn p
asking_old o conn said flushes asked up k p link = by_down link.down
  where
    above : link.base ≡ o.conn → ⊥
    above is = let more = behind_most o (link.base + 1) up link.up.2 in omega (arith, more, is)

    by_down : Flowing o link.base k p ⊎ (AskingLink o k p ⊎ Hailing o link.base k p) → AllOld o.conn p
    by_down (inl f) = absurd (above f.base)
    by_down (inr (inl a)) = a.down
    by_down (inr (inr h)) = absurd (above h.base)

behind_no_drop : (o : Offer) (k j : ℕ) (ino : Ino) (up : List ToServer) → Behind o k up → list_any (is_drop j ino) up ≡ false
behind_no_drop o k j ino [] is = refl
behind_no_drop o k j ino (Connect conn said flushes asked ∷ up) is = behind_no_drop o (k + 1) j ino up is.1
behind_no_drop o k j ino (m ∷ up) is = absurd is

lets_tail : (conn : ℕ) (under : Under) (m : ToServer) (q : List ToServer) → Lets conn under (m ∷ q) → Lets conn under q
lets_tail conn Idle m q all = tt
lets_tail conn (AtStore number entry ino head) m q all = tt
lets_tail conn (Open number tid text asked gone) m q all = all.1

calm : (n : ℕ) (a : Act) → IsFlushing n a → NotGiving a
calm n (GrantIt ino mode) is = absurd is
calm n (AnswerIt said) is = absurd is
calm n a is = tt

pub has_most : (T : ℕ → Ino → ℕ) (n : ℕ) (c : Client) (up : List ToServer) (down : List ToClient) (s : Server) → Sharing n c up down s → Bounded T n c up down s → (ino : Ino) → has ino c.files ≤ T n ino
has_most T n c up down s sharing bounded ino = by_number (number_of s.current n) sharing.cover (bounded ino)
  where
    by_number : (o : Option ℕ) → CoverBy (Covered c.conn (gone_in c.under) c.files (down ++ mail_of n s.mail)) (λ x. shares n x s.holders) o → BoundAt o (shares n ino s.holders) (Covered c.conn (gone_in c.under) c.files (down ++ mail_of n s.mail) ino) (T n ino) → has ino c.files ≤ T n ino
    by_number None cover bound = bound.1.0
    by_number (Some j) cover bound = let one = (cover ino).0 in omega (arith, one, bound)

has_bounded : (T : ℕ → Ino → ℕ) (n : ℕ) (c : Client) (m : ToServer) (up : List ToServer) (down : List ToClient) (s : Server) → Taken T n c m up down s → (ino : Ino) → has ino c.files ≤ T n ino
has_bounded T n c m up down s was ino = has_most T n c (m ∷ up) down s was.sharing was.bounded ino

pub own_connect : (T : ℕ → Ino → ℕ) (n : ℕ) (c : Client) (conn : ℕ) (said : List Claim) (flushes : List FlushMsg) (asked : Option (ℕ × Request)) (up : List ToServer) (down : List ToClient) (s : Server) → Distinct c.files → Clear n c (Connect conn said flushes asked ∷ up) down s → Taken T n c (Connect conn said flushes asked) up down s → Whole T n c up down s → Server's (Owns T) n c up down (on_take s n (Connect conn said flushes asked))
own_connect T n c conn said flushes asked up down s once clear was popped =
    row_if (Server's (Owns T) n c up down) (to_server_fits (Connect conn said flushes asked)) _ (drops s)
    (λ fine. row_if (Server's (Owns T) n c up down) (may_connect s n conn said flushes (brought n asked)) _ (drops s) (λ may. taken (brought_cap s (brought n asked) (knows may))) hands)
    hands
  where
    hands : Server's (Owns T) n c up down (drops s)
    hands = (by_whole T n c up down).hands s popped

    knows : may_connect s n conn said flushes (brought n asked) ≡ true → knows_brought s (brought n asked) ≡ true
    knows may =
        let a = nat_lt (connection s n) conn in
        let b = list_all (λ (claim : Claim). knows_file s claim.ino) said in
        let d = list_all (λ (f : FlushMsg). knows_file s f.ino) flushes in
        (and_true (a && b && d) (knows_brought s (brought n asked)) may).1

    now : Server
    now = acts s (come_back s n said flushes)

    next : Server
    next = welcome (connected now n conn) n conn

    known : Knows now
    known = acts_keep {F = KnownFits} {Q = Knows} one_knows (come_back s n said flushes) s (flushing_fit KnownFits n (flushing_known n) (come_back s n said flushes) s (flushing_back s n said flushes)) was.knows

    asked_now : Asking n c (Connect conn said flushes asked ∷ up) down now
    asked_now = acts_keep {F = AnyOf n c} {Q = Asking n c (Connect conn said flushes asked ∷ up) down} (λ t a fit all. asking.one n c (Connect conn said flushes asked ∷ up) down t a fit all) (come_back s n said flushes) s (any_of n c s (come_back s n said flushes)) was.asking

    let_now : Letting n c up down now
    let_now = (acts_keep {F = λ t a. KnownFits t a × IsFlushing n a} {Q = λ t. Knows t × Letting n c up down t} (λ t a fit q. (one_knows t a fit.0 q.0, calm_letting n c up down t a (calm n a fit.1) q.0.fits q.1)) (come_back s n said flushes) s
        (both_fit KnownFits (λ t a. IsFlushing n a) (come_back s n said flushes) s (flushing_fit KnownFits n (flushing_known n) (come_back s n said flushes) s (flushing_back s n said flushes)) (flushing_fit (λ t a. IsFlushing n a) n (λ t a is. is) (come_back s n said flushes) s (flushing_back s n said flushes)))
        (was.knows, was.letting)).1

    link : Link (offer c) (Connect conn said flushes asked ∷ up) (number_of s.current n) (down ++ mail_of n s.mail)
    link = was.asking.0.1

    table : (ino : Ino) → shares n ino now.holders ≡ has ino c.files
    table ino = subst (λ (l : List FlushMsg). shares n ino (acts s (come_back s n said l)).holders ≡ has ino c.files) (sym link.up.1.flushes)
        (subst (λ (l : List Claim). shares n ino (acts s (come_back s n l c.unacked)).holders ≡ has ino c.files) (sym link.up.1.claims)
        (back_shares n (last_flush (take s.durable s.entries) n) c.files c.unacked s once clear (last_take n s.durable s.entries was.flushes.counted) was.letting.held ino))

    none : answers c.conn (down ++ mail_of n now.mail) ≡ 0
    none = old_answered c.conn (down ++ mail_of n now.mail) (asking_old (offer c) conn said flushes asked up (number_of now.current n) (down ++ mail_of n now.mail) asked_now.0.1)

    before : SharesAt c.conn c.files c.under up (Some conn) (down ++ mail_of n now.mail) (λ ino. shares n ino now.holders)
    before = record {
      cover = λ ino. ((let e = table ino in omega (arith, e)), give_more c.conn (gone_in c.under) ino 0 (shares n ino now.holders) (down ++ mail_of n now.mail) (omega arith) (none_give c.conn (gone_in c.under) ino (down ++ mail_of n now.mail) none));
      dropped = λ ino any one. absurd (true≢false (sym any ∙ behind_no_drop (offer c) (link.base + 1) conn ino up link.up.2));
      lets = lets_tail c.conn c.under (Connect conn said flushes asked) up was.sharing.lets;
      frees = was.sharing.frees;
      grants = none_grants c.conn c.under (down ++ mail_of n now.mail) none;
      writers = λ ino two. inl (let e = table ino in omega (arith, e, two));
      says = none_say c.conn (gone_in c.under) c.files (down ++ mail_of n now.mail) none;
    }

    itself : number_of ((n, conn) ∷ now.current) n ≡ Some conn
    itself = by_test (n == n) (grind (arith, nat_tests))
      where
        by_test : (b : Bool) → b ≡ true → cond b (Some conn) (number_of now.current n) ≡ Some conn
        by_test true is = refl
        by_test false is = absurd (true≢false (sym is))

    After : List ToClient → Type 0
    After p = SharesAt c.conn c.files c.under up (Some conn) p (λ ino. shares n ino now.holders)

    with_hello : (b : Bool) → After ((down ++ mail_of n now.mail) ++ cond b (hello (connected now n conn) n conn ∷ []) [])
    with_hello true = sharing_more c.conn c.files c.under up (Some conn) (down ++ mail_of n now.mail) (λ ino. shares n ino now.holders) (hello (connected now n conn) n conn) (silent_may c.conn c.files c.under up (Some conn) (hello (connected now n conn) n conn) (λ ino. shares n ino now.holders) tt) before
    with_hello false = subst After (sym (append-nil (down ++ mail_of n now.mail))) before

    sharing_next : Sharing n c up down next
    sharing_next = subst (λ (k : Option ℕ). SharesAt c.conn c.files c.under up k (down ++ mail_of n next.mail) (λ ino. shares n ino now.holders)) (sym itself)
        (more_mail After n down now.mail (length now.entries, record { to = n; message = message.ToClient (hello (connected now n conn) n conn) }) (with_hello (n == n)))

    letting_next : Letting n c up down next
    letting_next = letting_send n c up down (connected now n conn) (record { to = n; message = message.ToClient (hello (connected now n conn) n conn) }) (λ to. silent_after c.conn (gone_in c.under) c.unacked (last_flush now.entries n) (hello (connected now n conn) n conn) tt) let_now

    bounded_next : Bounded T n c up down next
    bounded_next ino = subst (λ (k : Option ℕ). BoundAt k (shares n ino now.holders) (Covered c.conn (gone_in c.under) c.files (down ++ mail_of n next.mail) ino) (T n ino)) (sym itself) (let e = table ino in let most = has_bounded T n c (Connect conn said flushes asked) up down s was ino in omega (arith, e, most))

    owns_with : (o : Option Asked) → Owns T n c up down next → Owns T n c up down (take_in_brought next o)
    owns_with None owns = owns
    owns_with (Some a) owns = owns

    flushes_with : (o : Option Asked) → Flushes n c up down next → Flushes n c up down (take_in_brought next o)
    flushes_with None flushes = flushes
    flushes_with (Some a) flushes = flushes

    knows_with : (o : Option Asked) → BroughtCap next.entries o → Knows (take_in_brought next o)
    knows_with None cap = welcome_knows n conn now known
    knows_with (Some a) cap = take_in_knows next a cap (welcome_knows n conn now known)

    treats : (o : Option (ℕ × Request)) → o ≡ open_request c.under → BroughtCap next.entries (brought n o) → Fit (Fine n c) (take_in_brought next (brought n o)) (treat_brought (take_in_brought next (brought n o)) (brought n o))
    treats None is cap = tt
    treats (Some r) is cap =
        let a = asked_by n r.0 r.1 in
        both_fit (Fits n) (MyFit n c) (treat false (take_in next a) a) (take_in next a)
        (ruled_fit (Fits n) (ruled n) (treat false (take_in next a) a) (take_in next a) (ruled_treat (take_in next a) false a cap))
        (treat_my n c (take_in next a) false a (λ b at. hand_of next a b (is_operation next a) at) (λ at. subst (λ (o : Option (ℕ × Request)). IsIt o r.0 r.1) is (refl, refl)))

    taken : BroughtCap s.entries (brought n asked) → Server's (Owns T) n c up down (connect_with (back s n conn said flushes (brought n asked)) (brought n asked))
    taken cap =
        let more = grown_all (come_back s n said flushes) s in
        let cap_now : BroughtCap next.entries (brought n asked) = subst (λ (l : List Entry). BroughtCap l (brought n asked)) (sym more.1) (brought_more s.entries more.0 (brought n asked) cap) in
        connect_keeps (by_whole T n c up down) (back s n conn said flushes (brought n asked)) (brought n asked) (treats asked link.up.1.asked cap_now) (
          (knows_with (brought n asked) cap_now, flushes_with (brought n asked) (connect_taken n c conn said flushes asked up down s was.asking.0 was.flushes)),
          (requested.accepts n c conn said flushes asked up down now asked_now, owns_with (brought n asked) ((sharing_next, letting_next), inr bounded_next)),
        )
