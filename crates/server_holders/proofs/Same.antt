-- What is asked of the holdings is what is asked of the holders.
use Rattle.std.proofs.Common.{◌≡◌, ℕ, Bool, true, false, not, ◌||◌, ◌&&◌, ◌==◌, cond, nat_lt, nat_le, List, [], ◌∷◌, map, filter, find, option_map, Option, None, Some, refl, sym, ap, subst, ◌∙◌, arith}
use Rattle.std.specs.List.{list_any, list_all, AllByRecursion}
use Rattle.std.proofs.lemmas.Bool.{eqb-true}
use Rattle.std.proofs.lemmas.Bool.Decides.{nat_tests}
use Rattle.snap_ids.specs.declared.id.Ino.{Ino}
use Rattle.snap_ids.specs.declared.id.SnapId.{SnapId}
use Rattle.snap_ids.specs.declared.values.Mode.{Mode}
use Rattle.snap_ids.specs.declared.values.Mode.TheVariants.{Read, Write}
use Rattle.snap_ids.specs.Context.{is_listed}
use Rattle.plain_tree.specs.State.{same_ino}
use Rattle.plain_journal.specs.Coverage.{context, covering}
use Rattle.held_files.specs.Files.{is_write}
use Rattle.cap_state.specs.Table as table
use Rattle.cap_state.specs.Table.{Holding, is_of, is_at, writes, conflicts, mode_of, writer_of, answer_by, answer_to, granted, after_by, after_ask, IsTable}
use Rattle.cap_state.specs.declared.caps.Asked.TheVariants.{Recall}
use Rattle.cap_state.proofs.Lists.{all_of, all_filter}
use Rattle.cap_state.proofs.Order.{table_filter}
use Rattle.step_table.specs.ServerState.{Holder, Server, up_to, is_holder, is_writer}
use Rattle.step_table.specs.Capabilities.{OneWriter, is_against, against, in_conflict, owes, owing, is_settled}
use Rattle.step_table.specs.Background.{holders_of}
use Rattle.server_holders.specs.Stands.{as_holding, Marks, HoldersStand}
use Rattle.server_holders.specs.Answers.{reads, may_write, owing_by, is_settled_at, are_clients}
use Rattle.server_holders.proofs.Any.{both_true, any_same, any_filter, any_map, any_and, all_any}
use Rattle.server_holders.proofs.One.{same_mode, test, by_found, fewer, one_at, writes_to, one_writes, is_writing, one_writing}
use Rattle.server_holders.proofs.Grants.{writer_there, reader_there, against_there}
use Rattle.server_holders.proofs.Rising.{has, same_rising, passing_rise, has_passing, table_rises, has_client}

-- the mode in which a client holds a file
writes_mode : (mode : Mode) → may_write (Some mode) ≡ writes mode
writes_mode Read = refl
writes_mode Write = refl

reads_mode : (mode : Mode) → reads (Some mode) ≡ not (writes mode)
reads_mode Read = refl
reads_mode Write = refl

found_writes : (found : Option Holding) → may_write (option_map (λ (h : Holding). h.1.mode) found) ≡ test (λ (h : Holding). writes h.1.mode) found
found_writes None = refl
found_writes (Some h) = writes_mode h.1.mode

found_reads : (found : Option Holding) → reads (option_map (λ (h : Holding). h.1.mode) found) ≡ test (λ (h : Holding). not (writes h.1.mode)) found
found_reads None = refl
found_reads (Some h) = reads_mode h.1.mode

narrowed : (a b : Bool) → (a ≡ true → b ≡ true) → a ≡ (a && b)
narrowed true b more = sym (more refl)
narrowed false b more = refl

-- each holder is a client
in_range : (c n : ℕ) (q : Holder → Bool) (holders : List Holder) → are_clients n holders ≡ true → list_any (λ (h : Holder). h.client == c && q h) holders ≡ true → (nat_lt 0 c && nat_le c n) ≡ true
in_range c n q [] all any = cc
in_range c n q (h ∷ holders) all any =
    let l = both_true (nat_lt 0 h.client && nat_le h.client n) (are_clients n holders) all in
    go (h.client == c) refl any l.0 (in_range c n q holders l.1)
  where
    go : (b : Bool) → (h.client == c) ≡ b → ((b && q h) || list_any (λ (h : Holder). h.client == c && q h) holders) ≡ true → (nat_lt 0 h.client && nat_le h.client n) ≡ true → (list_any (λ (h : Holder). h.client == c && q h) holders ≡ true → (nat_lt 0 c && nat_le c n) ≡ true) → (nat_lt 0 c && nat_le c n) ≡ true
    go true is any here rest = subst (λ (x : ℕ). (nat_lt 0 x && nat_le x n) ≡ true) (eqb-true h.client c is) here
    go false is any here rest = rest any

find_filter : {X : Type 0} (p q : X → Bool) (xs : List X) → find p (filter q xs) ≡ find (λ x. q x && p x) xs
find_filter p q [] = refl
find_filter p q (x ∷ xs) = go (q x) (find_filter p q xs)
  where
    go : (b : Bool) → find p (filter q xs) ≡ find (λ x. q x && p x) xs → find p (cond b (x ∷ filter q xs) (filter q xs)) ≡ cond (b && p x) (Some x) (find (λ x. q x && p x) xs)
    go true rest = ap (λ o. cond (p x) (Some x) o) rest
    go false rest = rest

-- an answer is told by the tests that it passes
same_option : (a b : Option ℕ) → ((p : ℕ → Bool) → test p a ≡ test p b) → a ≡ b
same_option None None same = refl
same_option None (Some y) same = let never : false ≡ true = same (λ n. true) in cc
same_option (Some x) None same = let never : true ≡ false = same (λ n. true) in cc
same_option (Some x) (Some y) same =
    let itself : (x == x) ≡ true = grind (arith, nat_tests) in
    ap (λ (n : ℕ). Some n) (sym (eqb-true y x (sym (same (λ n. n == x)) ∙ itself)))

some_recalled : (clients : List ℕ) → list_any (λ c. true) clients ≡ true → answer_by clients ≡ Recall clients
some_recalled [] some = cc
some_recalled (c ∷ clients) some = refl

some_left : (clients : List ℕ) (held granted : List Holding) → list_any (λ c. true) clients ≡ true → after_by clients held granted ≡ held
some_left [] held granted some = cc
some_left (c ∷ clients) held granted some = refl

module _ (held : List Holding) (marks : Marks) (s : Server) (stands : HoldersStand held marks s.holders) where
  module _ (client : ℕ) (ino : Ino) where
    pub writes_here : IsTable held → may_write (mode_of client ino held) ≡ list_any (is_writer client ino) s.holders
    writes_here tab =
        found_writes (find (is_at client ino) held)
        ∙ sym (by_found (λ (h : Holding). writes h.1.mode) (is_at client ino) held (one_at client ino held tab))
        ∙ writer_there held marks s.holders stands client ino

    pub reads_here : IsTable held → reads (mode_of client ino held) ≡ list_any (λ (h : Holder). is_holder client ino h && not (is_write h.mode)) s.holders
    reads_here tab =
        found_reads (find (is_at client ino) held)
        ∙ sym (by_found (λ (h : Holding). not (writes h.1.mode)) (is_at client ino) held (one_at client ino held tab))
        ∙ reader_there held marks s.holders stands client ino

    own_mark : (h : Holding) (b : Bool) → is_at client ino h ≡ b → (b && marks client ino) ≡ (b && marks h.0 h.1.ino)
    own_mark h true is =
        let l = both_true (h.0 == client) (is_of ino h) is in
        sym (λ i. marks (eqb-true h.0 client l.0 i) (record { 0 = eqb-true h.1.ino.0 ino.0 l.1 i }))
    own_mark h false is = refl

    pub recalled_here : (list_any (is_at client ino) held && marks client ino) ≡ list_any (λ (h : Holder). is_holder client ino h && h.recalled) s.holders
    recalled_here =
        sym (any_and (is_at client ino) (marks client ino) held)
        ∙ any_same (λ h. is_at client ino h && marks client ino) (λ h. is_at client ino h && marks h.0 h.1.ino) held (λ h. own_mark h (is_at client ino h) refl)
        ∙ stands (λ h m. is_at client ino h && m)

  -- some are against a request
  module _ (client : ℕ) (ino : Ino) (mode : Mode) where
    some_against : in_conflict s client ino mode ≡ true → list_any (λ c. true) (table.against client ino mode held) ≡ true
    some_against conflict =
        any_map (λ c. true) (λ (h : Holding). h.0) (filter (conflicts client mode) (table.holders_of ino held))
        ∙ any_filter (λ h. true) (conflicts client mode) (table.holders_of ino held)
        ∙ any_filter (λ h. conflicts client mode h && true) (is_of ino) held
        ∙ any_same (λ h. is_of ino h && (conflicts client mode h && true)) (λ h. is_of ino h && conflicts client mode h) held (λ h. ap (λ b. is_of ino h && b) (and_true (conflicts client mode h)))
        ∙ against_there held marks s.holders stands client ino mode
        ∙ conflict
      where
        and_true : (a : Bool) → (a && true) ≡ a
        and_true true = refl
        and_true false = refl

    pub nothing_changes : (last : SnapId) → in_conflict s client ino mode ≡ true → after_ask client ino mode last held ≡ held
    nothing_changes last conflict = some_left (table.against client ino mode held) held (granted client (record { ino = ino; mode = mode; settled = last }) held) (some_against conflict)

  -- the clients that hold a file and pass a test
  module _ (ino : Ino) (tab : IsTable held) (clients : are_clients s.clients s.holders ≡ true) (q : Holding → Bool) where
    all_of_file : AllByRecursion (λ h. is_of ino h ≡ true) (filter q (table.holders_of ino held))
    all_of_file =
        all_filter q (λ h. is_of ino h ≡ true) (λ h. is_of ino h ≡ true) (λ h passes here. here) (table.holders_of ino held)
        (all_filter (is_of ino) (λ h. Unit {0}) (λ h. is_of ino h ≡ true) (λ h here none. here) held (all_of (λ h. Unit {0}) (λ h. tt) held))

    has_passed : (c : ℕ) → has c (map (λ (h : Holding). h.0) (filter q (table.holders_of ino held))) ≡ list_any (λ (h : Holder). same_ino h.ino ino && (q (as_holding h) && h.client == c)) s.holders
    has_passed c =
        has_client c (filter q (table.holders_of ino held))
        ∙ any_filter (λ h. h.0 == c) q (table.holders_of ino held)
        ∙ any_filter (λ h. q h && h.0 == c) (is_of ino) held
        ∙ stands (λ h m. is_of ino h && (q h && h.0 == c))

    pub same_clients : (r : ℕ → Holder → Bool) → ((c : ℕ) (h : Holder) → (same_ino h.ino ino && (q (as_holding h) && h.client == c)) ≡ (h.client == c && r c h)) → map (λ (h : Holding). h.0) (filter q (table.holders_of ino held)) ≡ filter (λ c. list_any (λ (h : Holder). h.client == c && r c h) s.holders) (up_to s.clients)
    same_clients r same =
        same_rising (map (λ (h : Holding). h.0) (filter q (table.holders_of ino held))) (filter passes (up_to s.clients))
        (table_rises ino (filter q (table.holders_of ino held)) (table_filter q (table.holders_of ino held) (table_filter (is_of ino) held tab)) all_of_file)
        (passing_rise passes s.clients)
        (λ c. has_passed c
        ∙ any_same (λ (h : Holder). same_ino h.ino ino && (q (as_holding h) && h.client == c)) (λ (h : Holder). h.client == c && r c h) s.holders (same c)
        ∙ narrowed (passes c) (nat_lt 0 c && nat_le c s.clients) (in_range c s.clients (r c) s.holders clients)
        ∙ sym (has_passing passes c s.clients))
      where
        passes : ℕ → Bool
        passes c = list_any (λ (h : Holder). h.client == c && r c h) s.holders

  -- a file's holders
  turned : (a b : Bool) → (a && (true && b)) ≡ (b && a)
  turned true true = refl
  turned true false = refl
  turned false true = refl
  turned false false = refl

  all_pass : (held : List Holding) → filter (λ (h : Holding). true) held ≡ held
  all_pass [] = refl
  all_pass (h ∷ held) = ap (λ (xs : List Holding). h ∷ xs) (all_pass held)

  pub same_holders : (ino : Ino) → IsTable held → are_clients s.clients s.holders ≡ true → map (λ (h : Holding). h.0) (table.holders_of ino held) ≡ holders_of s ino
  same_holders ino tab clients =
      ap (λ (xs : List Holding). map (λ (h : Holding). h.0) xs) (sym (all_pass (table.holders_of ino held)))
      ∙ same_clients ino tab clients (λ h. true) (λ c h. same_ino h.ino ino) (λ c h. turned (same_ino h.ino ino) (h.client == c))

  -- those against a request
  shuffled : (f n w c : Bool) → (f && ((n && w) && c)) ≡ (c && (n && f && w))
  shuffled true true true true = refl
  shuffled true true true false = refl
  shuffled true true false true = refl
  shuffled true true false false = refl
  shuffled true false w true = refl
  shuffled true false w false = refl
  shuffled false true w true = refl
  shuffled false true w false = refl
  shuffled false false w true = refl
  shuffled false false w false = refl

  pub same_against : (client : ℕ) (ino : Ino) (mode : Mode) → IsTable held → are_clients s.clients s.holders ≡ true → table.against client ino mode held ≡ against s client ino mode
  same_against client ino mode tab clients =
      same_clients ino tab clients (conflicts client mode) (λ c h. is_against client ino mode h)
      (λ c h. shuffled (same_ino h.ino ino) (not (h.client == client)) (writes mode || writes h.mode) (h.client == c)
      ∙ λ i. (h.client == c && (not (h.client == client) && same_ino h.ino ino && (same_mode mode i || same_mode h.mode i))))

  pub recalls_these : (client : ℕ) (ino : Ino) (mode : Mode) → IsTable held → are_clients s.clients s.holders ≡ true → in_conflict s client ino mode ≡ true → answer_to client ino mode held ≡ Recall (against s client ino mode)
  recalls_these client ino mode tab clients conflict =
      some_recalled (table.against client ino mode held) (some_against client ino mode conflict)
      ∙ ap Recall (same_against client ino mode tab clients)

  -- who owes a flush
  module _ (ino : Ino) (id : SnapId) (tab : IsTable held) (one : OneWriter s.holders) where
    abbrev covers : Bool
    covers = is_listed id (covering s.entries ino)

    at_writer : (p : ℕ → Bool) (found : Option Holding) → test (λ (h : Holding). (nat_lt h.1.settled.0 id.0 && covers) && p h.0) found ≡ test p (owing_by covers id (option_map (λ (h : Holding). (h.0, h.1.settled)) found))
    at_writer p None = refl
    at_writer p (Some h) = go (nat_lt h.1.settled.0 id.0 && covers)
      where
        go : (b : Bool) → (b && p h.0) ≡ test p (cond b (Some h.0) None)
        go true = refl
        go false = refl

    at_ower : (p : ℕ → Bool) (found : Option Holder) → test (λ (h : Holder). p h.client) found ≡ test p (elim found as (λ _. Option ℕ) [ None ↦ None | Some h ↦ Some h.client ])
    at_ower p None = refl
    at_ower p (Some h) = refl

    with_more : (f w l c p : Bool) → ((f && w) && ((l && c) && p)) ≡ ((f && w && l && c) && p)
    with_more true true l c p = refl
    with_more true false l c p = refl
    with_more false w l c p = refl

    narrower : (h : Holder) → owes s ino id h ≡ true → is_writing ino h ≡ true
    narrower h is =
        let first = both_true (is_writing ino h && nat_lt h.settled.0 id.0) covers is in
        (both_true (is_writing ino h) (nat_lt h.settled.0 id.0) first.0).0

    pub same_owing : owing_by covers id (writer_of ino held) ≡ owing s ino id
    same_owing = same_option (owing_by covers id (writer_of ino held)) (owing s ino id) passes
      where
        passes : (p : ℕ → Bool) → test p (owing_by covers id (writer_of ino held)) ≡ test p (owing s ino id)
        passes p =
            ap (λ (found : Option Holding). test p (owing_by covers id (option_map (λ (h : Holding). (h.0, h.1.settled)) found))) (find_filter (λ (h : Holding). writes h.1.mode) (is_of ino) held)
            ∙ sym (at_writer p (find (writes_to ino) held))
            ∙ sym (by_found (λ (h : Holding). (nat_lt h.1.settled.0 id.0 && covers) && p h.0) (writes_to ino) held (one_writes ino held tab))
            ∙ stands (λ h m. writes_to ino h && ((nat_lt h.1.settled.0 id.0 && covers) && p h.0))
            ∙ any_same (λ (h : Holder). (same_ino h.ino ino && writes h.mode) && ((nat_lt h.settled.0 id.0 && covers) && p h.client)) (λ (h : Holder). owes s ino id h && p h.client) s.holders (λ h. with_more (same_ino h.ino ino) (writes h.mode) (nat_lt h.settled.0 id.0) covers (p h.client) ∙ ap (λ w. (same_ino h.ino ino && w && nat_lt h.settled.0 id.0 && covers) && p h.client) (same_mode h.mode))
            ∙ by_found (λ (h : Holder). p h.client) (owes s ino id) s.holders (fewer (owes s ino id) (is_writing ino) s.holders narrower (one_writing ino s.holders one))
            ∙ at_ower p (find (owes s ino id) s.holders)

  -- nobody owes a flush
  pub same_settled : list_all (is_settled_at (λ (ino : Ino). (context s.entries ino).seq)) held ≡ list_all (is_settled s) s.holders
  same_settled =
      all_any (is_settled_at (λ (ino : Ino). (context s.entries ino).seq)) held
      ∙ ap not (stands (λ h m. not (is_settled_at (λ (ino : Ino). (context s.entries ino).seq) h)) ∙ any_same (λ (h : Holder). not (not (writes h.mode && nat_lt h.settled.0 (context s.entries h.ino).seq.0))) (λ (h : Holder). not (is_settled s h)) s.holders (λ h. ap (λ w. not (not (w && nat_lt h.settled.0 (context s.entries h.ino).seq.0))) (same_mode h.mode)))
      ∙ sym (all_any (is_settled s) s.holders)
