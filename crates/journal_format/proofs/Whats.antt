-- What an entry says that is read is what was written, and what was written is read again.
use Rattle.std.proofs.Common.{◌≡◌, ℕ, Bool, true, false, cond, eqb, List, [], ◌∷◌, ◌++◌, Option, Some, refl, sym, ap, subst, ◌∙◌, append_assoc, ◌⊎◌, inl, inr}
use Rattle.std.proofs.lemmas.Bool.{eqb-true}
use Rattle.plain_types.specs.declared.entry.Entry.{Entry}
use Rattle.plain_types.specs.declared.entry.What.{What}
use Rattle.plain_types.specs.declared.entry.What.TheVariants.{Mkdir, Create, Link, Unlink, Rmdir, Rename, Chmod, OpenFile, CloseFile, PrepareCreate, Mksnap, PrepareDestroy, Rmsnap, Rollback, Settle, Release, Trim, Purgedone, Deadfile, Barrier}
use Rattle.journal_format.specs.Bytes.{long, word, short, text, flag, IsLong, IsWord, IsShort, IsByte, IsName, kind_of, fields_of, bytes_of, IsWhat, IsEntry}
use Rattle.journal_format.specs.Reading.{◌>>=◌, byte_at, long_at, word_at, short_at, flag_at, name_at, then_at, made_at, ino, id, mkdir_at, create_at, link_at, unlink_at, rmdir_at, rename_at, chmod_at, open_file_at, close_file_at, mksnap_at, settle_at, release_at, numbered, one_at, what_at, entry_at}
use Rattle.journal_format.proofs.Formats.{IsBytes, bind_some, some_is, Takes, Takes-then, Format, longs, words, shorts, single_bytes, flags, names, both}

-- a test that decided
chosen : {A : Type 0} (b : Bool) (x y z : Option A) → cond b x y ≡ z → ((b ≡ true) × (x ≡ z)) ⊎ ((b ≡ false) × (y ≡ z))
chosen true x y z e = inl (refl, e)
chosen false x y z e = inr (refl, e)

-- what was read of this kind is what was written
abbrev IsRead : ℕ → List ℕ → What × List ℕ → Type 0
IsRead kind bytes x = Takes bytes (fields_of x.0) x.1 × (IsWhat x.0 × (kind_of x.0 ≡ kind))

made_takes : {A : Type 0} (write : A → List ℕ) (read : List ℕ → Option (A × List ℕ)) (Fits : A → Type 0) (make : A → What) (kind : ℕ)
    → Format write read Fits → ((a : A) → write a ≡ fields_of (make a)) → ((a : A) → Fits a → IsWhat (make a)) → ((a : A) → kind_of (make a) ≡ kind)
    → (bytes : List ℕ) (x : What × List ℕ) → IsBytes bytes → made_at make read bytes ≡ Some x → IsRead kind bytes x
made_takes {A} write read Fits make kind format same within is bytes x fits e =
    let a = bind_some (read bytes) (λ x. Some (make x.0, x.1)) x e in
    let t = format.takes bytes a.0 fits a.1 in
    subst (IsRead kind bytes) (some_is (make a.0.0, a.0.1) x a.2) (subst (λ (l : List ℕ). Takes bytes l a.0.1) (same a.0.0) t.0, (within a.0.0 t.1, is a.0.0))

made_again : {A : Type 0} (write : A → List ℕ) (read : List ℕ → Option (A × List ℕ)) (Fits : A → Type 0) (make : A → What)
    → Format write read Fits → (a : A) (rest : List ℕ) → Fits a → made_at make read (write a ++ rest) ≡ Some (make a, rest)
made_again write read Fits make format a rest fits = rw (format.again a rest fits) refl

name_long : Format (λ (x : List ℕ × ℕ). text x.0 ++ long x.1) (then_at name_at long_at) (λ x. IsName x.0 × IsLong x.1)
name_long = both text name_at IsName long long_at IsLong names longs

long_name : Format (λ (x : ℕ × List ℕ). long x.0 ++ text x.1) (then_at long_at name_at) (λ x. IsLong x.0 × IsName x.1)
long_name = both long long_at IsLong text name_at IsName longs names

long_short : Format (λ (x : ℕ × ℕ). long x.0 ++ short x.1) (then_at long_at short_at) (λ x. IsLong x.0 × IsShort x.1)
long_short = both long long_at IsLong short short_at IsShort longs shorts

long_word : Format (λ (x : ℕ × ℕ). long x.0 ++ word x.1) (then_at long_at word_at) (λ x. IsLong x.0 × IsWord x.1)
long_word = both long long_at IsLong word word_at IsWord longs words

long_flag : Format (λ (x : ℕ × Bool). long x.0 ++ flag x.1) (then_at long_at flag_at) (λ x. IsLong x.0 × Unit {0})
long_flag = both long long_at IsLong flag flag_at (λ b. Unit {0}) longs flags

mkdirs : Format (λ (x : ℕ × (List ℕ × ℕ)). long x.0 ++ (text x.1.0 ++ long x.1.1)) (then_at long_at (then_at name_at long_at)) (λ x. IsLong x.0 × (IsName x.1.0 × IsLong x.1.1))
mkdirs = both long long_at IsLong (λ x. text x.0 ++ long x.1) (then_at name_at long_at) (λ x. IsName x.0 × IsLong x.1) longs name_long

name_long_short : Format (λ (x : List ℕ × (ℕ × ℕ)). text x.0 ++ (long x.1.0 ++ short x.1.1)) (then_at name_at (then_at long_at short_at)) (λ x. IsName x.0 × (IsLong x.1.0 × IsShort x.1.1))
name_long_short = both text name_at IsName (λ x. long x.0 ++ short x.1) (then_at long_at short_at) (λ x. IsLong x.0 × IsShort x.1) names long_short

creates : Format (λ (x : ℕ × (List ℕ × (ℕ × ℕ))). long x.0 ++ (text x.1.0 ++ (long x.1.1.0 ++ short x.1.1.1))) (then_at long_at (then_at name_at (then_at long_at short_at))) (λ x. IsLong x.0 × (IsName x.1.0 × (IsLong x.1.1.0 × IsShort x.1.1.1)))
creates = both long long_at IsLong (λ x. text x.0 ++ (long x.1.0 ++ short x.1.1)) (then_at name_at (then_at long_at short_at)) (λ x. IsName x.0 × (IsLong x.1.0 × IsShort x.1.1)) longs name_long_short

links : Format (λ (x : ℕ × (ℕ × List ℕ)). long x.0 ++ (long x.1.0 ++ text x.1.1)) (then_at long_at (then_at long_at name_at)) (λ x. IsLong x.0 × (IsLong x.1.0 × IsName x.1.1))
links = both long long_at IsLong (λ x. long x.0 ++ text x.1) (then_at long_at name_at) (λ x. IsLong x.0 × IsName x.1) longs long_name

name_long_name : Format (λ (x : List ℕ × (ℕ × List ℕ)). text x.0 ++ (long x.1.0 ++ text x.1.1)) (then_at name_at (then_at long_at name_at)) (λ x. IsName x.0 × (IsLong x.1.0 × IsName x.1.1))
name_long_name = both text name_at IsName (λ x. long x.0 ++ text x.1) (then_at long_at name_at) (λ x. IsLong x.0 × IsName x.1) names long_name

renames : Format (λ (x : ℕ × (List ℕ × (ℕ × List ℕ))). long x.0 ++ (text x.1.0 ++ (long x.1.1.0 ++ text x.1.1.1))) (then_at long_at (then_at name_at (then_at long_at name_at))) (λ x. IsLong x.0 × (IsName x.1.0 × (IsLong x.1.1.0 × IsName x.1.1.1)))
renames = both long long_at IsLong (λ x. text x.0 ++ (long x.1.0 ++ text x.1.1)) (then_at name_at (then_at long_at name_at)) (λ x. IsName x.0 × (IsLong x.1.0 × IsName x.1.1)) longs name_long_name

open_files : Format (λ (x : ℕ × (ℕ × Bool)). (x.0 ∷ []) ++ (long x.1.0 ++ flag x.1.1)) (then_at byte_at (then_at long_at flag_at)) (λ x. IsByte x.0 × (IsLong x.1.0 × Unit {0}))
open_files = both (λ n. n ∷ []) byte_at IsByte (λ x. long x.0 ++ flag x.1) (then_at long_at flag_at) (λ x. IsLong x.0 × Unit {0}) single_bytes long_flag

releases : Format (λ (x : ℕ × (ℕ × ℕ)). long x.0 ++ (long x.1.0 ++ word x.1.1)) (then_at long_at (then_at long_at word_at)) (λ x. IsLong x.0 × (IsLong x.1.0 × IsWord x.1.1))
releases = both long long_at IsLong (λ x. long x.0 ++ word x.1) (then_at long_at word_at) (λ x. IsLong x.0 × IsWord x.1) longs long_word

settles : Format (λ (x : ℕ × (ℕ × (ℕ × ℕ))). long x.0 ++ (long x.1.0 ++ (long x.1.1.0 ++ word x.1.1.1))) (then_at long_at (then_at long_at (then_at long_at word_at))) (λ x. IsLong x.0 × (IsLong x.1.0 × (IsLong x.1.1.0 × IsWord x.1.1.1)))
settles = both long long_at IsLong (λ x. long x.0 ++ (long x.1.0 ++ word x.1.1)) (then_at long_at (then_at long_at word_at)) (λ x. IsLong x.0 × (IsLong x.1.0 × IsWord x.1.1)) longs releases

-- ---- what is read

read_1 : (bytes : List ℕ) (x : What × List ℕ) → IsBytes bytes → mkdir_at bytes ≡ Some x → IsRead 1 bytes x
unfolding mkdir_at
read_1 bytes x fits e = made_takes _ _ _ (λ x. Mkdir (ino x.0) x.1.0 (ino x.1.1)) 1 mkdirs (λ a. refl) (λ a h. h) (λ a. refl) bytes x fits e

read_2 : (bytes : List ℕ) (x : What × List ℕ) → IsBytes bytes → create_at bytes ≡ Some x → IsRead 2 bytes x
unfolding create_at
read_2 bytes x fits e = made_takes _ _ _ (λ x. Create (ino x.0) x.1.0 (ino x.1.1.0) x.1.1.1) 2 creates (λ a. refl) (λ a h. h) (λ a. refl) bytes x fits e

read_3 : (bytes : List ℕ) (x : What × List ℕ) → IsBytes bytes → link_at bytes ≡ Some x → IsRead 3 bytes x
unfolding link_at
read_3 bytes x fits e = made_takes _ _ _ (λ x. Link (ino x.0) (ino x.1.0) x.1.1) 3 links (λ a. refl) (λ a h. h) (λ a. refl) bytes x fits e

read_4 : (bytes : List ℕ) (x : What × List ℕ) → IsBytes bytes → unlink_at bytes ≡ Some x → IsRead 4 bytes x
unfolding unlink_at
read_4 bytes x fits e = made_takes _ _ _ (λ x. Unlink (ino x.0) x.1) 4 long_name (λ a. refl) (λ a h. h) (λ a. refl) bytes x fits e

read_5 : (bytes : List ℕ) (x : What × List ℕ) → IsBytes bytes → rmdir_at bytes ≡ Some x → IsRead 5 bytes x
unfolding rmdir_at
read_5 bytes x fits e = made_takes _ _ _ (λ x. Rmdir (ino x.0) x.1) 5 long_name (λ a. refl) (λ a h. h) (λ a. refl) bytes x fits e

read_6 : (bytes : List ℕ) (x : What × List ℕ) → IsBytes bytes → rename_at bytes ≡ Some x → IsRead 6 bytes x
unfolding rename_at
read_6 bytes x fits e = made_takes _ _ _ (λ x. Rename (ino x.0) x.1.0 (ino x.1.1.0) x.1.1.1) 6 renames (λ a. refl) (λ a h. h) (λ a. refl) bytes x fits e

read_7 : (bytes : List ℕ) (x : What × List ℕ) → IsBytes bytes → chmod_at bytes ≡ Some x → IsRead 7 bytes x
unfolding chmod_at
read_7 bytes x fits e = made_takes _ _ _ (λ x. Chmod (ino x.0) x.1) 7 long_short (λ a. refl) (λ a h. h) (λ a. refl) bytes x fits e

read_8 : (bytes : List ℕ) (x : What × List ℕ) → IsBytes bytes → open_file_at bytes ≡ Some x → IsRead 8 bytes x
unfolding open_file_at
read_8 bytes x fits e = made_takes _ _ _ (λ x. OpenFile x.0 (ino x.1.0) x.1.1) 8 open_files (λ a. refl) (λ a h. h) (λ a. refl) bytes x fits e

read_9 : (bytes : List ℕ) (x : What × List ℕ) → IsBytes bytes → close_file_at bytes ≡ Some x → IsRead 9 bytes x
unfolding close_file_at
read_9 bytes x fits e = made_takes _ _ _ (λ x. CloseFile x) 9 single_bytes (λ a. refl) (λ a h. h) (λ a. refl) bytes x fits e

read_11 : (bytes : List ℕ) (x : What × List ℕ) → IsBytes bytes → mksnap_at bytes ≡ Some x → IsRead 11 bytes x
unfolding mksnap_at
read_11 bytes x fits e = made_takes _ _ _ (λ x. Mksnap (id x.0) (ino x.1.0) x.1.1) 11 links (λ a. refl) (λ a h. h) (λ a. refl) bytes x fits e

read_15 : (bytes : List ℕ) (x : What × List ℕ) → IsBytes bytes → settle_at bytes ≡ Some x → IsRead 15 bytes x
unfolding settle_at
read_15 bytes x fits e = made_takes _ _ _ (λ x. Settle (ino x.0) (id x.1.0) (id x.1.1.0) x.1.1.1) 15 settles (λ a. refl) (λ a h. h) (λ a. refl) bytes x fits e

read_16 : (bytes : List ℕ) (x : What × List ℕ) → IsBytes bytes → release_at bytes ≡ Some x → IsRead 16 bytes x
unfolding release_at
read_16 bytes x fits e = made_takes _ _ _ (λ x. Release (ino x.0) (id x.1.0) x.1.1) 16 releases (λ a. refl) (λ a h. h) (λ a. refl) bytes x fits e

-- the entries of one number
record IsOne (kind n : ℕ) (what : What) : Type 0 where
  fields : fields_of what ≡ long n
  within : IsLong n → IsWhat what
  kind_is : kind_of what ≡ kind

made_one : (kind k n : ℕ) (made what : What) → eqb kind k ≡ true → Some made ≡ Some what → IsOne k n made → IsOne kind n what
made_one kind k n made what e is one =
    let kinds : k ≡ kind = sym (eqb-true kind k e) in
    let same : made ≡ what = some_is made what is in
    subst (IsOne kind n) same (subst (λ (i : ℕ). IsOne i n made) kinds one)

numbered_is : (kind n : ℕ) (what : What) → numbered kind n ≡ Some what → IsOne kind n what
numbered_is kind n what e =
    elim (chosen (eqb kind 10) _ _ _ e) [
      | inl h ↦ made_one kind 10 n (PrepareCreate (id n)) what h.0 h.1 (record { fields = refl; within = λ i. i; kind_is = refl })
      | inr h ↦ elim (chosen (eqb kind 12) _ _ _ h.1) [
        | inl h ↦ made_one kind 12 n (PrepareDestroy (id n)) what h.0 h.1 (record { fields = refl; within = λ i. i; kind_is = refl })
        | inr h ↦ elim (chosen (eqb kind 13) _ _ _ h.1) [
          | inl h ↦ made_one kind 13 n (Rmsnap (id n)) what h.0 h.1 (record { fields = refl; within = λ i. i; kind_is = refl })
          | inr h ↦ elim (chosen (eqb kind 14) _ _ _ h.1) [
            | inl h ↦ made_one kind 14 n (Rollback (id n)) what h.0 h.1 (record { fields = refl; within = λ i. i; kind_is = refl })
            | inr h ↦ elim (chosen (eqb kind 17) _ _ _ h.1) [
              | inl h ↦ made_one kind 17 n (Trim (id n)) what h.0 h.1 (record { fields = refl; within = λ i. i; kind_is = refl })
              | inr h ↦ elim (chosen (eqb kind 18) _ _ _ h.1) [
                | inl h ↦ made_one kind 18 n (Purgedone (id n)) what h.0 h.1 (record { fields = refl; within = λ i. i; kind_is = refl })
                | inr h ↦ elim (chosen (eqb kind 19) _ _ _ h.1) [
                  | inl h ↦ made_one kind 19 n (Deadfile (ino n)) what h.0 h.1 (record { fields = refl; within = λ i. i; kind_is = refl })
                  | inr h ↦ elim (chosen (eqb kind 20) _ _ _ h.1) [
                    | inl h ↦ made_one kind 20 n (Barrier n) what h.0 h.1 (record { fields = refl; within = λ i. i; kind_is = refl })
                    | inr h ↦ absurd (cc (h.1))
                  ]
                ]
              ]
            ]
          ]
        ]
      ]
    ]

one_takes : (kind : ℕ) (bytes : List ℕ) (x : What × List ℕ) → IsBytes bytes → one_at kind bytes ≡ Some x → IsRead kind bytes x
unfolding one_at
one_takes kind bytes x fits e =
    let a = bind_some (long_at bytes) (λ number. numbered kind number.0 >>= λ what. Some (what, number.1)) x e in
    let b = bind_some (numbered kind a.0.0) (λ what. Some (what, a.0.1)) x a.2 in
    let t = longs.takes bytes a.0 fits a.1 in
    let one = numbered_is kind a.0.0 b.0 b.1 in
    subst (IsRead kind bytes) (some_is (b.0, a.0.1) x b.2) (subst (λ (l : List ℕ). Takes bytes l a.0.1) (sym one.fields) t.0, (one.within t.1, one.kind_is))

at_kind : (kind k : ℕ) (bytes : List ℕ) (x : What × List ℕ) → eqb kind k ≡ true → IsRead k bytes x → IsRead kind bytes x
at_kind kind k bytes x e read =
    let kinds : k ≡ kind = sym (eqb-true kind k e) in
    subst (λ (i : ℕ). IsRead i bytes x) kinds read

what_takes : (kind : ℕ) (bytes : List ℕ) (x : What × List ℕ) → IsBytes bytes → what_at kind bytes ≡ Some x → IsRead kind bytes x
what_takes kind bytes x fits e =
    elim (chosen (eqb kind 1) _ _ _ e) [
      | inl h ↦ at_kind kind 1 bytes x h.0 (read_1 bytes x fits h.1)
      | inr h ↦ elim (chosen (eqb kind 2) _ _ _ h.1) [
        | inl h ↦ at_kind kind 2 bytes x h.0 (read_2 bytes x fits h.1)
        | inr h ↦ elim (chosen (eqb kind 3) _ _ _ h.1) [
          | inl h ↦ at_kind kind 3 bytes x h.0 (read_3 bytes x fits h.1)
          | inr h ↦ elim (chosen (eqb kind 4) _ _ _ h.1) [
            | inl h ↦ at_kind kind 4 bytes x h.0 (read_4 bytes x fits h.1)
            | inr h ↦ elim (chosen (eqb kind 5) _ _ _ h.1) [
              | inl h ↦ at_kind kind 5 bytes x h.0 (read_5 bytes x fits h.1)
              | inr h ↦ elim (chosen (eqb kind 6) _ _ _ h.1) [
                | inl h ↦ at_kind kind 6 bytes x h.0 (read_6 bytes x fits h.1)
                | inr h ↦ elim (chosen (eqb kind 7) _ _ _ h.1) [
                  | inl h ↦ at_kind kind 7 bytes x h.0 (read_7 bytes x fits h.1)
                  | inr h ↦ elim (chosen (eqb kind 8) _ _ _ h.1) [
                    | inl h ↦ at_kind kind 8 bytes x h.0 (read_8 bytes x fits h.1)
                    | inr h ↦ elim (chosen (eqb kind 9) _ _ _ h.1) [
                      | inl h ↦ at_kind kind 9 bytes x h.0 (read_9 bytes x fits h.1)
                      | inr h ↦ elim (chosen (eqb kind 11) _ _ _ h.1) [
                        | inl h ↦ at_kind kind 11 bytes x h.0 (read_11 bytes x fits h.1)
                        | inr h ↦ elim (chosen (eqb kind 15) _ _ _ h.1) [
                          | inl h ↦ at_kind kind 15 bytes x h.0 (read_15 bytes x fits h.1)
                          | inr h ↦ elim (chosen (eqb kind 16) _ _ _ h.1) [
                            | inl h ↦ at_kind kind 16 bytes x h.0 (read_16 bytes x fits h.1)
                            | inr h ↦ one_takes kind bytes x fits h.1
                          ]
                        ]
                      ]
                    ]
                  ]
                ]
              ]
            ]
          ]
        ]
      ]
    ]

-- ---- what is read again

what_again : (what : What) (rest : List ℕ) → IsWhat what → what_at (kind_of what) (fields_of what ++ rest) ≡ Some (what, rest)
unfolding mkdir_at create_at link_at unlink_at rmdir_at rename_at chmod_at open_file_at close_file_at mksnap_at settle_at release_at one_at
what_again (Mkdir dir name inode) rest h = made_again _ _ _ (λ x. Mkdir (ino x.0) x.1.0 (ino x.1.1)) mkdirs (dir.0, (name, inode.0)) rest h
what_again (Create dir name inode mode) rest h = made_again _ _ _ (λ x. Create (ino x.0) x.1.0 (ino x.1.1.0) x.1.1.1) creates (dir.0, (name, (inode.0, mode))) rest h
what_again (Link inode dir name) rest h = made_again _ _ _ (λ x. Link (ino x.0) (ino x.1.0) x.1.1) links (inode.0, (dir.0, name)) rest h
what_again (Unlink dir name) rest h = made_again _ _ _ (λ x. Unlink (ino x.0) x.1) long_name (dir.0, name) rest h
what_again (Rmdir dir name) rest h = made_again _ _ _ (λ x. Rmdir (ino x.0) x.1) long_name (dir.0, name) rest h
what_again (Rename dir name to_dir to_name) rest h = made_again _ _ _ (λ x. Rename (ino x.0) x.1.0 (ino x.1.1.0) x.1.1.1) renames (dir.0, (name, (to_dir.0, to_name))) rest h
what_again (Chmod inode mode) rest h = made_again _ _ _ (λ x. Chmod (ino x.0) x.1) long_short (inode.0, mode) rest h
what_again (OpenFile handle inode writable) rest h = made_again _ _ _ (λ x. OpenFile x.0 (ino x.1.0) x.1.1) open_files (handle, (inode.0, writable)) rest h
what_again (CloseFile handle) rest h = refl
what_again (PrepareCreate s) rest h = rw (longs.again s.0 rest h) refl
what_again (Mksnap s dir name) rest h = made_again _ _ _ (λ x. Mksnap (id x.0) (ino x.1.0) x.1.1) links (s.0, (dir.0, name)) rest h
what_again (PrepareDestroy s) rest h = rw (longs.again s.0 rest h) refl
what_again (Rmsnap s) rest h = rw (longs.again s.0 rest h) refl
what_again (Rollback s) rest h = rw (longs.again s.0 rest h) refl
what_again (Settle inode follows upto size) rest h = made_again _ _ _ (λ x. Settle (ino x.0) (id x.1.0) (id x.1.1.0) x.1.1.1) settles (inode.0, (follows.0, (upto.0, size))) rest h
what_again (Release inode follows size) rest h = made_again _ _ _ (λ x. Release (ino x.0) (id x.1.0) x.1.1) releases (inode.0, (follows.0, size)) rest h
what_again (Trim s) rest h = rw (longs.again s.0 rest h) refl
what_again (Purgedone s) rest h = rw (longs.again s.0 rest h) refl
what_again (Deadfile inode) rest h = rw (longs.again inode.0 rest h) refl
what_again (Barrier number) rest h = rw (longs.again number rest h) refl

-- ---- entries

pub entry_takes : (bytes : List ℕ) (x : Entry × List ℕ) → IsBytes bytes → entry_at bytes ≡ Some x → Takes bytes (bytes_of x.0) x.1 × IsEntry x.0
unfolding entry_at
entry_takes bytes x fits e =
    let a = bind_some (byte_at bytes) (λ kind. byte_at kind.1 >>= λ client. long_at client.1 >>= λ number. what_at kind.0 number.1 >>= λ what. Some (record { client = client.0; number = number.0; what = what.0 }, what.1)) x e in
    let b = bind_some (byte_at a.0.1) (λ client. long_at client.1 >>= λ number. what_at a.0.0 number.1 >>= λ what. Some (record { client = client.0; number = number.0; what = what.0 }, what.1)) x a.2 in
    let c = bind_some (long_at b.0.1) (λ number. what_at a.0.0 number.1 >>= λ what. Some (record { client = b.0.0; number = number.0; what = what.0 }, what.1)) x b.2 in
    let d = bind_some (what_at a.0.0 c.0.1) (λ what. Some (record { client = b.0.0; number = c.0.0; what = what.0 }, what.1)) x c.2 in
    let t0 = single_bytes.takes bytes a.0 fits a.1 in
    let t1 = single_bytes.takes a.0.1 b.0 t0.0.rest_fits b.1 in
    let t2 = longs.takes b.0.1 c.0 t1.0.rest_fits c.1 in
    let t3 = what_takes a.0.0 c.0.1 d.0 t2.0.rest_fits d.1 in
    let e23 = Takes-then b.0.1 (long c.0.0) c.0.1 (fields_of d.0.0) d.0.1 t2.0 t3.0 in
    let e13 = Takes-then a.0.1 (b.0.0 ∷ []) b.0.1 (long c.0.0 ++ fields_of d.0.0) d.0.1 t1.0 e23 in
    let e03 = Takes-then bytes (a.0.0 ∷ []) a.0.1 (b.0.0 ∷ long c.0.0 ++ fields_of d.0.0) d.0.1 t0.0 e13 in
    let whole : Takes bytes (kind_of d.0.0 ∷ b.0.0 ∷ long c.0.0 ++ fields_of d.0.0) d.0.1 = subst (λ (k : ℕ). Takes bytes (k ∷ b.0.0 ∷ long c.0.0 ++ fields_of d.0.0) d.0.1) (sym t3.1.1) e03 in
    let made : Entry × List ℕ = (record { client = b.0.0; number = c.0.0; what = d.0.0 }, d.0.1) in
    subst (λ (y : Entry × List ℕ). Takes bytes (bytes_of y.0) y.1 × IsEntry y.0) (some_is made x d.2) (whole, record { client = t1.1; number = t2.1; what = t3.1.0 })

pub entry_again : (entry : Entry) (rest : List ℕ) → IsEntry entry → entry_at (bytes_of entry ++ rest) ≡ Some (entry, rest)
unfolding entry_at
entry_again entry rest h =
    let regrouped : bytes_of entry ++ rest ≡ kind_of entry.what ∷ entry.client ∷ (long entry.number ++ (fields_of entry.what ++ rest)) = ap (λ (l : List ℕ). kind_of entry.what ∷ entry.client ∷ l) (append_assoc (long entry.number) (fields_of entry.what) rest) in
    ap entry_at regrouped ∙ rw (longs.again entry.number (fields_of entry.what ++ rest) h.number, what_again entry.what rest h.what) refl
