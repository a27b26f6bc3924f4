-- Lists of entries, read one entry after the other.
use Rattle.std.proofs.Common.{◌≡◌, ◌<◌, false, eqb, ◌+◌, ℕ, length, length-append, arith, Err, List, [], ◌∷◌, ◌++◌, Some, None, refl, sym, ap, subst, ◌∙◌, append_assoc}
use Rattle.std.proofs.lemmas.List.{append-nil}
use Rattle.std.proofs.lemmas.List.Concat.{flat_map-cons}
use Rattle.std.proofs.lemmas.Grind.{flat_map-append}
use Rattle.plain_types.specs.declared.entry.Entry.{Entry}
use Rattle.journal_format.specs.Bytes.{bytes_of, bytes_of_all, IsEntry, AreEntries}
use Rattle.journal_format.specs.declared.unread.Unread.{Unread}
use Rattle.journal_format.specs.declared.unread.Unread.TheVariants as why
use Rattle.journal_format.specs.Reading.{Fails, Reads, entry_at}
use Rattle.journal_format.proofs.Formats.{some_is, IsBytes, Takes, Takes-then}
use Rattle.journal_format.proofs.Whats.{entry_takes, entry_again}

pub bytes_of_all-cons : (entry : Entry) (entries : List Entry) → bytes_of_all (entry ∷ entries) ≡ bytes_of entry ++ bytes_of_all entries
bytes_of_all-cons entry entries = flat_map-cons bytes_of entry entries

-- where bytes begin with an entry's, a list with these bytes begins with the entry
first_is : (entry : Entry) (rest : List ℕ) (others : List Entry) → IsEntry entry → AreEntries others → bytes_of entry ++ rest ≡ bytes_of_all others
    → (more : List Entry) × (others ≡ entry ∷ more) × (rest ≡ bytes_of_all more) × AreEntries more
first_is entry rest [] fits all e = absurd cc
first_is entry rest (other ∷ others) fits all e =
    let one : entry_at (bytes_of entry ++ rest) ≡ Some (entry, rest) = entry_again entry rest fits in
    let two : entry_at (bytes_of other ++ bytes_of_all others) ≡ Some (other, bytes_of_all others) = entry_again other (bytes_of_all others) all.0 in
    let pairs : (entry, rest) ≡ (other, bytes_of_all others) = some_is (entry, rest) (other, bytes_of_all others) (sym one ∙ ap entry_at (e ∙ bytes_of_all-cons other others) ∙ two) in
    (others, ap (λ (p : Entry × List ℕ). p.0 ∷ others) (sym pairs), ap (λ (p : Entry × List ℕ). p.1) pairs, all.1)

-- where bytes begin with these entries', a list with these bytes begins with them
pub front_is : (read : List Entry) (rest : List ℕ) (others : List Entry) → AreEntries read → AreEntries others → bytes_of_all read ++ rest ≡ bytes_of_all others
    → (more : List Entry) × (others ≡ read ++ more) × (rest ≡ bytes_of_all more) × AreEntries more
front_is [] rest others fits all e = (others, refl, e, all)
front_is (entry ∷ read) rest others fits all e =
    let regrouped : bytes_of entry ++ (bytes_of_all read ++ rest) ≡ bytes_of_all others = sym (append_assoc (bytes_of entry) (bytes_of_all read) rest) ∙ ap (λ (l : List ℕ). l ++ rest) (sym (bytes_of_all-cons entry read)) ∙ e in
    let first = first_is entry (bytes_of_all read ++ rest) others fits.0 all regrouped in
    let then = front_is read rest first.0 fits.1 first.3 first.2 in
    (then.0, first.1 ∙ ap (λ (l : List Entry). entry ∷ l) then.1, then.2, then.3)

none_is : (more : List Entry) → [] ≡ bytes_of_all more → more ≡ []
none_is [] e = refl
none_is (entry ∷ more) e = absurd cc

-- lists with the same bytes are the same
pub same_is : (a b : List Entry) → AreEntries a → AreEntries b → bytes_of_all a ≡ bytes_of_all b → a ≡ b
same_is a b within others e =
    let front = front_is a [] b within others (append-nil (bytes_of_all a) ∙ e) in
    sym (front.1 ∙ ap (λ (l : List Entry). a ++ l) (none_is front.0 front.2) ∙ append-nil a)

-- an entry takes bytes
pub takes_some : (rest : List ℕ) (entry : Entry) (after : List ℕ) → IsBytes rest → entry_at rest ≡ Some (entry, after) → length after < length rest
takes_some rest entry after fits e =
    let t = entry_takes rest (entry, after) fits e in
    let long : length rest ≡ length (bytes_of entry) + length after = ap length t.0.parts ∙ length-append (bytes_of entry) after in
    omega (arith, long)

all_push : (entries : List Entry) (entry : Entry) → AreEntries entries → IsEntry entry → AreEntries (entries ++ entry ∷ [])
all_push [] entry within one = (one, tt)
all_push (first ∷ entries) entry within one = (within.0, all_push entries entry within.1 one)

-- the entries so far, and what is left
pub record SoFar (bytes : List ℕ) (entries : List Entry) (rest : List ℕ) : Type 0 where
  pub read : Takes bytes (bytes_of_all entries) rest
  pub within : AreEntries entries

pub one_more : (bytes : List ℕ) (entries : List Entry) (rest : List ℕ) (entry : Entry) (after : List ℕ) → SoFar bytes entries rest → entry_at rest ≡ Some (entry, after) → SoFar bytes (entries ++ entry ∷ []) after
one_more bytes entries rest entry after so_far e =
    let t = entry_takes rest (entry, after) so_far.read.rest_fits e in
    let single : bytes_of_all (entry ∷ []) ≡ bytes_of entry = bytes_of_all-cons entry [] ∙ append-nil (bytes_of entry) in
    let same : bytes_of_all entries ++ bytes_of entry ≡ bytes_of_all (entries ++ entry ∷ []) = ap (λ (l : List ℕ). bytes_of_all entries ++ l) (sym single) ∙ sym (flat_map-append bytes_of entries (entry ∷ [])) in
    record {
      read = subst (λ (l : List ℕ). Takes bytes l after) same (Takes-then bytes (bytes_of_all entries) rest (bytes_of entry) after so_far.read t.0);
      within = all_push entries entry so_far.within t.1;
    }

unread : (bytes : List ℕ) (entries : List Entry) (rest : List ℕ) → SoFar bytes entries rest → 0 < length rest → entry_at rest ≡ None → (others : List Entry) → AreEntries others → bytes ≡ bytes_of_all others → ⊥
unread bytes entries rest so_far some none others within e =
    let front = front_is entries rest others so_far.within within (sym so_far.read.parts ∙ e) in
    left front.0 front.2 front.3
  where
    left : (more : List Entry) → rest ≡ bytes_of_all more → AreEntries more → ⊥
    left [] is all = let long : length rest ≡ 0 = ap length is in absurd (omega (arith, long, some))
    left (entry ∷ more) is all =
        let read : entry_at rest ≡ Some (entry, bytes_of_all more) = ap entry_at (is ∙ bytes_of_all-cons entry more) ∙ entry_again entry (bytes_of_all more) all.0 in
        absurd (cc (read, none))

not_empty : (rest : List ℕ) → false ≡ eqb (length rest) 0 → 0 < length rest
not_empty [] e = absurd cc
not_empty (byte ∷ rest) e = omega arith

-- what is left begins with no entry, or there is no memory
pub ends : (e : Unread) (bytes : List ℕ) (entries : List Entry) (rest : List ℕ) → SoFar bytes entries rest → false ≡ eqb (length rest) 0 → Fails e (entry_at rest) → Reads bytes (Err e)
ends why.Malformed bytes entries rest so_far some fails = unread bytes entries rest so_far (not_empty rest some) fails
ends why.NoMemory bytes entries rest so_far some fails = tt
