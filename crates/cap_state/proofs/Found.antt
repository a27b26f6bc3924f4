-- What a search for a client's holding of a file comes to, and what an edit there makes of the table.
use Rattle.std.proofs.Common.{◌≡◌, ℕ, ◌<◌, ◌≤◌, suc, true, false, List, ◌∷◌, length, take, drop, get_or, sym, subst, arith}
use Rattle.std.specs.List.{AllByRecursion}
use Rattle.std.proofs.Math.ListN.{drop_of_length-le}
use Rattle.std.proofs.Math.Seq.{drop-cons}
use Rattle.std.proofs.lemmas.List.{get_or_default}
use Rattle.snap_ids.specs.declared.id.Ino.{Ino}
use Rattle.cap_state.specs.Table.{Holding, is_at, stands_before, stands_behind, MayPrecede, IsTable}
use Rattle.cap_state.specs.Places.{IsPlace, IsGap}
use Rattle.cap_state.proofs.Lists.{all_weaker}
use Rattle.cap_state.proofs.Order.{else_behind, behind_behind, table_drop}

module _ (client : ℕ) (ino : Ino) (held : List Holding) (place : ℕ) (table : IsTable held) (within : place ≤ length held) (before : AllByRecursion (λ h. stands_before client ino h ≡ true) (take place held)) (rest : AllByRecursion (λ h. stands_before client ino h ≡ false) (drop place held)) where
  -- nothing stands from the place on
  pub gap_at_end : place ≡ length held → IsGap client ino held place
  gap_at_end end = record {
    within = within;
    before = before;
    behind = subst (AllByRecursion (λ h. stands_behind client ino h ≡ true)) (sym (drop_of_length-le held (omega arith))) tt;
  }

  module _ (d : Holding) (inside : place < length held) where
    -- the holding at the place is the first from there on
    abbrev x : Holding
    x = get_or held place d

    cut : drop place held ≡ x ∷ drop (suc place) held
    cut = drop-cons held place d inside

    first : stands_before client ino x ≡ false
    first = (subst (AllByRecursion (λ h. stands_before client ino h ≡ false)) cut rest).0

    -- all behind it are behind the client's
    later : AllByRecursion (λ h. stands_behind client ino h ≡ true) (drop (suc place) held)
    later =
        all_weaker (MayPrecede x) (λ h. stands_behind client ino h ≡ true) (λ k order. behind_behind client ino x k order.before first) (drop (suc place) held)
        ((subst IsTable cut (table_drop held place table)).0)

    pub found_here : is_at client ino x ≡ true → IsPlace client ino held place
    found_here is = record {
      within = inside;
      before = before;
      here = λ e. subst (λ (y : Holding). is_at client ino y ≡ true) (get_or_default held place d e inside) is;
      behind = later;
    }

    pub gap_here : is_at client ino x ≡ false → IsGap client ino held place
    gap_here off = record {
      within = within;
      before = before;
      behind = subst (AllByRecursion (λ h. stands_behind client ino h ≡ true)) (sym cut) (else_behind client ino x first off, later);
    }
