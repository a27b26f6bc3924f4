-- A holding that nobody is against is apart from all others of the table.
use Rattle.std.proofs.Common.{◌≡◌, ℕ, Bool, true, false, if◌then◌else◌, List, [], ◌∷◌, refl, arith}
use Rattle.std.specs.List.{AllByRecursion, filter, list_any}
use Rattle.std.proofs.lemmas.Bool.Decides.{nat_tests}
use Rattle.plain_types.specs.declared.message.Claim.{Claim}
use Rattle.cap_state.specs.Table.{Holding, is_of, conflicts, against, bars, IsTable, with_holding, granted, suffices, mode_of}
use Rattle.cap_state.specs.Places.{IsApart}
use Rattle.cap_state.proofs.Order.{table_with}

module _ (client : ℕ) (claim : Claim) where
  -- a holding of another file, and one that doesn't conflict
  apart_elsewhere : (h : Holding) → is_of claim.ino h ≡ false → IsApart (client, claim) h
  apart_elsewhere h is off = grind (arith, nat_tests)

  apart_by : (h : Holding) → conflicts client claim.mode h ≡ false → IsApart (client, claim) h
  apart_by h is off = grind (arith, nat_tests)

  apart_unbarred : (h : Holding) → bars client claim.mode h ≡ false → IsApart (client, claim) h
  apart_unbarred h is off = grind (arith, nat_tests)

  -- nobody is against it
  one_free : (h : Holding) (held : List Holding) (here conflict : Bool) → is_of claim.ino h ≡ here → conflicts client claim.mode h ≡ conflict → against client claim.ino claim.mode (h ∷ held) ≡ [] → (against client claim.ino claim.mode held ≡ [] → AllByRecursion (IsApart (client, claim)) held) → AllByRecursion (IsApart (client, claim)) (h ∷ held)
  one_free h held false conflict elsewhere is none more = (apart_elsewhere h elsewhere, more (rw elsewhere at none))
  one_free h held true true here is none more = absurd (let impossible : h.0 ∷ against client claim.ino claim.mode held ≡ [] = rw (here, is) at none in cc)
  one_free h held true false here is none more = (apart_by h is, more (rw (here, is) at none))

  pub apart_from_free : (held : List Holding) → against client claim.ino claim.mode held ≡ [] → AllByRecursion (IsApart (client, claim)) held
  apart_from_free [] none = tt
  apart_from_free (h ∷ held) none = one_free h held (is_of claim.ino h) (conflicts client claim.mode h) refl refl none (apart_from_free held)

  -- nothing stands in its way
  one_unbarred : (h : Holding) (held : List Holding) (here barred : Bool) → is_of claim.ino h ≡ here → bars client claim.mode h ≡ barred → list_any (bars client claim.mode) (filter (is_of claim.ino) (h ∷ held)) ≡ false → (list_any (bars client claim.mode) (filter (is_of claim.ino) held) ≡ false → AllByRecursion (IsApart (client, claim)) held) → AllByRecursion (IsApart (client, claim)) (h ∷ held)
  one_unbarred h held false barred elsewhere is none more = (apart_elsewhere h elsewhere, more (rw elsewhere at none))
  one_unbarred h held true true here is none more = absurd (let impossible : true ≡ false = rw (here, is) at none in cc)
  one_unbarred h held true false here is none more = (apart_unbarred h is, more (rw (here, is) at none))

  pub apart_from_unbarred : (held : List Holding) → list_any (bars client claim.mode) (filter (is_of claim.ino) held) ≡ false → AllByRecursion (IsApart (client, claim)) held
  apart_from_unbarred [] none = tt
  apart_from_unbarred (h ∷ held) none = one_unbarred h held (is_of claim.ino h) (bars client claim.mode h) refl refl none (apart_from_unbarred held)

  -- so a table stays one after a grant, and after a claim that is taken
  granted_by : (held : List Holding) (b : Bool) → against client claim.ino claim.mode held ≡ [] → IsTable held → IsTable (if b then held else with_holding (client, claim) held)
  granted_by held true none table = table
  granted_by held false none table = table_with (client, claim) held (apart_from_free held none) table

  pub table_granted : (held : List Holding) → against client claim.ino claim.mode held ≡ [] → IsTable held → IsTable (granted client claim held)
  table_granted held none table = granted_by held (suffices (mode_of client claim.ino held) claim.mode) none table
