-- Why the candidate of a wish may not wish for what it names.
use Rattle.std.proofs.Common.{◌≡◌, Bool, ◌||◌, true, false, List, None, Some, refl}
use Rattle.std.specs.Option.{option_map_or}
use Rattle.admit_core.specs.declared.refusal.Reason.TheVariants.{Unknown, Unranked, NoBoardingRank}
use Rattle.admit_core.specs.declared.tables.Tables.{Tables}
use Rattle.admit_core.specs.declared.tables.WishRow.{WishRow}
use Rattle.admit_core.specs.Lists.{is_among}
use Rattle.admit_core.specs.Relations.{is_boarded, is_ranked, programme_ids, school_ids}
use Rattle.dossier_check.specs.WishTests.{may_not_wish}

module _ (t : Tables) (all_ranked : Bool) (before : List WishRow) (row : WishRow) where
  pub no_programme : is_among row.programme (programme_ids t) ≡ false
      → Some (Unknown 3) ≡ may_not_wish all_ranked t before row
  no_programme programme = rw programme refl

  pub no_school : is_among row.programme (programme_ids t) ≡ true
      → option_map_or (λ h. is_among h (school_ids t)) row.school true ≡ false
      → Some (Unknown 4) ≡ may_not_wish all_ranked t before row
  no_school programme school = rw (programme, school) refl

  pub not_ranked : is_among row.programme (programme_ids t) ≡ true
      → option_map_or (λ h. is_among h (school_ids t)) row.school true ≡ true
      → (all_ranked || is_ranked t row.programme row.candidate) ≡ false
      → Some Unranked ≡ may_not_wish all_ranked t before row
  not_ranked programme school ranked = rw (programme, school, ranked) refl

  pub not_boarded : is_among row.programme (programme_ids t) ≡ true
      → option_map_or (λ h. is_among h (school_ids t)) row.school true ≡ true
      → (all_ranked || is_ranked t row.programme row.candidate) ≡ true
      → option_map_or (λ h. is_boarded t h row.candidate) row.school true ≡ false
      → Some NoBoardingRank ≡ may_not_wish all_ranked t before row
  not_boarded programme school ranked boarded = rw (programme, school, ranked, boarded) refl

  pub may_wish : is_among row.programme (programme_ids t) ≡ true
      → option_map_or (λ h. is_among h (school_ids t)) row.school true ≡ true
      → (all_ranked || is_ranked t row.programme row.candidate) ≡ true
      → option_map_or (λ h. is_boarded t h row.candidate) row.school true ≡ true
      → None ≡ may_not_wish all_ranked t before row
  may_wish programme school ranked boarded = rw (programme, school, ranked, boarded) refl
