-- What holds of the rows of tables without a fault, slot by slot.
use Rattle.std.proofs.Common.{◌≡◌, ℕ, ◌<◌, true, false, ◌&&◌, nat_eq, nat_lt, List, [], ◌∷◌, length, map, get_or, arith}
use Rattle.std.proofs.Common.{All, AllPairs}
use Rattle.std.specs.List.{IsDistinct}
use Rattle.std.specs.Option.{option_map_or}
use Rattle.std.proofs.lemmas.List.{get_or-map}
use Rattle.std.proofs.lemmas.Map.Keys.{IsDistinct-from_apart}
use Rattle.admit_core.proofs.Plain.{nat_eq_sym}
use Rattle.admit_core.proofs.NoFaults.{Passes}
use Rattle.admit_core.specs.declared.refusal.Reason.TheVariants.{Repeat, RankTaken, Unknown, Unranked, NoBoardingRank}
use Rattle.admit_core.specs.declared.refusal.Reason.TheVariants.{PreferenceTaken, TwoAccepted}
use Rattle.admit_core.specs.declared.tables.Tables.{Tables}
use Rattle.admit_core.specs.Lists.{is_among}
use Rattle.admit_core.specs.Faults.{repeats}
use Rattle.admit_core.specs.Relations.{group_ids, programme_ids, school_ids, wish_ids, same_wish, is_ranked, is_boarded}
use Rattle.admit_core.specs.Relations.{is_accepted, same_candidate, candidate_with, is_target}
use Rattle.dossier_check.proofs.FaultFree.{first_passes, second_passes, third_passes, apart, apart_when, all_known}
use Rattle.dossier_check.proofs.Firsts.{length-map-here}
use Rattle.dossier_check.proofs.NoFault.{HasNoFault}

-- where no id stands twice
ids_apart : {R : Type 0} (id : R → ℕ) (rows : List R) → Passes (repeats (λ row r. nat_eq (id row) (id r))) rows
    → IsDistinct nat_eq (map id rows)
ids_apart id [] fine = IsDistinct-from_apart nat_eq [] (λ i j d lt within. absurd (omega arith))
ids_apart id (first ∷ rest) fine =
    let rows = first ∷ rest in
    IsDistinct-from_apart nat_eq (map id rows) (λ i j e lt within.
    let in_rows : j < length rows = omega (arith, length-map-here id rows) in
    rw (
      get_or-map id rows i first e (omega arith),
      get_or-map id rows j first e in_rows,
      nat_eq_sym
          (id (get_or rows i first)) (id (get_or rows j first)),
    )
    (apart (λ row r. nat_eq (id row) (id r)) Repeat rows fine i j first lt in_rows))

module _ (t : Tables) (fine : HasNoFault t) where
  pub group_ids_apart : IsDistinct nat_eq (group_ids t)
  group_ids_apart = ids_apart (λ g. g.id) t.groups (first_passes fine.groups)

  pub programme_ids_apart : IsDistinct nat_eq (programme_ids t)
  programme_ids_apart = ids_apart (λ p. p.id) t.programmes (first_passes fine.programmes)

  pub school_ids_apart : IsDistinct nat_eq (school_ids t)
  school_ids_apart = ids_apart (λ h. h.id) t.schools (first_passes fine.schools)

  pub wish_ids_apart : IsDistinct nat_eq (wish_ids t)
  wish_ids_apart = ids_apart (λ w. w.id) t.wishes fine.wishes.ids

  pub wish_ids_differ : AllPairs (λ r row. nat_eq row.id r.id ≡ false) t.wishes
  wish_ids_differ = apart (λ row r. nat_eq row.id r.id) Repeat t.wishes fine.wishes.ids

  pub groups_known : All (λ p. is_among p.group (group_ids t) ≡ true) t.programmes
  groups_known = all_known (λ p. is_among p.group (group_ids t)) (Unknown 2) t.programmes
      (second_passes fine.programmes)

  pub board_ranks_apart : AllPairs (λ r row. (nat_eq row.school r.school && nat_eq row.rank r.rank) ≡ false) t.boarding
  board_ranks_apart =
      apart (λ row r. nat_eq row.school r.school && nat_eq row.rank r.rank) RankTaken t.boarding
      (third_passes fine.boarding)

  pub same_wish_apart : AllPairs (λ r row. same_wish row r ≡ false) t.wishes
  same_wish_apart = apart same_wish Repeat t.wishes fine.wishes.once

  pub programmes_known : All (λ w. is_among w.programme (programme_ids t) ≡ true) t.wishes
  programmes_known = all_known (λ w. is_among w.programme (programme_ids t)) (Unknown 3) t.wishes fine.wishes.programmes

  pub schools_known : All (λ w. option_map_or (λ h. is_among h (school_ids t)) w.school true ≡ true) t.wishes
  schools_known =
      all_known (λ w. option_map_or (λ h. is_among h (school_ids t)) w.school true)
      (Unknown 4) t.wishes fine.wishes.schools

  pub all_ranked : All (λ w. is_ranked t w.programme w.candidate ≡ true) t.wishes
  all_ranked = all_known (λ w. is_ranked t w.programme w.candidate) Unranked t.wishes fine.wishes.ranked

  pub all_boarded : All (λ w. option_map_or (λ h. is_boarded t h w.candidate) w.school true ≡ true) t.wishes
  all_boarded =
      all_known (λ w. option_map_or (λ h. is_boarded t h w.candidate) w.school true) NoBoardingRank t.wishes
      fine.wishes.boarded

  pub preferences_apart : AllPairs (λ r row. nat_lt 0 row.preference ≡ true
      → (nat_eq row.candidate r.candidate && nat_eq row.preference r.preference) ≡ false) t.wishes
  preferences_apart =
      apart_when (λ row r. nat_eq row.candidate r.candidate && nat_eq row.preference r.preference) PreferenceTaken
      t.wishes (λ row. nat_lt 0 row.preference)
      fine.wishes.preferences

  pub accepted_apart : AllPairs (λ r row. is_accepted row.status ≡ true
      → (is_accepted r.status && same_candidate (candidate_with t row.wish) (candidate_with t r.wish)) ≡ false) t.state
  accepted_apart =
      apart_when (λ row r. is_accepted r.status && same_candidate (candidate_with t row.wish) (candidate_with t r.wish))
      TwoAccepted t.state (λ row. is_accepted row.status)
      (third_passes fine.state)

  pub ceilings_apart : AllPairs (λ r row. (nat_eq row.day r.day && nat_eq row.school r.school) ≡ false) t.ceilings
  ceilings_apart = apart (λ row r. nat_eq row.day r.day && nat_eq row.school r.school) Repeat t.ceilings
      (first_passes fine.ceilings)

  pub ceiling_schools_known : All (λ c. is_among c.school (school_ids t) ≡ true) t.ceilings
  ceiling_schools_known = all_known (λ c. is_among c.school (school_ids t)) (Unknown 2) t.ceilings
      (second_passes fine.ceilings)

  pub targets_known : All (λ a. is_target t a.kind a.target ≡ true) t.answers
  targets_known = all_known (λ a. is_target t a.kind a.target) (Unknown 3) t.answers (first_passes fine.answers)
