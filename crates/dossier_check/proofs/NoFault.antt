-- Tables without a fault, slot by slot.
use Rattle.std.proofs.Common.{◌≡◌, true, nat_eq, Option, None}
use Rattle.std.specs.Option.{option_or, option_map_or}
use Rattle.admit_core.proofs.Plain.{none_or}
use Rattle.admit_core.proofs.NoFaults.{Passes, PassesAll}
use Rattle.admit_core.specs.declared.slot.Slot.TheVariants as slots
use Rattle.admit_core.specs.declared.refusal.Refusal.{Refusal}
use Rattle.admit_core.specs.declared.tables.Tables.{Tables}
use Rattle.admit_core.specs.Faults.{first_in, repeats, names_unknown}
use Rattle.admit_core.specs.Lists.{is_among}
use Rattle.admit_core.specs.Relations.{group_tests, programme_tests, school_tests, ranking_tests, boarding_tests}
use Rattle.admit_core.specs.Relations.{wish_tests, state_tests, ceiling_tests, answer_tests, first_fault}
use Rattle.admit_core.specs.Relations.{programme_ids, school_ids, same_wish, unranked, no_boarding_rank}
use Rattle.admit_core.specs.Relations.{preference_mixed, preference_taken}
use Rattle.dossier_check.proofs.FaultFree.{first_passes, rest_pass, pass_all}

-- each test of the wishes, none of which stands at a row
pub record WishesPass (t : Tables) : Type 0 where
  pub ids : Passes (repeats (λ row r. nat_eq row.id r.id)) t.wishes
  pub once : Passes (repeats same_wish) t.wishes
  pub programmes : Passes (names_unknown 3 (λ row. is_among row.programme (programme_ids t))) t.wishes
  pub schools : Passes (names_unknown 4 (λ row. option_map_or (λ h. is_among h (school_ids t)) row.school true))
      t.wishes
  pub ranked : Passes (unranked t) t.wishes
  pub boarded : Passes (no_boarding_rank t) t.wishes
  pub like_first : Passes preference_mixed t.wishes
  pub preferences : Passes preference_taken t.wishes

wishes_pass : (t : Tables) → PassesAll (wish_tests t) t.wishes → WishesPass t
wishes_pass t from_ids =
    let from_once = rest_pass from_ids in
    let from_programmes = rest_pass from_once in
    let from_schools = rest_pass from_programmes in
    let from_ranked = rest_pass from_schools in
    let from_boarded = rest_pass from_ranked in
    let from_like_first = rest_pass from_boarded in
    let from_preferences = rest_pass from_like_first in
    record {
      ids = first_passes from_ids;
      once = first_passes from_once;
      programmes = first_passes from_programmes;
      schools = first_passes from_schools;
      ranked = first_passes from_ranked;
      boarded = first_passes from_boarded;
      like_first = first_passes from_like_first;
      preferences = first_passes from_preferences;
    }

-- no test of a slot stands at its rows
pub record HasNoFault (t : Tables) : Type 0 where
  pub groups : PassesAll group_tests t.groups
  pub programmes : PassesAll (programme_tests t) t.programmes
  pub schools : PassesAll school_tests t.schools
  pub rankings : PassesAll (ranking_tests t) t.rankings
  pub boarding : PassesAll (boarding_tests t) t.boarding
  pub wishes : WishesPass t
  pub state : PassesAll (state_tests t) t.state
  pub ceilings : PassesAll (ceiling_tests t) t.ceilings
  pub answers : PassesAll (answer_tests t) t.answers

pub no_fault : (t : Tables) → first_fault t ≡ None → HasNoFault t
no_fault t none =
    let groups : Option Refusal = first_in slots.Groups group_tests t.groups in
    let programmes : Option Refusal = first_in slots.Programmes (programme_tests t) t.programmes in
    let schools : Option Refusal = first_in slots.Schools school_tests t.schools in
    let rankings : Option Refusal = first_in slots.Rankings (ranking_tests t) t.rankings in
    let boarding : Option Refusal = first_in slots.Boarding (boarding_tests t) t.boarding in
    let wishes : Option Refusal = first_in slots.Wishes (wish_tests t) t.wishes in
    let state : Option Refusal = first_in slots.State (state_tests t) t.state in
    let ceilings : Option Refusal = first_in slots.Ceilings (ceiling_tests t) t.ceilings in
    let answers : Option Refusal = first_in slots.Answers (answer_tests t) t.answers in
    let after_ceilings = option_or answers None in
    let after_state = option_or ceilings after_ceilings in
    let after_wishes = option_or state after_state in
    let after_boarding = option_or wishes after_wishes in
    let after_rankings = option_or boarding after_boarding in
    let after_schools = option_or rankings after_rankings in
    let after_programmes = option_or schools after_schools in
    let after_groups = option_or programmes after_programmes in
    let p1 = none_or groups after_groups none in
    let p2 = none_or programmes after_programmes p1.1 in
    let p3 = none_or schools after_schools p2.1 in
    let p4 = none_or rankings after_rankings p3.1 in
    let p5 = none_or boarding after_boarding p4.1 in
    let p6 = none_or wishes after_wishes p5.1 in
    let p7 = none_or state after_state p6.1 in
    let p8 = none_or ceilings after_ceilings p7.1 in
    let p9 = none_or answers None p8.1 in
    record {
      groups = pass_all slots.Groups group_tests t.groups p1.0;
      programmes = pass_all slots.Programmes (programme_tests t) t.programmes p2.0;
      schools = pass_all slots.Schools school_tests t.schools p3.0;
      rankings = pass_all slots.Rankings (ranking_tests t) t.rankings p4.0;
      boarding = pass_all slots.Boarding (boarding_tests t) t.boarding p5.0;
      wishes = wishes_pass t (pass_all slots.Wishes (wish_tests t) t.wishes p6.0);
      state = pass_all slots.State (state_tests t) t.state p7.0;
      ceilings = pass_all slots.Ceilings (ceiling_tests t) t.ceilings p8.0;
      answers = pass_all slots.Answers (answer_tests t) t.answers p9.0;
    }
