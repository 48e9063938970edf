-- The witnesses of the laws of passes, evenings and chains, by computation.
use Rattle.std.proofs.Common.{List, [], ◌∷◌, refl, lit≤, lit<}
use Rattle.admit_core.specs.declared.ranking.CallOrder.{CallOrder}
use Rattle.admit_core.specs.Boarding.{boarding}
use Rattle.admit_core.specs.CallOrder.{AreCallOrders}
use Rattle.admit_core.specs.Days.{Passes, first_evening}
use Rattle.admit_core.specs.Falls.{IsGreatest}
use Rattle.admit_core.specs.State.{State}
use Rattle.admit_core.specs.WorkedChains.{one_pass, true_line}
use Rattle.admit_core.specs.WorkedDays.{fall, quiet, two_candidates}
use Rattle.admit_core.specs.WorkedRows.{first_marks, first_pass, greatest_bar, greatest_bar_evening}
use Rattle.admit_core.specs.WorkedRows.{greatest_bar_orders, realistic, realistic_order}
use Rattle.admit_core.proofs.ChainLaws.{chains_tell_the_day}
use Rattle.admit_core.proofs.ChainRows.{valid_chain_holds}
use Rattle.admit_core.proofs.Evenings.{seats_are_filled}
use Rattle.admit_core.proofs.Rows.{passes_with}
use Rattle.fairness.proofs.Shown.{called}
use Rattle.round.proofs.OfferLaws.{lowered_for_beds, offers_fit_beds, offers_fit_seats}
use Rattle.law_cases.specs.Days.{ChainsTellTheDayWitness, ChangesAreFewWitness, EveningsAreClosedWitness}
use Rattle.law_cases.specs.Days.{FallsAreFewWitness, FallsSpendTheRestWitness, FitsBedsWitness}
use Rattle.law_cases.specs.Days.{GreatestBarsAreLoweredForBedsWitness, IsFilledWitness, LowersForBedsWitness}
use Rattle.law_cases.specs.Days.{OffersFitBedsWitness, OffersFitSeatsWitness, SeatsAreFilledWitness, held_bed}
use Rattle.law_cases.specs.Days.{held_bed_evening, realistic_passes}
use Rattle.law_cases.specs.Fairness.{two_plain_orders, two_rankings}
use Rattle.law_cases.proofs.BarCases.{greatest_of}
use Rattle.law_cases.proofs.Valid.{valid_by}

pub held_called : AreCallOrders held_bed.groups two_candidates
held_called = (called 2 _ _ refl (refl, (refl, tt)) (λ k. refl), tt)

pub held_passes : Passes two_candidates (9 ∷ []) 1 1 (first_evening held_bed)
    (quiet (1 ∷ []) (fall 0 9 1 (1 ∷ []) ∷ []) [] ∷ []) held_bed_evening
held_passes = (
  record {
    pass = passes_with _ two_candidates (9 ∷ []) _
        (record { are_falls = (refl, refl, tt); settled = refl }) refl refl;
    autos = refl;
    freed = refl;
  },
  refl,
  refl,
)

pub seats_are_filled_here : SeatsAreFilledWitness
seats_are_filled_here =
    let valid = valid_by held_bed refl in (
      valid,
      held_called,
      held_passes,
      seats_are_filled two_candidates (9 ∷ []) 1 1 (first_evening held_bed)
          (quiet (1 ∷ []) (fall 0 9 1 (1 ∷ []) ∷ []) [] ∷ []) held_bed_evening valid held_called held_passes,
    )

pub is_filled : IsFilledWitness
is_filled = (refl, lit< tt, refl)

pub realistic_called : AreCallOrders realistic.groups (realistic_order ∷ [])
realistic_called = (called 4 _ _ refl (refl, (refl, (refl, (refl, tt)))) (λ k. refl), tt)

abbrev pub realistic_evening : State
realistic_evening = record { dossier = realistic; marks = first_marks }

pub realistic_holds : Passes (realistic_order ∷ []) (10 ∷ []) 1 1 (first_evening realistic) realistic_passes
    realistic_evening
realistic_holds =
    let orders : List CallOrder = realistic_order ∷ [] in (
      record {
        pass = passes_with _ orders (10 ∷ []) _ (record { are_falls = tt; settled = refl }) refl refl;
        autos = refl;
        freed = refl;
      },
      refl,
      (
        record {
          pass = passes_with _ orders (10 ∷ []) _
              (record { are_falls = (refl, refl, tt); settled = refl }) refl refl;
          autos = refl;
          freed = refl;
        },
        refl,
        refl,
      ),
    )

pub evenings_are_closed_here : EveningsAreClosedWitness
evenings_are_closed_here = (
  valid_by realistic refl,
  realistic_called,
  realistic_holds,
  greatest_of realistic_evening (realistic_order ∷ []) (10 ∷ []) [] (10 ∷ [])
      (record { are_falls = tt; settled = refl }) refl,
  refl,
)

pub chains_tell_the_day_here : ChainsTellTheDayWitness
chains_tell_the_day_here = (
  valid_chain_holds.1,
  chains_tell_the_day greatest_bar_orders (10 ∷ []) 1 greatest_bar
      (one_pass (true_line ∷ []) 4) greatest_bar_evening valid_chain_holds.1,
)

-- ---- passes
one_fell : IsGreatest (boarding two_rankings two_plain_orders (9 ∷ [])) (2 ∷ [])
one_fell = greatest_of two_rankings two_plain_orders (9 ∷ []) (0 ∷ []) (2 ∷ [])
    (record { are_falls = (refl, refl, tt); settled = refl }) refl

two_called : AreCallOrders two_rankings.dossier.groups two_plain_orders
two_called = (
  called 3 _ _ refl (refl, (refl, (refl, tt)))
      (λ k. refl),
  (called 3 _ _ refl (refl, (refl, (refl, tt))) (λ k. refl), tt),
)

pub offers_fit_seats_here : OffersFitSeatsWitness
offers_fit_seats_here =
    let valid = valid_by two_rankings.dossier refl in
    (valid, two_called, offers_fit_seats two_rankings two_plain_orders (2 ∷ []) first_pass valid two_called)

pub offers_fit_beds_here : OffersFitBedsWitness
offers_fit_beds_here =
    let valid = valid_by two_rankings.dossier refl in (
      valid,
      refl,
      one_fell.fits,
      offers_fit_beds two_rankings two_plain_orders (9 ∷ [])
          (2 ∷ []) first_pass valid refl one_fell.fits,
    )

pub fits_beds : FitsBedsWitness
fits_beds = (lit< tt, lit≤ tt)

pub lowered_for_beds_here : GreatestBarsAreLoweredForBedsWitness
lowered_for_beds_here =
    let valid = valid_by two_rankings.dossier refl in
    (valid, one_fell, lowered_for_beds two_rankings two_plain_orders (9 ∷ []) (2 ∷ []) first_pass valid one_fell)

pub lowers_for_beds : LowersForBedsWitness
lowers_for_beds = (lit< tt, refl)

pub falls_are_few_here : FallsAreFewWitness
falls_are_few_here = ((refl, refl, tt), lit≤ tt)

pub falls_spend_the_rest : FallsSpendTheRestWitness
falls_spend_the_rest = (lit< tt, lit≤ tt, lit≤ tt)

pub changes_are_few : ChangesAreFewWitness
changes_are_few = ((lit< tt, lit≤ tt, (lit< tt, lit≤ tt, (lit< tt, lit≤ tt, tt))), lit≤ tt)
