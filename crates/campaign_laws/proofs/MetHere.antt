-- The laws' witnesses, by computation and by the laws.
use Rattle.std.proofs.Common.{ℕ, ◌≡◌, ◌∷◌, [], None, inr, arith, lit<, refl}
use Rattle.std.specs.Prelude.{All}
use Rattle.std.proofs.lemmas.List.Elements.{All-from_recursion}
use Rattle.admit_core.specs.declared.dossier.Wish.{Wish}
use Rattle.admit_core.specs.declared.records.DayRecord.{DayRecord}
use Rattle.admit_core.specs.Answers.{own}
use Rattle.admit_core.specs.Days.{answers_of, first_evening}
use Rattle.admit_core.specs.Lapses.{AreTermsFor}
use Rattle.admit_core.specs.declared.state.Status.TheVariants.{Waiting}
use Rattle.admit_core.specs.WorkedRows.{boarder, marked, small_dossier}
use Rattle.admit_core.proofs.SmallDossier.{small_dossier_holds}
use Rattle.campaign_laws.specs.Beds.{IsBarredIn, IsSameWishOffered}
use Rattle.campaign_laws.specs.Kept.{AnswersThemself, GivesNoAnswer}
use Rattle.campaign_laws.specs.Moments.{openings}
use Rattle.campaign_laws.specs.PassedOver.{IsUnbarred, WaitsAt}
use Rattle.campaign_laws.specs.Witnesses.{AutomaticAnswersClimbWitness, CameByBetterRankWitness, CameFromBeforeWitness}
use Rattle.campaign_laws.specs.Witnesses.{GoesByTheTwoListsWitness, GoneStaysGoneWitness, IsKeptAcceptedWitness}
use Rattle.campaign_laws.specs.Witnesses.{IsKeptOfferedWitness, IsLaterMarkGoneStaysWitness}
use Rattle.campaign_laws.specs.Witnesses.{IsLaterMarkNeverAgainWitness, IsLaterMarkWaitedWitness, NeverDescendsWitness}
use Rattle.campaign_laws.specs.Witnesses.{NeverMoreThanBedsWitness, NeverMoreThanSeatsWitness}
use Rattle.campaign_laws.specs.Witnesses.{NoBedGoesPastBarredWishesWitness, NobodyIsEverPassedOverWitness}
use Rattle.campaign_laws.specs.Witnesses.{NobodyIsPassedOverWithoutBoardingWitness, OffersGoByTheTwoListsWitness}
use Rattle.campaign_laws.specs.Witnesses.{PlacesOfThirteen, QuietDaysChangeNothingWitness}
use Rattle.campaign_laws.specs.Witnesses.{WaitingPlaceNeverWorsensWitness, WhatIsYoursStaysWitness}
use Rattle.campaign_laws.specs.WorkedCampaign.{barred_first, before_summer, first_day, first_night, next_day, small_day}
use Rattle.campaign_laws.specs.WorkedCampaign.{small_days, small_next, small_night, small_orders, summer, summer_days}
use Rattle.campaign_laws.specs.WorkedCampaign.{summer_orders, third_night, thirteenth}
use Rattle.campaign_laws.proofs.Beds.{no_bed_goes_past, offers_go_by_the_two_lists}
use Rattle.campaign_laws.proofs.GoneStays.{gone_stays_gone}
use Rattle.campaign_laws.proofs.Kept.{automatic_answers_climb, what_is_yours_stays}
use Rattle.campaign_laws.proofs.PassedOver.{nobody_is_ever_passed_over, nobody_is_passed_over_without_boarding}
use Rattle.campaign_laws.proofs.PassedOver.{without_school}
use Rattle.campaign_laws.proofs.QuietDays.{quiet_days_change_nothing}
use Rattle.campaign_laws.proofs.Room.{never_more_than_beds, never_more_than_seats}
use Rattle.campaign_laws.proofs.WaitingPlace.{waiting_place_never_worsens}
use Rattle.campaign_laws.proofs.Walks.{all_of}
use Rattle.campaign_laws.proofs.WorkedCampaign.{first_alone, small_called, small_holds, small_next_holds, summer_holds}

fit : AreTermsFor summer next_day
fit = refl

pub gone_stays_gone_here : GoneStaysGoneWitness
gone_stays_gone_here =
    (fit, summer_holds, gone_stays_gone next_day summer_orders 1 before_summer summer_days third_night fit summer_holds)

pub gone_stays : IsLaterMarkGoneStaysWitness
gone_stays = (refl, refl)

pub never_again : IsLaterMarkNeverAgainWitness
never_again = (refl, refl)

pub waited : IsLaterMarkWaitedWitness
waited = (refl, refl)

pub waiting_place_here : WaitingPlaceNeverWorsensWitness
waiting_place_here = (
  fit,
  summer_holds,
  waiting_place_never_worsens next_day summer_orders 1 before_summer summer_days third_night fit
      summer_holds,
)

still_waits : WaitsAt third_night 2 thirteenth
still_waits = record { mark = marked Waiting 0 0; there = refl; waits = refl }

unbarred : All (IsUnbarred thirteenth) (openings next_day summer_orders before_summer summer_days)
unbarred = All-from_recursion (IsUnbarred thirteenth) (openings next_day summer_orders before_summer summer_days)
    (all_of (IsUnbarred thirteenth) (λ o. without_school thirteenth o refl)
    (openings next_day summer_orders before_summer summer_days))

pub never_passed_over_here : NobodyIsEverPassedOverWitness
never_passed_over_here = (
  fit,
  summer_holds,
  still_waits,
  unbarred,
  nobody_is_ever_passed_over next_day summer_orders 1 before_summer summer_days third_night 2 thirteenth fit
      summer_holds still_waits unbarred,
)

pub without_boarding_here : NobodyIsPassedOverWithoutBoardingWitness
without_boarding_here = (
  fit,
  summer_holds,
  still_waits,
  refl,
  nobody_is_passed_over_without_boarding next_day summer_orders 1 before_summer summer_days third_night 2 thirteenth
      fit summer_holds still_waits refl,
)

pub came_from_before : CameFromBeforeWitness
came_from_before = (refl, refl, refl)

barred : All (IsBarredIn barred_first) (openings next_day summer_orders before_summer (first_day ∷ []))
barred = All-from_recursion (IsBarredIn barred_first) (openings next_day summer_orders before_summer (first_day ∷ []))
    (refl, tt)

pub no_bed_goes_past_here : NoBedGoesPastBarredWishesWitness
no_bed_goes_past_here = (
  fit,
  first_alone,
  refl,
  barred,
  no_bed_goes_past next_day summer_orders 1 before_summer (first_day ∷ []) first_night barred_first 0 fit first_alone
      refl barred,
)

pub came_by_better_rank : CameByBetterRankWitness
came_by_better_rank = (refl, refl, refl)

barred_waits : WaitsAt first_night 3 barred_first
barred_waits = record { mark = marked Waiting 0 0; there = refl; waits = refl }

pub two_lists_here : OffersGoByTheTwoListsWitness
two_lists_here = (
  fit,
  first_alone,
  barred_waits,
  offers_go_by_the_two_lists next_day summer_orders 1 before_summer (first_day ∷ []) first_night 3 barred_first fit
      first_alone barred_waits,
)

same_wish : IsSameWishOffered summer_orders barred_first (record { state = before_summer; bars = 1 ∷ [] })
    (boarder 5 12 1 0 1 0)
same_wish = record {
  place = 4;
  mark = marked Waiting 0 0;
  there = refl;
  proposed = refl;
  programme = refl;
  school = refl;
  no_seat =
      refl;
  no_bed = refl;
}

pub goes_by_the_two_lists : GoesByTheTwoListsWitness
goes_by_the_two_lists = (same_wish, inr (lit< tt))

-- 12 and 14 never answer, and 12 ranks nothing
ranks_nothing : AnswersThemself summer 12
ranks_nothing = All-from_recursion (λ (w : Wish). w.candidate ≡ 12 → w.preference ≡ 0) summer.wishes (
  λ e. refl,
  (
    λ e. refl,
    (
      λ e. refl,
      (
        λ e. refl,
        (λ e. refl, (λ e. absurd (omega (arith, e)), (λ e. absurd (omega (arith, e)), (λ e. refl, tt)))),
      ),
    ),
  ),
)

silent : (c : ℕ) → own before_summer c (answers_of summer 1) ≡ [] → own before_summer c (answers_of summer 2) ≡ []
    → own before_summer c (answers_of summer 3) ≡ []
    → GivesNoAnswer before_summer c summer_days
silent c first second third =
    All-from_recursion (λ (day : DayRecord). own before_summer c (answers_of summer day.day) ≡ []) summer_days
    (first, (second, (third, tt)))

pub yours_stays_here : WhatIsYoursStaysWitness
yours_stays_here =
    let none = silent 12 refl refl refl in (
      fit,
      summer_holds,
      ranks_nothing,
      none,
      what_is_yours_stays next_day summer_orders 1 before_summer summer_days
          third_night 12 fit summer_holds ranks_nothing none,
    )

pub kept_accepted : IsKeptAcceptedWitness
kept_accepted = (refl, refl)

pub kept_offered : IsKeptOfferedWitness
kept_offered = (refl, inr (refl, refl))

pub climb_here : AutomaticAnswersClimbWitness
climb_here =
    let none = silent 14 refl refl refl in (
      fit,
      summer_holds,
      none,
      automatic_answers_climb next_day summer_orders 1 before_summer summer_days third_night
          14 fit summer_holds none,
    )

pub never_descends : NeverDescendsWitness
never_descends = (refl, refl)

pub beds_here : NeverMoreThanBedsWitness
beds_here = (
  small_dossier_holds,
  tt,
  small_holds,
  lit< tt,
  never_more_than_beds None small_orders 2 (first_evening small_dossier) small_days small_night 0 small_dossier_holds
      tt small_holds (lit< tt),
)

pub seats_here : NeverMoreThanSeatsWitness
seats_here = (
  small_dossier_holds,
  small_called,
  tt,
  small_holds,
  lit< tt,
  refl,
  never_more_than_seats None small_orders 2 (first_evening small_dossier) small_days small_night 0 small_dossier_holds
      small_called tt small_holds (lit< tt) refl,
)

pub quiet_here : QuietDaysChangeNothingWitness
quiet_here = (
  small_dossier_holds,
  small_called,
  tt,
  refl,
  small_holds,
  small_next_holds,
  refl,
  refl,
  refl,
  quiet_days_change_nothing None small_orders 2 (first_evening small_dossier) small_day small_next small_night
      small_night
      small_dossier_holds small_called tt refl small_holds small_next_holds refl refl refl,
)

pub places_of_thirteen : PlacesOfThirteen
places_of_thirteen = (refl, refl, refl)
