-- The witnesses of the laws of evenings, of nights and of those ahead, by computation and by the laws.
use Rattle.std.proofs.Common.{◌≡◌, Bool, true, not, ◌&&◌, [], ◌∷◌, None, refl, arith, lit≤, nat_eq}
use Rattle.std.specs.Prelude.{All, AllPairs, slice_index}
use Rattle.std.proofs.lemmas.Bool.{and_from, both_ways, eq-eqb, not-true}
use Rattle.std.proofs.lemmas.List.Elements.{All-from_recursion}
use Rattle.admit_core.specs.declared.dossier.Wish.{Wish}
use Rattle.admit_core.specs.declared.records.PassEnd.{PassEnd}
use Rattle.admit_core.specs.Boarding.{boarding}
use Rattle.admit_core.specs.CallOrder.{AreCallOrders}
use Rattle.admit_core.specs.Days.{Days, Passes, ceilings_of, first_evening}
use Rattle.admit_core.specs.Falls.{IsGreatest}
use Rattle.admit_core.specs.WorkedDays.{two_candidates}
use Rattle.admit_core.specs.WorkedRows.{realistic, realistic_order, small_dossier}
use Rattle.admit_core.proofs.Rows.{passes_with}
use Rattle.fairness.proofs.Shown.{called}
use Rattle.evening_laws.proofs.FewPasses.{passes_are_few}
use Rattle.evening_laws.proofs.LastPass.{evening_bars_no_lower, last_bars_still_fit, seat_and_bed_never_both_idle}
use Rattle.campaign_laws.specs.Moments.{moments}
use Rattle.campaign_laws.specs.WorkedCampaign.{before_summer, next_day, small_day, small_days, small_night}
use Rattle.campaign_laws.specs.WorkedCampaign.{small_orders, summer, summer_days, summer_orders, third_night}
use Rattle.campaign_laws.proofs.WorkedCampaign.{small_holds, summer_holds}
use Rattle.campaign_laws.proofs.Limits.{never_more_than_seats_and_limit}
use Rattle.campaign_bars.specs.Ahead.{NotSameProgramme}
use Rattle.campaign_bars.specs.HeldBeds.{NoMoreThan}
use Rattle.campaign_bars.specs.MoreBeds.{StandsAtCeiling}
use Rattle.campaign_bars.proofs.Ahead.{ahead_grows_only_with_a_bar}
use Rattle.campaign_bars.proofs.MoreBeds.{beds_ever_held_would_do, more_beds_change_nothing}
use Rattle.campaign_bars.proofs.Overnight.{no_bar_falls_overnight}
use Rattle.law_cases.specs.Days.{held_bed, held_bed_evening, realistic_passes}
use Rattle.law_cases.specs.Evenings.{AheadGrowsOnlyWithABarWitness, AheadOfThirteen, BedsEverHeldWouldDoWitness}
use Rattle.law_cases.specs.Evenings.{EveningBarsAreNoLowerWitness, IsNotKeptWaitingWitness, LastBarsStillFitWitness}
use Rattle.law_cases.specs.Evenings.{MoreBedsChangeNothingWitness, NoBarFallsOvernightWitness, NoMoreAheadWitness}
use Rattle.law_cases.specs.Evenings.{PassesAreFewWitness, NeverMoreThanSeatsAndLimitWitness}
use Rattle.law_cases.specs.Evenings.{SeatAndBedAreNeverBothIdleWitness, ThreeAreLive, called_past, day_after, day_past}
use Rattle.law_cases.specs.Evenings.{evening_past, roomy, roomy_day, roomy_night, three_called, unanswered}
use Rattle.law_cases.specs.Evenings.{unanswered_evening}
use Rattle.law_cases.specs.Explanations.{held_day, held_start, realistic_day, realistic_evening}
use Rattle.law_cases.proofs.BarCases.{greatest_of}
use Rattle.law_cases.proofs.DayCases.{held_is_day, realistic_is_day}
use Rattle.law_cases.proofs.PassCases.{held_called, realistic_called}
use Rattle.law_cases.proofs.Tested.{at_most_by, pairs_by}
use Rattle.law_cases.proofs.Valid.{valid_by}
use Rattle.campaign_laws.proofs.WorkedCampaign.{day_by}

pub passes_are_few_here : PassesAreFewWitness
passes_are_few_here = (
  realistic_is_day,
  passes_are_few None (realistic_order ∷ []) (10 ∷ []) (first_evening realistic) realistic_day realistic_evening
      realistic_is_day,
)

pub never_both_idle_here : SeatAndBedAreNeverBothIdleWitness
never_both_idle_here =
    let valid = valid_by held_bed refl in (
      valid,
      held_called,
      held_is_day,
      seat_and_bed_never_both_idle None two_candidates (9 ∷ []) held_start held_day held_bed_evening valid held_called
          held_is_day,
    )

pub not_kept_waiting : IsNotKeptWaitingWitness
not_kept_waiting = (refl, refl)

pub still_fit_here : LastBarsStillFitWitness
still_fit_here =
    let valid = valid_by realistic refl in (
      valid,
      realistic_called,
      realistic_is_day,
      last_bars_still_fit None (realistic_order ∷ []) (10 ∷ []) (first_evening realistic) realistic_day
          realistic_evening valid realistic_called realistic_is_day,
    )

nothing_falls : IsGreatest (boarding realistic_evening (realistic_order ∷ []) (10 ∷ [])) (10 ∷ [])
nothing_falls = greatest_of realistic_evening (realistic_order ∷ []) (10 ∷ []) [] (10 ∷ [])
    (record { are_falls = tt; settled = refl }) refl

pub no_lower_here : EveningBarsAreNoLowerWitness
no_lower_here =
    let valid = valid_by realistic refl in (
      valid,
      realistic_called,
      realistic_is_day,
      nothing_falls,
      evening_bars_no_lower None (realistic_order ∷ []) (10 ∷ []) (first_evening realistic) realistic_day
          realistic_evening (10 ∷ []) valid realistic_called realistic_is_day nothing_falls,
    )

-- ---- the night
unanswered_passes : Passes (realistic_order ∷ []) (10 ∷ []) 1 1 (first_evening unanswered) realistic_passes
    unanswered_evening
unanswered_passes =
    let orders = realistic_order ∷ [] in (
      record {
        pass = passes_with _ orders (10 ∷ []) _ (record { are_falls = tt; settled = refl }) refl refl;
        autos = refl;
        freed = refl;
      },
      refl,
      (
        record {
          pass = passes_with _ orders (10 ∷ []) _ (record { are_falls = (refl, refl, tt); settled = refl }) refl refl;
          autos = refl;
          freed = refl;
        },
        refl,
        refl,
      ),
    )

first_unanswered : Days None (realistic_order ∷ []) 1 (first_evening unanswered) (realistic_day ∷ []) unanswered_evening
first_unanswered = (
  unanswered_evening,
  refl,
  record { lapsed = refl; fits = refl; passes = unanswered_passes; left = refl; free = refl },
  refl,
)

next_unanswered : Days None (realistic_order ∷ []) 2 unanswered_evening (day_after ∷ []) unanswered_evening
next_unanswered = (
  unanswered_evening,
  refl,
  day_by _ _ _ _ _ _ (
    record {
      pass = passes_with _ (realistic_order ∷ []) (10 ∷ []) _ (record { are_falls = tt; settled = refl }) refl refl;
      autos = refl;
      freed = refl;
    },
    refl,
    refl,
  ) refl refl refl refl,
  refl,
)

pub overnight_here : NoBarFallsOvernightWitness
overnight_here =
    let valid = valid_by unanswered refl in
    let same = at_most_by (10 ∷ []) (10 ∷ []) refl in (
      valid,
      realistic_called,
      tt,
      refl,
      first_unanswered,
      next_unanswered,
      same,
      refl,
      refl,
      no_bar_falls_overnight None (realistic_order ∷ []) 1 (first_evening unanswered) realistic_day day_after
          unanswered_evening unanswered_evening valid realistic_called tt refl first_unanswered next_unanswered same
          refl
          refl,
    )

-- ---- those ahead
abbrev other_programme : Wish → Wish → Bool
other_programme v w = not (nat_eq v.candidate w.candidate && nat_eq v.programme w.programme)

by_programmes : (v w : Wish) → other_programme v w ≡ true → NotSameProgramme v w
by_programmes v w t candidate programme =
    let both = nat_eq v.candidate w.candidate && nat_eq v.programme w.programme in
    both_ways both (not-true both t)
    (and_from (nat_eq v.candidate w.candidate) (nat_eq v.programme w.programme)
    (eq-eqb v.candidate w.candidate candidate) (eq-eqb v.programme w.programme programme))

one_each : AllPairs NotSameProgramme summer.wishes
one_each = pairs_by NotSameProgramme other_programme by_programmes summer.wishes refl

pub ahead_here : AheadGrowsOnlyWithABarWitness
ahead_here =
    let valid = valid_by summer refl in (
      valid,
      one_each,
      refl,
      summer_holds,
      ahead_grows_only_with_a_bar next_day summer_orders 1 before_summer summer_days third_night valid one_each refl
          summer_holds,
    )

pub no_more_ahead : NoMoreAheadWitness
no_more_ahead = (λ h. omega arith, lit≤ tt)

pub ahead_of_thirteen : AheadOfThirteen
ahead_of_thirteen = (refl, refl)

-- ---- the call limit
three_in_call_order : AreCallOrders called_past.groups three_called
three_in_call_order = (called 3 _ _ refl (refl, (refl, (refl, tt))) (λ k. refl), tt)

past_holds : Days None three_called 1 (first_evening called_past) (day_past ∷ []) evening_past
past_holds = (
  evening_past,
  refl,
  day_by _ _ _ _ _ _ (
    record {
      pass = passes_with _ three_called [] _ (record { are_falls = tt; settled = refl }) refl refl;
      autos = refl;
      freed = refl;
    },
    refl,
    refl,
  ) refl refl refl refl,
  refl,
)

pub limit_here : NeverMoreThanSeatsAndLimitWitness
limit_here =
    let valid = valid_by called_past refl in (
      valid,
      three_in_call_order,
      tt,
      past_holds,
      never_more_than_seats_and_limit None three_called 1 (first_evening called_past) (day_past ∷ []) evening_past 0
          valid three_in_call_order tt past_holds,
    )

pub three_are_live : ThreeAreLive
three_are_live = (refl, refl)

-- ---- more beds
stands : All (StandsAtCeiling small_dossier 0) small_days
stands = All-from_recursion (StandsAtCeiling small_dossier 0) small_days (
  All-from_recursion
      (λ (pass : PassEnd). slice_index pass.pass.bars 0 ≡ slice_index (ceilings_of small_dossier 2) 0)
      small_day.passes (refl, tt),
  tt,
)

pub more_beds_here : MoreBedsChangeNothingWitness
more_beds_here = (
  small_holds,
  stands,
  lit≤ tt,
  more_beds_change_nothing None small_orders 2 (first_evening small_dossier) small_days small_night 0 5 small_holds
      stands (lit≤ tt),
)

roomy_holds : Days None small_orders 2 (first_evening roomy) (roomy_day ∷ []) roomy_night
roomy_holds = (
  roomy_night,
  refl,
  day_by _ _ _ _ _ _ (
    record {
      pass = passes_with _ small_orders (3 ∷ []) _ (record { are_falls = tt; settled = refl }) refl refl;
      autos = refl;
      freed = refl;
    },
    refl,
    refl,
  ) refl refl refl refl,
  refl,
)

stands_roomy : All (StandsAtCeiling roomy 0) (roomy_day ∷ [])
stands_roomy = All-from_recursion (StandsAtCeiling roomy 0) (roomy_day ∷ []) (
  All-from_recursion (λ (pass : PassEnd). slice_index pass.pass.bars 0 ≡ slice_index (ceilings_of roomy 2) 0)
      roomy_day.passes (refl, tt),
  tt,
)

one_held : All (NoMoreThan 0 1) (moments None small_orders (first_evening roomy) (roomy_day ∷ []))
one_held = All-from_recursion (NoMoreThan 0 1) (moments None small_orders (first_evening roomy) (roomy_day ∷ []))
    (lit≤ tt, (lit≤ tt, (lit≤ tt, tt)))

pub held_beds_here : BedsEverHeldWouldDoWitness
held_beds_here =
    let valid = valid_by roomy refl in (
      valid,
      roomy_holds,
      stands_roomy,
      one_held,
      beds_ever_held_would_do None small_orders 2 (first_evening roomy) (roomy_day ∷ []) roomy_night 0 1 valid
          roomy_holds stands_roomy one_held,
    )
