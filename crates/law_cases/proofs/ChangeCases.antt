-- The witnesses of the laws of changed dossiers, by computation and by the laws.
use Rattle.std.proofs.Common.{[], true, false, ℕ, ◌≤◌, inl, inr, ◌<◌, ◌≡◌, None, refl, arith, lit≤, lit<}
use Rattle.std.specs.Prelude.{All, ◌≢◌, nat_le}
use Rattle.admit_core.specs.State.{entries}
use Rattle.admit_core.specs.declared.records.DayRecord.{DayRecord}
use Rattle.admit_core.specs.Answers.{own}
use Rattle.admit_core.specs.Days.{answers_of}
use Rattle.std.proofs.lemmas.Bool.{false≢true, leb-true, or_cases}
use Rattle.admit_core.specs.declared.state.Status.TheVariants.{Offered, Quit, Waiting, Withdrawn}
use Rattle.admit_core.specs.WorkedRows.{marked, wish}
use Rattle.std.proofs.lemmas.List.Elements.{All-from_recursion}
use Rattle.admit_core.specs.declared.dossier.Answer.{Answer}
use Rattle.admit_core.specs.declared.dossier.Wish.{Wish}
use Rattle.admit_core.specs.CallOrder.{AreCallOrders}
use Rattle.admit_core.specs.Days.{Days, first_evening}
use Rattle.admit_core.proofs.ByPlaces.{by_places}
use Rattle.campaign_laws.specs.Kept.{AnswersThemself, GivesNoAnswer, has_accepted}
use Rattle.campaign_laws.specs.Moments.{openings}
use Rattle.campaign_laws.specs.PassedOver.{IsUnbarred, WaitsAt}
use Rattle.campaign_laws.specs.WorkedCampaign.{before_summer, next_day, summer_days, summer_orders, third_night}
use Rattle.campaign_laws.specs.WorkedCampaign.{thirteenth}
use Rattle.campaign_laws.proofs.PassedOver.{without_school}
use Rattle.campaign_laws.proofs.Walks.{all_of}
use Rattle.campaign_laws.proofs.WorkedCampaign.{day_by, end_by, summer_holds}
use Rattle.change_laws.proofs.StruckCampaign.{unbarred_wish_may_be_struck_out}
use Rattle.change_laws.specs.Kinder.{IsKinder, IsSilent, giver}
use Rattle.change_laws.proofs.KinderDays.{kindness_hurts_nobody}
use Rattle.change_laws.specs.Unread.{IsUnread}
use Rattle.change_laws.proofs.UnreadDays.{order_above_is_never_read}
use Rattle.change_laws.proofs.OnePlaceUp.{one_place_up_keeps_each_offer}
use Rattle.fairness.specs.Exchanges.{IsMovedUp}
use Rattle.law_cases.specs.Changes.{IsNotHurtRankedWitness, IsNotHurtSilentWitness}
use Rattle.law_cases.specs.Changes.{MoreSeatsAndAnswersHurtNobodyWitness, OnePlaceUpKeepsEachOfferWitness}
use Rattle.law_cases.specs.Changes.{OrderAboveIsNeverReadWitness, UnbarredWishMayBeStruckOutWitness, all_stay}
use Rattle.law_cases.specs.Changes.{first_of_two, later_days, one_quits, quit_days, quit_evening, second_of_two}
use Rattle.law_cases.specs.Changes.{sooner_days, stay_days, stay_evening, third_choice, third_days, third_evening}
use Rattle.law_cases.specs.Changes.{three_orders, two_exchanged, one_order, waits_behind, with_two}
use Rattle.law_cases.proofs.Tested.{distinct_by}
use Rattle.law_cases.proofs.Valid.{valid_by}

called : AreCallOrders all_stay.groups three_orders
called = (record { as_long = refl; each_next = by_places 3 _ (refl, (refl, (refl, tt))) (λ k. refl) }, tt)

stay_holds : Days None three_orders 1 (first_evening all_stay) stay_days stay_evening
stay_holds = (
  stay_evening,
  refl,
  day_by _ _ _ _ _ _ (end_by _ _ _ _ _ _ (record { are_falls = tt; settled = refl }) refl refl refl refl, refl, refl)
      refl refl refl refl,
  (
    stay_evening,
    refl,
    day_by _ _ _ _ _ _ (end_by _ _ _ _ _ _ (record { are_falls = tt; settled = refl }) refl refl refl refl, refl, refl)
        refl refl refl refl,
    refl,
  ),
)

quit_holds : Days None three_orders 1 (first_evening one_quits) quit_days quit_evening
quit_holds = (
  record stay_evening { dossier = one_quits },
  refl,
  day_by _ _ _ _ _ _ (end_by _ _ _ _ _ _ (record { are_falls = tt; settled = refl }) refl refl refl refl, refl, refl)
      refl refl refl refl,
  (
    quit_evening,
    refl,
    day_by _ _ _ _ _ _ (end_by _ _ _ _ _ _ (record { are_falls = tt; settled = refl }) refl refl refl refl, refl, refl)
        refl refl refl refl,
    refl,
  ),
)

themself_11 : AnswersThemself one_quits 11
themself_11 = All-from_recursion (λ (w : Wish). w.candidate ≡ 11 → w.preference ≡ 0) one_quits.wishes
    (λ e. refl, (λ e. refl, (λ e. refl, (λ e. absurd (omega (arith, e)), tt))))

themself_12 : AnswersThemself one_quits 12
themself_12 = All-from_recursion (λ (w : Wish). w.candidate ≡ 12 → w.preference ≡ 0) one_quits.wishes
    (λ e. refl, (λ e. refl, (λ e. refl, (λ e. absurd (omega (arith, e)), tt))))

is_kinder : IsKinder all_stay one_quits
is_kinder = record {
  groups = refl;
  wishes = refl;
  statuses = refl;
  programmes = (
    record { group = refl; seats = lit≤ tt; limit = lit≤ tt },
    (record { group = refl; seats = lit≤ tt; limit = lit≤ tt }, tt),
  );
  answers = λ day. tt;
  themselves = All-from_recursion (λ (a : Answer). AnswersThemself one_quits (giver one_quits a.kind a.target))
      one_quits.answers (themself_11, tt);
}

plain : All (λ (w : Wish). w.school ≡ None) all_stay.wishes
plain = All-from_recursion (λ (w : Wish). w.school ≡ None) all_stay.wishes (refl, (refl, (refl, (refl, tt))))

pub kinder_here : MoreSeatsAndAnswersHurtNobodyWitness
kinder_here =
    let valid = valid_by all_stay refl in
    let valid_too = valid_by one_quits refl in (
      valid,
      valid_too,
      called,
      plain,
      is_kinder,
      refl,
      stay_holds,
      quit_holds,
      kindness_hurts_nobody three_orders all_stay one_quits stay_days quit_days stay_evening quit_evening valid
          valid_too called plain is_kinder refl stay_holds quit_holds,
    )

silent_12 : IsSilent one_quits 12
silent_12 = record {
  themself = themself_12;
  none = All-from_recursion (λ (a : Answer). giver one_quits a.kind a.target ≢ 12) one_quits.answers
      (λ e. omega (arith, e), tt);
}

pub silent_here : IsNotHurtSilentWitness
silent_here = (
  silent_12,
  (
    λ e live. absurd (omega (arith, e)),
    (λ e live. absurd (cc), (λ e live. refl, (λ e live. absurd (omega (arith, e)), tt))),
  ),
)

pub ranked_here : IsNotHurtRankedWitness
ranked_here = (
  All-from_recursion (λ (w : Wish). w.candidate ≡ 13 → 0 < w.preference) one_quits.wishes (
    λ e. absurd (omega (arith, e)),
    (
      λ e. absurd (omega (arith, e)),
      (
        λ e. absurd (omega (arith, e)),
        (λ e. lit< tt, tt),
      ),
    ),
  ),
  refl,
  refl,
)

-- ---- 11 stands first, or second
later_hold : Days None second_of_two 1 (first_evening waits_behind) later_days
    (with_two (marked Offered 2 1) (marked Quit 2 0))
later_hold = (
  with_two (marked Waiting 0 0) (marked Offered 1 1),
  refl,
  day_by _ _ _ _ _ _ (end_by _ _ _ _ _ _ (record { are_falls = tt; settled = refl }) refl refl refl refl, refl, refl)
      refl refl refl refl,
  (
    with_two (marked Offered 2 1) (marked Quit 2 0),
    refl,
    day_by _ _ _ _ _ _ (end_by _ _ _ _ _ _ (record { are_falls = tt; settled = refl }) refl refl refl refl, refl, refl)
        refl refl refl refl,
    refl,
  ),
)

sooner_hold : Days None first_of_two 1 (first_evening waits_behind) sooner_days
    (with_two (marked Offered 1 1) (marked Quit 2 0))
sooner_hold = (
  with_two (marked Offered 1 1) (marked Waiting 0 0),
  refl,
  day_by _ _ _ _ _ _ (end_by _ _ _ _ _ _ (record { are_falls = tt; settled = refl }) refl refl refl refl, refl, refl)
      refl refl refl refl,
  (
    with_two (marked Offered 1 1) (marked Quit 2 0),
    refl,
    day_by _ _ _ _ _ _ (end_by _ _ _ _ _ _ (record { are_falls = tt; settled = refl }) refl refl refl refl, refl, refl)
        refl refl refl refl,
    refl,
  ),
)

moved_up : IsMovedUp waits_behind second_of_two first_of_two 0 11
moved_up = record {
  front = [];
  passed = 12;
  back = [];
  was = refl;
  becomes = refl;
  once = distinct_by _ refl;
  others = λ q lt other. absurd (other (omega (arith, lt)));
}

plain_too : All (λ (w : Wish). w.school ≡ None) waits_behind.wishes
plain_too = All-from_recursion (λ (w : Wish). w.school ≡ None) waits_behind.wishes (refl, (refl, tt))

pub better_place_here : OnePlaceUpKeepsEachOfferWitness
better_place_here =
    let valid = valid_by waits_behind refl in (
      valid,
      plain_too,
      refl,
      tt,
      refl,
      moved_up,
      refl,
      later_hold,
      sooner_hold,
      refl,
      one_place_up_keeps_each_offer None second_of_two first_of_two 1 (first_evening waits_behind) later_days
          sooner_days (with_two (marked Offered 2 1) (marked Quit 2 0))
          (with_two (marked Offered 1 1) (marked Quit 2 0)) 0 (wish 1 11 0 0) valid plain_too refl tt refl moved_up
          refl later_hold sooner_hold refl,
    )

-- ---- 11 gets their third wish
third_hold : Days None one_order 1 (first_evening third_choice) third_days third_evening
third_hold = (
  third_evening,
  refl,
  day_by _ _ _ _ _ _ (end_by _ _ _ _ _ _ (record { are_falls = tt; settled = refl }) refl refl refl refl, refl, refl)
      refl refl refl refl,
  refl,
)

silent_there : GivesNoAnswer (first_evening third_choice) 11 third_days
silent_there = All-from_recursion
    (λ (day : DayRecord). own (first_evening third_choice) 11 (answers_of third_choice day.day) ≡ []) third_days
    (refl, tt)

at_least_three : (n : ℕ) → has_accepted third_evening 11 n ≡ true → 3 ≤ n
at_least_three n has =
    elim (or_cases (nat_le 3 n) false has) [
      | inl le ↦ leb-true 3 n le
      | inr none ↦ absurd (false≢true none)
    ]

unread : All (IsUnread two_exchanged 11 third_evening) (entries third_evening)
unread = All-from_recursion (IsUnread two_exchanged 11 third_evening) (entries third_evening) (
  inr (refl, refl, λ n has. let le = at_least_three n has in omega (arith, le)),
  (inr (refl, refl, λ n has. let le = at_least_three n has in omega (arith, le)), (inl refl, tt)),
)

pub unread_here : OrderAboveIsNeverReadWitness
unread_here = (
  tt,
  third_hold,
  silent_there,
  unread,
  order_above_is_never_read None one_order 1 (first_evening third_choice) third_days third_evening 11 two_exchanged
      tt third_hold silent_there unread,
)

-- ---- 13 might as well have withdrawn
still_waits : WaitsAt third_night 2 thirteenth
still_waits = record { mark = marked Waiting 0 0; there = refl; waits = refl }

unbarred : All (IsUnbarred thirteenth) (openings next_day summer_orders before_summer summer_days)
unbarred = All-from_recursion (IsUnbarred thirteenth) (openings next_day summer_orders before_summer summer_days)
    (all_of (IsUnbarred thirteenth) (λ o. without_school thirteenth o refl)
    (openings next_day summer_orders before_summer summer_days))

pub struck_here : UnbarredWishMayBeStruckOutWitness
struck_here = (
  refl,
  refl,
  summer_holds,
  still_waits,
  unbarred,
  refl,
  unbarred_wish_may_be_struck_out next_day summer_orders 1 before_summer summer_days third_night 2 thirteenth
      (marked Withdrawn 0 0) refl refl summer_holds still_waits unbarred refl,
)
