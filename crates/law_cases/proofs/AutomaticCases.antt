-- The witnesses of the laws of automatic days, by computation and by the laws.
use Rattle.std.proofs.Common.{◌<◌, ◌≡◌, not, [], ◌∷◌, refl, lit<, None, nat_lt}
use Rattle.std.specs.Prelude.{IsTrue}
use Rattle.std.specs.List.{All}
use Rattle.std.proofs.lemmas.Bool.{ltb-true, not-true}
use Rattle.std.proofs.lemmas.List.Elements.{All-from_recursion}
use Rattle.admit_core.specs.declared.dossier.Wish.{Wish}
use Rattle.admit_core.specs.declared.records.DayRecord.{DayRecord}
use Rattle.admit_core.specs.declared.state.Mark.{Mark}
use Rattle.admit_core.specs.CallOrder.{AreCallOrders}
use Rattle.admit_core.specs.Days.{Days, IsDay, Passes, first_evening}
use Rattle.admit_core.specs.State.{State, holds_seat, is_waiting, is_waiting_status}
use Rattle.admit_core.specs.WorkedDays.{day, quiet}
use Rattle.admit_core.proofs.Rows.{passes_with}
use Rattle.envy.specs.AutomaticDays.{IsAutomatic, IsFair, IsRankedPlainly}
use Rattle.envy.proofs.AutomaticDays.{days_end_fair, passes_keep_fair, quiet_days_end_fair, waiting_is_fair}
use Rattle.fairness.proofs.Shown.{called}
use Rattle.law_cases.specs.AutomaticDays.{DaysEndFairWitness, FirstEveningsBlockNoneWitness, HoldsBetterWitness}
use Rattle.law_cases.specs.AutomaticDays.{LaterEveningsBlockNoneWitness, NobodyBehindWitness, PassesKeepFairWitness}
use Rattle.law_cases.specs.AutomaticDays.{QuietDaysEndFairWitness, WaitingIsFairWitness, after_first, automatic_day}
use Rattle.law_cases.specs.AutomaticDays.{automatic_evening, ranked_plainly, three_in_order, two_passes}
use Rattle.law_cases.proofs.Tested.{all_by}
use Rattle.law_cases.proofs.Valid.{valid_by}
use Rattle.campaign_laws.proofs.WorkedCampaign.{day_by}

abbrev start : State
start = first_evening ranked_plainly

all_wait : All (λ m. IsTrue (is_waiting m)) start.marks
all_wait = all_by (λ (m : Mark). IsTrue (is_waiting m)) is_waiting (λ m t. t) start.marks refl

plainly : IsRankedPlainly ranked_plainly
plainly = record {
  schools = All-from_recursion (λ (w : Wish). w.school ≡ None) ranked_plainly.wishes (refl, (refl, (refl, (refl, tt))));
  preferences = all_by (λ (w : Wish). 0 < w.preference) (λ w. nat_lt 0 w.preference)
      (λ w. ltb-true 0 w.preference) ranked_plainly.wishes refl;
}

fair_start : IsFair three_in_order start
fair_start = waiting_is_fair three_in_order start all_wait

order_called : AreCallOrders ranked_plainly.groups three_in_order
order_called = (called 3 _ _ refl (refl, (refl, (refl, tt))) (λ k. refl), tt)

pub waiting_is_fair_here : WaitingIsFairWitness
waiting_is_fair_here = (all_wait, fair_start)

pub nobody_behind : NobodyBehindWitness
nobody_behind = (
  refl,
  all_by _ (λ c. not (holds_seat after_first c 0)) (λ c. not-true (holds_seat after_first c 0))
      (83 ∷ []) refl,
)

pub holds_better : HoldsBetterWitness
holds_better = (refl, refl)

day_passes : Passes three_in_order [] 1 1 start two_passes automatic_evening
day_passes = (
  record {
    pass = passes_with _ three_in_order [] _ (record { are_falls = tt; settled = refl }) refl refl;
    autos = refl;
    freed = refl;
  },
  refl,
  (
    record {
      pass = passes_with _ three_in_order [] _ (record { are_falls = tt; settled = refl }) refl refl;
      autos = refl;
      freed = refl;
    },
    refl,
    refl,
  ),
)

is_day : IsDay None three_in_order [] start automatic_day automatic_evening
is_day = record { lapsed = refl; fits = refl; passes = day_passes; left = refl; free = refl }

pub passes_keep_fair_here : PassesKeepFairWitness
passes_keep_fair_here =
    let valid = valid_by ranked_plainly refl in
    let fair : IsFair three_in_order after_first =
    passes_keep_fair three_in_order start []
    (record { day = 1; pass = 1 }) valid order_called plainly refl fair_start in (
      valid,
      order_called,
      plainly,
      refl,
      fair,
      passes_keep_fair three_in_order after_first []
          (record { day = 1; pass = 2 }) valid order_called plainly refl fair,
    )

pub days_end_fair_here : DaysEndFairWitness
days_end_fair_here =
    let valid = valid_by ranked_plainly refl in (
      valid,
      order_called,
      plainly,
      refl,
      fair_start,
      day_passes,
      days_end_fair three_in_order [] 1 1 start two_passes automatic_evening valid order_called plainly refl fair_start
          day_passes,
    )

pub quiet_days_end_fair_here : QuietDaysEndFairWitness
quiet_days_end_fair_here =
    let valid = valid_by ranked_plainly refl in (
      valid,
      order_called,
      tt,
      plainly,
      refl,
      refl,
      fair_start,
      is_day,
      quiet_days_end_fair None three_in_order [] start automatic_day automatic_evening valid order_called tt plainly
          refl refl fair_start is_day,
    )

automatic : IsAutomatic ranked_plainly None
automatic = record {
  plain = plainly;
  terms_fit = tt;
  waiting = all_by _ is_waiting_status (λ st t. t) ranked_plainly.statuses refl;
}

pub first_evenings_block_none : FirstEveningsBlockNoneWitness
first_evenings_block_none = (
  valid_by ranked_plainly refl,
  order_called,
  record {
    terms = None;
    ceilings = [];
    day = automatic_day;
    automatic = automatic;
    first = refl;
    quiet = refl;
    is_day = is_day;
  },
  refl,
)

abbrev second_day : DayRecord
second_day = day 2 (quiet [] [] [] ∷ []) (0 ∷ 0 ∷ []) []

days : Days None three_in_order 1 start (automatic_day ∷ second_day ∷ []) automatic_evening
days = (
  automatic_evening,
  refl,
  is_day,
  (
    automatic_evening,
    refl,
    day_by _ _ _ _ _ _ (
      record {
        pass = passes_with _ three_in_order [] _ (record { are_falls = tt; settled = refl }) refl refl;
        autos = refl;
        freed = refl;
      },
      refl,
      refl,
    ) refl refl refl refl,
    refl,
  ),
)

pub later_evenings_block_none : LaterEveningsBlockNoneWitness
later_evenings_block_none = (
  valid_by ranked_plainly refl,
  order_called,
  record {
    terms = None;
    days = automatic_day ∷ second_day ∷ [];
    automatic = automatic;
    some = lit< tt;
    quiet = λ n le. refl;
    are_days = days;
  },
  refl,
)
