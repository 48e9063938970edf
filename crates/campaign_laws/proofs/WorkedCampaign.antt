-- The worked campaign, by computation.
use Rattle.std.proofs.Common.{ℕ, ◌≡◌, List, [], ◌∷◌, Option, None, length, map, refl}
use Rattle.std.specs.List.{range_with_len}
use Rattle.admit_core.specs.declared.ranking.CallOrder.{CallOrder}
use Rattle.admit_core.specs.declared.records.DayRecord.{DayRecord}
use Rattle.admit_core.specs.declared.records.PassEnd.{PassEnd}
use Rattle.admit_core.specs.declared.records.Terms.{Terms}
use Rattle.admit_core.specs.Boarding.{boarding}
use Rattle.admit_core.specs.Days.{Days, IsDay, IsPassEnd, Passes, ceilings_of, changes, closing, freed_after, offered}
use Rattle.admit_core.specs.Days.{lapsed_on, morning, unfit_on}
use Rattle.admit_core.specs.CallOrder.{AreCallOrders}
use Rattle.admit_core.specs.Days.{first_evening}
use Rattle.admit_core.specs.Falls.{IsRunOfFalls, bars_after}
use Rattle.admit_core.specs.Proposals.{proposed}
use Rattle.admit_core.specs.State.{State, free_beds, seats_left}
use Rattle.admit_core.specs.WorkedRows.{small_dossier}
use Rattle.admit_core.proofs.ByPlaces.{by_places}
use Rattle.admit_core.proofs.Rows.{passes_with}
use Rattle.campaign_laws.specs.WorkedCampaign.{before_summer, first_day, first_night, next_day, second_day}
use Rattle.campaign_laws.specs.WorkedCampaign.{second_night, small_days, small_next, small_night, small_orders, summer}
use Rattle.campaign_laws.specs.WorkedCampaign.{summer_days, summer_orders, third_day, third_night}

-- a pass with its automatic answers, by its run of falls
pub end_by : (s : State) (orders : List CallOrder) (ceilings : List ℕ) (day k : ℕ) (end : PassEnd)
    → IsRunOfFalls (boarding s orders ceilings) end.pass.falls → end.pass.bars ≡ bars_after ceilings end.pass.falls
    → end.pass.offers ≡ proposed s orders end.pass.bars
    → end.autos ≡ changes (offered s orders end.pass.bars (record { day = day; pass = k }))
    (closing s orders end.pass.bars (record { day = day; pass = k }))
    → end.freed ≡ freed_after s orders end.pass.bars (record { day = day; pass = k })
    → IsPassEnd s orders ceilings (record { day = day; pass = k }) end
end_by s orders ceilings day k end run bars offers autos freed =
    record { pass = passes_with s orders ceilings end.pass run bars offers; autos = autos; freed = freed }

-- a day, by its passes: what lapses, the answers and what is left are computed
pub day_by : (terms : Option Terms) (orders : List CallOrder) (ceilings : List ℕ) (old : State) (day : DayRecord)
    (evening : State) → Passes orders ceilings day.day 1 (morning terms day.day old) day.passes evening
    → day.lapsed ≡ lapsed_on terms day.day old → unfit_on terms day.day old ≡ None
    → day.left ≡ map (seats_left evening) (range_with_len 0 (length evening.dossier.programmes))
    → day.free ≡ map (free_beds evening) (range_with_len 0 (length evening.dossier.schools))
    → IsDay terms orders ceilings old day evening
day_by terms orders ceilings old day evening passes lapsed fits left free =
    record { lapsed = lapsed; fits = fits; passes = passes; left = left; free = free }

pub first_holds : IsDay next_day summer_orders (ceilings_of summer 1) before_summer first_day first_night
first_holds = day_by _ _ _ _ _ _ (
  end_by _ summer_orders (9 ∷ []) _ _ _ (record { are_falls = (refl, refl, tt); settled = refl }) refl refl
      refl refl,
  refl,
  refl,
) refl refl refl refl

pub second_holds : IsDay next_day summer_orders (ceilings_of summer 2) first_night second_day second_night
second_holds = day_by _ _ _ _ _ _ (
  end_by _ summer_orders (9 ∷ []) _ _ _ (record { are_falls = tt; settled = refl }) refl refl refl refl,
  refl,
  refl,
) refl refl refl refl

pub third_holds : IsDay next_day summer_orders (ceilings_of summer 3) second_night third_day third_night
third_holds = day_by _ _ _ _ _ _ (
  end_by _ summer_orders (9 ∷ []) _ _ _ (record { are_falls = tt; settled = refl }) refl refl refl refl,
  refl,
  refl,
) refl refl refl refl

pub summer_holds : Days next_day summer_orders 1 before_summer summer_days third_night
summer_holds =
    (first_night, refl, first_holds, (second_night, refl, second_holds, (third_night, refl, third_holds, refl)))

pub first_alone : Days next_day summer_orders 1 before_summer (first_day ∷ []) first_night
first_alone = (first_night, refl, first_holds, refl)

pub small_holds : Days None small_orders 2 (first_evening small_dossier) small_days small_night
small_holds = (
  small_night,
  refl,
  day_by _ _ _ _ _ _ (
    end_by _ small_orders (3 ∷ []) _ _ _ (record { are_falls = tt; settled = refl }) refl refl refl refl,
    refl,
    refl,
  ) refl refl refl refl,
  refl,
)

pub small_called : AreCallOrders small_dossier.groups small_orders
small_called = (record { as_long = refl; each_next = by_places 1 _ (refl, tt) (λ k. refl) }, tt)

pub small_next_holds : Days None small_orders 3 small_night (small_next ∷ []) small_night
small_next_holds = (
  small_night,
  refl,
  day_by _ _ _ _ _ _ (
    end_by _ small_orders (3 ∷ []) _ _ _ (record { are_falls = tt; settled = refl }) refl refl refl refl,
    refl,
    refl,
  ) refl refl refl refl,
  refl,
)
