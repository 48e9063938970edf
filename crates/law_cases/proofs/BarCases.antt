-- The witnesses of the laws of bars, by computation.
use Rattle.std.proofs.Common.{ℕ, ◌≡◌, List, [], ◌∷◌, refl, subst, lit≤, lit<}
use Rattle.admit_core.specs.declared.ranking.CallOrder.{CallOrder}
use Rattle.admit_core.specs.declared.records.Fall.{Fall}
use Rattle.admit_core.specs.Boarding.{boarding}
use Rattle.admit_core.specs.Falls.{Fits, IsGreatest, IsRunOfFalls, Leads, bars_after, falls_by}
use Rattle.admit_core.specs.State.{State}
use Rattle.admit_core.specs.WorkedDays.{fall, two_candidates}
use Rattle.admit_core.specs.WorkedRows.{cascade, cascade_orders, greatest_bar, greatest_bar_orders}
use Rattle.admit_core.proofs.DemandLaws.{boarding_is_lawful}
use Rattle.admit_core.proofs.FallsLaw.{all_above, run_is_greatest}
use Rattle.law_cases.specs.Bars.{AreAboveAllThatFitWitness, EveryRunEndsAtTheGreatestWitness}
use Rattle.law_cases.specs.Bars.{FallsStayAboveAllThatFitWitness, LoweredBarsAreFullWitness, NoMoreStandAheadWitness}
use Rattle.law_cases.specs.Bars.{PicksFixTheFallsWitness, RanksStandBelowBarsWitness, RanksStayDemandedOtherWitness}
use Rattle.law_cases.specs.Bars.{RanksStayDemandedWitness, RunsEndAtGreatestWitness, TheGreatestIsUniqueWitness}
use Rattle.law_cases.specs.Bars.{WishesStayOpenWitness, WishesStayProposedWitness, one_fall, three_falls, two_full}
use Rattle.law_cases.proofs.Tested.{at_most_by}

-- the greatest bars of a state, by a run of falls
pub greatest_by : (s : State) (orders : List CallOrder) (ceilings : List ℕ) (falls : List Fall) (bars : List ℕ)
    → IsRunOfFalls (boarding s orders ceilings) falls → bars_after ceilings falls ≡ bars
    → IsGreatest (boarding s orders ceilings) bars
greatest_by s orders ceilings falls bars run ends =
    let sys = boarding s orders ceilings in
    subst (IsGreatest sys) ends (run_is_greatest sys (boarding_is_lawful s orders ceilings) falls run)

-- the same by the schools that fall, in their order
pub greatest_of : (s : State) (orders : List CallOrder) (ceilings picks bars : List ℕ)
    → Leads (boarding s orders ceilings) picks
    → bars_after ceilings (falls_by (boarding s orders ceilings) ceilings picks) ≡ bars
    → IsGreatest (boarding s orders ceilings) bars
greatest_of s orders ceilings picks bars leads ends =
    greatest_by s orders ceilings (falls_by (boarding s orders ceilings) ceilings picks) bars leads ends

pub ranks_stand_below_bars : RanksStandBelowBarsWitness
ranks_stand_below_bars = (refl, lit≤ tt, lit≤ tt)

pub ranks_stay_demanded : RanksStayDemandedWitness
ranks_stay_demanded = (at_most_by _ _ refl, refl, lit≤ tt, refl)

pub ranks_stay_demanded_other : RanksStayDemandedOtherWitness
ranks_stay_demanded_other = (at_most_by _ _ refl, refl, lit≤ tt, refl)

pub wishes_stay_open : WishesStayOpenWitness
wishes_stay_open = (at_most_by _ _ refl, refl, refl)

pub no_more_stand_ahead : NoMoreStandAheadWitness
no_more_stand_ahead = (at_most_by _ _ refl, lit≤ tt)

pub wishes_stay_proposed : WishesStayProposedWitness
wishes_stay_proposed = (at_most_by _ _ refl, refl, refl, refl)

one_run : IsRunOfFalls (boarding greatest_bar greatest_bar_orders (10 ∷ [])) one_fall
one_run = record { are_falls = (refl, refl, tt); settled = refl }

three_run : IsRunOfFalls (boarding cascade cascade_orders (9 ∷ 9 ∷ [])) three_falls
three_run = record { are_falls = (refl, refl, (refl, refl, (refl, refl, tt))); settled = refl }

pub runs_end_at_greatest : RunsEndAtGreatestWitness
runs_end_at_greatest = (one_run, greatest_by greatest_bar greatest_bar_orders (10 ∷ []) one_fall _ one_run refl)

pub lowered_bars_are_full : LoweredBarsAreFullWitness
lowered_bars_are_full = (
  boarding_is_lawful greatest_bar greatest_bar_orders (10 ∷ []),
  greatest_by greatest_bar greatest_bar_orders (10 ∷ []) one_fall _ one_run refl,
  lit< tt,
  refl,
)

pub every_run_ends_at_the_greatest : EveryRunEndsAtTheGreatestWitness
every_run_ends_at_the_greatest = (
  boarding_is_lawful cascade cascade_orders (9 ∷ 9 ∷ []),
  three_run,
  greatest_by cascade cascade_orders (9 ∷ 9 ∷ []) three_falls _ three_run refl,
)

fit : Fits (boarding cascade cascade_orders (9 ∷ 9 ∷ [])) (1 ∷ 1 ∷ [])
fit = (greatest_by cascade cascade_orders (9 ∷ 9 ∷ []) three_falls (1 ∷ 1 ∷ []) three_run refl).fits

pub falls_stay_above : FallsStayAboveAllThatFitWitness
falls_stay_above = let sys = boarding cascade cascade_orders (9 ∷ 9 ∷ []) in (
  boarding_is_lawful cascade cascade_orders (9 ∷ 9 ∷ []),
  (refl, refl, tt),
  λ others fits. all_above sys (boarding_is_lawful cascade cascade_orders (9 ∷ 9 ∷ [])) others fits sys.ceilings
      (fall 0 9 2 (0 ∷ 1 ∷ []) ∷ []) (at_most_by sys.ceilings sys.ceilings refl) fits.under_ceilings (refl, refl, tt),
)

pub above_all_that_fit : AreAboveAllThatFitWitness
above_all_that_fit = (fit, at_most_by _ _ refl)

pub the_greatest_is_unique : TheGreatestIsUniqueWitness
the_greatest_is_unique =
    let sys = boarding two_full two_candidates (4 ∷ 4 ∷ []) in (
      greatest_by two_full two_candidates (4 ∷ 4 ∷ []) (falls_by sys sys.ceilings (0 ∷ 1 ∷ [])) _
          (record { are_falls = (refl, refl, (refl, refl, tt)); settled = refl }) refl,
      greatest_by two_full two_candidates (4 ∷ 4 ∷ []) (falls_by sys sys.ceilings (1 ∷ 0 ∷ [])) _
          (record { are_falls = (refl, refl, (refl, refl, tt)); settled = refl }) refl,
      refl,
    )

pub picks_fix_the_falls : PicksFixTheFallsWitness
picks_fix_the_falls = (three_run, three_run, refl)
