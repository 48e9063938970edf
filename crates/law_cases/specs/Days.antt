-- Witnesses of the laws of passes, evenings and chains.
use Rattle.std.specs.Prelude.{◌≡◌, ℕ, false, ◌+◌, ◌*◌, ◌≤◌, ◌<◌, List, [], ◌∷◌, length, slice_index, slice_set, All}
use Rattle.std.specs.Prelude.{IsTrue}
use Rattle.std.specs.List.{count_by}
use Rattle.admit_core.specs.declared.chain.DayChain.{DayChain}
use Rattle.admit_core.specs.declared.dossier.Wish.{Wish}
use Rattle.admit_core.specs.declared.ranking.CallOrder.{CallOrder}
use Rattle.admit_core.specs.declared.records.Fall.{Fall}
use Rattle.admit_core.specs.declared.records.PassEnd.{PassEnd}
use Rattle.admit_core.specs.declared.state.Mark.{Mark}
use Rattle.admit_core.specs.declared.state.Stamp.{Stamp}
use Rattle.admit_core.specs.declared.state.Status.TheVariants.{Accepted, AutoRefused, Waiting}
use Rattle.admit_core.specs.Boarding.{boarding}
use Rattle.admit_core.specs.CallOrder.{AreCallOrders}
use Rattle.admit_core.specs.ChainLaws.{passes_told}
use Rattle.admit_core.specs.Chains.{IsDayChain}
use Rattle.admit_core.specs.Days.{Passes, first_evening, offered}
use Rattle.admit_core.specs.DossierRows.{DossierRows}
use Rattle.admit_core.specs.EveningLaws.{IsFilled, last_bars}
use Rattle.admit_core.specs.Falls.{AreFalls, Fits, IsGreatest}
use Rattle.admit_core.specs.Proposals.{is_barred, proposed}
use Rattle.admit_core.specs.State.{State, entries, free_beds, is_waiting, seats_left}
use Rattle.admit_core.specs.Validity.{IsValid}
use Rattle.admit_core.specs.WorkedChains.{one_pass, true_line}
use Rattle.admit_core.specs.WorkedDays.{bed_is_held, fall, quiet, two_candidates}
use Rattle.admit_core.specs.WorkedRows.{boarder, cascade, cascade_orders, first_marks, first_pass, greatest_bar}
use Rattle.admit_core.specs.WorkedRows.{greatest_bar_evening, greatest_bar_orders, group, marked, ranked, realistic}
use Rattle.admit_core.specs.WorkedRows.{realistic_order, the_fall}
use Rattle.round.specs.PassLaws.{FitsBeds, FitsSeats, LowersForBeds, new_bed_holders, waiting_boarders}
use Rattle.linked_demand.specs.Ticks.{AllLower, changes_between, changes_over, rest_under}
use Rattle.law_cases.specs.Bars.{three_falls}
use Rattle.law_cases.specs.Fairness.{two_plain_orders, two_rankings}

-- 12 waits for the seat that is left, behind the bar of a school whose one bed 11 holds
abbrev pub held_bed : DossierRows
held_bed =
    record bed_is_held {
      groups = group 0 0 (ranked 11 1 false false ∷ ranked 12 2 false false ∷ []) ∷ [];
    }

abbrev pub held_bed_evening : State
held_bed_evening =
    record { dossier = held_bed; marks = marked Accepted 0 0 ∷ marked Waiting 0 0 ∷ [] }

-- ---- evenings
abbrev pub SeatsAreFilledWitness : Type 0
SeatsAreFilledWitness =
    let orders : List CallOrder = two_candidates in
    let ceilings : List ℕ = 9 ∷ [] in
    let day : ℕ = 1 in
    let k : ℕ = 1 in
    let opening : State = first_evening held_bed in
    let passes : List PassEnd =
    quiet (1 ∷ []) (fall 0 9 1 (1 ∷ []) ∷ []) [] ∷ [] in
    let evening : State = held_bed_evening in
    IsValid opening.dossier
    × AreCallOrders opening.dossier.groups orders
    × Passes orders ceilings day k opening passes evening
    × All (IsFilled evening (last_bars passes)) (entries evening)

abbrev pub IsFilledWitness : Type 0
IsFilledWitness =
    let s : State = held_bed_evening in
    let bars : List ℕ = 1 ∷ [] in
    let w : Wish = boarder 2 12 0 0 2 0 in
    let m : Mark = marked Waiting 0 0 in
    IsTrue (is_waiting m) × (0 < seats_left s w.programme) × IsTrue (is_barred s bars w m)

-- two passes, since an automatic answer frees a seat
abbrev pub realistic_passes : List PassEnd
realistic_passes =
    record {
      pass = record { bars = 10 ∷ []; falls = []; offers = 0 ∷ 1 ∷ 2 ∷ 3 ∷ [] };
      autos =
          record { wish = 2; status = AutoRefused } ∷ record { wish = 3; status = Accepted } ∷ [];
      freed = record { seats = 1; beds = 0 };
    }
    ∷ quiet (0 ∷ []) (the_fall ∷ []) (6 ∷ [])
    ∷ []

-- 103 and 104 wait, and nothing is left to offer
abbrev pub EveningsAreClosedWitness : Type 0
EveningsAreClosedWitness =
    let orders : List CallOrder = realistic_order ∷ [] in
    let ceilings : List ℕ = 10 ∷ [] in
    let day : ℕ = 1 in
    let k : ℕ = 1 in
    let opening : State = first_evening realistic in
    let passes : List PassEnd = realistic_passes in
    let evening : State = record { dossier = realistic; marks = first_marks } in
    let bars : List ℕ = 10 ∷ [] in
    IsValid opening.dossier
    × AreCallOrders opening.dossier.groups orders
    × Passes orders ceilings day k opening passes evening
    × IsGreatest (boarding evening orders ceilings) bars
    × (proposed evening orders bars ≡ [])

-- ---- chains
abbrev pub ChainsTellTheDayWitness : Type 0
ChainsTellTheDayWitness =
    let orders : List CallOrder = greatest_bar_orders in
    let ceilings : List ℕ = 10 ∷ [] in
    let day : ℕ = 1 in
    let morning : State = greatest_bar in
    let chain : DayChain = one_pass (true_line ∷ []) 4 in
    let evening : State = greatest_bar_evening in
    IsDayChain orders ceilings day morning chain evening
    × Passes orders ceilings day 1 morning
    (passes_told orders ceilings day 1 morning chain.passes) evening

-- ---- passes
abbrev pub OffersFitSeatsWitness : Type 0
OffersFitSeatsWitness =
    let s : State = two_rankings in
    let orders : List CallOrder = two_plain_orders in
    let bars : List ℕ = 2 ∷ [] in
    let stamp : Stamp = first_pass in
    IsValid s.dossier × AreCallOrders s.dossier.groups orders
    × FitsSeats s (offered s orders bars stamp)

abbrev pub OffersFitBedsWitness : Type 0
OffersFitBedsWitness =
    let s : State = two_rankings in
    let orders : List CallOrder = two_plain_orders in
    let ceilings : List ℕ = 9 ∷ [] in
    let bars : List ℕ = 2 ∷ [] in
    let stamp : Stamp = first_pass in
    IsValid s.dossier × (length ceilings ≡ length s.dossier.schools)
    × Fits (boarding s orders ceilings) bars
    × FitsBeds s (offered s orders bars stamp)

-- the one bed is taken
abbrev pub FitsBedsWitness : Type 0
FitsBedsWitness =
    let old : State = two_rankings in
    let new : State = offered two_rankings two_plain_orders (2 ∷ []) first_pass in
    let h : ℕ = 0 in
    (h < length old.dossier.schools)
    × (length (new_bed_holders old new h) ≤ free_beds old h)

abbrev pub GreatestBarsAreLoweredForBedsWitness : Type 0
GreatestBarsAreLoweredForBedsWitness =
    let s : State = two_rankings in
    let orders : List CallOrder = two_plain_orders in
    let ceilings : List ℕ = 9 ∷ [] in
    let bars : List ℕ = 2 ∷ [] in
    let stamp : Stamp = first_pass in
    IsValid s.dossier × IsGreatest (boarding s orders ceilings) bars
    × LowersForBeds s (offered s orders bars stamp) ceilings bars

abbrev pub LowersForBedsWitness : Type 0
LowersForBedsWitness =
    let old : State = two_rankings in
    let new : State = offered two_rankings two_plain_orders (2 ∷ []) first_pass in
    let ceilings : List ℕ = 9 ∷ [] in
    let bars : List ℕ = 2 ∷ [] in
    let h : ℕ = 0 in
    (slice_index bars h < slice_index ceilings h)
    × (length (new_bed_holders old new h) ≡ free_beds old h)

abbrev pub FallsAreFewWitness : Type 0
FallsAreFewWitness =
    let s : State = two_rankings in
    let orders : List CallOrder = two_plain_orders in
    let ceilings : List ℕ = 9 ∷ [] in
    let falls : List Fall = fall 0 9 2 (1 ∷ 2 ∷ []) ∷ [] in
    AreFalls (boarding s orders ceilings) ceilings falls
    × (length falls ≤ waiting_boarders s)

-- ---- what falls change: of the two schools of `cascade`, the first fall bars one wish and opens
-- another's seat
abbrev pub FallsSpendTheRestWitness : Type 0
FallsSpendTheRestWitness =
    let s : State = cascade in
    let orders : List CallOrder = cascade_orders in
    let bars : List ℕ = 9 ∷ 9 ∷ [] in
    let i : ℕ = 0 in
    let to : ℕ = 2 in
    (i < length bars) × (to ≤ slice_index bars i)
    × (changes_between s orders bars (slice_set bars i to)
    + rest_under s orders (slice_set bars i to) ≤ rest_under s orders bars)

abbrev pub ChangesAreFewWitness : Type 0
ChangesAreFewWitness =
    let s : State = cascade in
    let orders : List CallOrder = cascade_orders in
    let bars : List ℕ = 9 ∷ 9 ∷ [] in
    let falls : List Fall = three_falls in
    AllLower bars falls
    × (changes_over s orders bars falls ≤ 2 * count_by (λ (w, m). is_waiting m) (entries s))
