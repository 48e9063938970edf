-- Who of a line wants a seat, as the claims and the flags of open wishes tell it.
use Rattle.std.specs.Prelude.{◌≡◌, ℕ, ◌<◌, Bool, false, not, ◌&&◌, List, [], length, map, All, Option, None, Some}
use Rattle.std.specs.Prelude.{slice_index_or}
use Rattle.std.specs.List.{list_any, range_with_len}
use Rattle.admit_core.specs.declared.ranking.CallOrder.{CallOrder}
use Rattle.admit_core.specs.State.{State}
use Rattle.linked_demand.specs.Line.{LineRow, reach}
use Rattle.linked_demand.specs.Links.{IsLinked, NeedsSeatAlone}
use Rattle.linked_demand.specs.Opens.{seat_row, wanting_at}

-- one who has a claim wants a seat by one of its wishes
abbrev pub wants_along : State → List Bool → List (List ℕ) → List Bool
wants_along s opens claims = map (list_any (wanting_at s opens)) claims

-- the claim at a place, where there is one
abbrev pub claim_at : List (List ℕ) → Option ℕ → List ℕ
claim_at claims None = []
claim_at claims (Some n) = slice_index_or claims n []

-- one with this claim wants a seat, who is live in the programme or not
abbrev pub wants_with : Bool → List Bool → List ℕ → Bool
wants_with live opens claim = not live && list_any (λ k. slice_index_or opens k false) claim

-- they want one under some flags, and none under others
abbrev pub stops_wanting : Bool → List Bool → List Bool → List ℕ → Bool
stops_wanting live old new claim = wants_with live old claim && not (wants_with live new claim)

-- the wishes of the claims are places below a number
abbrev pub AreBelow : ℕ → List (List ℕ) → Type 0
AreBelow n claims = (j : ℕ) → j < length claims → All (λ k. k < n) (slice_index_or claims j [])

-- of the claims each that is one open wish is not live in its programme
abbrev pub AllNeedSeatAlone : State → List Bool → List (List ℕ) → Type 0
AllNeedSeatAlone s opens claims =
    (j : ℕ) → j < length claims → NeedsSeatAlone s opens (slice_index_or claims j [])

-- the lines of all programmes
abbrev pub seat_rows : State → List CallOrder → List Bool → List LineRow
seat_rows s orders opens =
    map (seat_row s orders opens) (range_with_len 0 (length s.dossier.programmes))

-- how many places of a line are reached
abbrev pub reach_in : LineRow → ℕ
reach_in row = reach row.quota row.flags

-- for each programme it is known how many places of its line are reached
pub record IsReached (s : State) (orders : List CallOrder) (opens : List Bool) (reached : List ℕ)
    (claims : List (List (List ℕ))) (places : List ℕ) (exempt : List Bool) : Type 0 where
  pub links : IsLinked s orders opens (seat_rows s orders opens) claims places exempt
  pub reached_are : reached ≡ map reach_in (seat_rows s orders opens)
