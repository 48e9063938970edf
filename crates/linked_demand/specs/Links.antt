-- The lines of the programmes, and where each waiting wish stands in them.
use Rattle.std.specs.Prelude.{◌≡◌, ℕ, ◌<◌, Bool, true, false, ◌&&◌, List, [], ◌∷◌, map, length, Some, ◌==◌, nat_eq}
use Rattle.std.specs.Prelude.{slice_get, slice_index, slice_index_or}
use Rattle.std.specs.List.{range_with_len}
use Rattle.admit_core.specs.declared.dossier.Wish.{Wish}
use Rattle.admit_core.specs.declared.state.Mark.{Mark}
use Rattle.admit_core.specs.declared.ranking.CallOrder.{CallOrder}
use Rattle.admit_core.specs.Lists.{places_where}
use Rattle.admit_core.specs.DossierRows.{DossierRows}
use Rattle.admit_core.specs.State.{State, entries, is_waiting}
use Rattle.admit_core.specs.Proposals.{needs_no_seat}
use Rattle.day_state.specs.Kept.{has_seat_there}
use Rattle.linked_demand.specs.Line.{LineRow}
use Rattle.linked_demand.specs.Opens.{line_of, seat_row}

-- what the links are seen as
pub record LinksRow : Type 0 where
  pub state : State
  pub orders : List CallOrder
  pub opens : List Bool

-- where a number stands in a list and nowhere else
pub record IsPlaceOf (c : ℕ) (xs : List ℕ) (k : ℕ) : Type 0 where
  pub within : k < length xs
  pub here : slice_index xs k ≡ c
  pub once : (j : ℕ) → j < length xs → nat_eq j k ≡ false → nat_eq c (slice_index xs j) ≡ false

-- a wish's place in the line of its programme
abbrev pub IsSeatPlace : DossierRows → List CallOrder → Wish → ℕ → Type 0
IsSeatPlace d orders w k = IsPlaceOf w.candidate (line_of d orders w.programme) k

-- the candidate's wishes in the programme, by place
abbrev pub claim_of : DossierRows → ℕ → ℕ → List ℕ
claim_of d p c = places_where (λ w. (w.candidate == c) && (w.programme == p)) d.wishes

-- the wish at a place, where it waits
pub record WaitsAt (s : State) (i : ℕ) (w : Wish) (m : Mark) : Type 0 where
  pub here : slice_get (entries s) i ≡ Some (w, m)
  pub waits : is_waiting m ≡ true

-- every wish that is open waits
abbrev pub AllOpenWait : State → List Bool → Type 0
AllOpenWait s opens =
    (k : ℕ) → slice_index_or opens k false ≡ true → (w : Wish) × (m : Mark) × WaitsAt s k w m

-- an open wish that is a claim by itself is not live in its programme
abbrev pub NeedsSeatAlone : State → List Bool → List ℕ → Type 0
NeedsSeatAlone s opens claim =
    (k : ℕ) → claim ≡ k ∷ [] → slice_index_or opens k false ≡ true → has_seat_there s k ≡ false

pub record IsLinked (s : State) (orders : List CallOrder) (opens : List Bool) (lines : List LineRow)
    (claims : List (List (List ℕ))) (places : List ℕ) (exempt : List Bool) : Type 0 where
  pub marks_each : length s.marks ≡ length s.dossier.wishes
  pub opens_each : length opens ≡ length s.dossier.wishes
  pub places_each : length places ≡ length s.dossier.wishes
  pub programmes_are : (i : ℕ) (w : Wish) → slice_get s.dossier.wishes i ≡ Some w
      → w.programme < length s.dossier.programmes
  pub lines_are : lines
      ≡ map (seat_row s orders opens) (range_with_len 0 (length s.dossier.programmes))
  pub claims_are : claims ≡ map (λ p. map (claim_of s.dossier p) (line_of s.dossier orders p))
      (range_with_len 0 (length s.dossier.programmes))
  pub places_are : (i : ℕ) (w : Wish) → slice_get s.dossier.wishes i ≡ Some w
      → IsSeatPlace s.dossier orders w (slice_index places i)
  pub exempt_each : length exempt ≡ length s.dossier.wishes
  pub exempt_are : (i : ℕ) (w : Wish) → slice_get s.dossier.wishes i ≡ Some w
      → slice_index_or exempt i false ≡ needs_no_seat s orders w
