-- The lineup of a dossier, and what is kept beside it.
use Rattle.std.specs.Prelude.{◌≡◌, ℕ, Bool, List}
use Rattle.admit_core.specs.declared.ranking.CallOrder.{CallOrder}
use Rattle.admit_core.specs.DossierRows.{DossierRows}
use Rattle.admit_core.specs.Lists.{is_among}
use Rattle.admit_core.specs.State.{State}
use Rattle.linked_demand.specs.declared.lineup.Lineup.{Lineup}
use Rattle.day_state.specs.Members.{waits_beside}
use Rattle.linked_demand.specs.Boarders.{AreBySchool}
use Rattle.linked_demand.specs.Opens.{all_exempt}
use Rattle.linked_demand.specs.Seats.{AreNotes, IsLineup, limited_wishes}
use Rattle.linked_demand.specs.Wants.{IsReached}

-- it is right for the dossier and its call orders
pub record IsLineupOf (d : DossierRows) (orders : List CallOrder) (l : Lineup) : Type 0 where
  pub lines : IsLineup d orders l.claims.items l.notes
  pub boarders : AreBySchool d orders l.boarders.items
  pub limited : l.limited.items ≡ limited_wishes d orders

-- for each programme it is known how many places of its line are reached
abbrev pub IsReachedIn : State → List CallOrder → List Bool → List ℕ → Lineup → Type 0
IsReachedIn s orders opens reached l =
    IsReached s orders opens reached l.claims.items l.notes.places
    (all_exempt s l.notes.called_by_limit)

-- and the wishes that a limit calls are listed, and those that wait beside a live one
pub record AreKept (s : State) (orders : List CallOrder) (opens : List Bool) (reached : List ℕ)
    (l : Lineup) (beside : List ℕ) : Type 0 where
  pub reach : IsReachedIn s orders opens reached l
  pub notes_are : AreNotes s.dossier orders l.notes
  pub limited_are : l.limited.items ≡ limited_wishes s.dossier orders
  pub beside_are : (k : ℕ) → is_among k beside ≡ waits_beside s k
