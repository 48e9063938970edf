-- Who may still have to be answered for.
use Rattle.std.specs.Prelude.{◌≡◌, ◌++◌, ℕ, List, ⊤}
use Rattle.admit_core.specs.AutoAnswer.{auto_all}
use Rattle.admit_core.specs.DossierRows.{DossierRows}
use Rattle.admit_core.specs.Proposals.{proposed}
use Rattle.admit_core.specs.State.{State}
use Rattle.admit_core.specs.declared.ranking.CallOrder.{CallOrder}
use Rattle.admit_core.specs.declared.state.Stamp.{Stamp}
use Rattle.desk_day.specs.DayPasses.{offered_along}
use Rattle.desk_day.specs.DayPlaces.{AreWishesOf}
use Rattle.desk_day.specs.Once.{AreOfOneEach, NamesSame}
use Rattle.desk_day.specs.Who.{ChangesOnly}
use Rattle.desk_day.specs.declared.who.Who.{Who}
use Rattle.desk_day.specs.declared.who.Who.TheVariants.{Anyone, CandidatesOf}

-- all others have been answered for: whenever automatic answers come, they change nothing of theirs
abbrev pub AnswersOnly : Who → State → Type 0
AnswersOnly these s = (stamp : Stamp) → ChangesOnly these s (auto_all s stamp)

-- these are asked after offers: still anyone, or each candidate of the wishes or the offers once
abbrev pub AreAsked : DossierRows → List ℕ → Who → Who → Type 0
AreAsked d offers Anyone Anyone = ⊤
AreAsked d offers Anyone (CandidatesOf asked) = ⊥
AreAsked d offers (CandidatesOf places) Anyone = ⊥
AreAsked d offers (CandidatesOf places) (CandidatesOf asked) =
    NamesSame d (places.items ++ offers) asked.items × AreOfOneEach d asked.items

-- wishes that are proposed in a state under some call orders and bars
pub record AreProposed (s : State) (offers : List ℕ) : Type 0 where
  pub orders : List CallOrder
  pub bars : List ℕ
  pub are : offers ≡ proposed s orders bars

-- the automatic answers after these offers change nobody but whom they ask: so it is from the
-- state that the offers lead to, and from the state before
pub record AsksAfter (s : State) (offers : List ℕ) (stamp : Stamp) (asked : Who) : Type 0 where
  pub within : AreWishesOf s.dossier offers
  pub answers : ChangesOnly asked (offered_along offers stamp s)
      (auto_all (offered_along offers stamp s) stamp)
  pub changes : ChangesOnly asked s (auto_all (offered_along offers stamp s) stamp)
