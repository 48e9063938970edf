-- How many stand ahead of a wish, from one pass to the next.
use Rattle.std.specs.Prelude.{◌≡◌, ◌∷◌, ◌≤◌, ⊤, ℕ, AllPairs, List, Option, [], slice_index}
use Rattle.admit_core.specs.declared.dossier.Wish.{Wish}
use Rattle.admit_core.specs.declared.ranking.CallOrder.{CallOrder}
use Rattle.admit_core.specs.declared.records.DayRecord.{DayRecord}
use Rattle.admit_core.specs.declared.records.Terms.{Terms}
use Rattle.admit_core.specs.Days.{Days}
use Rattle.admit_core.specs.Lapses.{AreTermsFor}
use Rattle.admit_core.specs.Proposals.{ahead}
use Rattle.admit_core.specs.State.{State}
use Rattle.admit_core.specs.Validity.{IsValid}
use Rattle.campaign_laws.specs.Moments.{Opening, openings}

-- no candidate has two wishes of one programme
abbrev pub NotSameProgramme : Wish → Wish → Type 0
NotSameProgramme v w = v.candidate ≡ w.candidate → v.programme ≡ w.programme → ⊥

-- no bar is higher in the second opening than in the first
abbrev pub NoBarRose : Opening → Opening → Type 0
NoBarRose earlier later = (h : ℕ) → slice_index later.bars h ≤ slice_index earlier.bars h

-- then no more stand ahead of any wish
abbrev pub NoMoreAhead : List CallOrder → Opening → Opening → Type 0
NoMoreAhead orders earlier later =
    NoBarRose earlier later → (w : Wish)
    → ahead later.state orders later.bars w ≤ ahead earlier.state orders earlier.bars w

-- what relates each of a list to the next
abbrev pub EachToNext : (Opening → Opening → Type 0) → List Opening → Type 0
EachToNext R [] = ⊤
EachToNext R (o ∷ []) = ⊤
EachToNext R (o ∷ p ∷ rest) = R o p × EachToNext R (p ∷ rest)

abbrev pub AheadGrowsOnlyWithABar : Type 0
AheadGrowsOnlyWithABar =
    (terms : Option Terms) (orders : List CallOrder) (d : ℕ) (old : State) (days : List DayRecord)
    (new : State)
    → IsValid old.dossier
    → AllPairs NotSameProgramme old.dossier.wishes
    → AreTermsFor old.dossier terms
    → Days terms orders d old days new
    → EachToNext (NoMoreAhead orders) (openings terms orders old days)
