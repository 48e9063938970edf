-- What holds of every lawful system of falling bars, in whatever order its bars fall.
use Rattle.std.specs.Prelude.{◌≡◌, ℕ, List, map}
use Rattle.admit_core.specs.declared.records.Fall.{Fall}
use Rattle.admit_core.specs.Falls.{FallingSystem, IsAtMost, IsLawful, Fits, IsGreatest, bars_after, AreFalls}
use Rattle.admit_core.specs.Falls.{IsRunOfFalls, falls_by, Leads}

-- the places whose bars fell, in their order
abbrev pub schools_of : List Fall → List ℕ
schools_of falls = map (λ f. f.school) falls

-- bars that are at least all that fit
abbrev pub AreAboveAllThatFit : FallingSystem → List ℕ → Type 0
AreAboveAllThatFit sys bars = (others : List ℕ) → Fits sys others → IsAtMost others bars

-- every run of falls ends at the greatest bars
abbrev pub EveryRunEndsAtTheGreatest : Type 0
EveryRunEndsAtTheGreatest = (sys : FallingSystem) (falls : List Fall) → IsLawful sys
    → IsRunOfFalls sys falls → IsGreatest sys (bars_after sys.ceilings falls)

-- also where falls end early, no bar is below one of bars that fit
abbrev pub FallsStayAboveAllThatFit : Type 0
FallsStayAboveAllThatFit =
    (sys : FallingSystem) (falls : List Fall)
    → IsLawful sys
    → AreFalls sys sys.ceilings falls
    → AreAboveAllThatFit sys (bars_after sys.ceilings falls)

-- at most one vector of bars is the greatest
abbrev pub TheGreatestIsUnique : Type 0
TheGreatestIsUnique = (sys : FallingSystem) (one other : List ℕ) → IsGreatest sys one
    → IsGreatest sys other → one ≡ other

-- the schools of a run are picks that lead the system, and they fix its falls
abbrev pub PicksFixTheFalls : Type 0
PicksFixTheFalls =
    (sys : FallingSystem) (falls : List Fall)
    → IsRunOfFalls sys falls
    → Leads sys (schools_of falls) × (falls_by sys sys.ceilings (schools_of falls) ≡ falls)
