-- Candidates of whom something may be true: anyone, or those who have one of some wishes.
use Rattle.std.specs.Prelude.{◌≡◌, ◌<◌, ◌+◌, ◌++◌, ℕ, Bool, false, List, length, nat_eq, vec_capacity, vec_len, ⊤}
use Rattle.admit_core.specs.DossierRows.{DossierRows}
use Rattle.admit_core.specs.State.{State}
use Rattle.day_state.specs.Others.{SameOthers}
use Rattle.desk_day.specs.DayPlaces.{AreWishesOf}
use Rattle.desk_day.specs.declared.who.Who.{Who}
use Rattle.desk_day.specs.declared.who.Who.TheVariants.{Anyone, CandidatesOf}

abbrev pub is_nobody : Who → Bool
is_nobody Anyone = false
is_nobody (CandidatesOf places) = nat_eq (length places.items) 0

-- they are candidates of the dossier
abbrev pub AreOf : DossierRows → Who → Type 0
AreOf d Anyone = ⊤
AreOf d (CandidatesOf places) = AreWishesOf d places.items

-- from one state to the other no wishes change but theirs
abbrev pub ChangesOnly : Who → State → State → Type 0
ChangesOnly Anyone s t = ⊤
ChangesOnly (CandidatesOf places) s t =
    AreWishesOf s.dossier places.items × SameOthers places.items s t

-- there was too little room to add more wishes to theirs
abbrev pub LacksRoomFor : List ℕ → Who → Type 0
LacksRoomFor more Anyone = ⊥
LacksRoomFor more (CandidatesOf places) = vec_capacity places < vec_len places + length more

-- these and others together: the wishes of both, or anyone, where either is anyone or there was too
-- little room
abbrev pub Joins : Who → Who → Who → Type 0
Joins (CandidatesOf places) (CandidatesOf more) (CandidatesOf all) =
    all.items ≡ places.items ++ more.items
Joins (CandidatesOf places) (CandidatesOf more) Anyone =
    LacksRoomFor more.items (CandidatesOf places)
Joins (CandidatesOf places) Anyone all = all ≡ Anyone
Joins Anyone others all = all ≡ Anyone

-- a step led from one state to another. Where no wishes but those of the first had changed since
-- some state before it, no wishes but those of the second have changed since then
abbrev pub Moves : State → State → Who → Who → Type 0
Moves s t before after =
    (start : State) → start.dossier ≡ s.dossier → ChangesOnly before start s
    → ChangesOnly after start t
