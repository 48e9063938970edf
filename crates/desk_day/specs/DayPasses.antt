-- The passes of a day.
use Rattle.std.specs.Prelude.{◌≡◌, ℕ, ◌+◌, not, ◌||◌, List, [], ◌∷◌, ◌++◌, count_by, IsTrue, ⊤}
use Rattle.std.specs.List.{flat_map}
use Rattle.admit_core.specs.declared.ranking.CallOrder.{CallOrder}
use Rattle.admit_core.specs.declared.records.PassEnd.{PassEnd}
use Rattle.admit_core.specs.declared.state.Stamp.{Stamp}
use Rattle.admit_core.specs.declared.state.Status.TheVariants.{Offered}
use Rattle.admit_core.specs.State.{State, changed_to, is_live, is_waiting}
use Rattle.admit_core.specs.AutoAnswer.{auto_all}
use Rattle.admit_core.specs.Boarding.{boarding}
use Rattle.admit_core.specs.Days.{IsPassEnd, closing, frees_nothing, offered}
use Rattle.auto_answer.specs.Laws.{AreAnsweredBut}
use Rattle.day_state.specs.Along.{change_along}
use Rattle.bar_fixpoint.specs.Runs.{schools_of}
use Rattle.bar_fixpoint.specs.Chosen.{AreChosen, TellsOfFalls}
use Rattle.round.specs.PassLaws.{KeepsPassLaws}
use Rattle.desk_day.specs.Telling.{Telling, behind}

-- the state in which the wishes at these places have become offered
abbrev pub offered_along : List ℕ → Stamp → State → State
offered_along places stamp s = change_along (λ w m. changed_to Offered stamp m) places s

-- the schools whose bars fell in the passes, in their order
abbrev pub schools_of_passes : List PassEnd → List ℕ
schools_of_passes passes = flat_map (λ end. schools_of end.pass.falls) passes

-- the opening of the last of the passes that begin with the opening s and the number k
abbrev pub last_opening : List CallOrder → ℕ → ℕ → State → List PassEnd → State
last_opening orders day k s [] = s
last_opening orders day k s (pass ∷ []) = s
last_opening orders day k s (pass ∷ next ∷ rest) =
    last_opening orders day (k + 1)
    (closing s orders pass.pass.bars (record { day = day; pass = k })) (next ∷ rest)

-- all have been answered for: automatic answers change nothing
abbrev pub IsAnswered : State → Type 0
IsAnswered s = (stamp : Stamp) → auto_all s stamp ≡ s

-- all have been answered for, except perhaps those who have one of these wishes
abbrev pub IsAnsweredBut : List ℕ → State → Type 0
IsAnsweredBut places s = (stamp : Stamp) → AreAnsweredBut places s stamp

-- how many wishes are live or wait
abbrev pub open_wishes : State → ℕ
open_wishes s = count_by (λ m. is_live m || is_waiting m) s.marks

-- the stamp of a pass of a day
abbrev pub stamp_of : ℕ → ℕ → Stamp
stamp_of day k = record { day = day; pass = k }

-- in the passes that begin with the opening s, and of which the first has this stamp, each school
-- that fell was chosen from all that were overfilled
abbrev pub AreChosenPasses : List CallOrder → List ℕ → Stamp → State → (List ℕ → List ℕ → ℕ)
    → List ℕ → List PassEnd → Type 0
AreChosenPasses orders ceilings stamp s choice told [] = ⊤
AreChosenPasses orders ceilings stamp s choice told (pass ∷ rest) =
    AreChosen (boarding s orders ceilings) choice told ceilings pass.pass.falls
    × AreChosenPasses orders ceilings (stamp_of stamp.day (stamp.pass + 1))
    (closing s orders pass.pass.bars stamp) choice (told ++ schools_of pass.pass.falls) rest

-- each of these passes keeps the laws of passes
abbrev pub PassesKeepLaws : List CallOrder → List ℕ → ℕ → ℕ → State → List PassEnd → Type 0
PassesKeepLaws orders ceilings day k s [] = ⊤
PassesKeepLaws orders ceilings day k s (pass ∷ rest) =
    KeepsPassLaws s (offered s orders pass.pass.bars (stamp_of day k)) ceilings pass.pass
    × PassesKeepLaws orders ceilings day (k + 1)
    (closing s orders pass.pass.bars (stamp_of day k)) rest

-- what was told before is a prefix of what is told now
abbrev pub TellsMore : List ℕ → List ℕ → Type 0
TellsMore before after = (picks : List ℕ) × (after ≡ before ++ picks)

-- a picker told of the falls of these passes, of which the first has this stamp and each freed
-- something, and then of falls of the next one, which may have ended early
abbrev pub TellsAlong : List CallOrder → List ℕ → Stamp → State → Telling → List PassEnd → Type 0
TellsAlong orders ceilings stamp s telling [] =
    TellsOfFalls (boarding s orders ceilings) telling.choice telling.before telling.after
TellsAlong orders ceilings stamp s telling (pass ∷ rest) =
    IsPassEnd s orders ceilings stamp pass
    × IsTrue (not (frees_nothing pass.freed))
    × AreChosen (boarding s orders ceilings) telling.choice telling.before ceilings pass.pass.falls
    × TellsAlong orders ceilings (stamp_of stamp.day (stamp.pass + 1))
    (closing s orders pass.pass.bars stamp) (behind (schools_of pass.pass.falls) telling) rest

-- what a picker told where memory ran out in a day whose passes begin with the opening s
abbrev pub TellsOfPasses : List CallOrder → List ℕ → ℕ → State → (List ℕ → List ℕ → ℕ)
    → List ℕ → List ℕ → Type 0
TellsOfPasses orders ceilings day s choice told told_after =
    (passes : List PassEnd) × TellsAlong orders ceilings (stamp_of day 1) s
    (record { before = told; after = told_after; choice = choice }) passes
