-- The moments of a campaign, and the openings of its passes.
use Rattle.std.specs.Prelude.{ℕ, ◌+◌, List, [], ◌∷◌, ◌++◌, Option}
use Rattle.admit_core.specs.declared.dossier.Answer.{Answer}
use Rattle.admit_core.specs.declared.ranking.CallOrder.{CallOrder}
use Rattle.admit_core.specs.declared.records.DayRecord.{DayRecord}
use Rattle.admit_core.specs.declared.records.PassEnd.{PassEnd}
use Rattle.admit_core.specs.declared.records.Terms.{Terms}
use Rattle.admit_core.specs.declared.state.Stamp.{Stamp}
use Rattle.admit_core.specs.Answers.{after}
use Rattle.admit_core.specs.Days.{after_lapse, answers_of, closing, morning, offered}
use Rattle.admit_core.specs.State.{State}

-- the state after each of these answers
abbrev pub after_each : State → Stamp → List Answer → List State
after_each s stamp [] = []
after_each s stamp (a ∷ rest) = after s stamp a ∷ after_each (after s stamp a) stamp rest

-- of the passes of a day, numbered from k, the state after the offers and that after the automatic
-- answers
abbrev pub after_passes : List CallOrder → ℕ → ℕ → State → List PassEnd → List State
after_passes orders day k s [] = []
after_passes orders day k s (pass ∷ rest) =
    let stamp : Stamp = record { day = day; pass = k } in
    let closed = closing s orders pass.pass.bars stamp in
    offered s orders pass.pass.bars stamp ∷ closed ∷ after_passes orders day (k + 1) closed rest

-- the state that they leave
abbrev pub evening_after : List CallOrder → ℕ → ℕ → State → List PassEnd → State
evening_after orders day k s [] = s
evening_after orders day k s (pass ∷ rest) =
    evening_after orders day (k + 1)
    (closing s orders pass.pass.bars (record { day = day; pass = k })) rest

-- the opening of a pass: the state that it finds, and its bars
pub record Opening : Type 0 where
  pub state : State
  pub bars : List ℕ

abbrev pub pass_openings : List CallOrder → ℕ → ℕ → State → List PassEnd → List Opening
pass_openings orders day k s [] = []
pass_openings orders day k s (pass ∷ rest) =
    record { state = s; bars = pass.pass.bars }
    ∷ pass_openings orders day (k + 1)
    (closing s orders pass.pass.bars (record { day = day; pass = k })) rest

-- of a day: the evening, the openings, and the moments after the evening before
abbrev pub evening_of : Option Terms → List CallOrder → State → DayRecord → State
evening_of terms orders old day =
    evening_after orders day.day 1 (morning terms day.day old) day.passes

abbrev pub day_openings : Option Terms → List CallOrder → State → DayRecord → List Opening
day_openings terms orders old day =
    pass_openings orders day.day 1 (morning terms day.day old) day.passes

abbrev pub day_moments : Option Terms → List CallOrder → State → DayRecord → List State
day_moments terms orders old day =
    let lapsed = after_lapse terms day.day old in
    lapsed ∷ after_each lapsed (record { day = day.day; pass = 0 }) (answers_of old.dossier day.day)
    ++ after_passes orders day.day 1 (morning terms day.day old) day.passes

-- the openings of some days, and all moments after the evening before the first
abbrev pub openings : Option Terms → List CallOrder → State → List DayRecord → List Opening
openings terms orders old [] = []
openings terms orders old (day ∷ days) =
    day_openings terms orders old day
    ++ openings terms orders (evening_of terms orders old day) days

abbrev pub moments : Option Terms → List CallOrder → State → List DayRecord → List State
moments terms orders old [] = []
moments terms orders old (day ∷ days) =
    day_moments terms orders old day
    ++ moments terms orders (evening_of terms orders old day) days
