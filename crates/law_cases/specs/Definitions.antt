-- Worked cases of definitions whose other cases leave room for an error.
use Rattle.std.specs.Prelude.{◌≡◌, List, [], ◌∷◌, Some, None}
use Rattle.admit_core.specs.declared.chain.CheckReason.TheVariants.{StillOver}
use Rattle.admit_core.specs.declared.dossier.Answer.{Answer}
use Rattle.admit_core.specs.declared.dossier.AnswerKind.TheVariants.{Accept, Quit, Refuse, Withdraw}
use Rattle.admit_core.specs.declared.explanation.Explanation.TheVariants.{Live, NoSeat}
use Rattle.admit_core.specs.declared.refusal.Reason.TheVariants.{PreferenceMixed, Repeat, UnfitAnswer, Unknown}
use Rattle.admit_core.specs.declared.ranking.CallOrder.{CallOrder}
use Rattle.admit_core.specs.declared.slot.Slot.TheVariants as S
use Rattle.admit_core.specs.declared.state.Status.TheVariants.{Accepted, AutoRefused, Offered, Refused, Waiting}
use Rattle.admit_core.specs.Answers.{own}
use Rattle.admit_core.specs.AutoAnswer.{auto_all, auto_one, freed_by}
use Rattle.admit_core.specs.Boarding.{boarding}
use Rattle.admit_core.specs.Chains.{day_fault}
use Rattle.admit_core.specs.Days.{offered, unfit_on}
use Rattle.admit_core.specs.DossierRows.{DossierRows}
use Rattle.admit_core.specs.Explanations.{LastPass, explained}
use Rattle.admit_core.specs.Relations.{first_fault}
use Rattle.admit_core.specs.WorkedChains.{line, one_pass}
use Rattle.admit_core.specs.WorkedFaults.{boarded, fine, good, programme, school, tables, wish}
use Rattle.admit_core.specs.WorkedRows.{cascade, cascade_orders, first_pass, limit_state, marked, one_bed}
use Rattle.admit_core.specs.WorkedRows.{one_bed_orders}
use Rattle.admit_core.specs.State.{State}
use Rattle.bar_fixpoint.specs.Choices.{first_of, last_of, turn_of}
use Rattle.desk_day.specs.AnswersOn.{IsUnfitOf}
use Rattle.desk_day.specs.declared.refusal.DayRefusal.TheVariants.{Unfit}
use Rattle.fairness.specs.NotPromised.{plain}
use Rattle.law_cases.specs.Answers.{accepts_second, both_offered, quits_other, refuses_first}

-- of a candidate's two proposed wishes with a school the one of least place names their rank
abbrev pub NameOfRank : Type 0
NameOfRank = (boarding one_bed one_bed_orders (3 ∷ [])).name (3 ∷ []) 0 1 ≡ 0

-- past the call limit, with two ahead of one seat
abbrev pub LimitExplained : Type 0
LimitExplained =
    let orders : List CallOrder = plain (11 ∷ 12 ∷ 13 ∷ []) ∷ [] in
    let last : LastPass =
    record { opening = limit_state; orders = orders; ceilings = []; bars = [] } in
    explained last (offered limit_state orders [] first_pass).marks
    ≡ Live Offered first_pass ∷ Live Offered first_pass ∷ NoSeat 2 1 3 2 ∷ []

-- after the one fall of the first school the second is still overfilled
abbrev pub StillOverBehind : Type 0
StillOverBehind =
    day_fault cascade_orders (9 ∷ 9 ∷ []) 1 cascade
    (one_pass (line 3 5 9 2 (1 ∷ 2 ∷ []) ∷ []) 4) ≡ Some (4, StillOver 1)

-- ---- answers
abbrev pub OneIsAnsweredFor : Type 0
OneIsAnsweredFor =
    ((auto_one both_offered 81 first_pass).marks
    ≡ marked AutoRefused 1 1 ∷ marked Accepted 1 1 ∷ marked Waiting 0 0 ∷ [])
    × (auto_one both_offered 82 first_pass ≡ both_offered)

abbrev pub FreedByOne : Type 0
FreedByOne =
    (freed_by both_offered (auto_all both_offered first_pass) 81 ≡ record { seats = 1; beds = 0 })
    × (freed_by both_offered (auto_all both_offered first_pass) 82
    ≡ record { seats = 0; beds = 0 })

abbrev pub OwnAnswers : Type 0
OwnAnswers =
    (own both_offered 81 (quits_other ∷ refuses_first ∷ accepts_second ∷ [])
    ≡ refuses_first ∷ accepts_second ∷ [])
    × (own both_offered 82 (quits_other ∷ refuses_first ∷ accepts_second ∷ [])
    ≡ quits_other ∷ [])

-- the second answer of day 2 stands in row 4, below the header and an answer of day 1
abbrev pub UnfitRow : Type 0
UnfitRow =
    let earlier : Answer = record { day = 1; kind = Quit; target = 82 } in
    let later : Answer = record { day = 3; kind = Quit; target = 81 } in
    let d : DossierRows =
    record both_offered.dossier {
      answers = earlier ∷ refuses_first ∷ refuses_first ∷ later ∷ [];
    } in
    let s : State = record { dossier = d; marks = both_offered.marks } in
    (unfit_on None 2 s ≡ Some (1, Refused))
    × IsUnfitOf d 2 (unfit_on None 2 s)
    (Unfit (record { slot = S.Answers; row = 4; reason = UnfitAnswer Refused }))

-- ---- the picker that takes turns goes on from the last place told, and begins again
abbrev pub PickersChoose : Type 0
PickersChoose =
    (first_of (3 ∷ 5 ∷ 8 ∷ []) ≡ 3)
    × (last_of (3 ∷ 5 ∷ 8 ∷ []) ≡ 8)
    × (turn_of [] (3 ∷ 5 ∷ 8 ∷ []) ≡ 3)
    × (turn_of (8 ∷ 3 ∷ []) (3 ∷ 5 ∷ 8 ∷ []) ≡ 5)
    × (turn_of (3 ∷ 8 ∷ []) (3 ∷ 5 ∷ 8 ∷ []) ≡ 3)

-- ---- faults: the first wish has no preference, and a later one has
abbrev pub MixedTheOtherWay : Type 0
MixedTheOtherWay =
    first_fault
    (tables fine (wish 1 200 1 None 0 ∷ wish 2 100 1 None 0 ∷ wish 3 100 2 None 2 ∷ []) [])
    ≡ Some (record { slot = S.Wishes; row = 4; reason = PreferenceMixed 3 })

-- rows that stand twice, in the slots for which no other case shows it
abbrev pub RepeatedRows : Type 0
RepeatedRows =
    (first_fault (record good { programmes = programme 1 5 ∷ programme 1 7 ∷ [] })
    ≡ Some (record { slot = S.Programmes; row = 3; reason = Repeat 2 }))
    × (first_fault (record good { schools = school 3 ∷ school 4 ∷ school 3 ∷ [] })
    ≡ Some (record { slot = S.Schools; row = 4; reason = Repeat 2 }))
    × (first_fault (record good { boarding = boarded 3 100 1 ∷ boarded 3 100 2 ∷ [] })
    ≡ Some (record { slot = S.Boarding; row = 3; reason = Repeat 2 }))
    × (first_fault (tables fine (wish 1 100 1 None 0 ∷ wish 1 100 2 None 0 ∷ []) [])
    ≡ Some (record { slot = S.Wishes; row = 3; reason = Repeat 2 }))
    × (first_fault
    (record good {
      ceilings = record { day = 4; school = 3; ceiling = 1 }
          ∷ record { day = 4; school = 3; ceiling = 2 } ∷ [];
    })
    ≡ Some (record { slot = S.Ceilings; row = 3; reason = Repeat 2 }))

-- names that are not there, in the slots and columns for which no other case shows it
abbrev pub UnknownNames : Type 0
UnknownNames =
    (first_fault (record good { boarding = boarded 3 100 1 ∷ boarded 9 100 1 ∷ [] })
    ≡ Some (record { slot = S.Boarding; row = 3; reason = Unknown 1 }))
    × (first_fault
    (record good { ceilings = record { day = 4; school = 9; ceiling = 1 } ∷ [] })
    ≡ Some (record { slot = S.Ceilings; row = 2; reason = Unknown 2 }))
    × (first_fault (record good { answers = record { day = 1; kind = Accept; target = 9 } ∷ [] })
    ≡ Some (record { slot = S.Answers; row = 2; reason = Unknown 3 }))
    × (first_fault (record good { answers = record { day = 1; kind = Refuse; target = 100 } ∷ [] })
    ≡ Some (record { slot = S.Answers; row = 2; reason = Unknown 3 }))
    × (first_fault
    (record good { answers = record { day = 1; kind = Withdraw; target = 100 } ∷ [] })
    ≡ Some (record { slot = S.Answers; row = 2; reason = Unknown 3 }))
