-- Worked days: what passes, answers, lapses and automatic answers leave, and how the wishes are then explained.
use Rattle.std.specs.Prelude.{◌≡◌, ℕ, pos, List, [], ◌∷◌, map, Some, None}
use Rattle.admit_core.specs.declared.ranking.CallOrder.{CallOrder}
use Rattle.admit_core.specs.declared.ranking.Bound.TheVariants.{Free}
use Rattle.admit_core.specs.declared.dossier.Answer.{Answer}
use Rattle.admit_core.specs.declared.dossier.AnswerKind.TheVariants.{Accept, Refuse, Withdraw, Quit}
use Rattle.admit_core.specs.declared.state.Status.{Status}
use Rattle.admit_core.specs.declared.state.Status.TheVariants.{Waiting, Offered, Accepted, Refused, Withdrawn}
use Rattle.admit_core.specs.declared.state.Status.TheVariants.{Quit as HasQuit, AutoRefused, Lapsed}
use Rattle.admit_core.specs.declared.state.Mark.{Mark}
use Rattle.admit_core.specs.declared.state.Change.{Change}
use Rattle.admit_core.specs.declared.records.Fall.{Fall}
use Rattle.admit_core.specs.declared.records.PassEnd.{PassEnd}
use Rattle.admit_core.specs.declared.records.DayRecord.{DayRecord}
use Rattle.admit_core.specs.declared.records.Terms.{Terms}
use Rattle.admit_core.specs.declared.explanation.Explanation.{Explanation}
use Rattle.admit_core.specs.declared.explanation.Explanation.TheVariants.{Gone, Live, Barred, NoSeat}
use Rattle.admit_core.specs.declared.explanation.BarCause.TheVariants.{Ceiling, Full}
use Rattle.admit_core.specs.declared.dossier.CeilingChange.{CeilingChange}
use Rattle.admit_core.specs.DossierRows.{DossierRows}
use Rattle.admit_core.specs.State.{State, seats_left, free_beds}
use Rattle.admit_core.specs.Proposals.{proposed, demanded_ranks}
use Rattle.admit_core.specs.AutoAnswer.{auto_all}
use Rattle.admit_core.specs.Answers.{after_all}
use Rattle.admit_core.specs.Days.{Days, first_evening, ceilings_of, morning, unfit_on, closing}
use Rattle.admit_core.specs.Explanations.{explained}
use Rattle.admit_core.specs.WorkedRows.{programme, limited, school, wish, boarder, rows, state, order, marked}
use Rattle.admit_core.specs.WorkedRows.{two_offers, two_orders, realistic, realistic_order, first_marks, last_marks}

abbrev pub fall : ℕ → ℕ → ℕ → List ℕ → Fall
fall h from to wishes = record { school = h; from = from; to = to; wishes = wishes }

-- a pass whose automatic answers change nothing, and one whose answers change something
abbrev pub quiet : List ℕ → List Fall → List ℕ → PassEnd
quiet bars falls offers = record {
  pass = record { bars = bars; falls = falls; offers = offers };
  autos = [];
  freed = record { seats = 0; beds = 0 };
}

abbrev pub change : ℕ → Status → Change
change place status = record { wish = place; status = status }

abbrev pub freeing : List ℕ → List Fall → List ℕ → List Change → ℕ → ℕ → PassEnd
freeing bars falls offers autos seats beds =
    record {
      pass = record { bars = bars; falls = falls; offers = offers };
      autos = autos;
      freed = record { seats = seats; beds = beds };
    }

abbrev pub day : ℕ → List PassEnd → List ℕ → List ℕ → DayRecord
day d passes left free = record { day = d; passes = passes; left = left; free = free; lapsed = [] }

abbrev pub in_order : List ℕ → CallOrder
in_order ids = order ids (map (λ x. Free) ids)

-- these days lead from the dossier's first evening to these marks
abbrev pub Leave : DossierRows → List CallOrder → List DayRecord → List Mark → Type 0
Leave d orders days marks = Days None orders 1 (first_evening d) days (record { dossier = d; marks = marks })

-- a programme with more seats than wishes keeps one
abbrev pub vacant : DossierRows
vacant = rows (programme 10 0 3 ∷ []) [] (wish 1 11 0 0 ∷ wish 2 12 0 0 ∷ []) (Waiting ∷ Waiting ∷ [])

abbrev pub two_candidates : List CallOrder
two_candidates = in_order (11 ∷ 12 ∷ []) ∷ []

abbrev pub VacantSeat : Type 0
VacantSeat = Leave vacant two_candidates (day 1 (quiet [] [] (0 ∷ 1 ∷ []) ∷ []) (1 ∷ []) [] ∷ [])
    (marked Offered 1 1 ∷ marked Offered 1 1 ∷ [])

-- a seat stays vacant because the one who waits for it is behind the bar: the school's one bed is held
abbrev pub bed_is_held : DossierRows
bed_is_held =
    rows (programme 10 0 1 ∷ programme 20 0 1 ∷ []) (school 5 1 9 ∷ [])
    (boarder 1 11 1 0 1 0 ∷ boarder 2 12 0 0 2 0 ∷ [])
    (Accepted ∷ Waiting ∷ [])

abbrev pub BedIsHeld : Type 0
BedIsHeld =
    Leave bed_is_held two_candidates (day 1 (quiet (1 ∷ []) (fall 0 9 1 (1 ∷ []) ∷ []) [] ∷ []) (1 ∷ 0 ∷ []) (0 ∷ [])
    ∷ []) (marked Accepted 0 0 ∷ marked Waiting 0 0 ∷ [])

-- edges of bars: a school without beds, one whose ceiling is 0 and rises to 1 on day 2, and one with the greatest
-- ceiling
abbrev pub edges : DossierRows
edges =
    let d = rows (programme 10 0 3 ∷ []) (school 5 0 4 ∷ school 6 3 0 ∷ school 7 3 2000000000 ∷ [])
    (boarder 1 61 0 0 2 0 ∷ boarder 2 62 0 1 1 0 ∷ boarder 3 63 0 2 1 0 ∷ [])
    (Waiting ∷ Waiting ∷ Waiting ∷ []) in
    record d { ceilings = record { day = 2; school = 1; ceiling = 1 } ∷ [] }

abbrev pub edge_orders : List CallOrder
edge_orders = in_order (61 ∷ 62 ∷ 63 ∷ []) ∷ []

abbrev pub edge_days : List DayRecord
edge_days =
    day 1 (quiet (1 ∷ 0 ∷ 2000000000 ∷ []) (fall 0 4 1 (0 ∷ []) ∷ []) (2 ∷ []) ∷ []) (2 ∷ []) (0 ∷ 3 ∷ 2 ∷ [])
    ∷ day 2 (quiet (1 ∷ 1 ∷ 2000000000 ∷ []) (fall 0 4 1 (0 ∷ []) ∷ []) (1 ∷ []) ∷ []) (1 ∷ []) (0 ∷ 2 ∷ 2 ∷ [])
    ∷ []

abbrev pub edge_marks : List Mark
edge_marks = marked Waiting 0 0 ∷ marked Waiting 0 0 ∷ marked Offered 1 1 ∷ []

-- the same school's ceiling changes twice, and another's in between: the latest change of each counts
abbrev pub changing : DossierRows
changing =
    let change : ℕ → ℕ → ℕ → CeilingChange =
    λ day school ceiling. record { day = day; school = school; ceiling = ceiling } in
    record edges { ceilings = change 2 1 1 ∷ change 3 0 7 ∷ change 4 1 5 ∷ [] }

abbrev pub CeilingsChange : Type 0
CeilingsChange =
    map (ceilings_of changing) (1 ∷ 2 ∷ 3 ∷ 4 ∷ 5 ∷ [])
    ≡ (4 ∷ 0 ∷ 2000000000 ∷ []) ∷ (4 ∷ 1 ∷ 2000000000 ∷ []) ∷ (7 ∷ 1 ∷ 2000000000 ∷ []) ∷ (7 ∷ 5 ∷ 2000000000 ∷ [])
    ∷ (7 ∷ 5 ∷ 2000000000 ∷ []) ∷ []

abbrev pub EdgesOfBars : Type 0
EdgesOfBars =
    (ceilings_of edges 1 ≡ 4 ∷ 0 ∷ 2000000000 ∷ [])
    × (ceilings_of edges 2 ≡ 4 ∷ 1 ∷ 2000000000 ∷ [])
    × (ceilings_of edges 3 ≡ 4 ∷ 1 ∷ 2000000000 ∷ [])
    × Leave edges edge_orders edge_days (marked Waiting 0 0 ∷ marked Offered 2 1 ∷ marked Offered 1 1 ∷ [])

-- the seat that an automatic answer frees is offered in a second pass of the same day
abbrev pub FreedSeat : Type 0
FreedSeat =
    Leave two_offers.dossier two_orders
    (day 1 (freeing [] [] (0 ∷ 1 ∷ []) (change 0 AutoRefused ∷ change 1 Accepted ∷ []) 1 0 ∷ quiet [] [] (2 ∷ []) ∷ [])
    (0 ∷ 0 ∷ []) [] ∷ [])
    (marked AutoRefused 1 1 ∷ marked Accepted 1 1 ∷ marked Offered 1 2 ∷ [])

-- a bed alone is freed: the bars start again at the ceilings in the second pass, and the one who was barred gets the
-- offer
abbrev pub one_seat_two_wishes : DossierRows
one_seat_two_wishes =
    rows (programme 10 0 1 ∷ programme 20 0 1 ∷ []) (school 5 1 5 ∷ [])
    (boarder 1 91 0 0 1 2 ∷ wish 2 91 0 1 ∷ boarder 3 92 1 0 2 0 ∷ [])
    (Waiting ∷ Waiting ∷ Waiting ∷ [])

abbrev pub FreedBed : Type 0
FreedBed =
    Leave one_seat_two_wishes (in_order (91 ∷ 92 ∷ []) ∷ [])
    (day 1 (freeing (1 ∷ []) (fall 0 5 1 (0 ∷ 2 ∷ []) ∷ []) (0 ∷ 1 ∷ [])
    (change 0 AutoRefused ∷ change 1 Accepted ∷ []) 0 1 ∷ quiet (5 ∷ []) [] (2 ∷ []) ∷ [])
    (0 ∷ 0 ∷ []) (0 ∷ []) ∷ [])
    (marked AutoRefused 1 1 ∷ marked Accepted 1 1 ∷ marked Offered 1 2 ∷ [])

-- a call limit does not lift a bar
abbrev pub limit_and_bar : DossierRows
limit_and_bar = rows (limited 10 0 1 2 ∷ []) (school 5 0 9 ∷ []) (boarder 1 11 0 0 1 0 ∷ wish 2 12 0 0 ∷ [])
    (Waiting ∷ Waiting ∷ [])

abbrev pub LimitUnderBar : Type 0
LimitUnderBar =
    Leave limit_and_bar two_candidates (day 1 (quiet (0 ∷ []) (fall 0 9 0 (0 ∷ []) ∷ []) (1 ∷ []) ∷ []) (0 ∷ [])
    (0 ∷ []) ∷ []) (marked Waiting 0 0 ∷ marked Offered 1 1 ∷ [])

-- one seat for two candidates, and the answers of day 2
abbrev pub one_seat : List Answer → DossierRows
one_seat answers = record (rows (programme 10 0 1 ∷ []) [] (wish 1 11 0 0 ∷ wish 2 12 0 0 ∷ [])
    (Waiting ∷ Waiting ∷ [])) { answers = answers }

abbrev pub evening_one : List Answer → State
evening_one answers = record { dossier = one_seat answers; marks = marked Offered 1 1 ∷ marked Waiting 0 0 ∷ [] }

abbrev pub accepts : ℕ → Answer
accepts place = record { day = 2; kind = Accept; target = place }

abbrev pub refuses : ℕ → Answer
refuses place = record { day = 2; kind = Refuse; target = place }

abbrev pub withdraws : ℕ → Answer
withdraws place = record { day = 2; kind = Withdraw; target = place }

abbrev pub quits : ℕ → Answer
quits c = record { day = 2; kind = Quit; target = c }

-- a second accept fits and changes no stamp; a refusal fits once; a live wish is not withdrawn, and a waiting one
-- neither accepted nor refused
abbrev pub AnswersFit : Type 0
AnswersFit =
    (unfit_on None 2 (evening_one (accepts 0 ∷ accepts 0 ∷ refuses 1 ∷ [])) ≡ Some (2, Waiting))
    × (unfit_on None 2 (evening_one (refuses 0 ∷ refuses 0 ∷ [])) ≡ Some (1, Refused))
    × (unfit_on None 2 (evening_one (withdraws 1 ∷ withdraws 0 ∷ [])) ≡ Some (1, Offered))
    × (unfit_on None 2 (evening_one (quits 11 ∷ quits 11 ∷ accepts 0 ∷ [])) ≡ Some (2, HasQuit))
    × (unfit_on None 3 (evening_one (refuses 1 ∷ [])) ≡ None)
    × ((morning None 2 (evening_one (accepts 0 ∷ accepts 0 ∷ withdraws 1 ∷ []))).marks
    ≡ marked Accepted 2 0 ∷ marked Withdrawn 2 0 ∷ [])

-- accepting one of two offers refuses the other, and the waiting wishes stay
abbrev pub three_wishes : State
three_wishes =
    record {
      dossier = rows (programme 10 0 1 ∷ programme 20 0 1 ∷ programme 30 0 1 ∷ []) []
          (wish 1 11 0 0 ∷ wish 2 11 1 0 ∷ wish 3 11 2 0 ∷ wish 4 12 0 0 ∷ []) [];
      marks = marked Offered 1 1 ∷ marked Accepted 1 0 ∷ marked Waiting 0 0 ∷ marked Offered 1 1 ∷ [];
    }

abbrev pub AcceptsOne : Type 0
AcceptsOne =
    (after_all three_wishes (record { day = 2; pass = 0 }) (accepts 0 ∷ [])).marks
    ≡ marked Accepted 2 0 ∷ marked Refused 2 0 ∷ marked Waiting 0 0 ∷ marked Offered 1 1 ∷ []

-- accepting what is accepted changes nothing, not its stamp either
abbrev pub AcceptedStays : Type 0
AcceptedStays =
    (after_all three_wishes (record { day = 2; pass = 0 }) (accepts 1 ∷ [])).marks
    ≡ marked Refused 2 0 ∷ marked Accepted 1 0 ∷ marked Waiting 0 0 ∷ marked Offered 1 1 ∷ []

-- what is answered for a candidate who has accepted: nothing while they have no better offer, and that one once they
-- have it
abbrev pub ranks_two : List Mark → State
ranks_two marks = record {
  dossier = rows (programme 10 0 1 ∷ programme 20 0 1 ∷ []) []
      (wish 1 81 0 2 ∷ wish 2 81 1 1 ∷ []) [];
  marks = marks;
}

abbrev pub BetterOffer : Type 0
BetterOffer =
    let kept = marked Accepted 1 1 ∷ marked Waiting 0 0 ∷ [] in
    let better = marked Accepted 1 1 ∷ marked Offered 2 1 ∷ [] in
    ((auto_all (ranks_two kept) (record { day = 2; pass = 1 })).marks ≡ kept)
    × ((auto_all (ranks_two better) (record { day = 2; pass = 1 })).marks
    ≡ marked AutoRefused 2 1 ∷ marked Accepted 2 1 ∷ [])

-- who is live in a programme or a school takes one seat or bed there, by however many wishes
abbrev pub live_twice : State
live_twice =
    state (rows (programme 10 0 2 ∷ programme 20 0 1 ∷ []) (school 5 2 9 ∷ [])
    (boarder 1 71 0 0 1 0 ∷ wish 2 71 0 0 ∷ boarder 3 71 1 0 1 0 ∷ [])
    (Offered ∷ Accepted ∷ Offered ∷ []))

abbrev pub LiveTwice : Type 0
LiveTwice = (seats_left live_twice 0 ≡ 1) × (seats_left live_twice 1 ≡ 0) × (free_beds live_twice 0 ≡ 1)

-- who is live in a school is not barred there and demands no bed, and who is live in a programme stands ahead of nobody
abbrev pub live_in_both : State
live_in_both =
    state (rows (programme 10 0 2 ∷ programme 20 0 1 ∷ []) (school 5 1 9 ∷ [])
    (boarder 1 71 0 0 3 0 ∷ boarder 2 71 1 0 3 0 ∷ wish 3 71 0 0 ∷ wish 4 72 0 0 ∷ [])
    (Offered ∷ Waiting ∷ Waiting ∷ Waiting ∷ []))

abbrev pub HoldersStandAside : Type 0
HoldersStandAside =
    let orders = in_order (71 ∷ 72 ∷ []) ∷ [] in
    (proposed live_in_both orders (0 ∷ []) ≡ 1 ∷ 2 ∷ 3 ∷ []) × (demanded_ranks live_in_both orders (0 ∷ []) 0 ≡ [])

-- who quits loses all their live and waiting wishes, and the seat is offered on the same day
abbrev pub Quits : Type 0
Quits =
    Leave (one_seat (quits 11 ∷ [])) two_candidates
    (day 1 (quiet [] [] (0 ∷ []) ∷ []) (0 ∷ []) [] ∷ day 2 (quiet [] [] (1 ∷ []) ∷ []) (0 ∷ []) [] ∷ [])
    (marked HasQuit 2 0 ∷ marked Offered 2 1 ∷ [])

-- an offer of day 1 stands on day 2 under a term of 1, and lapses on day 3, before the day's answers
abbrev pub one_day_each : Terms
one_day_each = record { term = 1; before = pos 0 ∷ pos 0 ∷ [] }

abbrev pub late : Answer
late = record { day = 3; kind = Accept; target = 0 }

abbrev pub lapsing_days : List DayRecord
lapsing_days =
    day 1 (quiet [] [] (0 ∷ []) ∷ []) (0 ∷ []) []
    ∷ day 2 (quiet [] [] [] ∷ []) (0 ∷ []) []
    ∷ record {
      day = 3;
      passes = quiet [] [] (1 ∷ []) ∷ [];
      left = 0 ∷ [];
      free = [];
      lapsed = record { wish = 0; offered = pos 1 } ∷ [];
    }
    ∷ []

abbrev pub Deadline : Type 0
Deadline =
    Days (Some one_day_each) two_candidates 1 (first_evening (one_seat [])) lapsing_days
    (record { dossier = one_seat []; marks = marked Lapsed 3 0 ∷ marked Offered 3 1 ∷ [] })
    × (unfit_on (Some one_day_each) 3 (evening_one (late ∷ [])) ≡ Some (0, Lapsed))
    × (unfit_on (Some one_day_each) 2 (evening_one (accepts 0 ∷ [])) ≡ None)

-- what is said of all wishes in an evening
abbrev pub explained_after : State → List CallOrder → List ℕ → List ℕ → List Mark → List Explanation
explained_after opening orders ceilings bars marks =
    explained (record { opening = opening; orders = orders; ceilings = ceilings; bars = bars }) marks

abbrev pub realistic_at : List Mark → State
realistic_at marks = record { dossier = realistic; marks = marks }

-- the opening of the second pass of the realistic dossier's first day
abbrev pub second_opening : State
second_opening = closing (first_evening realistic) (realistic_order ∷ []) (10 ∷ []) (record { day = 1; pass = 1 })

-- the realistic dossier after its first day, whose last pass has the bar 0, and after its second
abbrev pub FirstDayExplained : Type 0
FirstDayExplained =
    explained_after second_opening (realistic_order ∷ []) (10 ∷ []) (0 ∷ []) first_marks
    ≡ Live Offered (record { day = 1; pass = 1 })
    ∷ Live Offered (record { day = 1; pass = 1 })
    ∷ Gone AutoRefused (record { day = 1; pass = 1 })
    ∷ Live Accepted (record { day = 1; pass = 1 })
    ∷ Barred 0 1 0 (Full 1)
    ∷ Barred 0 1 0 (Full 1)
    ∷ Live Offered (record { day = 1; pass = 2 })
    ∷ NoSeat 0 0 4 0
    ∷ []

abbrev pub SecondDayExplained : Type 0
SecondDayExplained =
    explained_after (morning None 2 (realistic_at first_marks)) (realistic_order ∷ []) (10 ∷ []) (10 ∷ []) last_marks
    ≡ Live Accepted (record { day = 2; pass = 0 })
    ∷ Gone Refused (record { day = 2; pass = 0 })
    ∷ Gone AutoRefused (record { day = 1; pass = 1 })
    ∷ Live Accepted (record { day = 1; pass = 1 })
    ∷ Live Offered (record { day = 2; pass = 1 })
    ∷ NoSeat 0 0 3 0
    ∷ Gone Refused (record { day = 2; pass = 0 })
    ∷ NoSeat 1 0 4 0
    ∷ []

-- barred by the ceiling, and by a bed that is held
abbrev pub BarsExplained : Type 0
BarsExplained =
    (explained_after (first_evening edges) edge_orders (4 ∷ 0 ∷ 2000000000 ∷ []) (1 ∷ 0 ∷ 2000000000 ∷ []) edge_marks
    ≡ Barred 0 2 1 (Full 0) ∷ Barred 1 1 0 Ceiling ∷ Live Offered (record { day = 1; pass = 1 }) ∷ [])
    × (explained_after (first_evening bed_is_held) two_candidates (9 ∷ []) (1 ∷ [])
    (marked Accepted 0 0 ∷ marked Waiting 0 0 ∷ [])
    ≡ Live Accepted (record { day = 0; pass = 0 }) ∷ Barred 0 2 1 (Full 1) ∷ [])
