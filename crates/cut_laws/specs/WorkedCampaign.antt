-- A campaign of three days under one school and one programme of two seats, whose call order is 11,
-- 12, 13, 14. On day 1 the school's ceiling bars 11, so 12 and 13 have offers. On day 2 13 refuses,
-- and 14 has that seat. From day 3 on the ceiling is 9: there 12's offer lapses, and 11 has a seat
-- and the bed.
use Rattle.std.specs.Prelude.{◌≡◌, List, [], ◌∷◌, map, negsuc, pos, Some}
use Rattle.admit_core.specs.declared.dossier.AnswerKind.TheVariants.{Refuse}
use Rattle.admit_core.specs.declared.ranking.CallOrder.{CallOrder}
use Rattle.admit_core.specs.declared.records.DayRecord.{DayRecord}
use Rattle.admit_core.specs.declared.records.Terms.{Terms}
use Rattle.admit_core.specs.declared.state.Status.TheVariants.{Accepted, Lapsed, Offered, Refused, Waiting}
use Rattle.admit_core.specs.DossierRows.{DossierRows}
use Rattle.admit_core.specs.State.{State}
use Rattle.admit_core.specs.WorkedDays.{day, in_order, quiet}
use Rattle.cut_laws.specs.Cut.{cut_at, earlier, terms_at}
use Rattle.admit_core.specs.WorkedRows.{boarder, marked, programme, rows, school, small_dossier, wish}

abbrev pub campaign : DossierRows
campaign =
    record (rows (programme 10 0 2 ∷ []) (school 5 1 0 ∷ [])
    (boarder 1 11 0 0 1 0 ∷ wish 2 12 0 0 ∷ wish 3 13 0 0 ∷ wish 4 14 0 0 ∷ [])
    (Waiting ∷ Waiting ∷ Waiting ∷ Waiting ∷ [])) {
      ceilings = record { day = 3; school = 0; ceiling = 9 } ∷ [];
      answers = record { day = 2; kind = Refuse; target = 2 } ∷ [];
    }

abbrev pub call_orders : List CallOrder
call_orders = in_order (11 ∷ 12 ∷ 13 ∷ 14 ∷ []) ∷ []

-- an offer stands on the day after its own
abbrev pub one_day_more : Terms
one_day_more = record { term = 1; before = pos 0 ∷ pos 0 ∷ pos 0 ∷ pos 0 ∷ [] }

abbrev pub first_day : DayRecord
first_day = day 1 (quiet (0 ∷ []) [] (1 ∷ 2 ∷ []) ∷ []) (0 ∷ []) (1 ∷ [])

abbrev pub second_day : DayRecord
second_day = day 2 (quiet (0 ∷ []) [] (3 ∷ []) ∷ []) (0 ∷ []) (1 ∷ [])

abbrev pub third_day : DayRecord
third_day =
    record (day 3 (quiet (9 ∷ []) [] (0 ∷ []) ∷ []) (0 ∷ []) (0 ∷ [])) {
      lapsed = record { wish = 1; offered = pos 1 } ∷ [];
    }

-- the evenings
abbrev pub first_night : State
first_night =
    record {
      dossier = campaign;
      marks = marked Waiting 0 0 ∷ marked Offered 1 1 ∷ marked Offered 1 1
          ∷ marked Waiting 0 0 ∷ [];
    }

abbrev pub second_night : State
second_night =
    record {
      dossier = campaign;
      marks = marked Waiting 0 0 ∷ marked Offered 1 1 ∷ marked Refused 2 0
          ∷ marked Offered 2 1 ∷ [];
    }

abbrev pub third_night : State
third_night =
    record {
      dossier = campaign;
      marks = marked Offered 3 1 ∷ marked Lapsed 3 0 ∷ marked Refused 2 0 ∷ marked Offered 2 1 ∷ [];
    }

-- the first evening with other stamps, in a dossier in which the answer is one of day 7
abbrev pub other_night : State
other_night =
    record {
      dossier = record campaign { answers = record { day = 7; kind = Refuse; target = 2 } ∷ [] };
      marks = marked Waiting 4 2 ∷ marked Offered 0 0 ∷ marked Offered 6 1
          ∷ marked Waiting 0 0 ∷ [];
    }

-- the days of the campaign that is cut in the evening of day 1, and the evening after them
abbrev pub cut_days : List DayRecord
cut_days =
    record second_day { day = 1 }
    ∷ record third_day { day = 2; lapsed = record { wish = 1; offered = pos 0 } ∷ [] } ∷ []

abbrev pub cut_night : State
cut_night =
    record {
      dossier = cut_at 1 first_night;
      marks = marked Offered 2 1 ∷ marked Lapsed 2 0 ∷ marked Refused 1 0
          ∷ marked Offered 1 1 ∷ [];
    }

-- the morning after day 2 with the ceiling of day 3 as a change of its own day 1, and without
-- the answer that was applied
abbrev pub other_morning : DossierRows
other_morning =
    record campaign {
      statuses = Waiting ∷ Offered ∷ Refused ∷ Offered ∷ [];
      ceilings = record { day = 1; school = 0; ceiling = 9 } ∷ [];
      answers = [];
    }

-- what the cut in the evening of day 1 gives: the answer is one of day 1, and the ceiling one of
-- day 2; the offers were made on the day before day 1; and 12's lapses on day 2
abbrev pub NextMorning : Type 0
NextMorning =
    (cut_at 1 first_night ≡ record campaign {
      statuses = Waiting ∷ Offered ∷ Offered ∷ Waiting ∷ [];
      ceilings = record { day = 2; school = 0; ceiling = 9 } ∷ [];
      answers = record { day = 1; kind = Refuse; target = 2 } ∷ [];
    })
    × (terms_at 1 (Some one_day_more) first_night
    ≡ Some (record one_day_more { before = negsuc 0 ∷ pos 0 ∷ pos 0 ∷ negsuc 0 ∷ [] }))
    × (map (earlier 1) (second_day ∷ third_day ∷ []) ≡ cut_days)

-- the small dossier in an evening on which its wish is accepted
abbrev pub small_night : State
small_night = record { dossier = small_dossier; marks = marked Accepted 1 1 ∷ [] }
