-- A campaign of three days, which the laws' witnesses speak of. 11 is called first everywhere, then
-- 12, 13 and 14; 15 has a seat of the second programme. On day 1 11 gets the one seat of the first
-- programme and is barred from the school's one bed, which 12 gets; 14, who ranks their wishes,
-- gets their second. On day 2 11 refuses, and 12 gets that seat too. On day 3 12's first offer
-- lapses, and 11 gets the bed. 13 waits all the time, and 14 for their first wish.
use Rattle.std.specs.Prelude.{◌∷◌, ℕ, List, Option, Some, [], false, pos}
use Rattle.admit_core.specs.declared.dossier.AnswerKind.TheVariants.{Refuse}
use Rattle.admit_core.specs.declared.dossier.Wish.{Wish}
use Rattle.admit_core.specs.declared.ranking.CallOrder.{CallOrder}
use Rattle.admit_core.specs.declared.records.DayRecord.{DayRecord}
use Rattle.admit_core.specs.declared.records.Terms.{Terms}
use Rattle.admit_core.specs.declared.state.Status.TheVariants.{Accepted, Lapsed, Offered, Refused, Waiting}
use Rattle.admit_core.specs.Days.{first_evening}
use Rattle.admit_core.specs.DossierRows.{DossierRows}
use Rattle.admit_core.specs.State.{State}
use Rattle.admit_core.specs.WorkedDays.{change, day, fall, freeing, in_order, quiet}
use Rattle.admit_core.specs.WorkedRows.{boarder, group, marked, programme, ranked, rows, school, small_dossier, wish}

-- the wish of 13, which waits to the end, and that of 11 with boarding, which a bar stops on day 1
abbrev pub thirteenth : Wish
thirteenth = wish 3 13 0 0

abbrev pub barred_first : Wish
barred_first = boarder 4 11 1 0 2 0

abbrev pub summer : DossierRows
summer =
    let d = rows (programme 10 0 1 ∷ programme 20 0 3 ∷ []) (school 5 1 9 ∷ [])
    (wish 1 11 0 0 ∷ wish 2 12 0 0 ∷ thirteenth ∷ barred_first ∷ boarder 5 12 1 0 1 0
    ∷ wish 6 14 0 1 ∷ wish 7 14 1 2 ∷ wish 8 15 1 0 ∷ [])
    (Waiting ∷ Waiting ∷ Waiting ∷ Waiting ∷ Waiting ∷ Waiting ∷ Waiting ∷ Accepted ∷ []) in
    record d {
      groups = group 0 0 (ranked 11 1 false false ∷ ranked 12 2 false false ∷ ranked 13 3 false
          false ∷ ranked 14 4 false false ∷ ranked 15 5 false false ∷ []) ∷ [];
      answers = record { day = 2; kind = Refuse; target = 0 } ∷ [];
    }

abbrev pub summer_orders : List CallOrder
summer_orders = in_order (11 ∷ 12 ∷ 13 ∷ 14 ∷ 15 ∷ []) ∷ []

-- an offer may be answered on its day and the next
abbrev pub next_day : Option Terms
next_day =
    Some (record {
      term = 1;
      before = pos 0 ∷ pos 0 ∷ pos 0 ∷ pos 0 ∷ pos 0 ∷ pos 0 ∷ pos 0 ∷ pos 0 ∷ [];
    })

abbrev pub full : List ℕ
full = 0 ∷ 0 ∷ []

abbrev pub first_day : DayRecord
first_day =
    day 1 (freeing (1 ∷ []) (fall 0 9 1 (4 ∷ 3 ∷ []) ∷ []) (0 ∷ 4 ∷ 6 ∷ []) (change 6 Accepted ∷ [])
    0 0 ∷ []) full (0 ∷ [])

abbrev pub second_day : DayRecord
second_day = day 2 (quiet (9 ∷ []) [] (1 ∷ []) ∷ []) full (0 ∷ [])

abbrev pub third_day : DayRecord
third_day =
    record {
      day = 3;
      passes = quiet (9 ∷ []) [] (3 ∷ []) ∷ [];
      left = full;
      free = 0 ∷ [];
      lapsed = record { wish = 4; offered = pos 1 } ∷ [];
    }

abbrev pub summer_days : List DayRecord
summer_days = first_day ∷ second_day ∷ third_day ∷ []

-- the evenings
abbrev pub before_summer : State
before_summer = first_evening summer

abbrev pub first_night : State
first_night = record {
  dossier = summer;
  marks = marked Offered 1 1 ∷ marked Waiting 0 0 ∷ marked Waiting 0 0 ∷ marked Waiting 0 0
      ∷ marked Offered 1 1 ∷ marked Waiting 0 0 ∷ marked Accepted 1 1 ∷ marked Accepted 0 0 ∷ [];
}

abbrev pub second_night : State
second_night = record {
  dossier = summer;
  marks = marked Refused 2 0 ∷ marked Offered 2 1 ∷ marked Waiting 0 0 ∷ marked Waiting 0 0
      ∷ marked Offered 1 1 ∷ marked Waiting 0 0 ∷ marked Accepted 1 1 ∷ marked Accepted 0 0 ∷ [];
}

abbrev pub third_night : State
third_night = record {
  dossier = summer;
  marks = marked Refused 2 0 ∷ marked Offered 2 1 ∷ marked Waiting 0 0 ∷ marked Offered 3 1
      ∷ marked Lapsed 3 0 ∷ marked Waiting 0 0 ∷ marked Accepted 1 1 ∷ marked Accepted 0 0 ∷ [];
}

-- day 2 of the small dossier, on which nobody answers
abbrev pub small_orders : List CallOrder
small_orders = in_order (11 ∷ []) ∷ []

abbrev pub small_day : DayRecord
small_day = day 2 (quiet (3 ∷ []) [] (0 ∷ []) ∷ []) (0 ∷ []) (0 ∷ [])

abbrev pub small_days : List DayRecord
small_days = small_day ∷ []

-- and day 3, on which nothing happens
abbrev pub small_next : DayRecord
small_next = day 3 (quiet (3 ∷ []) [] [] ∷ []) (0 ∷ []) (0 ∷ [])

abbrev pub small_night : State
small_night = record { dossier = small_dossier; marks = marked Offered 2 1 ∷ [] }
