-- Two programmes and two candidates who are called first where they would rather not be.
use Rattle.std.specs.Prelude.{◌∷◌, List, None, []}
use Rattle.admit_core.specs.declared.ranking.CallOrder.{CallOrder}
use Rattle.admit_core.specs.declared.records.DayRecord.{DayRecord}
use Rattle.admit_core.specs.declared.state.Status.TheVariants.{Accepted, Waiting}
use Rattle.admit_core.specs.declared.tables.Tables.{Tables}
use Rattle.admit_core.specs.DossierRows.{DossierRows}
use Rattle.admit_core.specs.Standing.{dossier_of}
use Rattle.admit_core.specs.State.{State}
use Rattle.admit_core.specs.WorkedDays.{change, day, freeing}
use Rattle.admit_core.specs.WorkedFaults.{wish}
use Rattle.admit_core.specs.WorkedRows.{marked}
use Rattle.fairness.specs.NotPromised.{plain}
use Rattle.campaign_laws.specs.NotPromised.{with_own_wishes}

abbrev pub crossed_rows : Tables
crossed_rows =
    with_own_wishes (wish 1 102 20 None 1 ∷ wish 2 101 10 None 1 ∷ wish 3 102 10 None 2
    ∷ wish 4 101 20 None 2 ∷ [])

abbrev pub crossed : DossierRows
crossed = dossier_of crossed_rows

abbrev pub crossed_orders : List CallOrder
crossed_orders = plain (102 ∷ 101 ∷ []) ∷ plain (101 ∷ 102 ∷ []) ∷ []

-- on the automatic day each is offered where they are called first, and accepts
abbrev pub crossed_days : List DayRecord
crossed_days =
    day 1 (freeing [] [] (2 ∷ 3 ∷ []) (change 2 Accepted ∷ change 3 Accepted ∷ []) 0 0 ∷ [])
    (0 ∷ 0 ∷ []) [] ∷ []

abbrev pub crossed_evening : State
crossed_evening = record {
  dossier = crossed;
  marks = marked Waiting 0 0 ∷ marked Waiting 0 0 ∷ marked Accepted 1 1 ∷ marked Accepted 1 1 ∷ [];
}

-- the stable matching in which each has their first
abbrev pub both_first : State
both_first = record {
  dossier = crossed;
  marks = marked Accepted 1 1 ∷ marked Accepted 1 1 ∷ marked Waiting 0 0 ∷ marked Waiting 0 0 ∷ [];
}
