-- A school whose bar never fell, with more beds.
use Rattle.std.specs.Prelude.{◌≡◌, ◌≤◌, ℕ, All, List, Option, slice_index}
use Rattle.std.specs.List.{AllZip}
use Rattle.admit_core.specs.declared.ranking.CallOrder.{CallOrder}
use Rattle.admit_core.specs.declared.records.DayRecord.{DayRecord}
use Rattle.admit_core.specs.declared.records.Terms.{Terms}
use Rattle.admit_core.specs.Days.{Days, ceilings_of}
use Rattle.admit_core.specs.DossierRows.{DossierRows, beds_of}
use Rattle.admit_core.specs.LeastBeds.{with_beds}
use Rattle.admit_core.specs.State.{State}

-- in each pass of a day the school's bar stands at its ceiling
abbrev pub StandsAtCeiling : DossierRows → ℕ → DayRecord → Type 0
StandsAtCeiling d h day =
    All (λ pass. slice_index pass.pass.bars h ≡ slice_index (ceilings_of d day.day) h) day.passes

-- two days with the same lapses, passes and seats left, which may differ in the free beds
abbrev pub IsSameButForBeds : DayRecord → DayRecord → Type 0
IsSameButForBeds day other = record other { free = day.free } ≡ day

-- from day d on these days, but for the free beds, lead from the first state to the second
pub record HasSameDays (terms : Option Terms) (orders : List CallOrder) (d : ℕ) (old : State)
    (days : List DayRecord) (new : State) : Type 0 where
  pub others : List DayRecord
  pub same : AllZip IsSameButForBeds days others
  pub are_days : Days terms orders d old others new

-- where the bar of a school never fell, the days are the same with more beds there
abbrev pub MoreBedsChangeNothing : Type 0
MoreBedsChangeNothing =
    (terms : Option Terms) (orders : List CallOrder) (d : ℕ) (old : State) (days : List DayRecord)
    (new : State) (h n : ℕ)
    → Days terms orders d old days new
    → All (StandsAtCeiling old.dossier h) days
    → beds_of old.dossier h ≤ n
    → HasSameDays terms orders d (with_beds old h n) days (with_beds new h n)
