-- The text of a pass, of a day and of days tells its records: two with the same text are the same.
use Rattle.std.specs.Prelude.{◌≡◌, ℕ, ℤ, List, [], All, flat_map}
use Rattle.admit_core.specs.DossierRows.{DossierRows}
use Rattle.admit_core.specs.declared.records.DayRecord.{DayRecord}
use Rattle.admit_core.specs.declared.records.PassEnd.{PassEnd}
use Rattle.report.specs.DayText.{IsLapseOf, dated_day_text, day_text, pass_text}
use Rattle.report_laws.specs.Told.{HasNames, IsSmall, IsToldDay, IsToldPass}

-- a pass with its number: falls, bars, offers, automatic answers, and what these freed
abbrev pub PassesAreTold : Type 0
PassesAreTold =
    (d : DossierRows) (number further : ℕ) (one other : PassEnd)
    → HasNames d
    → IsSmall number
    → IsSmall further
    → IsToldPass d one
    → IsToldPass d other
    → (pass_text d (number, one) ≡ pass_text d (further, other))
    → (number ≡ further) × (one ≡ other)

-- the day can be told, and no offer lapsed on it
pub record IsUndated (d : DossierRows) (told : DayRecord) : Type 0 where
  pub day : IsToldDay d told
  pub no_lapse : told.lapsed ≡ []

-- the day can be told, and so can its lapses
pub record IsDated (d : DossierRows) (start : ℤ) (term : ℕ) (told : DayRecord) : Type 0 where
  pub day : IsToldDay d told
  pub lapses : All (IsLapseOf d start term) told.lapsed

-- days without deadlines, with their numbers, passes and evenings
abbrev pub DaysAreTold : Type 0
DaysAreTold =
    (d : DossierRows) (days others : List DayRecord)
    → HasNames d
    → All (IsUndated d) days
    → All (IsUndated d) others
    → (flat_map (day_text d) days ≡ flat_map (day_text d) others)
    → (days ≡ others)

-- days with deadlines, with their lapses too
abbrev pub DatedDaysAreTold : Type 0
DatedDaysAreTold =
    (d : DossierRows) (start : ℤ) (term : ℕ) (days others : List DayRecord)
    → HasNames d
    → All (IsDated d start term) days
    → All (IsDated d start term) others
    → (flat_map (λ x. dated_day_text d x start term) days
    ≡ flat_map (λ x. dated_day_text d x start term) others)
    → (days ≡ others)
