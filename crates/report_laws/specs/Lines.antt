-- A line of a day tells its record: two with the same line are the same.
use Rattle.std.specs.Prelude.{◌≡◌, ℕ, ℤ, List, codes}
use Rattle.admit_core.specs.DossierRows.{DossierRows}
use Rattle.admit_core.specs.declared.records.DayRecord.{DayRecord}
use Rattle.admit_core.specs.declared.records.Fall.{Fall}
use Rattle.admit_core.specs.declared.records.Lapse.{Lapse}
use Rattle.admit_core.specs.declared.state.Change.{Change}
use Rattle.admit_core.specs.declared.state.Freed.{Freed}
use Rattle.report.specs.DayText.{IsLapseOf, auto_line, evening_text, fall_line, freed_line, lapse_line, offer_line}
use Rattle.report.specs.Ids.{numbers_text}
use Rattle.report_laws.specs.Told.{HasNames, HasNumbers, IsNumberEach, IsToldAuto, IsToldFall, IsToldFreed, IsWishOf}

-- the school, its bar before and after, and the wishes that showed it
abbrev pub FallsAreTold : Type 0
FallsAreTold =
    (d : DossierRows) (one other : Fall)
    → HasNames d
    → IsToldFall d one
    → IsToldFall d other
    → (fall_line d one ≡ fall_line d other)
    → (one ≡ other)

-- the wish that is offered
abbrev pub OffersAreTold : Type 0
OffersAreTold =
    (d : DossierRows) (one other : ℕ)
    → HasNames d
    → IsWishOf d one
    → IsWishOf d other
    → (offer_line d one ≡ offer_line d other)
    → (one ≡ other)

-- the wish that an automatic answer changes, and its new status
abbrev pub AutosAreTold : Type 0
AutosAreTold =
    (d : DossierRows) (one other : Change)
    → HasNames d
    → IsToldAuto d one
    → IsToldAuto d other
    → (auto_line d one ≡ auto_line d other)
    → (one ≡ other)

-- the seats and beds that automatic answers freed
abbrev pub FreedIsTold : Type 0
FreedIsTold =
    (one other : Freed)
    → IsToldFreed one
    → IsToldFreed other
    → (freed_line one ≡ freed_line other)
    → (one ≡ other)

-- the wish whose offer lapsed, and the day of that offer
abbrev pub LapsesAreTold : Type 0
LapsesAreTold =
    (d : DossierRows) (start : ℤ) (term : ℕ) (one other : Lapse)
    → HasNames d
    → IsLapseOf d start term one
    → IsLapseOf d start term other
    → (lapse_line d start term one ≡ lapse_line d start term other)
    → (one ≡ other)

-- the bars at the end of a pass
abbrev pub BarsAreTold : Type 0
BarsAreTold =
    (d : DossierRows) (one other : List ℕ)
    → HasNames d
    → IsNumberEach d.schools one
    → IsNumberEach d.schools other
    → (numbers_text (λ h. h.id) (codes "bar") d.schools one
    ≡ numbers_text (λ h. h.id) (codes "bar") d.schools other)
    → (one ≡ other)

-- the seats and the beds that are left in the evening
abbrev pub EveningsAreTold : Type 0
EveningsAreTold =
    (d : DossierRows) (one other : DayRecord)
    → HasNames d
    → HasNumbers d one
    → HasNumbers d other
    → (evening_text d one ≡ evening_text d other)
    → (one.left ≡ other.left) × (one.free ≡ other.free)
