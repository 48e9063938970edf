-- The lines of a day.
use Rattle.std.specs.Prelude.{ℕ, ◌<◌, ℤ, pos, ◌+ℤ◌, ◌-ℤ◌, ◌≤ℤ◌, List, [], ◌∷◌, ◌++◌, All, codes, flat_map, length, map}
use Rattle.std.specs.Fmt.{decimal}
use Rattle.std.specs.List.{enumerate_from}
use Rattle.admit_core.specs.DossierRows.{DossierRows}
use Rattle.admit_core.specs.Lines.{status_word}
use Rattle.admit_core.specs.declared.records.DayRecord.{DayRecord}
use Rattle.admit_core.specs.declared.records.Fall.{Fall}
use Rattle.admit_core.specs.declared.records.Lapse.{Lapse}
use Rattle.admit_core.specs.declared.records.PassEnd.{PassEnd}
use Rattle.admit_core.specs.declared.state.Change.{Change}
use Rattle.admit_core.specs.declared.state.Freed.{Freed}
use Rattle.calendar.specs.Dates.{IsCivil, last_day}
use Rattle.calendar.specs.Texts.{date_text}
use Rattle.report.specs.Words.{line}
use Rattle.report.specs.Ids.{numbers_text, school_id, wish_id}

-- the places that a record gives are those of the dossier
pub record IsFallOf (d : DossierRows) (fall : Fall) : Type 0 where
  pub school : fall.school < length d.schools
  pub wishes : All (λ w. w < length d.wishes) fall.wishes

pub record IsPassOf (d : DossierRows) (end : PassEnd) : Type 0 where
  pub falls : All (IsFallOf d) end.pass.falls
  pub offers : All (λ w. w < length d.wishes) end.pass.offers
  pub autos : All (λ c. c.wish < length d.wishes) end.autos

-- a school's bar falls, shown by the wishes
abbrev pub fall_line : DossierRows → Fall → List ℕ
fall_line d fall =
    line (codes "fall" ∷ decimal (school_id d fall.school) ∷ decimal fall.from ∷ decimal fall.to
    ∷ map (λ w. decimal (wish_id d w)) fall.wishes)

abbrev pub offer_line : DossierRows → ℕ → List ℕ
offer_line d place = line (codes "offer" ∷ decimal (wish_id d place) ∷ [])

abbrev pub auto_line : DossierRows → Change → List ℕ
auto_line d change =
    line (codes "auto" ∷ decimal (wish_id d change.wish) ∷ status_word change.status ∷ [])

abbrev pub freed_line : Freed → List ℕ
freed_line freed = line (codes "freed" ∷ decimal freed.seats ∷ decimal freed.beds ∷ [])

-- a pass with its number: the falls, the bars at its end, the offers, the automatic answers, and
-- what these freed
abbrev pub pass_text : DossierRows → ℕ × PassEnd → List ℕ
pass_text d (number, end) =
    line (codes "pass" ∷ decimal number ∷ [])
    ++ flat_map (fall_line d) end.pass.falls
    ++ numbers_text (λ h. h.id) (codes "bar") d.schools end.pass.bars
    ++ flat_map (offer_line d) end.pass.offers
    ++ flat_map (auto_line d) end.autos
    ++ freed_line end.freed

-- the passes of a day, numbered from 1
abbrev pub passes_text : DossierRows → List PassEnd → List ℕ
passes_text d passes = flat_map (pass_text d) (enumerate_from 1 passes)

-- the seats and the beds that are left in the evening
abbrev pub evening_text : DossierRows → DayRecord → List ℕ
evening_text d day =
    numbers_text (λ p. p.id) (codes "left") d.programmes day.left
    ++ numbers_text (λ h. h.id) (codes "free") d.schools day.free

abbrev pub day_line : DayRecord → List ℕ
day_line day = line (codes "day" ∷ decimal day.day ∷ [])

abbrev pub day_text : DossierRows → DayRecord → List ℕ
day_text d day = day_line day ++ passes_text d day.passes ++ evening_text d day

-- the number of the date of a day, where day 1 has the number start
abbrev pub date_on : ℤ → ℤ → ℤ
date_on start day = start +ℤ day -ℤ pos 1

-- the number of the last date on which an offer of a day stands
abbrev pub last_date : ℤ → ℕ → ℤ → ℤ
last_date start term day = date_on start day +ℤ pos term

-- the lapsed wish is one of the dossier, and the dates of its offer and of its deadline can be
-- written
pub record IsLapseOf (d : DossierRows) (start : ℤ) (term : ℕ) (lapse : Lapse) : Type 0 where
  pub wish : lapse.wish < length d.wishes
  pub offered : IsCivil (date_on start lapse.offered)
  pub deadline : last_date start term lapse.offered ≤ℤ last_day

-- an offer ends with its deadline
abbrev pub lapse_line : DossierRows → ℤ → ℕ → Lapse → List ℕ
lapse_line d start term lapse =
    line (codes "lapse" ∷ decimal (wish_id d lapse.wish)
    ∷ date_text (last_date start term lapse.offered) ∷ [])

-- the same day with its lapses
abbrev pub dated_day_text : DossierRows → DayRecord → ℤ → ℕ → List ℕ
dated_day_text d day start term =
    day_line day ++ flat_map (lapse_line d start term) day.lapsed ++ passes_text d day.passes
    ++ evening_text d day
