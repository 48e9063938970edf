-- What is left in the evening, of seats or of beds.
use Rattle.std.specs.Prelude.{ℕ, length}
use Rattle.admit_core.specs.DossierRows.{DossierRows}
use Rattle.admit_core.specs.State.{State, seats_left, free_beds}
use Rattle.desk_day.specs.declared.evening.Sites.{Sites}
use Rattle.desk_day.specs.declared.evening.Sites.TheVariants.{Programmes, Schools}

-- how many programmes there are, or how many schools
abbrev pub site_count : DossierRows → Sites → ℕ
site_count d Programmes = length d.programmes
site_count d Schools = length d.schools

-- the seats that are left in a programme, or the beds in a school
abbrev pub left_at : State → Sites → ℕ → ℕ
left_at s Programmes place = seats_left s place
left_at s Schools place = free_beds s place
