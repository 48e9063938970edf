-- Beds that a round is lent: a number for each school, in place of the dossier's own.
use Rattle.std.specs.Prelude.{ℕ, ◌-◌, List, length, map, slice_index, zip}
use Rattle.std.specs.List.{range_with_len}
use Rattle.admit_core.specs.declared.dossier.School.{School}
use Rattle.admit_core.specs.DossierRows.{DossierRows}
use Rattle.admit_core.specs.State.{State, bed_holders}

-- the schools with these beds
abbrev pub schools_lent : List School → List ℕ → List School
schools_lent schools beds =
    map (λ x. let s : School = record x.0 { beds = x.1 } in s) (zip schools beds)

-- the state whose schools have these beds
abbrev pub lent : State → List ℕ → State
lent s beds =
    record s {
      dossier = record s.dossier { schools = schools_lent s.dossier.schools beds };
    }

-- the beds of a dossier
abbrev pub own_beds : DossierRows → List ℕ
own_beds d = map (λ x. x.beds) d.schools

-- of these beds, those of each school less those who live there; never below 0
abbrev pub left_in : State → List ℕ → ℕ → ℕ
left_in s beds h = slice_index beds h - length (bed_holders s h)

abbrev pub left_of : State → List ℕ → List ℕ
left_of s beds = map (left_in s beds) (range_with_len 0 (length s.dossier.schools))
