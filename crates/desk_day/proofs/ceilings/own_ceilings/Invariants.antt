use Rattle.std.proofs.Common.{◌≡◌, map, take}
use Rattle.admit_core.specs.declared.dossier.School.{School}
use Rattle.desk_day.proofs.ceilings.own_ceilings.Given as goal

abbrev pub invariant-loop-school : goal.invariant-loop-school
invariant-loop-school l =
    l.ceilings.items ≡ map (λ (school : School). school.ceiling) (take l.school-index l.schools)
