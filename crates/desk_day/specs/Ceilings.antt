-- Ceilings after changes in the order of their days.
use Rattle.std.specs.Prelude.{ℕ, List, [], ◌∷◌, nat_le, slice_set, if◌then◌else◌}
use Rattle.admit_core.specs.declared.dossier.CeilingChange.{CeilingChange}

abbrev pub changed : ℕ → List CeilingChange → List ℕ → List ℕ
changed day [] ceilings = ceilings
changed day (c ∷ cs) ceilings =
    changed day cs (if nat_le c.day day then slice_set ceilings c.school c.ceiling else ceilings)
