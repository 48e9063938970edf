-- The text of the falls of days, by ids.
use Rattle.std.specs.Prelude.{ℕ, List, [], ◌∷◌, ◌++◌, All, codes, flat_map}
use Rattle.std.specs.Fmt.{decimal}
use Rattle.std.specs.List.{enumerate_from}
use Rattle.admit_core.specs.DossierRows.{DossierRows}
use Rattle.admit_core.specs.declared.records.DayRecord.{DayRecord}
use Rattle.admit_core.specs.declared.records.PassEnd.{PassEnd}
use Rattle.report.specs.DayText.{IsFallOf, fall_line}
use Rattle.report.specs.Words.{line}

-- the places that a pass and a day tell are those of the dossier
abbrev pub HasFallsOf : DossierRows → PassEnd → Type 0
HasFallsOf d end = All (IsFallOf d) end.pass.falls

abbrev pub HasPassesOf : DossierRows → DayRecord → Type 0
HasPassesOf d day = All (HasFallsOf d) day.passes

-- a pass with its number, and its falls
abbrev pub pass_lines : DossierRows → ℕ × PassEnd → List ℕ
pass_lines d (number, end) =
    line (codes "pass" ∷ decimal number ∷ []) ++ flat_map (fall_line d) end.pass.falls

-- a day, and its passes, numbered from 1
abbrev pub passes_lines : DossierRows → List PassEnd → List ℕ
passes_lines d passes = flat_map (pass_lines d) (enumerate_from 1 passes)

abbrev pub day_lines : DossierRows → DayRecord → List ℕ
day_lines d day = line (codes "day" ∷ decimal day.day ∷ []) ++ passes_lines d day.passes

-- the days, and the last line
abbrev pub chain_text : DossierRows → List DayRecord → List ℕ
chain_text d days = flat_map (day_lines d) days ++ line (codes "end" ∷ [])
