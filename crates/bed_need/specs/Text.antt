-- How many beds a school needs, and the bars.
use Rattle.std.specs.Prelude.{ℕ, List, [], ◌∷◌, ◌++◌, codes, flat_map, slice_index}
use Rattle.std.specs.Fmt.{decimal}
use Rattle.std.specs.List.{enumerate_from}
use Rattle.admit_core.specs.DossierRows.{DossierRows, beds_of}
use Rattle.admit_core.specs.declared.dossier.School.{School}
use Rattle.report.specs.Ids.{school_id}
use Rattle.report.specs.Words.{line}

-- a school's bar with the present beds, and with those that are needed
abbrev pub bar_line : List ℕ → List ℕ → ℕ × School → List ℕ
bar_line before after (place, school) =
    line (codes "bar" ∷ decimal school.id ∷ decimal (slice_index before place)
    ∷ decimal (slice_index after place) ∷ [])

-- a school with its beds and those that it needs
abbrev pub need_line : DossierRows → ℕ → ℕ → List ℕ
need_line d school need =
    line (codes "school" ∷ decimal (school_id d school) ∷ codes "beds" ∷ decimal (beds_of d school)
    ∷ codes "need" ∷ decimal need ∷ [])

-- that line, then the bars of all schools in file order
abbrev pub beds_text : DossierRows → ℕ → ℕ → List ℕ → List ℕ → List ℕ
beds_text d school need before after =
    need_line d school need ++ flat_map (bar_line before after) (enumerate_from 0 d.schools)
