-- For each law a worked case that meets all its premises, with what it concludes there: the law's
-- text, with a value for each variable and a product for each arrow.
use Rattle.std.specs.Prelude.{◌≡◌, ℤ, List, [], ◌∷◌, Ok, pos}
use Rattle.admit_core.specs.declared.state.Status.TheVariants.{Offered}
use Rattle.admit_core.specs.State.{State}
use Rattle.admit_core.specs.Validity.{IsValid}
use Rattle.admit_core.specs.WorkedRows.{marked, small_dossier}
use Rattle.dossier_csv.specs.Rows as Rows
use Rattle.dossier_csv.specs.Shape.{shape}
use Rattle.report.specs.FinalText.{final_dated_text, final_text}
use Rattle.text_laws.specs.ReadBack.{HaveReadDates, after_final, dated_rows, state_rows}

-- the small dossier in the evening of day 2, on which its wish is offered; day 1 is 2024-06-02
abbrev pub small_evening : State
small_evening = record { dossier = small_dossier; marks = marked Offered 2 1 ∷ [] }

abbrev pub FinalTextReadsBackWitness : Type 0
FinalTextReadsBackWitness =
    let s : State = small_evening in
    IsValid s.dossier × (shape Rows.state (after_final (final_text s)) ≡ Ok (state_rows s))

abbrev pub FinalDatedTextReadsBackWitness : Type 0
FinalDatedTextReadsBackWitness =
    let s : State = small_evening in
    let start : ℤ = pos 19876 in
    let before : List ℤ = pos 0 ∷ [] in
    IsValid s.dossier
    × HaveReadDates s start before
    × (shape Rows.state (after_final (final_dated_text s start before))
    ≡ Ok (dated_rows s start before))
