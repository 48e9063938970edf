-- For each law of read states a worked case that meets all its premises, with what it concludes
-- there: the law's text, with a value for each variable and a product for each arrow.
use Rattle.std.specs.Prelude.{◌≡◌, ℕ, [], ◌∷◌, List, Ok, Option, Some, map, pos}
use Rattle.admit_core.specs.declared.state.Mark.{Mark}
use Rattle.admit_core.specs.declared.tables.StateRow.{StateRow}
use Rattle.admit_core.specs.declared.tables.Tables.{Tables}
use Rattle.admit_core.specs.Standing.{dossier_of}
use Rattle.admit_core.specs.State.{State}
use Rattle.admit_core.specs.Validity.{IsValid}
use Rattle.cut_laws.specs.Cut.{cut_at}
use Rattle.dossier_csv.specs.Rows as Rows
use Rattle.dossier_csv.specs.Shape.{shape}
use Rattle.intake.specs.declared.terms.DatedTerms.{DatedTerms}
use Rattle.text_laws.specs.Witnesses.{small_evening}
use Rattle.next_morning.specs.DatedWitnesses.{offered_since}
use Rattle.next_morning.specs.Laws.{IsEveningOf}
use Rattle.next_morning.specs.Morning.{morning_tables}
use Rattle.next_morning.specs.ReadLaws.{AreReadable, final_lines}
use Rattle.next_morning.specs.WorkedMorning.{small_tables}

-- day 1 of the small dossier is 2024-06-02, and its wish is offered on day 2
abbrev pub small_dates : DatedTerms
small_dates = record { start = pos 19876; terms = record { term = 1; before = pos 0 ∷ [] } }

abbrev pub small_rows : List StateRow
small_rows = offered_since 3 1 ∷ []

abbrev pub FinalLinesAreTheStateWitness : Type 0
FinalLinesAreTheStateWitness =
    let a : ℕ = 2 in
    let t : Tables = small_tables in
    let evening : State = small_evening in
    let dated : Option DatedTerms = Some small_dates in
    IsEveningOf t evening
    × IsValid evening.dossier
    × AreReadable evening dated
    × (shape Rows.state (final_lines evening dated) ≡ Ok (morning_tables a t evening dated).state)

abbrev pub ReadStatusesAreOfTheEveningWitness : Type 0
ReadStatusesAreOfTheEveningWitness =
    let t : Tables = small_tables in
    let evening : State = small_evening in
    let dated : Option DatedTerms = Some small_dates in
    let rows : List StateRow = small_rows in
    IsEveningOf t evening
    × IsValid evening.dossier
    × AreReadable evening dated
    × (shape Rows.state (final_lines evening dated) ≡ Ok rows)
    × (dossier_of (record t { state = rows })
    ≡ record evening.dossier { statuses = map (λ (m : Mark). m.status) evening.marks })

abbrev pub ReadStatesAreOfTheCutWitness : Type 0
ReadStatesAreOfTheCutWitness =
    let a : ℕ = 2 in
    let t : Tables = small_tables in
    let evening : State = small_evening in
    let dated : Option DatedTerms = Some small_dates in
    let rows : List StateRow = small_rows in
    IsEveningOf t evening
    × IsValid evening.dossier
    × AreReadable evening dated
    × (shape Rows.state (final_lines evening dated) ≡ Ok rows)
    × (dossier_of (record (morning_tables a t evening dated) { state = rows }) ≡ cut_at a evening)
