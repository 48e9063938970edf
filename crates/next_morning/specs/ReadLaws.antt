-- The final lines of an evening, read as the state slot of the next morning.
use Rattle.std.specs.Prelude.{◌≡◌, ℕ, ⊤, List, Ok, Option, Some, None, map}
use Rattle.admit_core.specs.declared.state.Mark.{Mark}
use Rattle.admit_core.specs.declared.tables.StateRow.{StateRow}
use Rattle.admit_core.specs.declared.tables.Tables.{Tables}
use Rattle.admit_core.specs.Standing.{dossier_of}
use Rattle.admit_core.specs.State.{State}
use Rattle.admit_core.specs.Validity.{IsValid}
use Rattle.cut_laws.specs.Cut.{cut_at}
use Rattle.dossier_csv.specs.Rows as Rows
use Rattle.dossier_csv.specs.Shape.{shape}
use Rattle.intake.specs.declared.terms.DatedTerms.{DatedTerms}
use Rattle.report.specs.FinalText.{final_dated_text, final_text}
use Rattle.text_laws.specs.ReadBack.{HaveReadDates, after_final}
use Rattle.next_morning.specs.Laws.{IsEveningOf}
use Rattle.next_morning.specs.Morning.{morning_tables}

-- what stands behind `final` in the report of an evening: without dates, or with those of the open
-- offers
abbrev pub final_lines : State → Option DatedTerms → List ℕ
final_lines evening None = after_final (final_text evening)
final_lines evening (Some dated) =
    after_final (final_dated_text evening dated.start dated.terms.before)

-- each date in them is one of a year from 1900 to 2299
abbrev pub AreReadable : State → Option DatedTerms → Type 0
AreReadable evening None = ⊤
AreReadable evening (Some dated) = HaveReadDates evening dated.start dated.terms.before

-- the lines are read as the state slot of the next morning's tables
abbrev pub FinalLinesAreTheState : Type 0
FinalLinesAreTheState =
    (a : ℕ) (t : Tables) (evening : State) (dated : Option DatedTerms)
    → IsEveningOf t evening
    → IsValid evening.dossier
    → AreReadable evening dated
    → shape Rows.state (final_lines evening dated) ≡ Ok (morning_tables a t evening dated).state

-- whatever tables have the rows that are read there as their state, and are otherwise those of the
-- morning before, stand for a dossier with the statuses of the evening
abbrev pub ReadStatusesAreOfTheEvening : Type 0
ReadStatusesAreOfTheEvening =
    (t : Tables) (evening : State) (dated : Option DatedTerms) (rows : List StateRow)
    → IsEveningOf t evening
    → IsValid evening.dossier
    → AreReadable evening dated
    → shape Rows.state (final_lines evening dated) ≡ Ok rows
    → dossier_of (record t { state = rows })
    ≡ record evening.dossier { statuses = map (λ (m : Mark). m.status) evening.marks }

-- and the next morning's tables with them stand for the dossier of the campaign that is cut there
abbrev pub ReadStatesAreOfTheCut : Type 0
ReadStatesAreOfTheCut =
    (a : ℕ) (t : Tables) (evening : State) (dated : Option DatedTerms) (rows : List StateRow)
    → IsEveningOf t evening
    → IsValid evening.dossier
    → AreReadable evening dated
    → shape Rows.state (final_lines evening dated) ≡ Ok rows
    → dossier_of (record (morning_tables a t evening dated) { state = rows }) ≡ cut_at a evening
