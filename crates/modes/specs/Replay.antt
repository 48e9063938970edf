-- The mode `replay`: the call orders, the days and the final state.
use Rattle.std.specs.Prelude.{ℕ, List, ◌++◌, All, Option, None, Some, IfSome, flat_map}
use Rattle.admit_core.specs.DossierRows.{DossierRows}
use Rattle.admit_core.specs.State.{State}
use Rattle.admit_core.specs.declared.ranking.CallOrder.{CallOrder}
use Rattle.admit_core.specs.declared.records.DayRecord.{DayRecord}
use Rattle.intake.specs.declared.terms.DatedTerms.{DatedTerms}
use Rattle.report.specs.DayText.{IsLapseOf, IsPassOf, dated_day_text, day_text}
use Rattle.report.specs.FinalText.{HasDates, final_dated_text, final_text}
use Rattle.modes.specs.Order.{orders_text}

-- the lines of a day, with its lapses where offers have deadlines
abbrev pub day_lines : DossierRows → Option DatedTerms → DayRecord → List ℕ
day_lines d None day = day_text d day
day_lines d (Some dated) day = dated_day_text d day dated.start dated.terms.term

-- the lines of the final state, with the dates of offers where these have deadlines
abbrev pub final_lines : State → Option DatedTerms → List ℕ
final_lines s None = final_text s
final_lines s (Some dated) = final_dated_text s dated.start dated.terms.before

-- the call orders, and the lines of days
abbrev pub days_text : DossierRows → Option DatedTerms → List CallOrder → List DayRecord → List ℕ
days_text d dated orders days = orders_text d.groups orders ++ flat_map (day_lines d dated) days

abbrev pub replay_text : DossierRows → Option DatedTerms → List CallOrder → List DayRecord
    → State → List ℕ
replay_text d dated orders days evening = days_text d dated orders days ++ final_lines evening dated

-- the places of a day are those of the dossier, and the dates of its lapses can be written
pub record CanBeWritten (d : DossierRows) (dated : Option DatedTerms)
    (day : DayRecord) : Type 0 where
  pub passes : All (IsPassOf d) day.passes
  pub lapses : IfSome dated (λ x. All (IsLapseOf d x.start x.terms.term) day.lapsed)

-- the dates of the offers of an evening can be written
abbrev pub CanBeDated : Option DatedTerms → State → Type 0
CanBeDated dated evening = IfSome dated (λ x. HasDates evening x.start x.terms.before)
