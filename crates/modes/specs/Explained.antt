-- The mode `explain`: why a wish stands as it does after the days.
use Rattle.std.specs.Prelude.{◌≡◌, ℕ, List, Some, nat_eq, position}
use Rattle.admit_core.specs.declared.explanation.Explanation.{Explanation}
use Rattle.admit_core.specs.declared.records.DayRecord.{DayRecord}
use Rattle.explanations.specs.Sayings.{Explains}
use Rattle.played.specs.LastDays.{IsLastOf, pass_on}
use Rattle.report.specs.ExplainText.{explain_text}
use Rattle.modes.specs.AfterDays.{AfterDays}

-- the line of the wish of this id: its one explanation in the evening of the last day, after that
-- day's last pass
pub record IsExplained (left : AfterDays) (wish : ℕ) (text : List ℕ) : Type 0 where
  pub place : ℕ
  pub is_place : position (nat_eq wish) left.index.wishes ≡ Some place
  pub day : DayRecord
  pub is_last : IsLastOf left.days day
  pub explanation : Explanation
  pub explains : Explains (pass_on left.dossier left.orders day left.desk) left.desk.present place
      explanation
  pub is_line : text ≡ explain_text left.dossier place explanation
