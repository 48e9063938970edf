use Rattle.report_laws.proofs.Telling.{dated_days_are_told, days_are_told, passes_are_told}
use Rattle.report_laws.proofs.laws.laws_of_days.Goals as goal

pub returns : goal.returns
returns c = record { passes = passes_are_told; days = days_are_told; dated = dated_days_are_told }
