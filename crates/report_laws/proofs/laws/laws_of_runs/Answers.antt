use Rattle.report_laws.proofs.Whole.{orders_are_told, runs_are_told}
use Rattle.report_laws.proofs.WholeDated.{dated_runs_are_told}
use Rattle.report_laws.proofs.laws.laws_of_runs.Goals as goal

pub returns : goal.returns
returns c = record { orders = orders_are_told; runs = runs_are_told; dated = dated_runs_are_told }
