use Rattle.report_laws.proofs.Worked.{dated_runs_witness, orders_witness, runs_witness}
use Rattle.report_laws.proofs.witnesses.witnesses_of_runs.Goals as goal

pub returns : goal.returns
returns c = record { orders = orders_witness; runs = runs_witness; dated = dated_runs_witness }
