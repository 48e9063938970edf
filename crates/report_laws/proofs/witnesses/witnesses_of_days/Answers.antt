use Rattle.report_laws.proofs.Worked.{dated_days_witness, days_witness, passes_witness, shared_ids}
use Rattle.report_laws.proofs.witnesses.witnesses_of_days.Goals as goal

pub returns : goal.returns
returns c = record { passes = passes_witness; days = days_witness; dated = dated_days_witness; shared = shared_ids }
