use Rattle.cut_laws.proofs.WorkedCampaign.{alike_witness, cut_witness, next_morning, rest_witness}
use Rattle.cut_laws.proofs.witnesses.witnesses_of_cuts.Goals as goal

pub returns : goal.returns
returns c = record { cut = cut_witness; alike = alike_witness; rest = rest_witness; morning = next_morning }
