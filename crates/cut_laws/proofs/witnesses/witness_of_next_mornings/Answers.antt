use Rattle.cut_laws.proofs.WorkedCampaign.{valid_witness}
use Rattle.cut_laws.proofs.witnesses.witness_of_next_mornings.Goals as goal

pub returns : goal.returns
returns c = record { valid = valid_witness }
