use Rattle.cut_laws.proofs.WorkedCampaign.{offers_witness, stamps_witness}
use Rattle.cut_laws.proofs.witnesses.witnesses_of_stamps.Goals as goal

pub returns : goal.returns
returns c = record { stamps = stamps_witness; offers = offers_witness }
