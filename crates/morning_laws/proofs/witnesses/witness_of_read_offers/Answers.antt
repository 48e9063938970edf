use Rattle.morning_laws.proofs.ReadDates.{read_offers_witness}
use Rattle.morning_laws.proofs.witnesses.witness_of_read_offers.Goals as goal

pub returns : goal.returns
returns c = record { offers = read_offers_witness }
