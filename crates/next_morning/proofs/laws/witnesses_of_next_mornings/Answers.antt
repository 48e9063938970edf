use Rattle.next_morning.proofs.WorkedMorning.{accepted_witness, cut_witness, rest_witness, valid_witness}
use Rattle.next_morning.proofs.WorkedMorning.{worked_mornings}
use Rattle.next_morning.proofs.laws.witnesses_of_next_mornings.Goals as goal

pub returns : goal.returns
returns c = record {
  cut = cut_witness;
  valid = valid_witness;
  accepted = accepted_witness;
  rest = rest_witness;
  worked = worked_mornings;
}
