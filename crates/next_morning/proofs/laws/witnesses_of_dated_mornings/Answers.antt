use Rattle.next_morning.proofs.WorkedDates.{dated_accepted_witness, dated_cut_witness, dated_offers_witness}
use Rattle.next_morning.proofs.WorkedDates.{dated_rest_witness, dates_witness, worked_dated_mornings}
use Rattle.next_morning.proofs.laws.witnesses_of_dated_mornings.Goals as goal

pub returns : goal.returns
returns c = record {
  cut = dated_cut_witness;
  accepted = dated_accepted_witness;
  dates = dates_witness;
  offers = dated_offers_witness;
  rest = dated_rest_witness;
  worked = worked_dated_mornings;
}
