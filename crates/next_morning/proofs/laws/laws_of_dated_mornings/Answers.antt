use Rattle.next_morning.proofs.DatedFaultless.{dated_tables_are_accepted}
use Rattle.next_morning.proofs.DatedMornings.{dated_offers_stand_alike, dated_runs_are_the_rest}
use Rattle.next_morning.proofs.DatedRows.{dated_tables_are_of_the_cut, dates_are_of_the_evening}
use Rattle.next_morning.proofs.laws.laws_of_dated_mornings.Goals as goal

pub returns : goal.returns
returns c = record {
  cut = dated_tables_are_of_the_cut;
  accepted = dated_tables_are_accepted;
  dates = dates_are_of_the_evening;
  offers = dated_offers_stand_alike;
  rest = dated_runs_are_the_rest;
}
