use Rattle.law_cases.proofs.PassCases.{changes_are_few, falls_are_few_here, falls_spend_the_rest, fits_beds}
use Rattle.law_cases.proofs.PassCases.{lowered_for_beds_here, lowers_for_beds, offers_fit_beds_here}
use Rattle.law_cases.proofs.PassCases.{offers_fit_seats_here}
use Rattle.law_cases.proofs.passes.witnesses_of_passes.Goals as goal

pub returns : goal.returns
returns c = record {
  seats = offers_fit_seats_here;
  beds = offers_fit_beds_here;
  bed = fits_beds;
  lowered = lowered_for_beds_here;
  taken = lowers_for_beds;
  few = falls_are_few_here;
  spent = falls_spend_the_rest;
  changes = changes_are_few;
}
