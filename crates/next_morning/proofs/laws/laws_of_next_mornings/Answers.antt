use Rattle.next_morning.proofs.Mornings.{runs_are_the_rest, tables_are_accepted, tables_are_of_the_cut}
use Rattle.next_morning.proofs.Mornings.{tables_are_valid}
use Rattle.next_morning.proofs.laws.laws_of_next_mornings.Goals as goal

pub returns : goal.returns
returns c = record {
  cut = tables_are_of_the_cut;
  valid = tables_are_valid;
  accepted = tables_are_accepted;
  rest = runs_are_the_rest;
}
